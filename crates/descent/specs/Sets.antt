-- Sets of classes.
use Rattle.std.specs.Prelude.{ℕ, Bool, false, ◌||◌, nat_eq, if◌then◌else◌, List, [], ◌∷◌}

abbrev pub or_one_of : Bool → List ℕ → ℕ → Bool
or_one_of found [] c = found
or_one_of found (n ∷ ns) c = or_one_of (found || nat_eq n c) ns c

-- the set of these classes
abbrev pub one_of : List ℕ → ℕ → Bool
one_of ns c = or_one_of false ns c

-- the tokens behind one of these classes, where one stands next
abbrev pub behind_open : {T : Type 0} → (T → ℕ) → (ℕ → Bool) → List T → List T
behind_open code opens [] = []
behind_open code opens (t ∷ ts) = if opens (code t) then ts else t ∷ ts

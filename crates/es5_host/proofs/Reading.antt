-- Lines of a text.
use Rattle.std.proofs.Common.{◌≡◌, ℕ, ◌+◌, ◌≤◌, Bool, true, false, if◌then◌else◌, nat_eq, List, [], ◌∷◌, length, drop, arith, length-drop}
use Rattle.es5_tree.specs.Intrinsics.Lines.{line_of}

cut : (b : Bool) (u : ℕ) (us vs : List ℕ) → length vs ≤ length us → length (if b then u ∷ [] else u ∷ vs) ≤ length (u ∷ us)
cut true u us vs le = omega arith
cut false u us vs le = omega arith

pub line_within : (s : List ℕ) → length (line_of s) ≤ length s
line_within [] = omega arith
line_within (u ∷ us) = cut (nat_eq u 10) u us (line_of us) (line_within us)

pub read_within : (input : List ℕ) (read : ℕ) (n : ℕ) → read ≤ length input → n ≡ length (line_of (drop read input)) → read + n ≤ length input
read_within input read n le e = omega (arith, line_within (drop read input), length-drop read input)

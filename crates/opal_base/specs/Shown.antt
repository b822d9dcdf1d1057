-- What a run shows after some number of units, on the side of Ruby and on that of the script.
use Rattle.std.specs.Prelude.{◌≡◌, ◌⊎◌, ℕ, ◌<◌, ◌≤◌, List, [], ◌∷◌, ◌++◌, length, take}
use Rattle.std.specs.List.{flat_map}
use Rattle.opal_base.specs.Text.{utf8_of}

-- a call of the host: a text was written, or a line of the input was asked for
pub data HostCall : Type 0 where
  Wrote : List ℕ → HostCall
  Asked : HostCall

-- The output of host calls, of which the newest stands first: the join of the UTF-8 of each written text by itself.
abbrev pub output_of : List HostCall → List ℕ
output_of [] = []
output_of (Wrote text ∷ earlier) = output_of earlier ++ utf8_of text
output_of (Asked ∷ earlier) = output_of earlier

-- the bytes that were written, and how it ended, or that it goes on
pub data Shown (End : Type 0) : Type 0 where
  Ended : List ℕ → End → Shown End
  Going : List ℕ → Shown End

-- it shows this output, ended or not
abbrev pub Shows : {End : Type 0} → Shown End → List ℕ → Type 0
Shows {End} shown output = (shown ≡ Going output) ⊎ ((end : End) × (shown ≡ Ended output end))

-- A run writes the texts one after the other and ends so: from some number of units on it has ended, with fewer it goes
-- on with the output of the first texts, and the output of each number of first texts is shown.
pub record ShowsInTurn {End : Type 0} (run : ℕ → Shown End) (texts : List (List ℕ)) (end : End) : Type 0 where
  pub enough : ℕ
  pub ends : (n : ℕ) → enough ≤ n → run n ≡ Ended (flat_map utf8_of texts) end
  pub goes : (n : ℕ) → n < enough → (j : ℕ) × (j ≤ length texts) × (run n ≡ Going (flat_map utf8_of (take j texts)))
  pub shows : (j : ℕ) → j ≤ length texts → (n : ℕ) × Shows (run n) (flat_map utf8_of (take j texts))

-- The same reader for larger sets, and for relations that are the same.
use Rattle.std.proofs.Common.{◌≡◌, ℕ, Bool, true, List, [], ◌∷◌, ◌++◌, Result}
use Rattle.grammar.specs.FormReaders.{Reads}
use Rattle.grammar.proofs.Lists.{off_less}

module _ {T A : Type 0} {W W' : A → List T → Type 0} {F F' : List T → Type 0} {d : A → ℕ} {b : ℕ} {first first' : T → Bool} {goes_on goes_on' : A → T → Type 0} {null null' : Bool} {p : List T → Result (A × List T) (List T)}
    (R : Reads W F d b first goes_on null p)
    (w : (a : A) (u : List T) → W a u → W' a u) (w' : (a : A) (u : List T) → W' a u → W a u)
    (g : (u : List T) → F u → F' u) (g' : (u : List T) → F' u → F u)
    (more : (t : T) → first t ≡ true → first' t ≡ true) (on : (a : A) (t : T) → goes_on a t → goes_on' a t) (no : null ≡ true → null' ≡ true) where
  pub weaken : Reads W' F' d b first' goes_on' null' p
  weaken = record {
    sound = λ ts a rest h. let s = R.sound ts a rest h in (s.0, s.1, w a s.0 s.2, s.3);
    refusal = λ ts rest h. let s = R.refusal ts rest h in (s.0, s.1, g s.0 s.2);
    complete = λ a u rest h le off. R.complete a u rest (w' a u h) le (off_less (on a) rest off);
    reach = λ u v h. R.reach u v (g' u h);
    starts = λ t u h. more t (R.starts t u (g' (t ∷ u) h));
    holds = λ a u h le. g u (R.holds a u (w' a u h) le);
    closed = λ u v h. g u (R.closed u v (g' (u ++ v) h));
    nothing = g [] R.nothing;
    empty = λ a h. no (R.empty a (w' a [] h));
  }

-- A rule that begins with a token of a class.
use Rattle.std.proofs.Common.{◌≡◌, ℕ, ◌≤◌, Bool, true, false, ◌&&◌, List, [], ◌∷◌, ◌++◌, length, Result, Ok, Err, inl, inr, refl, sym, ap, ◌∙◌, subst, le_refl, le_trans, true≢false}
use Rattle.std.specs.Prelude.{if◌then◌else◌}
use Rattle.grammar.specs.Forms.{StartsIn, StartingSpells, StartingFront}
use Rattle.grammar.specs.FormReaders.{NextNot, remaining, Reads, read_starting}
use Rattle.grammar.proofs.Lists.{err_ok, err_inj, cons_nil, heads, and_both, cases_if, if_true, le_of_eq}

module _ {T A : Type 0} (g : T → Bool) {W : A → List T → Type 0} {F : List T → Type 0} {d : A → ℕ} {b : ℕ} {first : T → Bool} {goes_on : A → T → Type 0} {p : List T → Result (A × List T) (List T)}
    (R : Reads W F d b first goes_on false p) where
  -- what was read is not empty, so it begins as the list does
  begins : (a : A) (t : T) (u r rest : List T) → W a u → t ∷ r ≡ u ++ rest → g t ≡ true → StartsIn g u
  begins a t [] r rest h e k = true≢false (sym (R.empty a h))
  begins a t (s ∷ u) r rest h e k = subst (λ z. g z ≡ true) (heads e) k

  starting_sound : (ts : List T) (a : A) (rest : List T) → read_starting g p ts ≡ Ok (a, rest) → (u : List T) × (ts ≡ u ++ rest) × StartingSpells g W a u × (d a ≤ b)
  starting_sound [] a rest h = err_ok h
  starting_sound (t ∷ r) a rest h = elim (cases_if (g t) (p (t ∷ r)) (Err (t ∷ r)) (Ok (a, rest)) h) [
    | inl k ↦ let s = R.sound (t ∷ r) a rest k.1 in (s.0, s.1, (begins a t s.0 r rest s.2 s.1 k.0, s.2), s.3)
    | inr k ↦ err_ok k.1
  ]

  front_begins : (t : T) (u r rest : List T) → F u → t ∷ r ≡ u ++ rest → g t ≡ true → StartingFront g F u
  front_begins t [] r rest h e k = inl refl
  front_begins t (s ∷ u) r rest h e k = inr (subst (λ z. g z ≡ true) (heads e) k, h)

  starting_refusal : (ts rest : List T) → read_starting g p ts ≡ Err rest → (u : List T) × (ts ≡ u ++ rest) × StartingFront g F u
  starting_refusal [] rest h = ([], err_inj h, inl refl)
  starting_refusal (t ∷ r) rest h = elim (cases_if (g t) (p (t ∷ r)) (Err (t ∷ r)) (Err rest) h) [
    | inl k ↦ let s = R.refusal (t ∷ r) rest k.1 in (s.0, s.1, front_begins t s.0 r rest s.2 s.1 k.0)
    | inr k ↦ ([], err_inj k.1, inl refl)
  ]

  starting_complete : (a : A) (u rest : List T) → StartingSpells g W a u → d a ≤ b → NextNot (goes_on a) rest → read_starting g p (u ++ rest) ≡ Ok (a, rest)
  starting_complete a [] rest h le off = absurd h.0
  starting_complete a (t ∷ u) rest h le off = if_true (g t) (p (t ∷ (u ++ rest))) (Err (t ∷ (u ++ rest))) h.0 ∙ R.complete a (t ∷ u) rest h.1 le off

  starting_short : (v : List T) → remaining (read_starting g p v) ≤ length v
  starting_short [] = le_refl _
  starting_short (t ∷ r) = by (g t)
    where
      by : (c : Bool) → remaining {A = A} (if c then p (t ∷ r) else Err (t ∷ r)) ≤ length (t ∷ r)
      by true = R.reach [] (t ∷ r) R.nothing
      by false = le_refl _

  starting_reach : (u v : List T) → StartingFront g F u → remaining (read_starting g p (u ++ v)) ≤ length v
  starting_reach [] v h = starting_short v
  starting_reach (t ∷ u) v (inl e) = cons_nil e
  starting_reach (t ∷ u) v (inr h) = le_trans (le_of_eq (ap remaining (if_true (g t) (p (t ∷ (u ++ v))) (Err (t ∷ (u ++ v))) h.0))) (R.reach (t ∷ u) v h.1)

  starting_starts : (t : T) (u : List T) → StartingFront g F (t ∷ u) → (g t && first t) ≡ true
  starting_starts t u (inl e) = cons_nil e
  starting_starts t u (inr h) = and_both (g t) (first t) h.0 (R.starts t u h.1)

  starting_closed : (u v : List T) → StartingFront g F (u ++ v) → StartingFront g F u
  starting_closed [] v h = inl refl
  starting_closed (t ∷ u) v (inl e) = cons_nil e
  starting_closed (t ∷ u) v (inr h) = inr (h.0, R.closed (t ∷ u) v h.1)

  pub starting_reads : Reads (StartingSpells g W) (StartingFront g F) d b (λ t. g t && first t) goes_on false (read_starting g p)
  starting_reads = record { sound = starting_sound; refusal = starting_refusal; complete = starting_complete; reach = starting_reach; starts = starting_starts; holds = λ a u h le. inr (h.0, R.holds a u h.1 le); closed = starting_closed; nothing = inl refl; empty = λ a h. absurd h.0 }

-- A rule that begins only where there are so many levels.
use Rattle.std.proofs.Common.{◌≡◌, ℕ, ◌≤◌, Bool, true, false, List, [], ◌∷◌, ◌++◌, length, Result, Ok, Err, inl, inr, refl, sym, ap, ◌∙◌, arith, le_refl, le_trans}
use Rattle.std.specs.Prelude.{nat_le, if◌then◌else◌}
use Rattle.grammar.specs.Forms.{NeedsFront}
use Rattle.grammar.specs.FormReaders.{NextNot, remaining, Reads, read_needs}
use Rattle.grammar.proofs.Lists.{err_ok, err_inj, cons_nil, append_empty, cases_if, if_true, le_of_eq}

module _ {T A : Type 0} (n : ℕ) {W : A → List T → Type 0} {F : List T → Type 0} {d : A → ℕ} {b : ℕ} {first : T → Bool} {goes_on : A → T → Type 0} {null : Bool} {p : List T → Result (A × List T) (List T)}
    (R : Reads W F d b first goes_on null p) (deep : (a : A) (u : List T) → W a u → n ≤ d a) where
  abbrev read : List T → Result (A × List T) (List T)
  read = read_needs n b p

  enough : n ≤ b → nat_le n b ≡ true
  enough h = search (arith, h)

  there : nat_le n b ≡ true → n ≤ b
  there h = search (arith, h)

  needs_sound : (ts : List T) (a : A) (rest : List T) → read ts ≡ Ok (a, rest) → (u : List T) × (ts ≡ u ++ rest) × W a u × (d a ≤ b)
  needs_sound ts a rest h = elim (cases_if (nat_le n b) (p ts) (Err ts) (Ok (a, rest)) h) [ inl k ↦ R.sound ts a rest k.1 | inr k ↦ err_ok k.1 ]

  needs_refusal : (ts rest : List T) → read ts ≡ Err rest → (u : List T) × (ts ≡ u ++ rest) × NeedsFront n b F u
  needs_refusal ts rest h = elim (cases_if (nat_le n b) (p ts) (Err ts) (Err rest) h) [
    | inl k ↦ let s = R.refusal ts rest k.1 in (s.0, s.1, inr (there k.0, s.2))
    | inr k ↦ ([], err_inj k.1, inl refl)
  ]

  needs_complete : (a : A) (u rest : List T) → W a u → d a ≤ b → NextNot (goes_on a) rest → read (u ++ rest) ≡ Ok (a, rest)
  needs_complete a u rest h le off = if_true (nat_le n b) (p (u ++ rest)) (Err (u ++ rest)) (enough (le_trans (deep a u h) le)) ∙ R.complete a u rest h le off

  needs_short : (v : List T) → remaining (read v) ≤ length v
  needs_short v = by (nat_le n b)
    where
      by : (c : Bool) → remaining {A = A} (if c then p v else Err v) ≤ length v
      by true = R.reach [] v R.nothing
      by false = le_refl _

  needs_reach : (u v : List T) → NeedsFront n b F u → remaining (read (u ++ v)) ≤ length v
  needs_reach u v (inl e) = rw e (needs_short v)
  needs_reach u v (inr h) = le_trans (le_of_eq (ap remaining (if_true (nat_le n b) (p (u ++ v)) (Err (u ++ v)) (enough h.0)))) (R.reach u v h.1)

  needs_starts : (t : T) (u : List T) → NeedsFront n b F (t ∷ u) → first t ≡ true
  needs_starts t u (inl e) = cons_nil e
  needs_starts t u (inr h) = R.starts t u h.1

  needs_closed : (u v : List T) → NeedsFront n b F (u ++ v) → NeedsFront n b F u
  needs_closed u v (inl e) = inl ((append_empty u v (sym e)).0)
  needs_closed u v (inr h) = inr (h.0, R.closed u v h.1)

  pub needs_reads : Reads W (NeedsFront n b F) d b first goes_on null read
  needs_reads = record {
    sound = needs_sound;
    refusal = needs_refusal;
    complete = needs_complete;
    reach = needs_reach;
    starts = needs_starts;
    holds = λ a u h le. inr (le_trans (deep a u h) le, R.holds a u h le);
    closed = needs_closed;
    nothing = inl refl;
    empty = R.empty;
  }

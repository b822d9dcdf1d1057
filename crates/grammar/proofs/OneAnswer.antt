-- A list of tokens has one answer: it is spelled within the levels, or has one place of a refusal.
use Rattle.std.proofs.Common.{◌≡◌, ℕ, zero, suc, ◌≤◌, ◌<◌, true, List, [], ◌∷◌, ◌++◌, take, Result, Ok, Err, ◌⊎◌, inl, inr, refl, ap, subst, arith, eq-or-lt_of_le}
use Rattle.grammar.specs.FormReaders.{Reads}
use Rattle.grammar.specs.Rules.{Sort, El, deep, Grammar}
use Rattle.grammar.specs.Spelling.{Spells, IsFront}
use Rattle.grammar.specs.Checks.{Predictive}
use Rattle.grammar.specs.Readers.{read_named}
use Rattle.grammar.specs.Reading.{SpellsWithin, RefusedAt, read_all}
use Rattle.grammar.proofs.FrontHeights.{read_named_reads}
use Rattle.grammar.proofs.Theorem.{read_ok, read_refusal}

take_cut : {T : Type 0} (n : ℕ) (ts : List T) → (v : List T) × (ts ≡ take n ts ++ v)
take_cut zero ts = (ts, refl)
take_cut (suc n) [] = ([], refl)
take_cut (suc n) (t ∷ ts) = let (v, e) = take_cut n ts in (v, ap (λ l. t ∷ l) e)

module _ {T N K : Type 0} {sorts : K → Sort} (G : Grammar T N K sorts) (S : Predictive G) (k : K) (b : ℕ) (ts : List T) where
  abbrev R : Reads (Spells G k) (IsFront G k b) (deep T G.depth (sorts k)) b (λ t. G.name_first k (G.code t)) (λ a t. G.name_goes_on k a (G.code t) ≡ true) (G.name_nullable k) (read_named G b k)
  R = read_named_reads G S b k

  pub some_answer : ((p : El T N (sorts k)) × SpellsWithin G k b p ts) ⊎ ((at : ℕ) × RefusedAt G k b ts at)
  some_answer = by (read_all G k b ts) refl
    where
      by : (o : Result (El T N (sorts k)) ℕ) → read_all G k b ts ≡ o → ((p : El T N (sorts k)) × SpellsWithin G k b p ts) ⊎ ((at : ℕ) × RefusedAt G k b ts at)
      by (Ok p) e = inl (p, read_ok G S k b ts p e)
      by (Err at) e = inr (at, read_refusal G S k b ts at e)

  not_before : (at at' : ℕ) → RefusedAt G k b ts at → RefusedAt G k b ts at' → at < at' → ⊥
  not_before at at' h h' less = h.no_front (inl (omega (arith, less, h'.within), h'.before (suc at) (omega (arith, less))))

  pub one_place : (at at' : ℕ) → RefusedAt G k b ts at → RefusedAt G k b ts at' → at ≡ at'
  one_place at at' h h' = omega (arith, not_before at at' h h', not_before at' at h' h)

  pub never_both : (p : El T N (sorts k)) (at : ℕ) → SpellsWithin G k b p ts → RefusedAt G k b ts at → ⊥
  never_both p at s h = elim (eq-or-lt_of_le h.within) [
    | inl e ↦ h.no_front (inr (omega (arith, e), (p, s.spells, s.shallow)))
    | inr less ↦ let (v, e) = take_cut (suc at) ts in
        h.no_front (inl (omega (arith, less), (R).closed (take (suc at) ts) v (subst (IsFront G k b) e ((R).holds p ts s.spells s.shallow))))
  ]

  pub beginning : (p : El T N (sorts k)) (v : List T) → Spells G k p (ts ++ v) → deep T G.depth (sorts k) p ≤ b → IsFront G k b ts
  beginning p v s le = (R).closed ts v ((R).holds p (ts ++ v) s le)

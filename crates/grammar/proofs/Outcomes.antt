-- What a reader's outcome says of the whole list.
use Rattle.std.proofs.Common.{◌≡◌, ℕ, ◌-◌, ◌≤◌, List, [], ◌∷◌, length, Result, Ok, Err, refl, sym, ap, ◌∙◌, subst, arith}
use Rattle.grammar.specs.FormReaders.{remaining}
use Rattle.grammar.specs.Rules.{Sort, El, Grammar}
use Rattle.grammar.specs.Checks.{Predictive}
use Rattle.grammar.specs.Readers.{read_named}
use Rattle.grammar.specs.Reading.{SpellsWithin, RefusedAt, whole_list, read_all}
use Rattle.grammar.proofs.Lists.{err_ok, ok_inj}
use Rattle.grammar.proofs.FrontHeights.{read_named_reads}
use Rattle.grammar.proofs.Theorem.{read_ok, read_refusal, read_whole}

module _ {T N K : Type 0} {sorts : K → Sort} (G : Grammar T N K sorts) (S : Predictive G) (k : K) (b : ℕ) (ts : List T) where
  all_ok : (p : El T N (sorts k)) (rest : List T) → read_named G b k ts ≡ Ok (p, rest) → length rest ≡ 0 → read_all G k b ts ≡ Ok p
  unfolding read_all
  all_ok p [] e h = ap (whole_list G k b (length ts)) e
  all_ok p (t ∷ r) e h = let no : ⊥ = omega (arith, h) in absurd no

  all_left : (p : El T N (sorts k)) (rest : List T) → read_named G b k ts ≡ Ok (p, rest) → (length rest ≡ 0 → ⊥) → read_all G k b ts ≡ Err (length ts - length rest)
  unfolding read_all
  all_left p [] e h = absurd (h refl)
  all_left p (t ∷ r) e h = ap (whole_list G k b (length ts)) e

  all_err : (rest : List T) → read_named G b k ts ≡ Err rest → read_all G k b ts ≡ Err (length ts - length rest)
  unfolding read_all
  all_err rest e = ap (whole_list G k b (length ts)) e

  only : (o : Result (El T N (sorts k)) ℕ) (p : El T N (sorts k)) → read_all G k b ts ≡ o → SpellsWithin G k b p ts → o ≡ Ok p
  only o p e h = sym e ∙ read_whole G S k b ts p h

  short : remaining (read_named G b k ts) ≤ length ts
  short = (read_named_reads G S b k).reach [] ts (read_named_reads G S b k).nothing

  -- the whole list was read
  pub found : (p : El T N (sorts k)) (rest : List T) → read_named G b k ts ≡ Ok (p, rest) → length rest ≡ 0 → SpellsWithin G k b p ts
  found p rest e h = read_ok G S k b ts p (all_ok p rest e h)

  pub found_only : (p q : El T N (sorts k)) (rest : List T) → read_named G b k ts ≡ Ok (p, rest) → length rest ≡ 0 → SpellsWithin G k b q ts → p ≡ q
  found_only p q rest e h s = ok_inj (only (Ok p) q (all_ok p rest e h) s)

  -- something is left
  pub left_over : (p : El T N (sorts k)) (rest : List T) → read_named G b k ts ≡ Ok (p, rest) → (length rest ≡ 0 → ⊥) → RefusedAt G k b ts (length ts - length rest)
  left_over p rest e h = read_refusal G S k b ts (length ts - length rest) (all_left p rest e h)

  pub left_over_only : (p q : El T N (sorts k)) (rest : List T) → read_named G b k ts ≡ Ok (p, rest) → (length rest ≡ 0 → ⊥) → SpellsWithin G k b q ts → ⊥
  left_over_only p q rest e h s = err_ok (only (Err (length ts - length rest)) q (all_left p rest e h) s)

  pub left_short : (p : El T N (sorts k)) (rest : List T) → read_named G b k ts ≡ Ok (p, rest) → length rest ≤ length ts
  left_short p rest e = subst (λ o. remaining o ≤ length ts) e short

  -- refused
  pub refused : (rest : List T) → read_named G b k ts ≡ Err rest → RefusedAt G k b ts (length ts - length rest)
  refused rest e = read_refusal G S k b ts (length ts - length rest) (all_err rest e)

  pub refused_only : (q : El T N (sorts k)) (rest : List T) → read_named G b k ts ≡ Err rest → SpellsWithin G k b q ts → ⊥
  refused_only q rest e s = err_ok (only (Err (length ts - length rest)) q (all_err rest e) s)

  pub refused_short : (rest : List T) → read_named G b k ts ≡ Err rest → length rest ≤ length ts
  refused_short rest e = subst (λ o. remaining o ≤ length ts) e short

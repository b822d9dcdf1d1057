-- Whether a list is a front is what the reader tells: nothing is left exactly where it is one.
use Rattle.std.proofs.Common.{◌≡◌, ℕ, true, List, [], ◌∷◌, Result, Ok, Err, refl, sym, ap, ◌∙◌, subst, append-nil, arith}
use Rattle.grammar.specs.FormReaders.{remaining, Reads}
use Rattle.grammar.specs.Rules.{Sort, El, deep, Grammar}
use Rattle.grammar.specs.Spelling.{Spells, IsFront}
use Rattle.grammar.specs.Checks.{Predictive}
use Rattle.grammar.specs.Readers.{read_named}
use Rattle.grammar.proofs.FrontHeights.{read_named_reads}

module _ {T N K : Type 0} {sorts : K → Sort} (G : Grammar T N K sorts) (S : Predictive G) (k : K) (b : ℕ) (ts : List T) where
  abbrev R : Reads (Spells G k) (IsFront G k b) (deep T G.depth (sorts k)) b (λ t. G.name_first k (G.code t)) (λ a t. G.name_goes_on k a (G.code t) ≡ true) (G.name_nullable k) (read_named G b k)
  R = read_named_reads G S b k

  pub is_front : remaining (read_named G b k ts) ≡ 0 → IsFront G k b ts
  is_front h = by (read_named G b k ts) refl h
    where
      by : (o : Result (El T N (sorts k) × List T) (List T)) → read_named G b k ts ≡ o → remaining o ≡ 0 → IsFront G k b ts
      by (Ok (p, [])) e h = let s = (R).sound ts p [] e in subst (IsFront G k b) (sym (s.1 ∙ append-nil s.0)) ((R).holds p s.0 s.2 s.3)
      by (Ok (p, t ∷ r)) e h = let no : ⊥ = omega (arith, h) in absurd no
      by (Err []) e h = let s = (R).refusal ts [] e in subst (IsFront G k b) (sym (s.1 ∙ append-nil s.0)) s.2
      by (Err (t ∷ r)) e h = let no : ⊥ = omega (arith, h) in absurd no

  pub front_is : IsFront G k b ts → remaining (read_named G b k ts) ≡ 0
  front_is f = let le = (R).reach ts [] f in omega (arith, le, ap (λ l. remaining (read_named G b k l)) (append-nil ts))

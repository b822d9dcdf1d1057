-- The checks of the rules that most grammars have.
use Rattle.std.proofs.Common.{◌≡◌, ℕ, zero, suc, Bool, true, false, ◌&&◌, ◌||◌, [], ◌∷◌, refl, ap, ◌∙◌, arith}
use Rattle.std.specs.Prelude.{if◌then◌else◌}
use Rattle.grammar.specs.Rules.{Sort, Rule, Grammar}
use Rattle.grammar.specs.Checks.{classes_in, nullable, first, continues, Disjoint, Checks}
use Rattle.grammar.specs.CommonRules.{behind, before, between, maybe, separated}

classes_same : (n : ℕ) (f g : ℕ → Bool) → ((k : ℕ) → f k ≡ g k) → classes_in n f ≡ classes_in n g
classes_same zero f g h = refl
classes_same (suc n) f g h = ap (λ c. if c then n ∷ classes_in n f else classes_in n f) (h n) ∙ ap (λ l. if g n then n ∷ l else l) (classes_same n f g h)

no_classes : (n : ℕ) → classes_in n (λ k. false) ≡ []
no_classes zero = refl
no_classes (suc n) = no_classes n

and_false : (c : Bool) → (c && false) ≡ false
and_false true = refl
and_false false = refl

or_and_false : (a c : Bool) → (a || (c && false)) ≡ a
or_and_false true c = refl
or_and_false false true = refl
or_and_false false false = refl

module _ {T N K : Type 0} {sorts : K → Sort} (G : Grammar T N K sorts) {s : Sort} (r : Rule T N K sorts s) (c : Checks G r) where
  pub behind_checks : (f : ℕ → Bool) → Checks G (behind f r)
  behind_checks f = (λ x. omega arith, (no_classes G.size, tt, c))

  pub before_checks : (f : ℕ → Bool) → Disjoint G (continues G r) f → Checks G (before r f)
  before_checks f d = (λ x. omega arith, (d, c, tt))

  pub maybe_checks : nullable G r ≡ false → Checks G (maybe r)
  maybe_checks e = (classes_same G.size _ _ (λ k. and_false (first G r k)) ∙ no_classes G.size, e, (λ x. refl, c), tt)

  -- the tokens that go on behind an item part no items
  pub separated_checks : (f : ℕ → Bool) → Disjoint G (continues G r) f → Checks G (separated r f)
  separated_checks f d =
      (λ x. refl, (d, c, (classes_same G.size _ _ (λ k. ap (λ z. z && f k) (or_and_false (continues G r k) (nullable G r))) ∙ d, refl, behind_checks f)))

module _ {T N K : Type 0} {sorts : K → Sort} (G : Grammar T N K sorts) {s : Sort} (r : Rule T N K sorts s) (c : Checks G r) where
  pub between_checks : (f g : ℕ → Bool) → Disjoint G (continues G r) g → Checks G (between f r g)
  between_checks f g d = behind_checks G (before r g) (before_checks G r c g d) f

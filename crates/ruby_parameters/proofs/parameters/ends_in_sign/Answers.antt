use Rattle.std.proofs.Common.{◌≡◌, ℕ, zero, suc, ◌-◌, ◌<◌, ◌||◌, true, ltb, List, [], ◌∷◌, length, get_or, refl, sym, ap, rules, ◌∙◌, arith}
use Rattle.std.specs.Prelude.{nat_eq}
use borrow.Author.Tests.{ltb-true}
use Rattle.ruby_meaning.specs.Grammar.Actions.{ends_in_sign}
use Rattle.ruby_parameters.proofs.parameters.ends_in_sign.Goals as goal

by_last : (us : List ℕ) (n d : ℕ) → suc n ≡ length us → (nat_eq (get_or us n d) 63 || nat_eq (get_or us n d) 33) ≡ ends_in_sign us
by_last [] n d h = absurd (omega arith)
by_last (u ∷ []) zero d h = refl
by_last (u ∷ []) (suc n) d h = absurd (omega arith)
by_last (u ∷ next ∷ us) zero d h = absurd (omega arith)
by_last (u ∷ next ∷ us) (suc n) d h = by_last (next ∷ us) n d (omega arith)

last_sign : (us : List ℕ) (u : ℕ) → true ≡ ltb 0 (length us) → u ≡ get_or us (length us - 1) u → (nat_eq u 63 || nat_eq u 33) ≡ ends_in_sign us
last_sign us u some e = ap (λ x. nat_eq x 63 || nat_eq x 33) e ∙ by_last us (length us - 1) u (let h : 0 < length us = ltb-true _ _ (sym some) in omega arith)

pub returns-in-Some : goal.returns-in-Some
returns-in-Some c = let e = last_sign c.as_slice.result.now c.in-Some.unit.now c.in-Some.ensures.item.0 c.in-Some.ensures.item.1 in first_of (search rules, cc)

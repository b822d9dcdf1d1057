-- How deep lists are, for the checks of grammars.
use Rattle.std.proofs.Common.{◌≡◌, ℕ, max, List, [], ◌∷◌, ◌++◌, refl, arith}
use Rattle.grammar.specs.Forms.{deepest}

pub deepest_append : {A : Type 0} (d : A → ℕ) (xs ys : List A) → deepest d (xs ++ ys) ≡ max (deepest d xs) (deepest d ys)
deepest_append d [] ys = omega arith
deepest_append d (x ∷ xs) ys = omega (arith, deepest_append d xs ys)

-- tokens and numbers have no nodes
pub deepest_flat : {A : Type 0} (xs : List A) → deepest (λ x. 0) xs ≡ 0
deepest_flat [] = refl
deepest_flat (x ∷ xs) = omega (arith, deepest_flat xs)

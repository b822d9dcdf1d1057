-- The innermost of the scopes that a block sees.
use Rattle.std.proofs.Common.{◌≡◌, List, [], ◌∷◌, ◌++◌, refl, ap}
use Rattle.ruby_meaning.specs.Scoping.Names.{Name}
use Rattle.ruby_meaning.specs.Scoping.Seen.{innermost, outer_ones}

pub innermost_is : (xs : List (List Name)) (x : List Name) → innermost (xs ++ x ∷ []) ≡ x
innermost_is [] x = refl
innermost_is (y ∷ []) x = refl
innermost_is (y ∷ (z ∷ zs)) x = innermost_is (z ∷ zs) x

pub outer_ones_are : (xs : List (List Name)) (x : List Name) → outer_ones (xs ++ x ∷ []) ≡ xs
outer_ones_are [] x = refl
outer_ones_are (y ∷ []) x = refl
outer_ones_are (y ∷ (z ∷ zs)) x = ap (λ (r : List (List Name)). y ∷ r) (outer_ones_are (z ∷ zs) x)

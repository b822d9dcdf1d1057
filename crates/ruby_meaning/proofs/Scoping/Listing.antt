-- The names of a list in its set.
use Rattle.std.proofs.Common.{◌≡◌, refl, List, [], ◌∷◌, ◌++◌}
use Rattle.std.specs.Prelude.{false, bytes_eq}
use Rattle.std.specs.List.{list_any}
use Rattle.std.proofs.lemmas.Cmp.{nat_list_eq_equiv}
use Rattle.name_set.specs.Names.{with_new}
use Rattle.ruby_meaning.specs.Scoping.Names.{Name, has}

-- a set asks whether the name is a member, a list whether a member is the name
pub found : (name : Name) (names : List Name) → list_any (bytes_eq name) names ≡ has names name
unfolding has
found name [] = refl
found name (n ∷ ns) = rw (nat_list_eq_equiv.symm name n, found name ns) refl

-- a name that is new to a set comes last
pub comes_last : (name : Name) (names : List Name) → has names name ≡ false → with_new names name names ≡ names ++ name ∷ []
comes_last name names e = rw (found name names, e) refl

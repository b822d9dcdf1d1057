-- Lists of names, each name once.
use Rattle.std.specs.Prelude.{ℕ, Bool, List, [], ◌∷◌, ◌++◌, bytes_eq, if◌then◌else◌}
use Rattle.std.specs.List.{list_any}

abbrev pub Name : Type 0
Name = List ℕ

unfoldable pub has : List Name → Name → Bool
has names name = list_any (λ n. bytes_eq n name) names

-- the name at the end, if it isn't there yet
unfoldable pub with_name : List Name → Name → List Name
with_name names name = if has names name then names else names ++ name ∷ []

-- The steps of the loops that list names.
use Rattle.std.proofs.Common.{◌≡◌, ℕ, List, [], ◌∷◌, ◌++◌, map, filter, refl, sym, Some, None, true, false, append_assoc}
use Rattle.std.specs.List.{filter_map}
use Rattle.es5_tree.specs.Values.{Text, Val}
use Rattle.es5_tree.specs.Objects.Names.{index_of, decimal}
use Rattle.es5_tree.specs.Objects.Cells.{Cell, Kind, rising, indices, other_names, is_other_name, keys}

pub index_here : (name : Text) (names : List Text) (i : ℕ) → index_of name ≡ Some i → filter_map index_of (name ∷ names) ≡ i ∷ filter_map index_of names
index_here name names i e = rw e refl

pub index_later : (name : Text) (names : List Text) → index_of name ≡ None → filter_map index_of (name ∷ names) ≡ filter_map index_of names
index_later name names e = rw e refl

pub other_here : (kind : Kind) (name : Text) (names : List Text) → is_other_name kind name ≡ true → filter (is_other_name kind) (name ∷ names) ≡ name ∷ filter (is_other_name kind) names
other_here kind name names e = rw e refl

pub other_later : (kind : Kind) (name : Text) (names : List Text) → is_other_name kind name ≡ false → filter (is_other_name kind) (name ∷ names) ≡ filter (is_other_name kind) names
other_later kind name names e = rw e refl

-- an element more at the end of what was listed
pub moved : {A : Type 0} (xs : List A) (x : A) (ys : List A) → xs ++ x ∷ ys ≡ (xs ++ x ∷ []) ++ ys
moved xs x ys = sym (append_assoc xs (x ∷ []) ys)

abbrev firsts : List (Text × Val) → List Text
firsts ps = map (λ p. p.0) ps

indices_firsts : (ps : List (Text × Val)) → filter_map index_of (firsts ps) ≡ filter_map (λ p. index_of p.0) ps
indices_firsts [] = refl
indices_firsts (p ∷ ps) = rw (indices_firsts ps) refl

-- what the names of an object list
pub keys_listed : (c : Cell) (names : List Text) → names ≡ firsts c.properties → map decimal (rising (filter_map index_of names)) ++ filter (is_other_name c.kind) names ≡ keys c
unfolding keys indices other_names
keys_listed c names e = rw (e, indices_firsts c.properties) refl

pub indices_listed : (c : Cell) (names : List Text) → names ≡ firsts c.properties → filter_map index_of names ≡ indices c.properties
unfolding indices
indices_listed c names e = rw (e, indices_firsts c.properties) refl

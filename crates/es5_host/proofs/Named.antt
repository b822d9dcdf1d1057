-- What the values name that a valid heap holds.
use Rattle.std.proofs.Common.{◌≡◌, ℕ, ◌<◌, ◌≤◌, Bool, true, false, if◌then◌else◌, bytes_eq, List, [], ◌∷◌, length, map, Option, Some, None, sym, subst, ⊎_elim, pos}
use Rattle.std.specs.List.{All, range_with_len}
use Rattle.std.proofs.lemmas.Bool.{cases_lt}
use Rattle.std.proofs.lemmas.List.{get_or_past}
use Rattle.std.proofs.lemmas.List.Elements.{All-nil, All-cons, All-head, All-tail, All-map}
use Rattle.es5_tree.specs.Values.{Text, Val, Num, Str, find_own, first}
use Rattle.es5_tree.specs.Objects.Names.{decimal}
use Rattle.es5_tree.specs.Objects.Cells.{Cell, Object, new_cell, own, is_array_length}
use Rattle.es5_tree.specs.Objects.Links.{cell_at, chain, first_own, get}
use Rattle.es5_tree.specs.Intrinsics.Rows.{elements}
use Rattle.es5_tree.specs.Intrinsics.Valid.{Names, NamesIf, NamesIn, Valid}
use Rattle.es5_objects.specs.declared.value.EsValue.{EsValue}
use Rattle.es5_objects.specs.Values.{value_if}
use Rattle.es5_host.proofs.Validity.{names_at}

past_end : (cells : List Cell) (o : ℕ) → length cells ≤ o → new_cell Object None ≡ cell_at cells o
unfolding cell_at
past_end cells o le = sym (get_or_past cells o (new_cell Object None) le)

pub names_anywhere : (cells : List Cell) (o : ℕ) → Valid cells → NamesIn (length cells) (cell_at cells o)
names_anywhere cells o v =
    ⊎_elim
    (λ (lt : o < length cells). names_at cells o lt v)
    (λ (le : length cells ≤ o). subst (NamesIn (length cells)) (past_end cells o le) (All-nil _))
    (cases_lt o (length cells))

choice : (b : Bool) (n : ℕ) (x y : Option Val) → NamesIf n x → NamesIf n y → NamesIf n (if b then x else y)
choice true n x y h k = h
choice false n x y h k = k

found_named : (n : ℕ) (ps : List (Text × Val)) (name : Text) → All (λ p. Names n p.1) ps → NamesIf n (find_own ps name)
unfolding find_own
found_named n [] name h = tt
found_named n (p ∷ ps) name h = choice (bytes_eq p.0 name) n (Some p.1) (find_own ps name) (All-head (λ q. Names n q.1) p ps h) (found_named n ps name (All-tail (λ q. Names n q.1) p ps h))

pub own_named : (n : ℕ) (c : Cell) (name : Text) → NamesIn n c → NamesIf n (own c name)
unfolding own
own_named n c name h = choice (is_array_length c name) n (Some (Num (pos c.array_length))) (find_own c.properties name) tt (found_named n c.properties name h)

first_named : (n : ℕ) (x y : Option Val) → NamesIf n x → NamesIf n y → NamesIf n (first x (λ u. y))
first_named n None y h k = k
first_named n (Some v) y h k = h

along_named : (cells : List Cell) (os : List ℕ) (name : Text) → Valid cells → NamesIf (length cells) (first_own cells os name)
unfolding first_own
along_named cells [] name v = tt
along_named cells (o ∷ os) name v = first_named (length cells) (own (cell_at cells o) name) (first_own cells os name) (own_named (length cells) (cell_at cells o) name (names_anywhere cells o v)) (along_named cells os name v)

pub get_named : (cells : List Cell) (o : ℕ) (name : Text) → Valid cells → NamesIf (length cells) (get cells o name)
unfolding get
get_named cells o name v = along_named cells (chain cells (Some o)) name v

pub elements_named : (cells : List Cell) (o from n : ℕ) → Valid cells → All (NamesIf (length cells)) (elements cells o from n)
elements_named cells o from n v = All-map (NamesIf (length cells)) (λ i. get cells o (decimal i)) (range_with_len from n) (λ k d lt. get_named cells o _ v)

unmapped : (n : ℕ) (items : List (Option EsValue)) → All (NamesIf n) (map value_if items) → All (λ x. NamesIf n (value_if x)) items
unmapped n [] h = All-nil _
unmapped n (x ∷ xs) h = All-cons (λ y. NamesIf n (value_if y)) x xs (All-head (NamesIf n) (value_if x) (map value_if xs) h) (unmapped n xs (All-tail (NamesIf n) (value_if x) (map value_if xs) h))

pub items_named : (n : ℕ) (items : List (Option EsValue)) (vs : List (Option Val)) → map value_if items ≡ vs → All (NamesIf n) vs → All (λ x. NamesIf n (value_if x)) items
items_named n items vs e h = unmapped n items (subst (All (NamesIf n)) (sym e) h)

pub texts_named : (n : ℕ) (names : List Text) → All (NamesIf n) (map (λ name. Some (Str name)) names)
texts_named n names = All-map (NamesIf n) (λ name. Some (Str name)) names (λ k d lt. tt)

-- Lists of values as elements.
use Rattle.std.proofs.Common.{◌≡◌, ℕ, ◌+◌, ◌<◌, ◌≤◌, List, [], ◌∷◌, ◌++◌, length, map, take, slice_get, Option, Some, sym, ap, subst, ◌∙◌}
use Rattle.std.specs.List.{All}
use Rattle.std.proofs.lemmas.List.{map-append, take_more, take_all}
use Rattle.std.proofs.lemmas.List.Elements.{All-push, All-nil, All-cons, All-head, All-tail}
use Rattle.std.proofs.lemmas.Option.{get_or_from_slice_get}
use Rattle.es5_tree.specs.Values.{Val}
use Rattle.es5_tree.specs.Intrinsics.Valid.{Names, NamesIf}
use Rattle.es5_objects.specs.declared.value.EsValue.{EsValue}
use Rattle.es5_objects.specs.Values.{value_if}
use Rattle.es5_host.proofs.Validity.{named_longer}

one_more : {A : Type 0} (xs : List A) (i : ℕ) (x : A) → slice_get xs i ≡ Some x → i < length xs → take (i + 1) xs ≡ take i xs ++ x ∷ []
one_more xs i x at lt = take_more xs i x lt ∙ ap (λ y. take i xs ++ y ∷ []) (get_or_from_slice_get xs i x x at)

pub named_more : (n i : ℕ) (vs : List Val) (v : Val) → slice_get vs i ≡ Some v → i < length vs → Names n v → All (Names n) (take i vs) → All (Names n) (take (i + 1) vs)
named_more n i vs v at lt h a = subst (All (Names n)) (sym (one_more vs i v at lt)) (All-push (Names n) (take i vs) v a h)

pub named_all : (n i : ℕ) (vs : List Val) → length vs ≤ i → All (Names n) (take i vs) → All (Names n) vs
named_all n i vs le a = subst (All (Names n)) (take_all i vs le) a

pub named_none : (n : ℕ) (vs : List Val) → All (Names n) (take 0 vs)
named_none n vs = All-nil (Names n)

pub element_more : (vs : List Val) (i : ℕ) (v : Val) (xs ys : List (Option Val)) → slice_get vs i ≡ Some v → i < length vs → ys ≡ xs ++ Some v ∷ [] → xs ≡ map (λ w. Some w) (take i vs) → ys ≡ map (λ w. Some w) (take (i + 1) vs)
element_more vs i v xs ys at lt e h =
    e ∙ (ap (λ zs. zs ++ Some v ∷ []) h ∙ (sym (map-append (λ w. Some w) (take i vs) (v ∷ [])) ∙ ap (map (λ w. Some w)) (sym (one_more vs i v at lt))))

-- the elements name what the values name
some_named : (n m : ℕ) (item : Option EsValue) (v : Val) → n ≤ m → value_if item ≡ Some v → Names n v → NamesIf m (value_if item)
some_named n m item v le e h = subst (NamesIf m) (sym e) (named_longer n m le v h)

pub items_named : (n m : ℕ) (vs : List Val) (items : List (Option EsValue)) → n ≤ m → map value_if items ≡ map (λ w. Some w) vs → All (Names n) vs → All (λ item. NamesIf m (value_if item)) items
items_named n m [] [] le e a = All-nil _
items_named n m [] (item ∷ items) le e a = cc
items_named n m (v ∷ vs) [] le e a = cc
items_named n m (v ∷ vs) (item ∷ items) le e a =
    All-cons (λ x. NamesIf m (value_if x)) item items (some_named n m item v le (cc) (All-head (Names n) v vs a))
    (items_named n m vs items le (cc) (All-tail (Names n) v vs a))

-- Names that are none of others.
use Rattle.std.proofs.Common.{◌≡◌, ℕ, suc, ◌+◌, ◌≤◌, Bool, true, false, ◌||◌, if◌then◌else◌, List, [], ◌∷◌, ◌++◌, length, drop, Some, slice_get, bytes_eq, refl, sym, ap, ap₂, ◌∙◌, arith, append_assoc, append-nil}
use Rattle.std.proofs.lemmas.List.{drop_all}
use Rattle.std.specs.List.{list_any}
use Rattle.std.proofs.Math.Seq.{drop-cons}
use Rattle.std.proofs.lemmas.Option.{slice_get_within, get_or_from_slice_get}
use Rattle.es5_tree.specs.Values.{Text}
use Rattle.es5_evaluation.specs.Declared.{new_names}
use Rattle.name_set.specs.Names.{with_new}
use Rattle.name_set.proofs.Known.{known_behind}

pub dropped : {A : Type 0} (xs : List A) (i : ℕ) (x : A) → slice_get xs i ≡ Some x → drop i xs ≡ x ∷ drop (i + 1) xs
dropped xs i x e =
    drop-cons xs i x (slice_get_within xs i x e) ∙ ap (λ z. z ∷ drop (suc i) xs) (get_or_from_slice_get xs i x x e)
    ∙ (let e : suc i ≡ i + 1 = omega arith in ap (λ n. x ∷ drop n xs) e)

abbrev SameKnown : List Text → List Text → Type 0
SameKnown k l = (x : Text) → list_any (bytes_eq x) k ≡ list_any (bytes_eq x) l

or_commutes : (a b : Bool) → (a || b) ≡ (b || a)
or_commutes true true = refl
or_commutes true false = refl
or_commutes false true = refl
or_commutes false false = refl

same_known : (k l names : List Text) → SameKnown k l → new_names k names ≡ new_names l names
unfolding new_names
same_known k l [] e = refl
same_known k l (name ∷ names) e =
    ap (λ b. if b then new_names k names else name ∷ new_names (name ∷ k) names) (e name)
    ∙ ap₂ (λ xs ys. if list_any (bytes_eq name) l then xs else name ∷ ys) (same_known k l names e) (same_known (name ∷ k) (name ∷ l) names (λ x. ap (λ b. bytes_eq x name || b) (e x)))

moved : (known : List Text) (name : Text) → SameKnown (name ∷ known) (known ++ name ∷ [])
moved known name x = or_commutes (bytes_eq x name) (list_any (bytes_eq x) known) ∙ sym (known_behind known name x)

by_test : (known new rest : List Text) (name : Text) (b : Bool) →
    new ++ (if b then new_names known rest else name ∷ new_names (name ∷ known) rest)
    ≡ (if b then new else new ++ name ∷ []) ++ new_names (if b then known else known ++ name ∷ []) rest
by_test known new rest name true = refl
by_test known new rest name false =
    sym (append_assoc new (name ∷ []) (new_names (name ∷ known) rest))
    ∙ ap (λ xs. (new ++ name ∷ []) ++ xs) (same_known (name ∷ known) (known ++ name ∷ []) rest (moved known name))

one_more : (known new rest : List Text) (name : Text) → new ++ new_names known (name ∷ rest) ≡ with_new known name new ++ new_names (with_new known name known) rest
unfolding new_names
one_more known new rest name = by_test known new rest name (list_any (bytes_eq name) known)

pub first_names : (names known seen new : List Text) → SameKnown seen known → new ≡ [] → new ++ new_names seen (drop 0 names) ≡ new_names known names
first_names names known seen new e n = ap (λ xs. xs ++ new_names seen names) n ∙ same_known seen known names e

pub next_name : (names known new seen more whole : List Text) (i : ℕ) (name : Text) → slice_get names i ≡ Some name → seen ≡ with_new known name known → more ≡ with_new known name new
    → new ++ new_names known (drop i names) ≡ whole → more ++ new_names seen (drop (i + 1) names) ≡ whole
next_name names known new seen more whole i name g s m e =
    ap₂ (λ xs ks. xs ++ new_names ks (drop (i + 1) names)) m s
    ∙ sym (one_more known new (drop (i + 1) names) name)
    ∙ (ap (λ xs. new ++ new_names known xs) (sym (dropped names i name g)) ∙ e)

pub no_more_names : (names known new whole : List Text) (i : ℕ) → length names ≤ i → new ++ new_names known (drop i names) ≡ whole → new ≡ whole
unfolding new_names
no_more_names names known new whole i l e = sym (append-nil new) ∙ (ap (λ xs. new ++ new_names known xs) (sym (drop_all i names l)) ∙ e)

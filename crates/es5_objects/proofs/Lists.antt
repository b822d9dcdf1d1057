-- Properties in a map, and their pairs of names and values.
use Rattle.std.proofs.Common.{◌≡◌, ℕ, zero, suc, ◌<◌, Bool, true, false, cond, ◌⊎◌, inl, inr, ⊎_elim, List, [], ◌∷◌, length, get_or, filter, position, refl, sym, ap, ◌∙◌, arith, bytes_eq, map, Some, None, Result, Ok, Err, OnOk, OnErr, Vec, Global}
use Rattle.std.specs.List.{AllByRecursion, IsDistinct, remove}
use Rattle.std.specs.Map.{keys_of, lookup, remove_entry}
use Rattle.std.proofs.lemmas.Cmp.{nat_list_eq_equiv}
use Rattle.std.proofs.lemmas.List.Quantifiers.{position-Some}
use Rattle.indexmap.specs.IndexMap.{insert_entry, set_value_at}
use Rattle.indexmap.proofs.MapLemmas.{Found-position, Missing-position, remove_entry-first}
use Rattle.es5_tree.specs.Values.{Text, Val, find_own}
use Rattle.es5_tree.specs.Objects.Cells.{with_property, without_property, elements_below, stays_below}
use Rattle.es5_tree.specs.Objects.Names.{index_of}
use Rattle.es5_objects.specs.declared.value.EsValue.{EsValue}
use Rattle.es5_objects.specs.Values.{value_of, value_if}
use Rattle.es5_objects.specs.Properties.{name_of, names, entry, entries}

abbrev Key : Type 0
Key = Vec ℕ Global

abbrev pub is_name : Text → Key → Bool
is_name name key = bytes_eq name (name_of key)

abbrev pub same : Key → Key → Bool
same j k = bytes_eq (name_of j) (name_of k)

true_or_false : (b : Bool) → (b ≡ true) ⊎ (b ≡ false)
true_or_false true = inl refl
true_or_false false = inr refl

turned : (a b : Text) → bytes_eq a b ≡ bytes_eq b a
turned a b = nat_list_eq_equiv.symm a b

-- ---- reading

pub found_is : (es : List (Key × EsValue)) (name : Text) → value_if (lookup (is_name name) es) ≡ find_own (entries es) name
unfolding find_own
found_is [] name = refl
found_is (e ∷ es) name =
    ⊎_elim
    (λ (here : is_name name e.0 ≡ true). rw (here, turned (name_of e.0) name, here) refl)
    (λ (later : is_name name e.0 ≡ false). rw (later, turned (name_of e.0) name, later) (found_is es name))
    (true_or_false (is_name name e.0))

-- ---- writing

here : (q : Text × Val) (ps : List (Text × Val)) (name : Text) (v : Val) → bytes_eq name q.0 ≡ true → with_property (q ∷ ps) name v ≡ (q.0, v) ∷ ps
unfolding with_property
here q ps name v e = rw (turned q.0 name, e) refl

later : (q : Text × Val) (ps : List (Text × Val)) (name : Text) (v : Val) → bytes_eq name q.0 ≡ false → with_property (q ∷ ps) name v ≡ q ∷ with_property ps name v
unfolding with_property
later q ps name v e = rw (turned q.0 name, e) refl

put_at : (es : List (Key × EsValue)) (name : Text) (v : EsValue) (d : Key) (i : ℕ) → i < length (keys_of es) → is_name name (get_or (keys_of es) i d) ≡ true → ((k : ℕ) → k < i → is_name name (get_or (keys_of es) k d) ≡ false)
    → entries (set_value_at es i v) ≡ with_property (entries es) name (value_of v)
put_at [] name v d i lt at_it before_it = absurd (omega arith)
put_at (e ∷ es) name v d zero lt at_it before_it = sym (here (entry e) (entries es) name (value_of v) at_it)
put_at (e ∷ es) name v d (suc i) lt at_it before_it =
    ap (λ rest. entry e ∷ rest) (put_at es name v d i (omega arith) at_it (λ k h. before_it (suc k) (omega arith)))
    ∙ sym (later (entry e) (entries es) name (value_of v) (before_it 0 (omega arith)))

pub put_in_place : (es : List (Key × EsValue)) (name : Text) (v : EsValue) (i : ℕ) → position (is_name name) (keys_of es) ≡ Some i → entries (set_value_at es i v) ≡ with_property (entries es) name (value_of v)
put_in_place [] name v i e = absurd (let wrong : None ≡ Some i = e in cc)
put_in_place (e ∷ es) name v i at =
    let found = position-Some (is_name name) (keys_of (e ∷ es)) i e.0 at in
    put_at (e ∷ es) name v e.0 i found.0 found.1 found.2

pub inserted : (es : List (Key × EsValue)) (key : Key) (v : EsValue) → entries (insert_entry same es key v) ≡ with_property (entries es) (name_of key) (value_of v)
unfolding with_property
inserted [] key v = refl
inserted (e ∷ es) key v =
    ⊎_elim
    (λ (at_it : same key e.0 ≡ true). rw at_it (sym (here (entry e) (entries es) (name_of key) (value_of v) at_it)))
    (λ (past : same key e.0 ≡ false). rw past (ap (λ rest. entry e ∷ rest) (inserted es key v) ∙ sym (later (entry e) (entries es) (name_of key) (value_of v) past)))
    (true_or_false (same key e.0))

-- ---- deleting

entries_filter : (test : Text × Val → Bool) (es : List (Key × EsValue)) → entries (filter (λ e. test (entry e)) es) ≡ filter test (entries es)
entries_filter test [] = refl
entries_filter test (e ∷ es) =
    ⊎_elim
    (λ (stays : test (entry e) ≡ true). rw stays (ap (λ rest. entry e ∷ rest) (entries_filter test es)))
    (λ (goes : test (entry e) ≡ false). rw goes (entries_filter test es))
    (true_or_false (test (entry e)))

gone : (p : Text × Val) (ps : List (Text × Val)) (name : Text) → bytes_eq name p.0 ≡ true → without_property (p ∷ ps) name ≡ without_property ps name
unfolding without_property
gone p ps name e = rw (turned p.0 name, e) refl

kept : (p : Text × Val) (ps : List (Text × Val)) (name : Text) → bytes_eq name p.0 ≡ false → without_property (p ∷ ps) name ≡ p ∷ without_property ps name
unfolding without_property
kept p ps name e = rw (turned p.0 name, e) refl

-- where no key is the name, nothing goes
all_stay : (es : List (Key × EsValue)) (name : Text) → AllByRecursion (λ k. is_name name k ≡ false) (keys_of es) → without_property (entries es) name ≡ entries es
unfolding without_property
all_stay [] name h = refl
all_stay (e ∷ es) name h = kept (entry e) (entries es) name h.0 ∙ ap (λ rest. entry e ∷ rest) (all_stay es name h.1)

others_differ : (e : Key) (keys : List Key) (name : Text) → is_name name e ≡ true → AllByRecursion (λ k. same e k ≡ false) keys → AllByRecursion (λ k. is_name name k ≡ false) keys
others_differ e [] name h apart = tt
others_differ e (k ∷ ks) name h apart = (nat_list_eq_equiv.congr name (name_of e) (name_of k) h ∙ apart.0, others_differ e ks name h apart.1)

first_gone : (es : List (Key × EsValue)) (name : Text) → IsDistinct same (keys_of es) → entries (remove_entry (is_name name) es) ≡ without_property (entries es) name
unfolding IsDistinct without_property
first_gone [] name distinct = refl
first_gone (e ∷ es) name distinct =
    ⊎_elim
    (λ (at_it : is_name name e.0 ≡ true). rw at_it (sym (gone (entry e) (entries es) name at_it ∙ all_stay es name (others_differ e.0 (keys_of es) name at_it distinct.0))))
    (λ (past : is_name name e.0 ≡ false). rw past (ap (λ rest. entry e ∷ rest) (first_gone es name distinct.1) ∙ sym (kept (entry e) (entries es) name past)))
    (true_or_false (is_name name e.0))

pub deleted : (es : List (Key × EsValue)) (name : Text) (i : ℕ) → position (is_name name) (keys_of es) ≡ Some i → IsDistinct same (keys_of es) → entries (remove es i) ≡ without_property (entries es) name
deleted es name i at distinct = ap entries (sym (remove_entry-first (is_name name) es i (Found-position (is_name name) es i at).first)) ∙ first_gone es name distinct

no_key : (es : List (Key × EsValue)) (name : Text) → lookup (is_name name) es ≡ None → AllByRecursion (λ k. is_name name k ≡ false) (keys_of es)
no_key [] name e = tt
no_key (e ∷ es) name none =
    ⊎_elim
    (λ (at_it : is_name name e.0 ≡ true). absurd (let wrong : Some e.1 ≡ None = sym (ap (λ b. cond b (Some e.1) (lookup (is_name name) es)) at_it) ∙ none in cc))
    (λ (past : is_name name e.0 ≡ false). (past, no_key es name (sym (ap (λ b. cond b (Some e.1) (lookup (is_name name) es)) past) ∙ none)))
    (true_or_false (is_name name e.0))

pub nothing_deleted : (es : List (Key × EsValue)) (name : Text) → position (is_name name) (keys_of es) ≡ None → entries es ≡ without_property (entries es) name
nothing_deleted es name none = sym (all_stay es name (no_key es name (Missing-position (is_name name) es none).value))

pub below : (es left : List (Key × EsValue)) (n : ℕ) → left ≡ filter (λ e. stays_below n (index_of (name_of e.0))) es → entries left ≡ elements_below n (entries es)
unfolding elements_below
below es left n e = ap entries e ∙ entries_filter (λ p. stays_below n (index_of p.0)) es

pub names_are : (es : List (Key × EsValue)) → names (keys_of es) ≡ map (λ p. p.0) (entries es)
names_are [] = refl
names_are (e ∷ es) = ap (λ rest. name_of e.0 ∷ rest) (names_are es)

-- ---- clauses of a result

pub on_ok : {T E : Type 0} (r : Result T E) (P Q : Type 0) → (P → Q) → OnOk r P → OnOk r Q
on_ok (Ok x) P Q f h = f h
on_ok (Err e) P Q f h = tt

pub on_err : {T E : Type 0} (r : Result T E) (P Q : Type 0) → (P → Q) → OnErr r P → OnErr r Q
on_err (Ok x) P Q f h = tt
on_err (Err e) P Q f h = f h

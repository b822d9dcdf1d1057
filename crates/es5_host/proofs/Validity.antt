-- What a change leaves of a valid heap.
use Rattle.std.proofs.Common.{◌≡◌, ◌≢◌, ℕ, ◌+◌, ◌<◌, ◌≤◌, ◌⊎◌, ⊎_elim, inl, inr, Bool, true, false, not, eqb, if◌then◌else◌, List, [], ◌∷◌, ◌++◌, length, set, get_or, Option, Some, None, refl, sym, ap, subst, ◌∙◌, arith, length-append, length-set, get_or-set_other, get_or-set_same, eqb-true, eq-eqb, bytes_eq, zero, suc, map, ◌&&◌, Result, Ok, Err, OnOk, OnErr}
use Rattle.std.specs.List.{All}
use Rattle.std.proofs.lemmas.Bool.{false≢true}
use Rattle.std.proofs.lemmas.List.{get_or_append_left, set-get_or}
use Rattle.std.proofs.lemmas.List.Elements.{All-weaker, All-push, All-set, All-get_or, All-filter, All-nil, All-cons, All-head, All-tail}
use Rattle.es5_tree.specs.Values.{Text, Val, Undefined, Null, Truth, Num, Str, Obj}
use Rattle.es5_tree.specs.Objects.Cells.{Cell, Object, new_cell, put, delete, without_property, with_property, with_length, with_value, elements_below, stays_below, is_array, is_array_length, whole, CanPut}
use Rattle.es5_tree.specs.Objects.Names.{index_of, decimal, is_length, length_name}
use Rattle.es5_tree.specs.Objects.Links.{cell_at, with_link, Within, LinksWithin}
use Rattle.es5_tree.specs.Intrinsics.Valid.{Names, NamesIf, NamesIn, Valid}
use Rattle.es5_tree.specs.Intrinsics.Rows.{with_element}
use Rattle.es5_objects.specs.declared.value.EsValue.{EsValue}
use Rattle.es5_objects.specs.Values.{value_of, value_if}
use Rattle.es5_objects.specs.Heap.{Heap, with_cell}
use Rattle.std.specs.Int.Digits.{digits_of, AllBelowBase}
use Rattle.std.proofs.lemmas.Int.Digits.{all_below_base_digits_of}
use Rattle.std.proofs.lemmas.Slice.Eq.{bytes_eq-Decides}
use Rattle.es5_tree.proofs.ObjectLinks.{links_push, links_set}

pub named_longer : (n m : ℕ) → n ≤ m → (v : Val) → Names n v → Names m v
named_longer n m le Undefined h = tt
named_longer n m le Null h = tt
named_longer n m le (Truth b) h = tt
named_longer n m le (Num z) h = tt
named_longer n m le (Str s) h = tt
named_longer n m le (Obj o) h = omega arith

pub all_named_longer : (n m : ℕ) → n ≤ m → (vs : List Val) → All (Names n) vs → All (Names m) vs
all_named_longer n m le vs = All-weaker (Names n) (Names m) (named_longer n m le) vs

names_longer : (n m : ℕ) → n ≤ m → (c : Cell) → NamesIn n c → NamesIn m c
names_longer n m le c = All-weaker (λ p. Names n p.1) (λ p. Names m p.1) (λ p. named_longer n m le p.1) c.properties

before : (cells : List Cell) (c : Cell) (o : ℕ) → o < length cells → cell_at (cells ++ c ∷ []) o ≡ cell_at cells o
unfolding cell_at
before cells c o lt = get_or_append_left cells (c ∷ []) (new_cell Object None) o lt

-- one more object, whose values may name it too
pub valid_push_new : (cells : List Cell) (c : Cell) → Within cells c.link → NamesIn (length cells + 1) c → Valid cells → Valid (cells ++ c ∷ [])
valid_push_new cells c w n v =
    let le : length cells ≤ length (cells ++ c ∷ []) = omega (arith, length-append cells (c ∷ [])) in
    let all : length cells + 1 ≤ length (cells ++ c ∷ []) = omega (arith, length-append cells (c ∷ [])) in
    record {
      enough = omega (arith, v.enough);
      intrinsic = λ o lt. ap (λ x. x.kind) (before cells c o (omega (arith, v.enough))) ∙ v.intrinsic o lt;
      links = links_push cells c w v.links;
      values = All-push (NamesIn (length (cells ++ c ∷ []))) cells c (All-weaker (NamesIn (length cells)) (NamesIn (length (cells ++ c ∷ []))) (names_longer _ _ le) cells v.values) (names_longer _ _ all c n);
    }

-- one more object
pub valid_push : (cells : List Cell) (c : Cell) → Within cells c.link → NamesIn (length cells) c → Valid cells → Valid (cells ++ c ∷ [])
valid_push cells c w n v = valid_push_new cells c w (names_longer _ _ (omega arith) c n) v

true_or_false : (a : Bool) → (a ≡ true) ⊎ (a ≡ false)
true_or_false true = inl refl
true_or_false false = inr refl

differs : (o q : ℕ) → eqb o q ≡ false → q ≢ o
differs o q e same = false≢true (sym e ∙ eq-eqb o q (sym same))

kind_kept : (cells : List Cell) (o : ℕ) (c : Cell) → o < length cells → c.kind ≡ (cell_at cells o).kind → (q : ℕ) → (cell_at (set cells o c) q).kind ≡ (cell_at cells q).kind
unfolding cell_at
kind_kept cells o c lt e q =
    ⊎_elim
    (λ same. ap (λ x. x.kind) (ap (λ p. get_or (set cells o c) p (new_cell Object None)) (sym (eqb-true o q same)) ∙ get_or-set_same cells o c (new_cell Object None) lt) ∙ (e ∙ ap (λ p. (get_or cells p (new_cell Object None)).kind) (eqb-true o q same)))
    (λ other. ap (λ x. x.kind) (get_or-set_other cells o q c (new_cell Object None) (differs o q other)))
    (true_or_false (eqb o q))

-- an object is changed, but not its kind
pub valid_set : (cells : List Cell) (o : ℕ) (c : Cell) → o < length cells → c.kind ≡ (cell_at cells o).kind → Within cells c.link → NamesIn (length cells) c → Valid cells → Valid (set cells o c)
valid_set cells o c lt e w n v =
    let same : length (set cells o c) ≡ length cells = length-set cells o c in
    record {
      enough = omega (arith, v.enough);
      intrinsic = λ q below. kind_kept cells o c lt e q ∙ v.intrinsic q below;
      links = links_set cells o c lt w v.links;
      values = subst (λ m. All (NamesIn m) (set cells o c)) (sym same) (All-set (NamesIn (length cells)) cells o c n v.values);
    }

pub names_at : (cells : List Cell) (o : ℕ) → o < length cells → Valid cells → NamesIn (length cells) (cell_at cells o)
unfolding cell_at
names_at cells o lt v = All-get_or (NamesIn (length cells)) cells o (new_cell Object None) lt v.values

-- ---- writing a property

names_with : (b : Bool) (P : Text × Val → Type 0) (p q : Text × Val) (ps qs : List (Text × Val)) → P p → P q → All P ps → All P qs → All P (if b then p ∷ ps else q ∷ qs)
names_with true P p q ps qs hp hq hs ks = All-cons P p ps hp hs
names_with false P p q ps qs hp hq hs ks = All-cons P q qs hq ks

named_property : (n : ℕ) (ps : List (Text × Val)) (name : Text) (v : Val) → Names n v → All (λ p. Names n p.1) ps → All (λ p. Names n p.1) (with_property ps name v)
unfolding with_property
named_property n [] name v h a = All-cons (λ p. Names n p.1) (name, v) [] h (All-nil (λ p. Names n p.1))
named_property n (p ∷ ps) name v h a =
    names_with (bytes_eq p.0 name) (λ q. Names n q.1) (p.0, v) p ps (with_property ps name v) h (All-head (λ q. Names n q.1) p ps a) (All-tail (λ q. Names n q.1) p ps a)
    (named_property n ps name v h (All-tail (λ q. Names n q.1) p ps a))

named_choice : (b : Bool) (n : ℕ) (c d : Cell) → NamesIn n c → NamesIn n d → NamesIn n (if b then c else d)
named_choice true n c d h k = h
named_choice false n c d h k = k

pub names_put : (n : ℕ) (c : Cell) (name : Text) (v : Val) → Names n v → NamesIn n c → NamesIn n (put c name v)
unfolding put with_length with_value elements_below
names_put n c name v h a =
    named_choice (is_array_length c name) n (with_length c (whole v)) (with_value c name v)
    (All-filter (λ p. stays_below (whole v) (index_of p.0)) (λ p. Names n p.1) c.properties a)
    (named_property n c.properties name v h a)

choose : {A : Type 0} (b : Bool) (c d : Cell) (f : Cell → A) (x : A) → f c ≡ x → f d ≡ x → f (if b then c else d) ≡ x
choose true c d f x h k = h
choose false c d f x h k = k

pub put_kind : (c : Cell) (name : Text) (v : Val) → (put c name v).kind ≡ c.kind
unfolding put with_length with_value
put_kind c name v = choose (is_array_length c name) (with_length c (whole v)) (with_value c name v) (λ x. x.kind) c.kind refl refl

put_link : (c : Cell) (name : Text) (v : Val) → (put c name v).link ≡ c.link
unfolding put with_length with_value
put_link c name v = choose (is_array_length c name) (with_length c (whole v)) (with_value c name v) (λ x. x.link) c.link refl refl

link_at_within : (cells : List Cell) (o : ℕ) → Valid cells → Within cells (cell_at cells o).link
unfolding LinksWithin
link_at_within cells o v = v.links o

-- an object after a write
pub valid_put : (cells : List Cell) (o : ℕ) (name : Text) (v : Val) → o < length cells → Names (length cells) v → Valid cells → Valid (set cells o (put (cell_at cells o) name v))
valid_put cells o name v lt h valid =
    valid_set cells o (put (cell_at cells o) name v) lt (put_kind (cell_at cells o) name v)
    (subst (Within cells) (sym (put_link (cell_at cells o) name v)) (link_at_within cells o valid))
    (names_put (length cells) (cell_at cells o) name v h (names_at cells o lt valid))
    valid

-- an object after a deletion
pub valid_delete : (cells : List Cell) (o : ℕ) (name : Text) → o < length cells → Valid cells → Valid (set cells o (delete (cell_at cells o) name))
unfolding delete without_property
valid_delete cells o name lt valid =
    valid_set cells o (delete (cell_at cells o) name) lt refl (link_at_within cells o valid)
    (All-filter (λ p. not (bytes_eq p.0 name)) (λ p. Names (length cells) p.1) (cell_at cells o).properties (names_at cells o lt valid))
    valid

-- an object with another link
pub valid_link : (cells : List Cell) (o : ℕ) (link : Option ℕ) → o < length cells → Within cells link → Valid cells → Valid (set cells o (with_link (cell_at cells o) link))
valid_link cells o link lt w valid = valid_set cells o (with_link (cell_at cells o) link) lt refl w (names_at cells o lt valid) valid

-- a write that may find no memory
pub valid_written : {T E : Type 0} (r : Result T E) (h new : Heap) (o : ℕ) (name : Text) (v : Val) → OnOk r (new ≡ with_cell h o (put (cell_at h.cells o) name v)) → OnErr r (new ≡ h) → o < length h.cells → Names (length h.cells) v → Valid h.cells → Valid new.cells
valid_written (Ok x) h new o name v ok err lt n valid = subst (λ k. Valid k.cells) (sym ok) (valid_put h.cells o name v lt n valid)
valid_written (Err x) h new o name v ok err lt n valid = subst (λ k. Valid k.cells) (sym err) valid

pub item_named : (n : ℕ) (item : Option EsValue) (v w : EsValue) → item ≡ Some v → w ≡ v → NamesIf n (value_if item) → Names n (value_of w)
item_named n item v w e same h = subst (λ x. Names n (value_of x)) (sym same) (subst (λ i. NamesIf n (value_if i)) e h)

-- writing an object as it is
pub unchanged : (h : Heap) (o : ℕ) → h ≡ with_cell h o (cell_at h.cells o)
unfolding cell_at
unchanged h o = ap (λ cells. record { cells = cells; capacity = h.capacity }) (sym (set-get_or h.cells o (new_cell Object None)))

pub left_alone : (h : Heap) (o i : ℕ) (item : Option EsValue) → item ≡ None → h ≡ with_cell h o (with_element (cell_at h.cells o) i (value_if item))
left_alone h o i item e = unchanged h o ∙ ap (λ x. with_cell h o (with_element (cell_at h.cells o) i (value_if x))) (sym e)

-- ---- indices aren't `length`

no_digits : (ds : List ℕ) → AllBelowBase 10 ds → map (λ d. 48 + d) ds ≡ length_name → ⊥
no_digits [] h e = cc
no_digits (d ∷ ds) h e =
    let first : 48 + d ≡ 108 = ap (λ units. get_or units 0 0) e in
    omega (arith, h.0)

no_decimal : (i : ℕ) → decimal i ≡ length_name → ⊥
unfolding decimal
no_decimal zero e = cc
no_decimal (suc n) e = no_digits (digits_of 10 (suc n)) (all_below_base_digits_of 10 (suc n) (omega arith)) e

both : (a b : Bool) → (a && b) ≡ true → b ≡ true
both true b e = e
both false b e = cc

pub index_can_put : (c : Cell) (i : ℕ) (name : Text) (v : Val) → name ≡ decimal i → CanPut c name v
index_can_put c i name v e is = absurd (no_decimal i (sym e ∙ (bytes_eq-Decides name length_name).0 (both (is_array c.kind) (is_length name) is)))

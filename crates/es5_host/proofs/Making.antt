-- Objects that get their properties one after the other.
use Rattle.std.proofs.Common.{◌≡◌, ℕ, ◌+◌, ◌<◌, ◌≤◌, List, [], ◌∷◌, ◌++◌, length, map, drop, set, get_or, refl, sym, ap, ◌∙◌, Some, arith, drop_of_length-le, append_assoc, Result, Ok, Err, OnOk}
use Rattle.std.specs.List.{range_with_len}
use Rattle.std.proofs.lemmas.List.FromFn.{map-range_with_len_more}
use Rattle.std.proofs.lemmas.List.{get_or_default}
use Rattle.std.proofs.Math.Seq.{set-append_seam}
use Rattle.es5_tree.specs.Values.{Text, Val}
use Rattle.es5_tree.specs.Objects.Cells.{Cell, Object, Host, new_cell, put}
use Rattle.es5_tree.specs.Objects.Links.{cell_at}
use Rattle.es5_tree.specs.Intrinsics.Made.{prototypes, constructors, host, functions}
use Rattle.es5_tree.specs.Intrinsics.Made as made
use Rattle.es5_objects.specs.Heap.{Heap, with_cell}
use Rattle.es5_host.specs.Answers.{with_new}
use Rattle.es5_host.specs.Making.{holding, with_more}
use Rattle.es5_host.proofs.Elements.{at_step, put_in, seam}
use Rattle.es5_host.proofs.Validity.{put_kind}

given_one : (c : Cell) (p : Text × Val) (ps : List (Text × Val)) → holding (put c p.0 p.1) ps ≡ holding c (p ∷ ps)
unfolding holding
given_one c p ps = refl

given_none : (c : Cell) → holding c [] ≡ c
unfolding holding
given_none c = refl

pub given_more : {A : Type 0} (f : A → Text × Val) (h k : Heap) (o i : ℕ) (xs : List A) (x : A) (all : Cell)
    → holding (cell_at h.cells o) (map f (drop i xs)) ≡ all
    → k ≡ with_cell h o (put (cell_at h.cells o) (f x).0 (f x).1)
    → o < length h.cells → i < length xs → x ≡ get_or xs i x
    → holding (cell_at k.cells o) (map f (drop (i + 1) xs)) ≡ all
given_more f h k o i xs x all left e lt in' at =
    ap (λ c. holding c (map f (drop (i + 1) xs))) (put_in h k o (put (cell_at h.cells o) (f x).0 (f x).1) e lt)
    ∙ (given_one (cell_at h.cells o) (f x) (map f (drop (i + 1) xs))
    ∙ (ap (λ ys. holding (cell_at h.cells o) (map f ys)) (sym (at_step xs i x in' at)) ∙ left))

pub given_at : {A : Type 0} (f : A → Text × Val) (h k : Heap) (o i : ℕ) (xs : List A) (d : A) (all : Cell)
    → holding (cell_at h.cells o) (map f (drop i xs)) ≡ all
    → k ≡ with_cell h o (put (cell_at h.cells o) (f (get_or xs i d)).0 (f (get_or xs i d)).1)
    → o < length h.cells → i < length xs
    → holding (cell_at k.cells o) (map f (drop (i + 1) xs)) ≡ all
given_at f h k o i xs d all left e lt in' = given_more f h k o i xs (get_or xs i d) all left e lt in' (get_or_default xs i d (get_or xs i d) in')

pub given_all : {A : Type 0} (f : A → Text × Val) (h0 h : Heap) (o i : ℕ) (xs : List A) (all : Cell)
    → holding (cell_at h.cells o) (map f (drop i xs)) ≡ all
    → h ≡ with_cell h0 o (cell_at h.cells o) → length xs ≤ i → h ≡ with_cell h0 o all
given_all f h0 h o i xs all left e le =
    e ∙ ap (with_cell h0 o) (sym (given_none (cell_at h.cells o)) ∙ (ap (λ ys. holding (cell_at h.cells o) (map f ys)) (sym (drop_of_length-le xs le)) ∙ left))

pub stays_plain : (h k : Heap) (o : ℕ) (name : Text) (v : Val) → k ≡ with_cell h o (put (cell_at h.cells o) name v) → o < length h.cells → (cell_at h.cells o).kind ≡ Object → (cell_at k.cells o).kind ≡ Object
stays_plain h k o name v e lt plain =
    ap (λ c. c.kind) (put_in h k o (put (cell_at h.cells o) name v) e lt) ∙ (put_kind (cell_at h.cells o) name v ∙ plain)

-- an object that was just made
pub made_here : (old h : Heap) (o : ℕ) (c : Cell) → h.cells ≡ old.cells ++ c ∷ [] → o ≡ length old.cells → cell_at h.cells o ≡ c
made_here old h o c cells number = ap (λ x. cell_at x o) cells ∙ (ap (cell_at (old.cells ++ c ∷ [])) number ∙ seam old.cells c c)

pub made_whole : (old h new : Heap) (o : ℕ) (c : Cell) (f : Cell → Cell) → h.cells ≡ old.cells ++ c ∷ [] → h.capacity ≡ old.capacity → o ≡ length old.cells
    → new ≡ with_cell h o (f (cell_at h.cells o)) → new ≡ with_new old (f c)
made_whole old h new o c f cells cap number e =
    let changed : set h.cells o (f c) ≡ old.cells ++ f c ∷ [] = ap (λ x. set x o (f c)) cells ∙ (ap (λ n. set (old.cells ++ c ∷ []) n (f c)) number ∙ set-append_seam old.cells c [] (f c)) in
    e ∙ (ap (λ x. with_cell h o (f x)) (made_here old h o c cells number) ∙ (ap (λ x. record { cells = x; capacity = h.capacity }) changed ∙ ap (λ n. record { cells = old.cells ++ f c ∷ []; capacity = n }) cap))

-- one object more
pub next : (h k m : Heap) (cs : List Cell) (c : Cell) → k ≡ with_more h cs → m ≡ with_new k c → m ≡ with_more h (cs ++ c ∷ [])
next h k m cs c e f = f ∙ (ap (λ x. with_new x c) e ∙ ap (λ cells. record { cells = cells; capacity = h.capacity }) (append_assoc h.cells cs (c ∷ [])))

pub on_ok : {T E : Type 0} (r : Result T E) (P Q : Type 0) → (P → Q) → OnOk r P → OnOk r Q
on_ok (Ok x) P Q f h = f h
on_ok (Err e) P Q f h = tt

-- ---- the functions, and all together

abbrev pub function_cell : ℕ → Cell
function_cell n = new_cell (Host n) (Some 1)

pub next_function : (h k m : Heap) (i : ℕ) → k ≡ with_more h (map function_cell (range_with_len 0 i)) → m ≡ with_new k (function_cell i) → m ≡ with_more h (map function_cell (range_with_len 0 (i + 1)))
next_function h k m i e f =
    next h k m (map function_cell (range_with_len 0 i)) (function_cell i) e f
    ∙ ap (with_more h) (sym (map-range_with_len_more function_cell 0 i i (omega arith)))

pub all_functions : (h k : Heap) (i : ℕ) → i ≡ 16 → k ≡ with_more h (map function_cell (range_with_len 0 i)) → k ≡ with_more h functions
all_functions h k i e made = made ∙ ap (λ n. with_more h (map function_cell (range_with_len 0 n))) e

all_cells : ((prototypes ++ constructors) ++ (host ∷ [])) ++ functions ≡ made.cells
unfolding made.cells
all_cells = refl

pub whole : {T E : Type 0} (r : Result T E) (h a b c d : Heap) → h.cells ≡ [] → a ≡ with_more h prototypes → b ≡ with_more a constructors → c ≡ with_more b (host ∷ []) → d ≡ with_more c functions → OnOk r (d.cells ≡ made.cells)
whole (Err x) h a b c d none e1 e2 e3 e4 = tt
whole (Ok x) h a b c d none e1 e2 e3 e4 =
    let f1 : a.cells ≡ prototypes = ap (λ k. k.cells) e1 ∙ ap (λ cells. cells ++ prototypes) none in
    let f2 : b.cells ≡ prototypes ++ constructors = ap (λ k. k.cells) e2 ∙ ap (λ cells. cells ++ constructors) f1 in
    let f3 : c.cells ≡ (prototypes ++ constructors) ++ (host ∷ []) = ap (λ k. k.cells) e3 ∙ ap (λ cells. cells ++ (host ∷ [])) f2 in
    ap (λ k. k.cells) e4 ∙ (ap (λ cells. cells ++ functions) f3 ∙ all_cells)

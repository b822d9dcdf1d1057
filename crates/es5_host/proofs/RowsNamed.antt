-- The values of rows name objects that are there, and so do those of answers.
use Rattle.std.proofs.Common.{◌≡◌, ℕ, ◌+◌, ◌-◌, ◌<◌, Bool, true, false, if◌then◌else◌, ◌&&◌, nat_le, nat_lt, List, [], ◌∷◌, ◌++◌, length, map, drop, Option, Some, None, refl, sym, subst, ap, arith, pos, length-append, length-set}
use Rattle.std.specs.Bool.{⊤}
use Rattle.std.specs.Prelude.{slice_index, slice_range}
use Rattle.std.specs.List.{All}
use Rattle.std.proofs.lemmas.List.Elements.{All-nil, All-head, All-tail, All-map}
use Rattle.es5_tree.specs.Values.{Text, Val, Undefined, Null, Truth, Num, Str, Obj}
use Rattle.es5_tree.specs.Objects.Names.{decimal, index_end}
use Rattle.es5_tree.specs.Objects.Cells.{Cell, put}
use Rattle.es5_tree.specs.Objects.Links.{cell_at, link_at, in_chain, Within, LinksWithin}
use Rattle.es5_tree.specs.Intrinsics.Calls.{HostFn, Create, GetPrototypeOf, SetPrototypeOf, Keys, HasOwnProperty, Call, Apply, IsArray, Push, Slice, CharCodeAt, Substring, IndexOf, FromCharCode, Write, Line}
use Rattle.es5_tree.specs.Intrinsics.Lines.{Reading, line_value, line_of, rest}
use Rattle.es5_tree.specs.Intrinsics.Rows.{Row, Gives, Sets, Makes, Throws, Invokes, Leaves, Writes, Reads, covered, or_type_error, where_true, one_of, two_of, natural_of, text_of, object_of, link_of, link_value, linked, callee_of, is_passed_on, passed_on, or_undefined, elements, listed_length, array_at, array_of, first_place, place_value, row}
use Rattle.es5_tree.specs.Intrinsics.Valid.{Names, NamesIf, Valid}
use Rattle.es5_objects.specs.Heap.{Heap}
use Rattle.es5_objects.specs.Values.{value_of}
use Rattle.es5_host.specs.declared.answer.HostAnswer.{HostAnswer}
use Rattle.es5_host.specs.declared.answer.HostAnswer.TheVariants.{Value, Throw, Invoke, Outside, CellsFull, WriteFault, NoMemory}
use Rattle.es5_host.specs.Answers.{Answered, Gave, NamesInAnswer}
use Rattle.es5_host.proofs.Rows.{object_named}
use Rattle.es5_host.proofs.Named.{elements_named}

-- the values of a row name objects below n
abbrev pub RowNames : ℕ → Row → Type 0
RowNames n (Gives v) = Names n v
RowNames n (Sets v o c) = Names n v
RowNames n (Makes c) = ⊤
RowNames n (Throws message) = ⊤
RowNames n (Invokes f this args) = (f < n) × Names n this × All (Names n) args
RowNames n (Leaves kind) = ⊤
RowNames n (Writes s) = ⊤
RowNames n (Reads v k) = Names n v

same_length : (h k : Heap) (v : Val) → k ≡ h → Names (length h.cells) v → Names (length k.cells) v
same_length h k v e n = subst (λ x. Names (length x.cells) v) (sym e) n

gave_named : (r : Row) (v : Val) (h k : Heap) → RowNames (length h.cells) r → Gave r v h k → Names (length k.cells) v
gave_named (Gives u) v h k n w = subst (Names (length k.cells)) (sym w.0) (same_length h k u w.1 n)
gave_named (Sets u o c) v h k n w =
    subst (Names (length k.cells)) (sym w.0) (subst (λ x. Names (length x.cells) u) (sym w.1) (subst (λ m. Names m u) (sym (length-set h.cells o c)) n))
gave_named (Makes c) v h k n w =
    let lt : length h.cells < length (h.cells ++ c ∷ []) = omega (arith, length-append h.cells (c ∷ [])) in
    subst (Names (length k.cells)) (sym w.0) (subst (λ x. length h.cells < length x.cells) (sym w.2) lt)
gave_named (Throws message) v h k n w = absurd w
gave_named (Invokes f this args) v h k n w = absurd w
gave_named (Leaves kind) v h k n w = absurd w
gave_named (Writes s) v h k n w = subst (Names (length k.cells)) (sym w.0) tt
gave_named (Reads u m) v h k n w = subst (Names (length k.cells)) (sym w.0) (same_length h k u w.1 n)

pub answer_named : (r : Row) (a : HostAnswer) (h k : Heap) → RowNames (length h.cells) r → Answered r a h k → NamesInAnswer (length k.cells) a
answer_named r (Value v) h k n w = gave_named r (value_of v) h k n w
answer_named r (Throw name message) h k n w = tt
answer_named r (Invoke f this args) h k n w =
    let named : RowNames (length h.cells) (Invokes f (value_of this) args) = subst (RowNames (length h.cells)) w.0 n in
    subst (λ x. (f < length x.cells) × Names (length x.cells) (value_of this) × All (Names (length x.cells)) args) (sym w.1) named
answer_named r (Outside kind) h k n w = tt
answer_named r CellsFull h k n w = tt
answer_named r WriteFault h k n w = tt
answer_named r NoMemory h k n w = tt

-- ---- the parts of rows

covers : {A : Type 0} (n : ℕ) (o : Option A) (f : A → Row) → ((a : A) → o ≡ Some a → RowNames n (f a)) → RowNames n (covered o f)
covers n None f h = tt
covers n (Some a) f h = h a refl

errs : {A : Type 0} (n : ℕ) (o : Option A) (f : A → Row) → ((a : A) → o ≡ Some a → RowNames n (f a)) → RowNames n (or_type_error o f)
errs n None f h = tt
errs n (Some a) f h = h a refl

where_names : (n : ℕ) (b : Bool) (r : Row) → RowNames n r → RowNames n (where_true b r)
where_names n true r h = h
where_names n false r h = tt

one_named : (n : ℕ) (args : List Val) (v : Val) → All (Names n) args → one_of args ≡ Some v → Names n v
one_named n [] v h e = cc
one_named n (u ∷ []) v h e = let k : u ≡ v = cc in subst (Names n) k (All-head (Names n) u [] h)
one_named n (u ∷ w ∷ us) v h e = cc

two_named : (n : ℕ) (args : List Val) (vs : Val × Val) → All (Names n) args → two_of args ≡ Some vs → Names n vs.0 × Names n vs.1
two_named n [] vs h e = cc
two_named n (u ∷ []) vs h e = cc
two_named n (u ∷ w ∷ []) vs h e =
    let k : (u, w) ≡ vs = cc in
    (subst (Names n) (ap (λ p. p.0) k) (All-head (Names n) u (w ∷ []) h), subst (Names n) (ap (λ p. p.1) k) (All-head (Names n) w [] (All-tail (Names n) u (w ∷ []) h)))
two_named n (u ∷ w ∷ x ∷ us) vs h e = cc

link_value_named : (cells : List Cell) (l : Option ℕ) → Within cells l → Names (length cells) (link_value l)
link_value_named cells None w = tt
link_value_named cells (Some o) w = w

link_within : (cells : List Cell) (o : ℕ) → Valid cells → Within cells (link_at cells o)
unfolding LinksWithin
link_within cells o v = v.links o

linked_named : (b : Bool) (cells : List Cell) (o : ℕ) (l : Option ℕ) → o < length cells → RowNames (length cells) (linked b cells o l)
linked_named true cells o l lt = tt
linked_named false cells o l lt = lt

picked : (b : Bool) (o f n : ℕ) → (if b then Some o else None) ≡ Some f → o < n → f < n
picked true o f n e lt = let k : o ≡ f = cc in subst (λ x. x < n) k lt
picked false o f n e lt = cc

callee_named : (cells : List Cell) (this : Val) (f : ℕ) → callee_of cells this ≡ Some f → Names (length cells) this → f < length cells
callee_named cells Undefined f e h = cc
callee_named cells Null f e h = cc
callee_named cells (Truth b) f e h = cc
callee_named cells (Num z) f e h = cc
callee_named cells (Str s) f e h = cc
callee_named cells (Obj o) f e h = picked (is_passed_on (cell_at cells o).kind) o f (length cells) e h

passed_named : (n f : ℕ) (args : List Val) → f < n → All (Names n) args → RowNames n (passed_on f args)
passed_named n f [] lt h = (lt, tt, All-nil (Names n))
passed_named n f (this ∷ args) lt h = (lt, All-head (Names n) this args h, All-tail (Names n) this args h)

undefined_named : (n : ℕ) (v : Option Val) → NamesIf n v → Names n (or_undefined v)
undefined_named n None h = tt
undefined_named n (Some v) h = h

args_named : (cells : List Cell) (o k : ℕ) → Valid cells → All (Names (length cells)) (map or_undefined (elements cells o 0 k))
args_named cells o k v = All-map (Names (length cells)) or_undefined (elements cells o 0 k) (λ i d lt. undefined_named (length cells) _ (elements_named cells o 0 k v i d lt))

place_named : (n : ℕ) (p : Option ℕ) → Names n (place_value p)
place_named n None = tt
place_named n (Some k) = tt

line_named : (n : ℕ) (s : Text) → Names n (line_value s)
line_named n [] = tt
line_named n (u ∷ us) = tt

-- ---- the rows

pub rows_named : (which : HostFn) (cells : List Cell) (lines : Reading) (this : Val) (args : List Val) → Valid cells → Names (length cells) this → All (Names (length cells)) args → RowNames (length cells) (row which cells lines this args)
rows_named Create cells lines this args v t h = covers _ (one_of args) _ (λ p e. errs _ (link_of p) _ (λ l f. tt))
rows_named GetPrototypeOf cells lines this args v t h = covers _ (one_of args) _ (λ p e. errs _ (object_of p) _ (λ o f. link_value_named cells (link_at cells o) (link_within cells o v)))
rows_named SetPrototypeOf cells lines this args v t h = covers _ (two_of args) _ (λ vs e. errs _ (object_of vs.0) _ (λ o f. errs _ (link_of vs.1) _ (λ l k. linked_named (in_chain cells o l) cells o l (object_named _ vs.0 o (sym f) (two_named _ args vs h e).0))))
rows_named Keys cells lines this args v t h = covers _ (one_of args) _ (λ p e. covers _ (object_of p) _ (λ o f. tt))
rows_named HasOwnProperty cells lines this args v t h = covers _ (one_of args) _ (λ p e. covers _ (object_of this) _ (λ o f. covers _ (text_of p) _ (λ s k. tt)))
rows_named Call cells lines this args v t h = covers _ (callee_of cells this) _ (λ f e. passed_named _ f args (callee_named cells this f e t) h)
rows_named Apply cells lines this args v t h = covers _ (two_of args) _ (λ vs e. covers _ (callee_of cells this) _ (λ f k. covers _ (object_of vs.1) _ (λ o p. covers _ (listed_length (cell_at cells o)) _ (λ n q. (callee_named cells this f k t, (two_named _ args vs h e).0, args_named cells o n v)))))
rows_named IsArray cells lines this args v t h = covers _ (one_of args) _ (λ p e. tt)
rows_named Push cells lines this args v t h = covers _ (one_of args) _ (λ p e. covers _ (array_at cells this) _ (λ o f. covers _ (listed_length (cell_at cells o)) _ (λ n k. where_names _ (nat_lt n index_end) (Sets (Num (pos (n + 1))) o (put (cell_at cells o) (decimal n) p)) tt)))
rows_named Slice cells lines this args v t h = covers _ (two_of args) _ (λ vs e. covers _ (array_at cells this) _ (λ o f. covers _ (listed_length (cell_at cells o)) _ (λ n k. covers _ (natural_of vs.0) _ (λ i p. covers _ (natural_of vs.1) _ (λ j q. where_names _ (nat_le i j && nat_le j n) (Makes (array_of (elements cells o i (j - i)))) tt)))))
rows_named CharCodeAt cells lines this args v t h = covers _ (one_of args) _ (λ p e. covers _ (text_of this) _ (λ s f. covers _ (natural_of p) _ (λ i k. where_names _ (nat_lt i (length s)) (Gives (Num (pos (slice_index s i)))) tt)))
rows_named Substring cells lines this args v t h = covers _ (two_of args) _ (λ vs e. covers _ (text_of this) _ (λ s f. covers _ (natural_of vs.0) _ (λ i p. covers _ (natural_of vs.1) _ (λ j q. where_names _ (nat_le i j && nat_le j (length s)) (Gives (Str (slice_range s i j))) tt))))
rows_named IndexOf cells lines this args v t h = covers _ (two_of args) _ (λ vs e. covers _ (text_of this) _ (λ s f. covers _ (text_of vs.0) _ (λ part p. covers _ (natural_of vs.1) _ (λ i q. where_names _ (nat_le i (length s)) (Gives (place_value (first_place part i (drop i s)))) (place_named _ (first_place part i (drop i s)))))))
rows_named FromCharCode cells lines this args v t h = covers _ (one_of args) _ (λ p e. covers _ (natural_of p) _ (λ i f. where_names _ (nat_le i 65535) (Gives (Str (i ∷ []))) tt))
rows_named Write cells lines this args v t h = covers _ (one_of args) _ (λ p e. covers _ (text_of p) _ (λ s f. tt))
rows_named Line cells lines this [] v t h = line_named _ (line_of (rest lines))
rows_named Line cells lines this (u ∷ us) v t h = tt

-- One rule for each row of the intrinsic functions that the runtime calls.
use Rattle.std.proofs.Common.{◌≡◌, ℕ, ◌+◌, ◌-◌, true, false, ◌&&◌, if◌then◌else◌, List, [], ◌∷◌, ◌++◌, length, map, drop, Option, Some, None, is_some, nat_le, nat_lt, pos, slice_index, slice_range, codes, refl, ap, ◌∙◌, arith, ltb-true, le-leb}
use Rattle.opal_base.specs.declared.place.Pos.{Pos}
use Rattle.es5_tree.specs.Values.{Text, Val, Undefined, Truth, Num, Str, Obj}
use Rattle.es5_tree.specs.Objects.Names.{decimal, index_end, is_length, length_name}
use Rattle.es5_tree.specs.Objects.Cells.{Object, Array, Function, has_length, is_array, keys, new_cell, own, put}
use Rattle.es5_tree.specs.Objects.Links.{cell_at, link_at, in_chain, with_link}
use Rattle.es5_tree.specs.Intrinsics.Calls as host
use Rattle.es5_tree.specs.Intrinsics.Rows.{Gives, Sets, Makes, Invokes, array_of, covered, elements, first_place, is_passed_on, length_of, link_of, link_value, linked, listed_length, or_type_error, or_undefined, passed_on, place_value, where_true}
use Rattle.es5_evaluation.specs.State.{State}
use Rattle.es5_tree.specs.Intrinsics.Lines.{rest, line_of, line_value}
use Rattle.es5_evaluation.specs.Task.{Normal, Throw, has_read, printed}
use Rattle.es5_evaluation.specs.Evaluate.{error_object, invoke}
use Rattle.es5_executor.specs.Runs.{End, Gave, Takes, TakesSeen}
use Rattle.es5_executor.specs.Memory.{IsHost, has, relink, write}
use Rattle.es5_executor.proofs.Memory
use Rattle.es5_executor.proofs.Calls.{host_gives, host_invokes, host_makes, host_reads, host_sets, host_throws, host_writes}

-- ---- Object

pub creates : (p : Pos) (f : ℕ) (this v : Val) (l : Option ℕ) (s : State) → IsHost s.heap f 0 → link_of v ≡ Some l → Takes (invoke p (Obj f) this (v ∷ [])) s 0 (Gave (Normal (Obj (length s.heap)))) (record s { heap = s.heap ++ new_cell Object l ∷ [] })
creates p f this v l s i e = host_makes p f 0 host.Create this (v ∷ []) (new_cell Object l) s i refl (ap (λ z. or_type_error z (λ link. Makes (new_cell Object link))) e)

pub gives_link : (p : Pos) (f o : ℕ) (this : Val) (s : State) → IsHost s.heap f 1 → Takes (invoke p (Obj f) this (Obj o ∷ [])) s 0 (Gave (Normal (link_value (link_at s.heap o)))) s
gives_link p f o this s i = host_gives p f 1 host.GetPrototypeOf this (Obj o ∷ []) (link_value (link_at s.heap o)) s i refl refl

pub sets_link : (p : Pos) (f o : ℕ) (this v : Val) (l : Option ℕ) (s : State) → IsHost s.heap f 2 → link_of v ≡ Some l → in_chain s.heap o l ≡ false → Takes (invoke p (Obj f) this (Obj o ∷ v ∷ [])) s 0 (Gave (Normal (Obj o))) (record s { heap = relink s.heap o l })
unfolding relink
sets_link p f o this v l s i e c = host_sets p f 2 host.SetPrototypeOf this (Obj o) (Obj o ∷ v ∷ []) o (with_link (cell_at s.heap o) l) s i refl
    (ap (λ z. or_type_error z (λ link. linked (in_chain s.heap o link) s.heap o link)) e ∙ ap (λ b. linked b s.heap o l) c)

-- a link that would make a cycle
pub refuses_cycle : (p : Pos) (f o : ℕ) (this v : Val) (l : Option ℕ) (s : State) → IsHost s.heap f 2 → link_of v ≡ Some l → in_chain s.heap o l ≡ true →
    Takes (invoke p (Obj f) this (Obj o ∷ v ∷ [])) s 0 (Gave (Throw (Obj (length s.heap)))) (record s { heap = s.heap ++ error_object (codes "TypeError") (codes "cyclic link") ∷ [] })
refuses_cycle p f o this v l s i e c = host_throws p f 2 host.SetPrototypeOf this (Obj o ∷ v ∷ []) (codes "cyclic link") s i refl
    (ap (λ z. or_type_error z (λ link. linked (in_chain s.heap o link) s.heap o link)) e ∙ ap (λ b. linked b s.heap o l) c)

pub lists_names : (p : Pos) (f o : ℕ) (this : Val) (s : State) → IsHost s.heap f 3 → Takes (invoke p (Obj f) this (Obj o ∷ [])) s 0 (Gave (Normal (Obj (length s.heap)))) (record s { heap = s.heap ++ array_of (map (λ name. Some (Str name)) (keys (cell_at s.heap o))) ∷ [] })
lists_names p f o this s i = host_makes p f 3 host.Keys this (Obj o ∷ []) (array_of (map (λ name. Some (Str name)) (keys (cell_at s.heap o)))) s i refl refl

pub tells_own : (p : Pos) (f o : ℕ) (n : Text) (s : State) → IsHost s.heap f 4 → Takes (invoke p (Obj f) (Obj o) (Str n ∷ [])) s 0 (Gave (Normal (Truth (is_some (has s.heap o n))))) s
tells_own p f o n s i = host_gives p f 4 host.HasOwnProperty (Obj o) (Str n ∷ []) (Truth (is_some (has s.heap o n))) s i refl refl

-- ---- Function: a function of the script is called

pub passes_on : {seen : List State} → (p : Pos) (f g code outer : ℕ) (that : Val) (ws : List Val) (s : State) (m : ℕ) (e : End) (s' : State) → IsHost s.heap f 5 → (cell_at s.heap g).kind ≡ Function code outer →
    TakesSeen (invoke p (Obj g) that ws) s m e s' seen → TakesSeen (invoke p (Obj f) (Obj g) (that ∷ ws)) s m e s' seen
passes_on p f g code outer that ws s m e s' i k a = host_invokes p f 5 host.Call (Obj g) (that ∷ ws) g code outer that ws s m e s' i refl (ap (λ z. covered (if is_passed_on z then Some g else None) (λ h. passed_on h (that ∷ ws))) k) k a

-- with the values of a list
pub applies : {seen : List State} → (p : Pos) (f g code outer l n : ℕ) (that : Val) (s : State) (m : ℕ) (e : End) (s' : State) → IsHost s.heap f 6 → (cell_at s.heap g).kind ≡ Function code outer → has_length (cell_at s.heap l).kind ≡ true → has s.heap l length_name ≡ Some (Num (pos n)) → nat_le n index_end ≡ true →
    TakesSeen (invoke p (Obj g) that (map or_undefined (elements s.heap l 0 n))) s m e s' seen → TakesSeen (invoke p (Obj f) (Obj g) (that ∷ Obj l ∷ [])) s m e s' seen
applies p f g code outer l n that s m e s' i k h len fit a =
    host_invokes p f 6 host.Apply (Obj g) (that ∷ Obj l ∷ []) g code outer that (map or_undefined (elements s.heap l 0 n)) s m e s' i refl
    (ap (λ z. covered (if is_passed_on z then Some g else None) (λ x. covered (listed_length (cell_at s.heap l)) (λ j. Invokes x that (map or_undefined (elements s.heap l 0 j))))) k
    ∙ ap (λ b. covered (if b then length_of (has s.heap l length_name) else None) (λ j. Invokes g that (map or_undefined (elements s.heap l 0 j)))) h
    ∙ ap (λ z. covered (length_of z) (λ j. Invokes g that (map or_undefined (elements s.heap l 0 j)))) len
    ∙ ap (λ b. covered (if b then Some n else None) (λ j. Invokes g that (map or_undefined (elements s.heap l 0 j)))) fit)
    k a

-- ---- Array

pub tells_array : (p : Pos) (f o : ℕ) (this : Val) (s : State) → IsHost s.heap f 7 → Takes (invoke p (Obj f) this (Obj o ∷ [])) s 0 (Gave (Normal (Truth (is_some (if is_array (cell_at s.heap o).kind then Some o else None))))) s
tells_array p f o this s i = host_gives p f 7 host.IsArray this (Obj o ∷ []) (Truth (is_some (if is_array (cell_at s.heap o).kind then Some o else None))) s i refl refl

not_length : (n : ℕ) → is_length (decimal n) ≡ false
not_length n = Memory.decimal_apart n length_name Memory.plain_length

pub pushes : (p : Pos) (f o n : ℕ) (v : Val) (s : State) → IsHost s.heap f 8 → (cell_at s.heap o).kind ≡ Array → has s.heap o length_name ≡ Some (Num (pos n)) → nat_lt n index_end ≡ true →
    Takes (invoke p (Obj f) (Obj o) (v ∷ [])) s 0 (Gave (Normal (Num (pos (n + 1))))) (record s { heap = write s.heap o (decimal n) v })
unfolding write
pushes p f o n v s i k len fit =
    let below = ltb-true n index_end fit in
    let le : nat_le n index_end ≡ true = le-leb n index_end (omega (arith, below)) in
    host_sets p f 8 host.Push (Obj o) (Num (pos (n + 1))) (v ∷ []) o (put (cell_at s.heap o) (decimal n) v) s i refl
    (ap (λ z. covered (if is_array z then Some o else None) (λ x. covered (listed_length (cell_at s.heap x)) (λ j. where_true (nat_lt j index_end) (Sets (Num (pos (j + 1))) x (put (cell_at s.heap x) (decimal j) v))))) k
    ∙ ap (λ z. covered (if has_length z then length_of (has s.heap o length_name) else None) (λ j. where_true (nat_lt j index_end) (Sets (Num (pos (j + 1))) o (put (cell_at s.heap o) (decimal j) v)))) k
    ∙ ap (λ z. covered (length_of z) (λ j. where_true (nat_lt j index_end) (Sets (Num (pos (j + 1))) o (put (cell_at s.heap o) (decimal j) v)))) len
    ∙ ap (λ b. covered (if b then Some n else None) (λ j. where_true (nat_lt j index_end) (Sets (Num (pos (j + 1))) o (put (cell_at s.heap o) (decimal j) v)))) le
    ∙ ap (λ b. where_true b (Sets (Num (pos (n + 1))) o (put (cell_at s.heap o) (decimal n) v))) fit)

pub cuts : (p : Pos) (f o n i j : ℕ) (s : State) → IsHost s.heap f 9 → (cell_at s.heap o).kind ≡ Array → has s.heap o length_name ≡ Some (Num (pos n)) → nat_le n index_end ≡ true → (nat_le i j && nat_le j n) ≡ true →
    Takes (invoke p (Obj f) (Obj o) (Num (pos i) ∷ Num (pos j) ∷ [])) s 0 (Gave (Normal (Obj (length s.heap)))) (record s { heap = s.heap ++ array_of (elements s.heap o i (j - i)) ∷ [] })
cuts p f o n i j s h k len fit order =
    host_makes p f 9 host.Slice (Obj o) (Num (pos i) ∷ Num (pos j) ∷ []) (array_of (elements s.heap o i (j - i))) s h refl
    (ap (λ z. covered (if is_array z then Some o else None) (λ x. covered (listed_length (cell_at s.heap x)) (λ m. where_true (nat_le i j && nat_le j m) (Makes (array_of (elements s.heap x i (j - i))))))) k
    ∙ ap (λ z. covered (if has_length z then length_of (has s.heap o length_name) else None) (λ m. where_true (nat_le i j && nat_le j m) (Makes (array_of (elements s.heap o i (j - i)))))) k
    ∙ ap (λ z. covered (length_of z) (λ m. where_true (nat_le i j && nat_le j m) (Makes (array_of (elements s.heap o i (j - i)))))) len
    ∙ ap (λ b. covered (if b then Some n else None) (λ m. where_true (nat_le i j && nat_le j m) (Makes (array_of (elements s.heap o i (j - i)))))) fit
    ∙ ap (λ b. where_true b (Makes (array_of (elements s.heap o i (j - i))))) order)

-- what a value more at the end leaves: the length, and the value
pub length_pushed : (s : State) (o n : ℕ) (v : Val) → (cell_at s.heap o).kind ≡ Array → has s.heap o length_name ≡ Some (Num (pos n)) → nat_lt n index_end ≡ true → has (write s.heap o (decimal n) v) o length_name ≡ Some (Num (pos (n + 1)))
length_pushed s o n v k len fit =
    ap (λ c. own c length_name) (Memory.write_there s.heap o (decimal n) v (Memory.has_inside s.heap o length_name (Num (pos n)) len))
    ∙ Memory.put_longer (cell_at s.heap o) n v k len (ltb-true n index_end fit)

pub value_pushed : (s : State) (o n : ℕ) (v w : Val) → has s.heap o length_name ≡ Some w → has (write s.heap o (decimal n) v) o (decimal n) ≡ Some v
value_pushed s o n v w len = Memory.has_written s.heap o (decimal n) v (not_length n) (Memory.has_inside s.heap o length_name w len)

-- ---- String

pub gives_unit : (p : Pos) (f i : ℕ) (t : Text) (s : State) → IsHost s.heap f 10 → nat_lt i (length t) ≡ true → Takes (invoke p (Obj f) (Str t) (Num (pos i) ∷ [])) s 0 (Gave (Normal (Num (pos (slice_index t i))))) s
gives_unit p f i t s h e = host_gives p f 10 host.CharCodeAt (Str t) (Num (pos i) ∷ []) (Num (pos (slice_index t i))) s h refl (ap (λ b. where_true b (Gives (Num (pos (slice_index t i))))) e)

pub gives_part : (p : Pos) (f i j : ℕ) (t : Text) (s : State) → IsHost s.heap f 11 → (nat_le i j && nat_le j (length t)) ≡ true → Takes (invoke p (Obj f) (Str t) (Num (pos i) ∷ Num (pos j) ∷ [])) s 0 (Gave (Normal (Str (slice_range t i j)))) s
gives_part p f i j t s h e = host_gives p f 11 host.Substring (Str t) (Num (pos i) ∷ Num (pos j) ∷ []) (Str (slice_range t i j)) s h refl (ap (λ b. where_true b (Gives (Str (slice_range t i j)))) e)

-- a place, or -1 for none
pub gives_place : (p : Pos) (f i : ℕ) (t part : Text) (k : Option ℕ) (s : State) → IsHost s.heap f 12 → nat_le i (length t) ≡ true → first_place part i (drop i t) ≡ k → Takes (invoke p (Obj f) (Str t) (Str part ∷ Num (pos i) ∷ [])) s 0 (Gave (Normal (place_value k))) s
gives_place p f i t part k s h e q = host_gives p f 12 host.IndexOf (Str t) (Str part ∷ Num (pos i) ∷ []) (place_value k) s h refl (ap (λ b. where_true b (Gives (place_value (first_place part i (drop i t))))) e ∙ ap (λ z. Gives (place_value z)) q)

pub gives_text : (p : Pos) (f i : ℕ) (this : Val) (s : State) → IsHost s.heap f 13 → nat_le i 65535 ≡ true → Takes (invoke p (Obj f) this (Num (pos i) ∷ [])) s 0 (Gave (Normal (Str (i ∷ [])))) s
gives_text p f i this s h e = host_gives p f 13 host.FromCharCode this (Num (pos i) ∷ []) (Str (i ∷ [])) s h refl (ap (λ b. where_true b (Gives (Str (i ∷ [])))) e)

-- ---- $host

pub writes_text : (p : Pos) (f : ℕ) (this : Val) (t : Text) (s : State) → IsHost s.heap f 14 → TakesSeen (invoke p (Obj f) this (Str t ∷ [])) s 0 (Gave (Normal Undefined)) (printed s t) (s ∷ [])
writes_text p f this t s i = host_writes p f 14 host.Write this (Str t ∷ []) t s i refl refl

pub reads_line : (p : Pos) (f : ℕ) (this : Val) (s : State) → IsHost s.heap f 15 → TakesSeen (invoke p (Obj f) this []) s 0 (Gave (Normal (line_value (line_of (rest s.lines))))) (has_read s (length (line_of (rest s.lines)))) (s ∷ [])
reads_line p f this s i = host_reads p f 15 host.Line this [] (line_value (line_of (rest s.lines))) (length (line_of (rest s.lines))) s i refl refl

-- Laws of objects and variables.
use Rattle.std.proofs.Common.{max, map, not, nat_lt, ltb-true, pos, ◌≡◌, ◌≢◌, ℕ, zero, suc, ◌+◌, ◌-◌, ◌<◌, ◌≤◌, Bool, true, false, ◌||◌, ◌&&◌, ◌⊎◌, if◌then◌else◌, List, [], ◌∷◌, ◌++◌, length, set, Option, Some, None, is_some, refl, sym, ap, subst, ◌∙◌, arith, inl, inr, ⊎_elim, bytes_eq, length-append, length-set}
use Rattle.std.proofs.lemmas.Bool.{cases_lt}
use Rattle.std.proofs.lemmas.List.{get_or-set_same, get_or-set_other, get_or_past, get_or_append_left}
use Rattle.std.proofs.Math.Seq.{get_or-append_seam}
use Rattle.std.proofs.lemmas.Slice.Eq.{bytes_eq-Decides}
use Rattle.std.specs.Int.Digits.{digits_of, number_from_digits, AllBelowBase}
use Rattle.std.proofs.lemmas.Int.Digits.{all_below_base_digits_of, number_digits_of}
use Rattle.es5_tree.specs.Values.{Text, Val, Num, find_own, first}
use Rattle.es5_tree.specs.Objects.Names.{decimal, index_end, index_of, is_length, length_name}
use Rattle.es5_tree.specs.Objects.Cells.{Cell, Object, Host, Array, new_cell, is_array, is_array_length, own, put, with_length, length_past, with_value, with_property, whole}
use Rattle.es5_tree.specs.Objects.Links.{cell_at, link_at, chain, first_of_chain, first_own, get}
use Rattle.es5_tree.proofs.ObjectProperties.{find_written, find_other, index_spelled, spelled_index}
use Rattle.es5_evaluation.specs.State.{Activation, record_at, set_record, binding_by, binds, with_variable}
use Rattle.es5_executor.specs.Memory.{assign, plain, Heap, Records, has, write}

pub same_or_not : (a b : ℕ) → (a ≡ b) ⊎ (a ≢ b)
same_or_not zero zero = inl refl
same_or_not zero (suc b) = inr (λ e. omega (arith, e))
same_or_not (suc a) zero = inr (λ e. omega (arith, e))
same_or_not (suc a) (suc b) = ⊎_elim (λ e. inl (ap suc e)) (λ n. inr (λ e. n (omega (arith, e)))) (same_or_not a b)

pub either : (b : Bool) → (b ≡ true) ⊎ (b ≡ false)
either true = inl refl
either false = inr refl

pub eq_of : (m n : Text) → bytes_eq m n ≡ true → m ≡ n
eq_of m n e = (bytes_eq-Decides m n).0 e

pub true_not_false : {X : Type 0} (b : Bool) → b ≡ true → b ≡ false → X
true_not_false b e f = cc

pub differ : (m n : Text) → bytes_eq m n ≡ false → m ≡ n → ⊥
differ m n f e = true_not_false (bytes_eq m n) ((bytes_eq-Decides m n).1 e) f

pub both_false : (a b : Bool) → (a || b) ≡ false → (a ≡ false) × (b ≡ false)
both_false true b e = cc
both_false false b e = (refl, e)

pub and_false : (a b : Bool) → b ≡ false → (a && b) ≡ false
and_false true b e = e
and_false false b e = refl

-- ---- objects past the end

past_end : (h : Heap) (a : ℕ) → length h ≤ a → cell_at h a ≡ new_cell Object None
unfolding cell_at
past_end h a l = get_or_past h a (new_cell Object None) l

nothing_own : (n : Text) → own (new_cell Object None) n ≡ None
unfolding own find_own
nothing_own n = refl

pub has_inside : (h : Heap) (a : ℕ) (n : Text) (v : Val) → has h a n ≡ Some v → a < length h
has_inside h a n v e = ⊎_elim (λ l. l) (λ l. absurd (no l)) (cases_lt a (length h))
  where
    no : length h ≤ a → ⊥
    no l = let f : None ≡ Some v = sym (nothing_own n) ∙ (sym (ap (λ c. own c n) (past_end h a l)) ∙ e) in cc

-- ---- writes

pub put_kind : (c : Cell) (n : Text) (v : Val) → (put c n v).kind ≡ c.kind
unfolding put with_length with_value
put_kind c n v = choose (is_array_length c n)
  where
    choose : (b : Bool) → (if b then with_length c (whole v) else with_value c n v).kind ≡ c.kind
    choose true = refl
    choose false = refl

pub put_link : (c : Cell) (n : Text) (v : Val) → (put c n v).link ≡ c.link
unfolding put with_length with_value
put_link c n v = choose (is_array_length c n)
  where
    choose : (b : Bool) → (if b then with_length c (whole v) else with_value c n v).link ≡ c.link
    choose true = refl
    choose false = refl

pub write_length : (h : Heap) (a : ℕ) (n : Text) (v : Val) → length (write h a n v) ≡ length h
unfolding write
write_length h a n v = length-set h a _

pub write_there : (h : Heap) (a : ℕ) (n : Text) (v : Val) → a < length h → cell_at (write h a n v) a ≡ put (cell_at h a) n v
unfolding write cell_at
write_there h a n v l = get_or-set_same h a _ _ l

pub write_other : (h : Heap) (a b : ℕ) (n : Text) (v : Val) → a ≢ b → cell_at (write h a n v) b ≡ cell_at h b
unfolding write cell_at
write_other h a b n v d = get_or-set_other h a b _ _ (λ e. d (sym e))

write_past : (h : Heap) (a b : ℕ) (n : Text) (v : Val) → length h ≤ a → cell_at (write h a n v) b ≡ cell_at h b
write_past h a b n v l = ⊎_elim here (λ d. write_other h a b n v d) (same_or_not a b)
  where
    here : a ≡ b → cell_at (write h a n v) b ≡ cell_at h b
    here e =
        let m = write_length h a n v in
        past_end (write h a n v) b (omega (arith, l, e, m)) ∙ sym (past_end h b (omega (arith, l, e)))

-- what a write leaves of each cell, where it leaves it of the cell written
each_cell : {X : Type 0} (f : Cell → X) (h : Heap) (a b : ℕ) (n : Text) (v : Val) → f (put (cell_at h a) n v) ≡ f (cell_at h a) → f (cell_at (write h a n v) b) ≡ f (cell_at h b)
each_cell f h a b n v e = ⊎_elim here (λ d. ap f (write_other h a b n v d)) (same_or_not a b)
  where
    here : a ≡ b → f (cell_at (write h a n v) b) ≡ f (cell_at h b)
    here p = subst (λ x. f (cell_at (write h a n v) x) ≡ f (cell_at h x)) p
        (⊎_elim (λ l. ap f (write_there h a n v l) ∙ e) (λ l. ap f (write_past h a a n v l)) (cases_lt a (length h)))

pub kind_kept : (h : Heap) (a b : ℕ) (n : Text) (v : Val) → (cell_at (write h a n v) b).kind ≡ (cell_at h b).kind
kind_kept h a b n v = each_cell (λ c. c.kind) h a b n v (put_kind (cell_at h a) n v)

pub link_kept : (h : Heap) (a b : ℕ) (n : Text) (v : Val) → link_at (write h a n v) b ≡ link_at h b
link_kept h a b n v = each_cell (λ c. c.link) h a b n v (put_link (cell_at h a) n v)

-- a name that begins with no digit is no array index
digits_first : (ds : List ℕ) → AllBelowBase 10 ds → (d : ℕ) (more : List ℕ) → ds ≡ d ∷ more → plain (map (λ d. 48 + d) ds) ≡ false
unfolding plain
digits_first [] all d more e = cc
digits_first (x ∷ xs) all d more e =
    let below = all.0 in
    ap (λ b. b || nat_lt 57 (48 + x)) (not_lt (48 + x) 48 (omega (arith, below))) ∙ not_lt 57 (48 + x) (omega (arith, below))
  where
    not_lt : (m n : ℕ) → n ≤ m → nat_lt m n ≡ false
    not_lt m n l = ⊎_elim (λ (t : nat_lt m n ≡ true). absurd (let q = ltb-true m n t in omega (arith, q, l))) (λ f. f) (either (nat_lt m n))

zero_first : plain (48 ∷ []) ≡ false
unfolding plain
zero_first = refl

not_plain : (i : ℕ) → plain (decimal i) ≡ false
unfolding decimal
not_plain zero = zero_first
not_plain (suc n) = by_digits (digits_of 10 (suc n)) refl
  where
    by_digits : (ds : List ℕ) → digits_of 10 (suc n) ≡ ds → plain (map (λ d. 48 + d) (digits_of 10 (suc n))) ≡ false
    by_digits [] e = absurd (let f : 0 ≡ suc n = ap (number_from_digits 10) (sym e) ∙ number_digits_of 10 (suc n) (omega arith) in omega (arith, f))
    by_digits (d ∷ ds) e = digits_first (digits_of 10 (suc n)) (all_below_base_digits_of 10 (suc n) (omega arith)) d ds e

pub plain_is : (m : Text) → plain m ≡ true → index_of m ≡ None
plain_is m e = go (index_of m) refl
  where
    go : (i : Option ℕ) → index_of m ≡ i → index_of m ≡ None
    go None f = f
    go (Some i) f = true_not_false (plain m) e (ap plain (index_spelled m i f).0 ∙ not_plain i)

pub plain_length : plain length_name ≡ true
unfolding plain
plain_length = refl

-- an index is no other name that begins with no digit
pub decimal_apart : (i : ℕ) (n : Text) → plain n ≡ true → bytes_eq (decimal i) n ≡ false
decimal_apart i n e = ⊎_elim (λ (t : bytes_eq (decimal i) n ≡ true). true_not_false (plain n) e (ap plain (sym (eq_of (decimal i) n t)) ∙ not_plain i)) (λ f. f) (either (bytes_eq (decimal i) n))

-- a write of the name m can change a property of the name n: the same one, or the length of an array by an element
unfoldable pub clash : Text → Text → Bool
clash m n = bytes_eq m n || (is_length n && not (plain m))

pub clash_apart : (m n : Text) → bytes_eq m n ≡ false → is_length n ≡ false → clash m n ≡ false
unfolding clash
clash_apart m n e f = ap (λ b. b || (is_length n && not (plain m))) e ∙ ap (λ b. b && not (plain m)) f

not_true : (b : Bool) → not b ≡ false → b ≡ true
not_true true e = refl
not_true false e = cc

both_true : (a b : Bool) → (a && b) ≡ false → a ≡ true → b ≡ false
both_true true b e f = e
both_true false b e f = cc

pub put_other : (c : Cell) (m n : Text) (v : Val) → is_length m ≡ false → clash m n ≡ false → own (put c m v) n ≡ own c n
unfolding own put with_value clash
put_other c m n v p e =
    let d = both_false _ _ e in
    let x = and_false (is_array c.kind) (is_length m) p in
    rw x (ap (λ f. if is_array c.kind && is_length n then Some (Num (pos (if is_array c.kind then length_past c.array_length (index_of m) else c.array_length))) else f) (find_other c.properties m n v (differ m n d.0))
    ∙ lengths (is_array c.kind) (is_length n) c.array_length (index_of m) (find_own c.properties n) (λ t. plain_is m (not_true (plain m) (both_true (is_length n) (not (plain m)) d.1 t))))
  where
    lengths : (l t : Bool) (k : ℕ) (i : Option ℕ) (x : Option Val) → (t ≡ true → i ≡ None) → (if l && t then Some (Num (pos (if l then length_past k i else k))) else x) ≡ (if l && t then Some (Num (pos k)) else x)
    lengths false t k i x f = refl
    lengths true false k i x f = refl
    lengths true true k i x f = ap (λ j. Some (Num (pos (length_past k j)))) (f refl)

-- the length of an array after a write behind its end
pub put_longer : (c : Cell) (n : ℕ) (v : Val) → c.kind ≡ Array → own c length_name ≡ Some (Num (pos n)) → n < index_end → own (put c (decimal n) v) length_name ≡ Some (Num (pos (n + 1)))
unfolding own put with_value
put_longer c n v k len below =
    let x = and_false (is_array c.kind) (is_length (decimal n)) (decimal_apart n length_name plain_length) in
    let l : c.array_length ≡ n = its (ap (λ z. if is_array z && is_length length_name then Some (Num (pos c.array_length)) else find_own c.properties length_name) (sym k) ∙ len) in
    rw x (ap (λ z. if is_array z && is_length length_name then Some (Num (pos (if is_array z then length_past c.array_length (index_of (decimal n)) else c.array_length))) else find_own (with_property c.properties (decimal n) v) length_name) k
    ∙ ap (λ j. Some (Num (pos (length_past c.array_length j)))) (spelled_index (decimal n) n refl below)
    ∙ ap (λ j. Some (Num (pos (max j (n + 1))))) l
    ∙ ap (λ j. Some (Num (pos j))) (larger n))
  where
    its : Some (Num (pos c.array_length)) ≡ Some (Num (pos n)) → c.array_length ≡ n
    its e = cc

    larger : (m : ℕ) → max m (m + 1) ≡ m + 1
    larger m = omega arith

pub put_there : (c : Cell) (m : Text) (v : Val) → is_length m ≡ false → own (put c m v) m ≡ Some v
unfolding own put with_value
put_there c m v p = let x = and_false (is_array c.kind) (is_length m) p in rw x (rw x (find_written c.properties m v))

pub has_other_name : (h : Heap) (a b : ℕ) (m n : Text) (v : Val) → is_length m ≡ false → clash m n ≡ false → has (write h a m v) b n ≡ has h b n
has_other_name h a b m n v p q = each_cell (λ c. own c n) h a b m v (put_other (cell_at h a) m n v p q)

pub has_written : (h : Heap) (a : ℕ) (m : Text) (v : Val) → is_length m ≡ false → a < length h → has (write h a m v) a m ≡ Some v
has_written h a m v p l = ap (λ c. own c m) (write_there h a m v l) ∙ put_there (cell_at h a) m v p

-- ---- properties along the links

pub first_kept : (h h' : Heap) (os : List ℕ) (n : Text) → ((b : ℕ) → has h' b n ≡ has h b n) → first_own h' os n ≡ first_own h os n
unfolding first_own
first_kept h h' [] n e = refl
first_kept h h' (o ∷ os) n e = ap (λ x. first x (λ u. first_own h' os n)) (e o) ∙ ap (λ x. first (has h o n) (λ u. x)) (first_kept h h' os n e)

pub chain_kept : (k : ℕ) (h h' : Heap) (at : Option ℕ) → ((b : ℕ) → link_at h' b ≡ link_at h b) → first_of_chain k h' at ≡ first_of_chain k h at
unfolding first_of_chain
chain_kept zero h h' at e = refl
chain_kept (suc k) h h' None e = refl
chain_kept (suc k) h h' (Some o) e = ap (λ l. o ∷ l) (ap (λ x. first_of_chain k h' x) (e o) ∙ chain_kept k h h' (link_at h o) e)

pub get_other_name : (h : Heap) (a b : ℕ) (m n : Text) (v : Val) → is_length m ≡ false → clash m n ≡ false → get (write h a m v) b n ≡ get h b n
unfolding get chain
get_other_name h a b m n v p q =
    ap (λ k. first_own (write h a m v) (first_of_chain k (write h a m v) (Some b)) n) (write_length h a m v)
    ∙ (ap (λ os. first_own (write h a m v) os n) (chain_kept (length h) h (write h a m v) (Some b) (λ x. link_kept h a x m v))
    ∙ first_kept h (write h a m v) (first_of_chain (length h) h (Some b)) n (λ x. has_other_name h a x m n v p q))

pub get_own : (h : Heap) (a : ℕ) (n : Text) (v : Val) → has h a n ≡ Some v → get h a n ≡ Some v
unfolding get chain first_of_chain first_own
get_own h a n v e =
    let l = has_inside h a n v e in
    ap (λ k. first_own h (first_of_chain k h (Some a)) n) {x = length h} {y = suc (length h - 1)} (omega (arith, l))
    ∙ ap (λ x. first x (λ u. first_own h (first_of_chain (length h - 1) h (link_at h a)) n)) e

-- ---- one more object

pub old_cell : (h : Heap) (c : Cell) (b : ℕ) → b < length h → cell_at (h ++ c ∷ []) b ≡ cell_at h b
unfolding cell_at
old_cell h c b l = get_or_append_left h (c ∷ []) _ b l

pub new_cell_is : (h : Heap) (c : Cell) → cell_at (h ++ c ∷ []) (length h) ≡ c
unfolding cell_at
new_cell_is h c = get_or-append_seam h c [] _

pub more_objects : (h : Heap) (c : Cell) → length (h ++ c ∷ []) ≡ suc (length h)
more_objects h c = let e = length-append h (c ∷ []) in omega (arith, e)

pub has_old : (h : Heap) (c : Cell) (b : ℕ) (n : Text) (v : Val) → has h b n ≡ Some v → has (h ++ c ∷ []) b n ≡ Some v
has_old h c b n v e = ap (λ x. own x n) (old_cell h c b (has_inside h b n v e)) ∙ e

found_old : (k : ℕ) (h : Heap) (c : Cell) (at : Option ℕ) (n : Text) (v : Val) → first_own h (first_of_chain k h at) n ≡ Some v → first_own (h ++ c ∷ []) (first_of_chain (suc k) (h ++ c ∷ []) at) n ≡ Some v
unfolding first_own first_of_chain
found_old zero h c at n v e = cc
found_old (suc k) h c None n v e = cc
found_old (suc k) h c (Some o) n v e = ⊎_elim (inside (λ f. found_old k h c (link_at h o) n v f)) outside (cases_lt o (length h))
  where
    step : (first_own h (first_of_chain k h (link_at h o)) n ≡ Some v → first_own (h ++ c ∷ []) (first_of_chain (suc k) (h ++ c ∷ []) (link_at h o)) n ≡ Some v) → (a : Option Val) → has h o n ≡ a → cell_at (h ++ c ∷ []) o ≡ cell_at h o → first a (λ u. first_own h (first_of_chain k h (link_at h o)) n) ≡ Some v →
        first (has (h ++ c ∷ []) o n) (λ u. first_own (h ++ c ∷ []) (first_of_chain (suc k) (h ++ c ∷ []) (link_at (h ++ c ∷ []) o)) n) ≡ Some v
    step ih (Some w) p q f = ap (λ x. first (own x n) (λ u. first_own (h ++ c ∷ []) (first_of_chain (suc k) (h ++ c ∷ []) (link_at (h ++ c ∷ []) o)) n)) q ∙ (ap (λ x. first x (λ u. first_own (h ++ c ∷ []) (first_of_chain (suc k) (h ++ c ∷ []) (link_at (h ++ c ∷ []) o)) n)) p ∙ f)
    step ih None p q f =
        ap (λ x. first (own x n) (λ u. first_own (h ++ c ∷ []) (first_of_chain (suc k) (h ++ c ∷ []) (link_at (h ++ c ∷ []) o)) n)) q
        ∙ (ap (λ x. first x (λ u. first_own (h ++ c ∷ []) (first_of_chain (suc k) (h ++ c ∷ []) (link_at (h ++ c ∷ []) o)) n)) p
        ∙ (ap (λ x. first_own (h ++ c ∷ []) (first_of_chain (suc k) (h ++ c ∷ []) x.link) n) q ∙ ih f))

    inside : (first_own h (first_of_chain k h (link_at h o)) n ≡ Some v → first_own (h ++ c ∷ []) (first_of_chain (suc k) (h ++ c ∷ []) (link_at h o)) n ≡ Some v) → o < length h → first (has (h ++ c ∷ []) o n) (λ u. first_own (h ++ c ∷ []) (first_of_chain (suc k) (h ++ c ∷ []) (link_at (h ++ c ∷ []) o)) n) ≡ Some v
    inside ih l = step ih (has h o n) refl (old_cell h c o l) e

    nothing_found : (j : ℕ) → first_own h (first_of_chain j h None) n ≡ None
    nothing_found zero = refl
    nothing_found (suc j) = refl

    outside : length h ≤ o → first (has (h ++ c ∷ []) o n) (λ u. first_own (h ++ c ∷ []) (first_of_chain (suc k) (h ++ c ∷ []) (link_at (h ++ c ∷ []) o)) n) ≡ Some v
    outside l =
        let p = past_end h o l in
        let f : None ≡ Some v = sym (nothing_found k) ∙ (sym (ap (λ x. first_own h (first_of_chain k h x.link) n) p) ∙ (sym (ap (λ x. first x (λ u. first_own h (first_of_chain k h (link_at h o)) n)) (ap (λ x. own x n) p ∙ nothing_own n)) ∙ e)) in
        cc

pub get_old : (h : Heap) (c : Cell) (b : ℕ) (n : Text) (v : Val) → get h b n ≡ Some v → get (h ++ c ∷ []) b n ≡ Some v
unfolding get chain
get_old h c b n v e = ap (λ k. first_own (h ++ c ∷ []) (first_of_chain k (h ++ c ∷ []) (Some b)) n) (more_objects h c) ∙ found_old (length h) h c (Some b) n v e

-- ---- records

pub inside_record : (R : Records) (r : ℕ) → length R ≤ r → record_at R r ≡ record { variables = []; constants = []; outer = None }
unfolding record_at
inside_record R r l = get_or_past R r _ l

pub record_set : (R : Records) (r : ℕ) (a : Activation) → r < length R → record_at (set_record R r a) r ≡ a
unfolding record_at
record_set R r a l = get_or-set_same R r a _ l

pub record_other : (R : Records) (r b : ℕ) (a : Activation) → b ≢ r → record_at (set_record R r a) b ≡ record_at R b
unfolding record_at
record_other R r b a d = get_or-set_other R r b a _ d

pub record_new : (R : Records) (a : Activation) → record_at (R ++ a ∷ []) (length R) ≡ a
unfolding record_at
record_new R a = get_or-append_seam R a [] _

pub record_old : (R : Records) (a : Activation) (b : ℕ) → b < length R → record_at (R ++ a ∷ []) b ≡ record_at R b
unfolding record_at
record_old R a b l = get_or_append_left R (a ∷ []) _ b l

-- the same names bound and the same record around
pub record Alike (a b : Activation) : Type 0 where
  pub outer : a.outer ≡ b.outer
  pub binds : (x : Text) → binds a x ≡ binds b x

abbrev pub AllAlike : Records → Records → Type 0
AllAlike R S = (b : ℕ) → Alike (record_at R b) (record_at S b)

pub alike_refl : (a : Activation) → Alike a a
alike_refl a = record { outer = refl; binds = λ x. refl }

pub bindings_alike : (k : ℕ) (R S : Records) (at : Option ℕ) (x : Text) → AllAlike R S → binding_by k R at x ≡ binding_by k S at x
unfolding binding_by
bindings_alike zero R S at x e = refl
bindings_alike (suc k) R S None x e = refl
bindings_alike (suc k) R S (Some r) x e =
    ap (λ b. if b then Some r else binding_by k R (record_at R r).outer x) ((e r).binds x)
    ∙ ap (λ o. if binds (record_at S r) x then Some r else o) (ap (λ o. binding_by k R o x) (e r).outer ∙ bindings_alike k R S (record_at S r).outer x e)

pub set_alike : (R : Records) (r : ℕ) (a : Activation) → Alike a (record_at R r) → AllAlike (set_record R r a) R
set_alike R r a e b = ⊎_elim here (λ d. subst (λ z. Alike z (record_at R b)) (sym (record_other R r b a d)) (alike_refl (record_at R b))) (same_or_not b r)
  where
    here : b ≡ r → Alike (record_at (set_record R r a) b) (record_at R b)
    here p = subst (λ z. Alike (record_at (set_record R r a) z) (record_at R z)) (sym p)
        (⊎_elim (λ l. subst (λ z. Alike z (record_at R r)) (sym (record_set R r a l)) e)
        (λ l. let m : length (set R r a) ≡ length R = length-set R r a in
        let q : record_at (set_record R r a) r ≡ record_at R r = inside_record (set_record R r a) r (omega (arith, l, m)) ∙ sym (inside_record R r l) in
        subst (λ z. Alike z (record_at R r)) (sym q) (alike_refl (record_at R r)))
        (cases_lt r (length R)))

-- more records to look through find the same
pub binding_more : (k j : ℕ) (R : Records) (at : Option ℕ) (x : Text) (b : ℕ) → binding_by k R at x ≡ Some b → binding_by (k + j) R at x ≡ Some b
unfolding binding_by
binding_more zero j R at x b e = cc
binding_more (suc k) j R None x b e = cc
binding_more (suc k) j R (Some r) x b e = ap (λ n. binding_by n R (Some r) x) {x = suc k + j} {y = suc (k + j)} (omega arith) ∙ go (λ f. binding_more k j R (record_at R r).outer x b f) (binds (record_at R r) x) e
  where
    go : (binding_by k R (record_at R r).outer x ≡ Some b → binding_by (k + j) R (record_at R r).outer x ≡ Some b) → (t : Bool) → (if t then Some r else binding_by k R (record_at R r).outer x) ≡ Some b → (if t then Some r else binding_by (k + j) R (record_at R r).outer x) ≡ Some b
    go ih true f = f
    go ih false f = ih f

-- one record more
pub binding_old : (k : ℕ) (R : Records) (a : Activation) (at : Option ℕ) (x : Text) (b : ℕ) → binding_by k R at x ≡ Some b → binding_by k (R ++ a ∷ []) at x ≡ Some b
unfolding binding_by find_own
binding_old zero R a at x b e = cc
binding_old (suc k) R a None x b e = cc
binding_old (suc k) R a (Some r) x b e = ⊎_elim (inside (λ f. binding_old k R a (record_at R r).outer x b f)) outside (cases_lt r (length R))
  where
    go : (binding_by k R (record_at R r).outer x ≡ Some b → binding_by k (R ++ a ∷ []) (record_at R r).outer x ≡ Some b) → (t : Bool) → (if t then Some r else binding_by k R (record_at R r).outer x) ≡ Some b → (if t then Some r else binding_by k (R ++ a ∷ []) (record_at R r).outer x) ≡ Some b
    go ih true f = f
    go ih false f = ih f

    inside : (binding_by k R (record_at R r).outer x ≡ Some b → binding_by k (R ++ a ∷ []) (record_at R r).outer x ≡ Some b) → r < length R → (if binds (record_at (R ++ a ∷ []) r) x then Some r else binding_by k (R ++ a ∷ []) (record_at (R ++ a ∷ []) r).outer x) ≡ Some b
    inside ih l = ap (λ z. if binds z x then Some r else binding_by k (R ++ a ∷ []) z.outer x) (record_old R a r l) ∙ go ih (binds (record_at R r) x) e

    nothing : (j : ℕ) → binding_by j R None x ≡ None
    nothing zero = refl
    nothing (suc j) = refl

    outside : length R ≤ r → (if binds (record_at (R ++ a ∷ []) r) x then Some r else binding_by k (R ++ a ∷ []) (record_at (R ++ a ∷ []) r).outer x) ≡ Some b
    outside l = let f : None ≡ Some b = sym (nothing k) ∙ (sym (ap (λ z. if binds z x then Some r else binding_by k R z.outer x) (inside_record R r l)) ∙ e) in cc

-- a write to a variable that is there
pub written_alike : (a : Activation) (x : Text) (v w : Val) → find_own a.variables x ≡ Some w → Alike (with_variable a x v) a
written_alike a x v w e = record { outer = refl; binds = λ y. go y }
  where
    go : (y : Text) → (is_some (find_own (with_property a.variables x v) y) || is_some (find_own a.constants y)) ≡ (is_some (find_own a.variables y) || is_some (find_own a.constants y))
    go y = ap (λ b. b || is_some (find_own a.constants y)) (⊎_elim
        (λ (p : bytes_eq x y ≡ true). let q = eq_of x y p in ap is_some (subst (λ z. find_own (with_property a.variables x v) z ≡ Some v) q (find_written a.variables x v)) ∙ sym (ap is_some (subst (λ z. find_own a.variables z ≡ Some w) q e)))
        (λ (p : bytes_eq x y ≡ false). ap is_some (find_other a.variables x y v (differ x y p)))
        (either (bytes_eq x y)))

pub record_inside : (R : Records) (b : ℕ) (x : Text) (v : Val) → find_own (record_at R b).variables x ≡ Some v → b < length R
unfolding find_own
record_inside R b x v e = ⊎_elim (λ l. l) (λ l. absurd (let f : None ≡ Some v = sym (ap (λ a. find_own a.variables x) (inside_record R b l)) ∙ e in cc)) (cases_lt b (length R))

pub assign_length : (R : Records) (b : ℕ) (x : Text) (v : Val) → length (assign R b x v) ≡ length R
unfolding assign
assign_length R b x v = length-set R b _

-- an object of another kind than the empty one past the end is there
pub host_inside : (h : Heap) (a k : ℕ) → (cell_at h a).kind ≡ Host k → ((cell_at h a).kind ≡ Host k) × (a < length h)
host_inside h a k e = (e, ⊎_elim (λ l. l) (λ l. absurd (no l)) (cases_lt a (length h)))
  where
    no : length h ≤ a → ⊥
    no l = let f : Object ≡ Host k = sym (ap (λ c. c.kind) (past_end h a l)) ∙ e in cc

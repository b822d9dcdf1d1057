-- What a deletion, another link and a new object leave of properties and links.
use Rattle.std.proofs.Common.{◌≡◌, ◌≢◌, ℕ, zero, suc, ◌<◌, ◌≤◌, Bool, true, false, if◌then◌else◌, List, [], ◌∷◌, ◌++◌, length, map, Option, Some, None, pos, refl, sym, ap, subst, ◌∙◌, arith, ⊎_elim, bytes_eq, length-set}
use Rattle.std.proofs.lemmas.Bool.{cases_lt}
use Rattle.std.proofs.lemmas.List.{get_or-set_same, get_or-set_other, get_or_past}
use Rattle.es5_tree.specs.Values.{Text, Val, Num, find_own, first}
use Rattle.es5_tree.specs.Objects.Names.{is_length}
use Rattle.es5_tree.specs.Objects.Cells.{Cell, Object, new_cell, is_array, is_array_length, own, delete}
use Rattle.es5_tree.specs.Objects.Links.{cell_at, link_at, set_cell, with_link, chain, first_of_chain, first_own, get}
use Rattle.es5_tree.proofs.ObjectProperties.{deleted_is_gone, others_stay_undeleted}
use Rattle.es5_executor.specs.Memory.{Heap, has, write, erase, relink, Bare, Misses, listed}
use Rattle.es5_executor.proofs.Memory

-- ---- one cell is changed

set_there : (h : Heap) (a : ℕ) (c : Cell) → a < length h → cell_at (set_cell h a c) a ≡ c
unfolding cell_at
set_there h a c l = get_or-set_same h a _ _ l

set_other : (h : Heap) (a b : ℕ) (c : Cell) → a ≢ b → cell_at (set_cell h a c) b ≡ cell_at h b
unfolding cell_at
set_other h a b c d = get_or-set_other h a b _ _ (λ e. d (sym e))

set_past : (h : Heap) (a : ℕ) (c : Cell) → length h ≤ a → cell_at (set_cell h a c) a ≡ cell_at h a
unfolding cell_at
set_past h a c l = let m = length-set h a c in get_or_past (set_cell h a c) a (new_cell Object None) (omega (arith, l, m)) ∙ sym (get_or_past h a (new_cell Object None) l)

-- what holds of each cell, where the change keeps it
kept_by : (P : Cell → Type 0) (h : Heap) (a b : ℕ) (c : Cell) → (P (cell_at h a) → P c) → P (cell_at h b) → P (cell_at (set_cell h a c) b)
kept_by P h a b c f p = ⊎_elim here (λ d. subst P (sym (set_other h a b c d)) p) (Memory.same_or_not a b)
  where
    here : a ≡ b → P (cell_at (set_cell h a c) b)
    here e =
        let q : P (cell_at h a) = subst (λ x. P (cell_at h x)) (sym e) p in
        subst (λ x. P (cell_at (set_cell h a c) x)) e (⊎_elim (λ l. subst P (sym (set_there h a c l)) (f q)) (λ l. subst P (sym (set_past h a c l)) q) (cases_lt a (length h)))

same_by : {X : Type 0} (f : Cell → X) (h : Heap) (a b : ℕ) (c : Cell) → f c ≡ f (cell_at h a) → f (cell_at (set_cell h a c) b) ≡ f (cell_at h b)
same_by f h a b c e = kept_by (λ x. f x ≡ f (cell_at h b)) h a b c (λ p. e ∙ p) refl

-- ---- a deletion

pub erase_length : (h : Heap) (a : ℕ) (m : Text) → length (erase h a m) ≡ length h
unfolding erase
erase_length h a m = length-set h a _

pub erase_kind : (h : Heap) (a b : ℕ) (m : Text) → (cell_at (erase h a m) b).kind ≡ (cell_at h b).kind
unfolding erase delete
erase_kind h a b m = same_by (λ c. c.kind) h a b (delete (cell_at h a) m) refl

pub erase_link : (h : Heap) (a b : ℕ) (m : Text) → link_at (erase h a m) b ≡ link_at h b
unfolding erase delete
erase_link h a b m = same_by (λ c. c.link) h a b (delete (cell_at h a) m) refl

pub erase_other : (h : Heap) (a b : ℕ) (m n : Text) → a ≢ b → has (erase h a m) b n ≡ has h b n
unfolding erase
erase_other h a b m n d = ap (λ c. own c n) (set_other h a b _ d)

pub erase_name : (h : Heap) (a b : ℕ) (m n : Text) → bytes_eq m n ≡ false → has (erase h a m) b n ≡ has h b n
unfolding erase
erase_name h a b m n d = same_by (λ c. own c n) h a b (delete (cell_at h a) m) (others_stay_undeleted (cell_at h a) m n (Memory.differ m n d))

no_length : (c : Cell) (n : Text) → own c n ≡ None → is_array_length c n ≡ false
unfolding own
no_length c n e = go (is_array_length c n) e
  where
    go : (t : Bool) → (if t then Some (Num (pos c.array_length)) else find_own c.properties n) ≡ None → t ≡ false
    go true f = cc
    go false f = refl

none_stays : (c : Cell) (m n : Text) → own c n ≡ None → own (delete c m) n ≡ None
none_stays c m n e = ⊎_elim
    (λ (p : bytes_eq m n ≡ true). subst (λ z. own (delete c z) n ≡ None) (sym (Memory.eq_of m n p)) (deleted_is_gone c n (no_length c n e)))
    (λ (p : bytes_eq m n ≡ false). others_stay_undeleted c m n (Memory.differ m n p) ∙ e)
    (Memory.either (bytes_eq m n))

pub erase_none : (h : Heap) (a b : ℕ) (m n : Text) → has h b n ≡ None → has (erase h a m) b n ≡ None
unfolding erase
erase_none h a b m n e = kept_by (λ c. own c n ≡ None) h a b (delete (cell_at h a) m) (none_stays (cell_at h a) m n) e

pub erase_there : (h : Heap) (a : ℕ) (m : Text) → is_length m ≡ false → a < length h → has (erase h a m) a m ≡ None
unfolding erase
erase_there h a m p l = ap (λ c. own c m) (set_there h a _ l) ∙ deleted_is_gone (cell_at h a) m (Memory.and_false (is_array (cell_at h a).kind) (is_length m) p)

-- ---- another link

pub relink_length : (h : Heap) (a : ℕ) (l : Option ℕ) → length (relink h a l) ≡ length h
unfolding relink
relink_length h a l = length-set h a _

pub relink_kind : (h : Heap) (a b : ℕ) (l : Option ℕ) → (cell_at (relink h a l) b).kind ≡ (cell_at h b).kind
unfolding relink
relink_kind h a b l = same_by (λ c. c.kind) h a b (with_link (cell_at h a) l) refl

pub relink_has : (h : Heap) (a b : ℕ) (l : Option ℕ) (n : Text) → has (relink h a l) b n ≡ has h b n
unfolding relink own
relink_has h a b l n = same_by (λ c. own c n) h a b (with_link (cell_at h a) l) refl

pub relink_there : (h : Heap) (a : ℕ) (l : Option ℕ) → a < length h → link_at (relink h a l) a ≡ l
unfolding relink
relink_there h a l i = ap (λ c. c.link) (set_there h a _ i)

pub relink_other : (h : Heap) (a b : ℕ) (l : Option ℕ) → a ≢ b → link_at (relink h a l) b ≡ link_at h b
unfolding relink
relink_other h a b l d = ap (λ c. c.link) (set_other h a b _ d)

-- ---- properties along the links

pub get_erased : (h : Heap) (a b : ℕ) (m n : Text) → bytes_eq m n ≡ false → get (erase h a m) b n ≡ get h b n
unfolding get chain
get_erased h a b m n d =
    ap (λ k. first_own (erase h a m) (first_of_chain k (erase h a m) (Some b)) n) (erase_length h a m)
    ∙ (ap (λ os. first_own (erase h a m) os n) (Memory.chain_kept (length h) h (erase h a m) (Some b) (λ x. erase_link h a x m))
    ∙ Memory.first_kept h (erase h a m) (first_of_chain (length h) h (Some b)) n (λ x. erase_name h a x m n d))

-- a property that is absent along the links is not found
bare_first : (k : ℕ) (h : Heap) (at : Option ℕ) (n : Text) (os : List ℕ) → Bare h at n os → first_own h (first_of_chain k h at) n ≡ None
unfolding first_own first_of_chain
bare_first zero h at n os b = refl
bare_first (suc k) h None n os b = refl
bare_first (suc k) h (Some o) n [] b = absurd b
bare_first (suc k) h (Some o) n (p ∷ ps) (e, l, f, r) =
    ap (λ x. first (has h x n) (λ u. first_own h (first_of_chain k h (link_at h x)) n)) e
    ∙ (ap (λ x. first x (λ u. first_own h (first_of_chain k h (link_at h p)) n)) f ∙ bare_first k h (link_at h p) n ps r)

pub misses_is : (h : Heap) (a : ℕ) (n : Text) → Misses h a n → get h a n ≡ None
unfolding get chain
misses_is h a n (os, b) = bare_first (length h) h (Some a) n os b

-- it stays absent where the objects that are there keep their links and get no such property
bare_kept : (h h' : Heap) (at : Option ℕ) (n : Text) (os : List ℕ) → ((b : ℕ) → b < length h → b < length h') → ((b : ℕ) → b < length h → link_at h' b ≡ link_at h b) → ((b : ℕ) → b < length h → has h b n ≡ None → has h' b n ≡ None) → Bare h at n os → Bare h' at n os
bare_kept h h' None n [] i j k b = b
bare_kept h h' None n (p ∷ ps) i j k b = b
bare_kept h h' (Some o) n [] i j k b = b
bare_kept h h' (Some o) n (p ∷ ps) i j k (e, l, f, r) = (e, i p l, k p l f, subst (λ z. Bare h' z n ps) (sym (j p l)) (bare_kept h h' (link_at h p) n ps i j k r))

pub misses_written : (h : Heap) (a b : ℕ) (m n : Text) (v : Val) → is_length m ≡ false → Memory.clash m n ≡ false → Misses h b n → Misses (write h a m v) b n
misses_written h a b m n v p q (os, r) =
    let e = Memory.write_length h a m v in
    (os, bare_kept h (write h a m v) (Some b) n os (λ x l. omega (arith, e, l)) (λ x l. Memory.link_kept h a x m v) (λ x l f. Memory.has_other_name h a x m n v p q ∙ f) r)

pub misses_erased : (h : Heap) (a b : ℕ) (m n : Text) → Misses h b n → Misses (erase h a m) b n
misses_erased h a b m n (os, r) =
    let e = erase_length h a m in
    (os, bare_kept h (erase h a m) (Some b) n os (λ x l. omega (arith, e, l)) (λ x l. erase_link h a x m) (λ x l f. erase_none h a x m n f) r)

pub misses_old : (h : Heap) (c : Cell) (b : ℕ) (n : Text) → Misses h b n → Misses (h ++ c ∷ []) b n
misses_old h c b n (os, r) =
    let e = Memory.more_objects h c in
    (os, bare_kept h (h ++ c ∷ []) (Some b) n os (λ x l. omega (arith, e, l)) (λ x l. ap (λ z. z.link) (Memory.old_cell h c x l)) (λ x l f. ap (λ z. own z n) (Memory.old_cell h c x l) ∙ f) r)

-- an object that lacks the property, before one that misses it, or last
pub misses_last : (h : Heap) (a : ℕ) (n : Text) → has h a n ≡ None → a < length h → link_at h a ≡ None → Misses h a n
misses_last h a n e l k = (a ∷ [], (refl, l, e, subst (λ z. Bare h z n []) (sym k) tt))

pub misses_before : (h : Heap) (a b : ℕ) (n : Text) → has h a n ≡ None → a < length h → link_at h a ≡ Some b → Misses h b n → Misses h a n
misses_before h a b n e l k (os, r) = (a ∷ os, (refl, l, e, subst (λ z. Bare h z n os) (sym k) r))

-- ---- the names of a new object

pub not_listed : (ps : List (Text × Val)) (n : Text) → listed (map (λ p. p.0) ps) n ≡ false → find_own ps n ≡ None
unfolding listed find_own
not_listed [] n e = refl
not_listed (p ∷ ps) n e = let d = Memory.both_false _ _ e in ap (λ b. if b then Some p.1 else find_own ps n) d.0 ∙ not_listed ps n d.1

pub misses_own : (h : Heap) (a : ℕ) (n : Text) → Misses h a n → has h a n ≡ None
misses_own h a n ([], b) = absurd b
misses_own h a n (p ∷ ps, (e, l, f, r)) = ap (λ x. has h x n) e ∙ f

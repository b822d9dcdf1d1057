-- The executor is right: what it comes to is what the code does.
use Rattle.std.proofs.Common.{leb-true, nat_le, slice_get, map, pos, ◌≡◌, ◌≢◌, ℕ, zero, suc, ◌+◌, ◌-◌, ◌<◌, Bool, true, false, not, ◌||◌, ◌&&◌, if◌then◌else◌, List, [], ◌∷◌, ◌++◌, length, Option, Some, None, is_some, refl, sym, ap, subst, ◌∙◌, arith, ⊎_elim, bytes_eq, length-set, codes}
use Rattle.std.proofs.lemmas.List.{set-set, set_comm}
use Rattle.opal_base.specs.declared.place.Pos.{Pos}
use Rattle.es5_tree.specs.Values.{Text, Val, Truth, Num, Obj, find_own, first}
use Rattle.es5_tree.specs.Ends.{Conversion}
use Rattle.es5_tree.specs.Objects.Names.{decimal, index_end, is_length, length_name}
use Rattle.es5_tree.specs.Objects.Cells.{Cell, Kind, Array, new_cell, delete, own, put, with_property, is_array}
use Rattle.es5_tree.specs.Objects.Links.{cell_at, link_at}
use Rattle.es5_tree.specs.Intrinsics.Rows.{array_of, as_length, natural_of}
use Rattle.es5_tree.specs.Intrinsics.Made.{array_prototype}
use Rattle.es5_tree.proofs.ObjectProperties.{find_written, find_other}
use Rattle.es5_evaluation.specs.State.{Activation, State, record_at, set_record, binding, binding_by, binds, value_in, with_variable}
use Rattle.es5_evaluation.specs.Task.{Completion, Normal, Task, Leaves, Set, Store, ◌>>=◌, walk}
use Rattle.es5_evaluation.specs.Values.{or_undefined}
use Rattle.es5_evaluation.specs.Evaluate.{delete_property, read_name, read_bound, write_name, write_bound, write_property, gives, type_error}
use Rattle.es5_evaluation.specs.Run.{run}
use Rattle.es5_rules.specs.Moments.{moments, moments_by}
use Rattle.es5_executor.specs.Runs.{look}
use Rattle.es5_executor.specs.Memory.{Heap, Records, Frame, has, write, erase, relink, listed, assign, bound_from, Outer, value_by, IsOuter}
use Rattle.es5_executor.proofs.Arrays
use Rattle.es5_executor.proofs.Changes
use Rattle.es5_executor.proofs.Memory
use Rattle.es5_executor.proofs.Memory.{Alike, AllAlike}
use Rattle.es5_executor.proofs.Sym
use Rattle.es5_executor.proofs.Sym.{Fact, Own, Seen, Lacks, Absent, Names, Link, IsKind, Gone, OnlyNames, FactIs, Facts, Outers, Away, fact_at, outer_at, rewritten, revalued, Hit, Kept, Unless, news, Rest, Known, Here, Cont, Node, Ev, Rf, Do, Nodes, No, on, on_place, Hinted, Choice, Test, VarIs, SetIs, SeenAt, KindAt, fits, act, here, there}

-- ---- facts

pub fact_is : (h : Heap) (ks : List Fact) (i : ℕ) (k : Fact) → Facts h ks → fact_at ks i ≡ Some k → FactIs h k
unfolding fact_at
fact_is h [] i k fs e = cc
fact_is h (l ∷ ks) zero k fs e = let p : l ≡ k = cc in subst (FactIs h) p fs.0
fact_is h (l ∷ ks) (suc i) k fs e = fact_is h ks i k fs.1 e

only_names : (h : Heap) (a b : ℕ) (m : Text) (v : Val) (ns : List Text) → is_length m ≡ false → OnlyNames h b ns × (b < length h) → OnlyNames (write h a m v) b (m ∷ ns) × (b < length (write h a m v))
unfolding listed
only_names h a b m v ns p f = (
  λ n l q. let d = Memory.both_false _ _ l in Memory.has_other_name h a b m n v p (Memory.clash_apart m n d.0 q) ∙ f.0 n d.1 q,
  let e = Memory.write_length h a m v in let l = f.1 in omega (arith, e, l),
)

link_stays : (h : Heap) (a b : ℕ) (m : Text) (v : Val) (l : Option ℕ) → (link_at h b ≡ l) × (b < length h) → (link_at (write h a m v) b ≡ l) × (b < length (write h a m v))
link_stays h a b m v l f = (Memory.link_kept h a b m v ∙ f.0, let e = Memory.write_length h a m v in let i = f.1 in omega (arith, e, i))

kind_stays : (h : Heap) (a b : ℕ) (m : Text) (v : Val) (k : Kind) → ((cell_at h b).kind ≡ k) × (b < length h) → ((cell_at (write h a m v) b).kind ≡ k) × (b < length (write h a m v))
kind_stays h a b m v k f = (Memory.kind_kept h a b m v ∙ f.0, let e = Memory.write_length h a m v in let i = f.1 in omega (arith, e, i))

keep : (h : Heap) (a : ℕ) (m : Text) (v : Val) → is_length m ≡ false → (k : Fact) → Kept k a m → FactIs h k → FactIs (write h a m v) (Sym.kept k m)
unfolding Kept Unless Sym.kept Sym.unless
keep h a m v p (Own b n w) d f = go (Memory.clash m n) refl d
  where
    go : (t : Bool) → Memory.clash m n ≡ t → Unless t (a ≢ b) → has (write h a m v) b n ≡ Some w
    go true e x = ap (λ c. own c n) (Memory.write_other h a b m v x) ∙ f
    go false e x = Memory.has_other_name h a b m n v p e ∙ f
keep h a m v p (Seen b n w) d f = go (Memory.clash m n) refl
  where
    go : (t : Bool) → Memory.clash m n ≡ t → FactIs (write h a m v) (Sym.unless t (Seen b n w))
    go true e = tt
    go false e = Memory.get_other_name h a b m n v p e ∙ f
keep h a m v p (Lacks b n) d f = (go (Memory.clash m n) refl d, let e = Memory.write_length h a m v in let l = f.1 in omega (arith, e, l))
  where
    go : (t : Bool) → Memory.clash m n ≡ t → Unless t (a ≢ b) → has (write h a m v) b n ≡ None
    go true e x = ap (λ c. own c n) (Memory.write_other h a b m v x) ∙ f.0
    go false e x = Memory.has_other_name h a b m n v p e ∙ f.0
keep h a m v p (Absent b n) d f = go (Memory.clash m n) refl
  where
    go : (t : Bool) → Memory.clash m n ≡ t → FactIs (write h a m v) (Sym.unless t (Absent b n))
    go true e = tt
    go false e = Changes.misses_written h a b m n v p e f
keep h a m v p (Names b ns) d f = only_names h a b m v ns p f
keep h a m v p (Link b l) d f = link_stays h a b m v l f
keep h a m v p (IsKind b k) d f = kind_stays h a b m v k f
keep h a m v p Gone d f = tt

written : (h : Heap) (a b : ℕ) (m n : Text) (v : Val) → is_length m ≡ false → a ≡ b → m ≡ n → b < length h → has (write h a m v) b n ≡ Some v
written h a b m n v p e q l = subst (λ z. has (write h a m v) z n ≡ Some v) e (subst (λ z. has (write h a m v) a z ≡ Some v) q (Memory.has_written h a m v p (subst (λ z. z < length h) (sym e) l)))

hits : (h : Heap) (a : ℕ) (m : Text) (v : Val) → is_length m ≡ false → (k : Fact) → Hit k a m → FactIs h k → FactIs (write h a m v) (Sym.hit k m v)
unfolding Hit Sym.hit
hits h a m v p (Own b n w) d f = written h a b m n v p d.0 d.1 (Memory.has_inside h b n w f)
hits h a m v p (Seen b n w) d f = tt
hits h a m v p (Lacks b n) d f = written h a b m n v p d.0 d.1 f.1
hits h a m v p (Absent b n) d f = tt
hits h a m v p (Names b ns) d f = only_names h a b m v ns p f
hits h a m v p (Link b l) d f = link_stays h a b m v l f
hits h a m v p (IsKind b k) d f = kind_stays h a b m v k f
hits h a m v p Gone d f = tt

-- ---- facts after a change

pub record Changed (h : Heap) (F : List Fact → Type 0) : Type 0 where
  pub facts : List Fact
  pub are : Facts h facts
  pub so : F facts

changes : (h h' : Heap) (H : Fact → Type 0) (f : Fact → Fact) (O : Fact → Type 0) (g : Fact → Fact) → ((k : Fact) → H k → FactIs h k → FactIs h' (f k)) → ((k : Fact) → O k → FactIs h k → FactIs h' (g k)) → (i : ℕ) (ks : List Fact) (F : List Fact → Type 0) → Facts h ks → Sym.Changes H f O g i ks F → Changed h' F
unfolding Sym.Changes
changes h h' H f O g p q i [] F fs x = record { facts = []; are = tt; so = x }
changes h h' H f O g p q zero (k ∷ ks) F fs x =
    let c = changes h h' H f O g p q (length ks) ks (λ l. F (f k ∷ l)) fs.1 x.1 in
    record { facts = f k ∷ c.facts; are = (p k x.0 fs.0, c.are); so = c.so }
changes h h' H f O g p q (suc i) (k ∷ ks) F fs x =
    let c = changes h h' H f O g p q i ks (λ l. F (g k ∷ l)) fs.1 x.1 in
    record { facts = g k ∷ c.facts; are = (q k x.0 fs.0, c.are); so = c.so }

-- the fact that the hint names is hit
hit_at : (H : Fact → Type 0) (f : Fact → Fact) (O : Fact → Type 0) (g : Fact → Fact) (i : ℕ) (ks : List Fact) (F : List Fact → Type 0) (k : Fact) → Sym.Changes H f O g i ks F → fact_at ks i ≡ Some k → H k
unfolding Sym.Changes fact_at
hit_at H f O g i [] F k x e = cc
hit_at H f O g zero (l ∷ ks) F k x e = let p : l ≡ k = cc in subst H p x.0
hit_at H f O g (suc i) (l ∷ ks) F k x e = hit_at H f O g i ks (λ m. F (g l ∷ m)) k x.1 e

pub facts_join : (h : Heap) (ks ls : List Fact) → Facts h ks → Facts h ls → Facts h (ks ++ ls)
facts_join h [] ls a b = b
facts_join h (k ∷ ks) ls a b = (a.0, facts_join h ks ls a.1 b)

more : (h : Heap) (a : ℕ) (m : Text) (v : Val) (q : Option Fact) → is_length m ≡ false → ((k : Fact) → q ≡ Some k → Hit k a m × FactIs h k) → Facts (write h a m v) (Sym.added q m v)
unfolding Hit Sym.added
more h a m v None p f = tt
more h a m v (Some (Own b n w)) p f = tt
more h a m v (Some (Seen b n w)) p f = tt
more h a m v (Some (Lacks b n)) p f = tt
more h a m v (Some (Absent b n)) p f = tt
more h a m v (Some (Names b ns)) p f = let x = f (Names b ns) refl in (written h a b m m v p x.0 refl x.1.1, tt)
more h a m v (Some (Link b l)) p f = let x = f (Link b l) refl in (written h a b m m v p x.0 refl x.1.1, tt)
more h a m v (Some (IsKind b k)) p f = let x = f (IsKind b k) refl in (written h a b m m v p x.0 refl x.1.1, tt)
more h a m v (Some Gone) p f = tt

pub writes : (h : Heap) (a : ℕ) (m : Text) (v : Val) (i : ℕ) (ks : List Fact) (F : List Fact → Type 0) → is_length m ≡ false → Facts h ks → Sym.Changes (λ k. Hit k a m) (λ k. Sym.hit k m v) (λ k. Kept k a m) (λ k. Sym.kept k m) i ks (λ l. F (l ++ Sym.added (fact_at ks i) m v)) → Changed (write h a m v) F
writes h a m v i ks F p fs x =
    let c = changes h (write h a m v) _ _ _ _ (hits h a m v p) (keep h a m v p) i ks _ fs x in
    record { facts = c.facts ++ Sym.added (fact_at ks i) m v; are = facts_join _ c.facts _ c.are (more h a m v (fact_at ks i) p (λ k e. (hit_at (λ k. Hit k a m) _ _ _ i ks _ k x e, fact_is h ks i k fs e))); so = c.so }

-- ---- a deletion

cuts : (h : Heap) (a : ℕ) (m : Text) → is_length m ≡ false → (k : Fact) → Sym.Cut k a m → FactIs h k → FactIs (erase h a m) (Sym.cut k)
unfolding Sym.Cut Sym.cut
cuts h a m p (Own b n w) d f = erased h a b m n p d.0 d.1 (Memory.has_inside h b n w f)
  where
    erased : (h : Heap) (a b : ℕ) (m n : Text) → is_length m ≡ false → a ≡ b → m ≡ n → b < length h → (has (erase h a m) b n ≡ None) × (b < length (erase h a m))
    erased h a b m n p e q l = (
      subst (λ z. has (erase h a m) z n ≡ None) e (subst (λ z. has (erase h a m) a z ≡ None) q (Changes.erase_there h a m p (subst (λ z. z < length h) (sym e) l))),
      let i = Changes.erase_length h a m in omega (arith, i, l),
    )
cuts h a m p (Seen b n w) d f = tt
cuts h a m p (Lacks b n) d f = (Changes.erase_none h a b m n f.0, let e = Changes.erase_length h a m in let l = f.1 in omega (arith, e, l))
cuts h a m p (Absent b n) d f = absurd d
cuts h a m p (Names b ns) d f = absurd d
cuts h a m p (Link b l) d f = absurd d
cuts h a m p (IsKind b k) d f = absurd d
cuts h a m p Gone d f = tt

spares : (h : Heap) (a : ℕ) (m : Text) → (k : Fact) → Sym.Spared k a m → FactIs h k → FactIs (erase h a m) (Sym.spared k m)
unfolding Sym.Spared Sym.spared Unless Sym.unless
spares h a m (Own b n w) d f = go (bytes_eq m n) refl d
  where
    go : (t : Bool) → bytes_eq m n ≡ t → Unless t (a ≢ b) → has (erase h a m) b n ≡ Some w
    go true e x = Changes.erase_other h a b m n x ∙ f
    go false e x = Changes.erase_name h a b m n e ∙ f
spares h a m (Seen b n w) d f = go (bytes_eq m n) refl
  where
    go : (t : Bool) → bytes_eq m n ≡ t → FactIs (erase h a m) (Sym.unless t (Seen b n w))
    go true e = tt
    go false e = Changes.get_erased h a b m n e ∙ f
spares h a m (Lacks b n) d f = (Changes.erase_none h a b m n f.0, let e = Changes.erase_length h a m in let l = f.1 in omega (arith, e, l))
spares h a m (Absent b n) d f = Changes.misses_erased h a b m n f
spares h a m (Names b ns) d f = (λ n l q. Changes.erase_none h a b m n (f.0 n l q), let e = Changes.erase_length h a m in let l = f.1 in omega (arith, e, l))
spares h a m (Link b l) d f = (Changes.erase_link h a b m ∙ f.0, let e = Changes.erase_length h a m in let i = f.1 in omega (arith, e, i))
spares h a m (IsKind b k) d f = (Changes.erase_kind h a b m ∙ f.0, let e = Changes.erase_length h a m in let i = f.1 in omega (arith, e, i))
spares h a m Gone d f = tt

pub erases : (h : Heap) (a : ℕ) (m : Text) (i : ℕ) (ks : List Fact) (F : List Fact → Type 0) → is_length m ≡ false → Facts h ks → Sym.Changes (λ k. Sym.Cut k a m) Sym.cut (λ k. Sym.Spared k a m) (λ k. Sym.spared k m) i ks F → Changed (erase h a m) F
erases h a m i ks F p fs x = changes h (erase h a m) _ _ _ _ (cuts h a m p) (spares h a m) i ks F fs x

-- ---- another link

links : (h : Heap) (a : ℕ) (l : Option ℕ) → (k : Fact) → Sym.Linked k a → FactIs h k → FactIs (relink h a l) (Sym.linked k l)
unfolding Sym.Linked Sym.linked
links h a l (Own b n w) d f = absurd d
links h a l (Seen b n w) d f = tt
links h a l (Lacks b n) d f = absurd d
links h a l (Absent b n) d f = tt
links h a l (Names b ns) d f = absurd d
links h a l (Link b k) d f = (
  subst (λ z. link_at (relink h a l) z ≡ l) d (Changes.relink_there h a l (subst (λ z. z < length h) (sym d) f.1)),
  let e = Changes.relink_length h a l in let i = f.1 in omega (arith, e, i),
)
links h a l (IsKind b k) d f = absurd d
links h a l Gone d f = tt

unlinks : (h : Heap) (a : ℕ) (l : Option ℕ) → (k : Fact) → Sym.Unlinked k a → FactIs h k → FactIs (relink h a l) (Sym.unlinked k)
unfolding Sym.Unlinked Sym.unlinked
unlinks h a l (Own b n w) d f = Changes.relink_has h a b l n ∙ f
unlinks h a l (Seen b n w) d f = tt
unlinks h a l (Lacks b n) d f = (Changes.relink_has h a b l n ∙ f.0, let e = Changes.relink_length h a l in let i = f.1 in omega (arith, e, i))
unlinks h a l (Absent b n) d f = tt
unlinks h a l (Names b ns) d f = (λ n i q. Changes.relink_has h a b l n ∙ f.0 n i q, let e = Changes.relink_length h a l in let i = f.1 in omega (arith, e, i))
unlinks h a l (Link b k) d f = (Changes.relink_other h a b l d ∙ f.0, let e = Changes.relink_length h a l in let i = f.1 in omega (arith, e, i))
unlinks h a l (IsKind b k) d f = (Changes.relink_kind h a b l ∙ f.0, let e = Changes.relink_length h a l in let i = f.1 in omega (arith, e, i))
unlinks h a l Gone d f = tt

pub relinks : (h : Heap) (a : ℕ) (l : Option ℕ) (i : ℕ) (ks : List Fact) (F : List Fact → Type 0) → Facts h ks → Sym.Changes (λ k. Sym.Linked k a) (λ k. Sym.linked k l) (λ k. Sym.Unlinked k a) Sym.unlinked i ks F → Changed (relink h a l) F
relinks h a l i ks F fs x = changes h (relink h a l) _ _ _ _ (links h a l) (unlinks h a l) i ks F fs x

-- ---- a new object

older : (h : Heap) (c : Cell) (k : Fact) → FactIs h k → FactIs (h ++ c ∷ []) k
older h c (Own b n w) f = Memory.has_old h c b n w f
older h c (Seen b n w) f = Memory.get_old h c b n w f
older h c (Lacks b n) f = (ap (λ x. own x n) (Memory.old_cell h c b f.1) ∙ f.0, let e = Memory.more_objects h c in let l = f.1 in omega (arith, e, l))
older h c (Absent b n) f = Changes.misses_old h c b n f
older h c (Names b ns) f = (λ n i q. ap (λ x. own x n) (Memory.old_cell h c b f.1) ∙ f.0 n i q, let e = Memory.more_objects h c in let l = f.1 in omega (arith, e, l))
older h c (Link b l) f = (ap (λ x. x.link) (Memory.old_cell h c b f.1) ∙ f.0, let e = Memory.more_objects h c in let i = f.1 in omega (arith, e, i))
older h c (IsKind b k) f = (ap (λ x. x.kind) (Memory.old_cell h c b f.1) ∙ f.0, let e = Memory.more_objects h c in let l = f.1 in omega (arith, e, l))
older h c Gone f = tt

pub facts_old : (h : Heap) (c : Cell) (ks : List Fact) → Facts h ks → Facts (h ++ c ∷ []) ks
facts_old h c [] fs = tt
facts_old h c (k ∷ ks) fs = (older h c k fs.0, facts_old h c ks fs.1)

-- its names
only_these : (c : Cell) (n : Text) → listed (map (λ p. p.0) c.properties) n ≡ false → is_length n ≡ false → own c n ≡ None
unfolding own
only_these c n i q = let x = Memory.and_false (is_array c.kind) (is_length n) q in rw x (Changes.not_listed c.properties n i)

-- the length of a new array
its_length : (h : Heap) (c : Cell) → Facts (h ++ c ∷ []) (Sym.lengths (is_array c.kind) (length h) c.array_length)
unfolding Sym.lengths own
its_length h c = go (is_array c.kind) refl
  where
    go : (t : Bool) → is_array c.kind ≡ t → Facts (h ++ c ∷ []) (Sym.lengths t (length h) c.array_length)
    go false e = tt
    go true e = (ap (λ x. own x length_name) (Memory.new_cell_is h c) ∙ ap (λ t. if t && is_length length_name then Some (Num (pos c.array_length)) else find_own c.properties length_name) e, tt)

pub facts_new : (h : Heap) (c : Cell) (ps : List (Text × Val)) → Facts (h ++ c ∷ []) (news (length h) c ps)
unfolding news
facts_new h c [] =
    let e = Memory.more_objects h c in
    let i : length h < length (h ++ c ∷ []) = omega (arith, e) in
    ((ap (λ x. x.kind) (Memory.new_cell_is h c), i), ((ap (λ x. x.link) (Memory.new_cell_is h c), i), ((λ n l q. ap (λ x. own x n) (Memory.new_cell_is h c) ∙ only_these c n l q, i), its_length h c)))
facts_new h c (p ∷ ps) = go (own c p.0) refl (facts_new h c ps)
  where
    go : (a : Option Val) → own c p.0 ≡ a → Facts (h ++ c ∷ []) (news (length h) c ps) → Facts (h ++ c ∷ []) (elim a [ Some v ↦ Own (length h) p.0 v ∷ news (length h) c ps | None ↦ news (length h) c ps ])
    go None e fs = fs
    go (Some v) e fs = (ap (λ x. own x p.0) (Memory.new_cell_is h c) ∙ e, fs)

-- ---- a new array of values

its_items : (h : Heap) (c : Cell) (vs : List Val) (i : ℕ) → ((j : ℕ) (v : Val) → slice_get vs j ≡ Some v → own c (decimal (i + j)) ≡ Some v) → Facts (h ++ c ∷ []) (Sym.items (length h) i vs)
unfolding Sym.items
its_items h c [] i f = tt
its_items h c (v ∷ vs) i f = (
  ap (λ x. own x (decimal i)) (Memory.new_cell_is h c) ∙ (ap (λ k. own c (decimal k)) {x = i} {y = i + 0} (omega arith) ∙ f 0 v refl),
  its_items h c vs (i + 1) (λ j w e. ap (λ k. own c (decimal k)) {x = i + 1 + j} {y = i + suc j} (omega arith) ∙ f (suc j) w e),
)

pub facts_array : (h : Heap) (vs : List Val) → Facts (h ++ array_of (Arrays.somes vs) ∷ []) (Sym.items (length h) 0 vs ++ Sym.listing (length h) vs)
unfolding Sym.listing Sym.lengths
facts_array h vs =
    let c = array_of (Arrays.somes vs) in
    let e = Memory.more_objects h c in
    let i : length h < length (h ++ c ∷ []) = omega (arith, e) in
    facts_join (h ++ c ∷ []) (Sym.items (length h) 0 vs) (Sym.listing (length h) vs)
    (its_items h c vs 0 (λ j v e. ap (λ k. own c (decimal k)) {x = 0 + j} {y = j} (omega arith) ∙ Arrays.array_item vs j v e))
    ((ap (λ x. x.kind) (Memory.new_cell_is h c) ∙ Arrays.filled_kind vs (new_cell Array (Some array_prototype)) 0, i), ((ap (λ x. x.link) (Memory.new_cell_is h c) ∙ Arrays.filled_link vs (new_cell Array (Some array_prototype)) 0, i), go (nat_le (length vs) index_end) refl))
  where
    go : (t : Bool) → nat_le (length vs) index_end ≡ t → Facts (h ++ array_of (Arrays.somes vs) ∷ []) (Sym.lengths t (length h) (length vs))
    go false q = tt
    go true q = (ap (λ x. own x length_name) (Memory.new_cell_is h (array_of (Arrays.somes vs))) ∙ Arrays.array_length_is vs (leb-true (length vs) index_end q), tt)

-- ---- variables

pub known_value : (free : Bool) (a : Activation) (x : Text) (v : Val) → value_by free a x ≡ Some v → value_in a x ≡ Some v
known_value true a x v e = ap (λ b. first b (λ u. find_own a.constants x)) e
known_value false a x v e = e

pub record Found (S : Records) (r o : ℕ) (x : Text) (u : Outer) : Type 0 where
  pub name : u.name ≡ x
  pub is : IsOuter S o u
  pub away : u.at ≢ r

pub find_outer : (S : Records) (r o : ℕ) (us : List Outer) (x : Text) (u : Outer) → Outers S o us → Away r us → outer_at us x ≡ Some u → Found S r o x u
unfolding outer_at
find_outer S r o [] x u k a e = cc
find_outer S r o (w ∷ us) x u k a e = go (bytes_eq w.name x) refl e (λ f. find_outer S r o us x u k.1 a.1 f)
  where
    go : (t : Bool) → bytes_eq w.name x ≡ t → (if t then Some w else outer_at us x) ≡ Some u → (outer_at us x ≡ Some u → Found S r o x u) → Found S r o x u
    go true q f ih = let p : w ≡ u = cc in subst (Found S r o x) p (record { name = Memory.eq_of w.name x q; is = k.0; away = a.0 })
    go false q f ih = ih f

pub outers_kept : (S S' : Records) (r o : ℕ) (us : List Outer) → AllAlike S' S → ((b : ℕ) → b ≢ r → record_at S' b ≡ record_at S b) → Away r us → Outers S o us → Outers S' o us
unfolding bound_from
outers_kept S S' r o [] a e w k = tt
outers_kept S S' r o (u ∷ us) a e w k = ((Memory.bindings_alike (suc o) S' S (Some o) u.name a ∙ k.0.0, ap (λ z. value_by u.free z u.name) (e u.at w.0) ∙ k.0.1), outers_kept S S' r o us a e w.1 k.1)

pub away_same : (r : ℕ) (us : List Outer) (x : Text) (v : Val) → Away r us → Away r (rewritten us x v)
unfolding rewritten
away_same r [] x v a = tt
away_same r (u ∷ us) x v a = (go (bytes_eq u.name x), away_same r us x v a.1)
  where
    go : (t : Bool) → (if t then record u { val = v } else u).at ≢ r
    go true = a.0
    go false = a.0

pub away_revalued : (r : ℕ) (us : List Outer) (vs : List Val) → Away r us → Away r (revalued us vs)
unfolding revalued
away_revalued r [] vs a = tt
away_revalued r (u ∷ us) [] a = tt
away_revalued r (u ∷ us) (v ∷ vs) a = (a.0, away_revalued r us vs a.1)

module _ (R : Records) (r o : ℕ) (ps : Frame) (within : r < length R) (below : o < r) where
  abbrev S : Records
  S = set_record R r (act o ps)

  pub long : length (S) ≡ length R
  long = length-set R r _

  pub top : record_at (S) r ≡ act o ps
  top = Memory.record_set R r (act o ps) within

  pub own_binding : (x : Text) (v : Val) → find_own ps x ≡ Some v → binding (S) r x ≡ Some r
  unfolding binding binding_by
  own_binding x v e =
      let l = long in
      ap (λ n. binding_by n (S) (Some r) x) {x = length (S)} {y = suc (length R - 1)} (omega (arith, l, within))
      ∙ (ap (λ a. if binds a x then Some r else binding_by (length R - 1) (S) (record_at (S) r).outer x) top
      ∙ ap (λ f. if is_some f || is_some (find_own [] x) then Some r else binding_by (length R - 1) (S) (record_at (S) r).outer x) e)

  pub own_value : (x : Text) (v : Val) → find_own ps x ≡ Some v → value_in (record_at (S) r) x ≡ Some v
  own_value x v e = ap (λ a. value_in a x) top ∙ ap (λ f. first f (λ u. find_own [] x)) e

  pub far_binding : (x : Text) (b : ℕ) → find_own ps x ≡ None → bound_from (S) o x ≡ Some b → binding (S) r x ≡ Some b
  unfolding binding binding_by bound_from find_own
  far_binding x b e f =
      let l = long in
      let more : binding_by (length R - 1) (S) (Some o) x ≡ Some b = ap (λ n. binding_by n (S) (Some o) x) {x = length R - 1} {y = suc o + (length R - 1 - suc o)} (omega (arith, within, below)) ∙ Memory.binding_more (suc o) (length R - 1 - suc o) (S) (Some o) x b f in
      ap (λ n. binding_by n (S) (Some r) x) {x = length (S)} {y = suc (length R - 1)} (omega (arith, l, within))
      ∙ (ap (λ a. if binds a x then Some r else binding_by (length R - 1) (S) a.outer x) top
      ∙ (ap (λ f. if is_some f || false then Some r else binding_by (length R - 1) (S) (Some o) x) e ∙ more))

  pub own_store : (x : Text) (v : Val) → set_record (S) r (with_variable (record_at (S) r) x v) ≡ set_record R r (act o (with_property ps x v))
  own_store x v = ap (λ a. set_record (S) r (with_variable a x v)) top ∙ set-set R r (act o ps) (act o (with_property ps x v))

  pub own_alike : (x : Text) (v w : Val) → find_own ps x ≡ Some w → AllAlike (set_record R r (act o (with_property ps x v))) (S)
  own_alike x v w e = subst (λ Z. AllAlike Z (S)) (own_store x v)
      (Memory.set_alike (S) r (with_variable (record_at (S) r) x v) (Memory.written_alike (record_at (S) r) x v w (ap (λ a. find_own a.variables x) top ∙ e)))

  pub own_apart : (x : Text) (v : Val) (b : ℕ) → b ≢ r → record_at (set_record R r (act o (with_property ps x v))) b ≡ record_at (S) b
  own_apart x v b d = Memory.record_other R r b _ d ∙ sym (Memory.record_other R r b (act o ps) d)

  pub far_store : (x : Text) (v : Val) (b : ℕ) → b ≢ r → set_record (S) b (with_variable (record_at (S) b) x v) ≡ set_record (assign R b x v) r (act o ps)
  unfolding assign
  far_store x v b d = ap (λ a. set_record (S) b (with_variable a x v)) (Memory.record_other R r b (act o ps) d) ∙ set_comm R r b _ _ (λ e. d (sym e))

-- the outer variables after a write to one of them
pub outers_written : (S : Records) (o b : ℕ) (x : Text) (v w : Val) (us : List Outer) → bound_from S o x ≡ Some b → find_own (record_at S b).variables x ≡ Some w → b < length S → Outers S o us → Outers (set_record S b (with_variable (record_at S b) x v)) o (rewritten us x v)
unfolding rewritten bound_from
outers_written S o b x v w [] e f l k = tt
outers_written S o b x v w (u ∷ us) e f l k = (go (bytes_eq u.name x) refl, outers_written S o b x v w us e f l k.1)
  where
    bound : (y : Text) (c : ℕ) → binding_by (suc o) S (Some o) y ≡ Some c → binding_by (suc o) (set_record S b (with_variable (record_at S b) x v)) (Some o) y ≡ Some c
    bound y c q = Memory.bindings_alike (suc o) _ S (Some o) y (Memory.set_alike S b _ (Memory.written_alike (record_at S b) x v w f)) ∙ q

    new_value : (free : Bool) → value_by free (with_variable (record_at S b) x v) x ≡ Some v
    new_value true = find_written (record_at S b).variables x v
    new_value false = ap (λ z. first z (λ t. find_own (record_at S b).constants x)) (find_written (record_at S b).variables x v)

    other_value : (free : Bool) → bytes_eq u.name x ≡ false → value_by free (with_variable (record_at S b) x v) u.name ≡ value_by free (record_at S b) u.name
    other_value true q = find_other (record_at S b).variables x u.name v (λ p. Memory.differ u.name x q (sym p))
    other_value false q = ap (λ z. first z (λ t. find_own (record_at S b).constants u.name)) (find_other (record_at S b).variables x u.name v (λ p. Memory.differ u.name x q (sym p)))

    go : (t : Bool) → bytes_eq u.name x ≡ t → IsOuter (set_record S b (with_variable (record_at S b) x v)) o (if t then record u { val = v } else u)
    go true q =
        let n = Memory.eq_of u.name x q in
        let same : u.at ≡ b = (let z : Some u.at ≡ Some b = sym k.0.0 ∙ (ap (λ y. binding_by (suc o) S (Some o) y) n ∙ e) in cc) in (
          bound u.name u.at k.0.0,
          ap (λ c. value_by u.free (record_at (set_record S b (with_variable (record_at S b) x v)) c) u.name) same
              ∙ (ap (λ c. value_by u.free c u.name) (Memory.record_set S b _ l) ∙ (ap (λ y. value_by u.free (with_variable (record_at S b) x v) y) n ∙ new_value u.free)),
        )
    go false q = (
      bound u.name u.at k.0.0,
      ⊎_elim
          (λ (same : u.at ≡ b). ap (λ c. value_by u.free (record_at (set_record S b (with_variable (record_at S b) x v)) c) u.name) same ∙ (ap (λ c. value_by u.free c u.name) (Memory.record_set S b _ l) ∙ (other_value u.free q ∙ (ap (λ c. value_by u.free (record_at S c) u.name) (sym same) ∙ k.0.1))))
          (λ (d : u.at ≢ b). ap (λ c. value_by u.free c u.name) (Memory.record_other S b u.at _ d) ∙ k.0.1)
          (Memory.same_or_not u.at b),
    )

-- ---- reads and writes as runs

pub name_read : (r : ℕ) (s : State) (x : Text) (b : ℕ) (v : Val) (k : Completion → Task) (g : ℕ) → binding s.records r x ≡ Some b → value_in (record_at s.records b) x ≡ Some v → look g (read_name r x >>= k) s ≡ look g (k (Normal v)) s
unfolding run walk moments moments_by read_name ◌>>=◌
name_read r s x b v k g e f = ap (λ z. look g (read_bound s.records z x >>= k) s) e ∙ ap (λ z. look g (k (Normal (or_undefined z))) s) f

pub name_written : (r : ℕ) (s : State) (x : Text) (b : ℕ) (v w : Val) (k : Completion → Task) (g : ℕ) → binding s.records r x ≡ Some b → find_own (record_at s.records b).variables x ≡ Some w →
    look g (write_name r x v >>= k) s ≡ look g (k (Normal v)) (record s { records = set_record s.records b (with_variable (record_at s.records b) x v) })
unfolding run walk moments moments_by write_name ◌>>=◌
name_written r s x b v w k g e f = ap (λ z. look g (write_bound s.records z x v >>= k) s) e ∙ ap (λ z. look g ((if is_some z then Store b (with_variable (record_at s.records b) x v) (gives v) else type_error (codes "not writable")) >>= k) s) f

pub property_written : (p : Pos) (s : State) (a : ℕ) (m : Text) (v : Val) (k : Completion → Task) (g : ℕ) → is_length m ≡ false → look g (write_property p (Obj a) m v >>= k) s ≡ look g (k (Normal v)) (record s { heap = write s.heap a m v })
unfolding run walk moments moments_by write_property write ◌>>=◌
property_written p s a m v k g e = ap (λ z. look g ((if z then Set a (put (cell_at s.heap a) m v) (gives v) else Leaves Conversion p) >>= k) s) (fine (is_array (cell_at s.heap a).kind))
  where
    fine : (t : Bool) → (not (t && is_length m) || is_some (as_length (natural_of v))) ≡ true
    fine true = ap (λ z. not z || is_some (as_length (natural_of v))) e
    fine false = refl

pub property_erased : (s : State) (a : ℕ) (m : Text) (k : Completion → Task) (g : ℕ) → is_length m ≡ false → look g (delete_property (Obj a) m >>= k) s ≡ look g (k (Normal (Truth true))) (record s { heap = erase s.heap a m })
unfolding run walk moments moments_by delete_property erase ◌>>=◌
property_erased s a m k g e = ap (λ z. look g ((if z then type_error (codes "not deletable") else Set a (delete (cell_at s.heap a) m) (gives (Truth true))) >>= k) s) (Memory.and_false (is_array (cell_at s.heap a).kind) (is_length m) e)

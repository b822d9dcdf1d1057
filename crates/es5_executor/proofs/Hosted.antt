-- The executor is right for calls of intrinsic functions that it runs by their rows.
use Rattle.std.proofs.Common.{◌≡◌, ℕ, Bool, true, false, ◌||◌, not, if◌then◌else◌, List, [], ◌∷◌, ◌++◌, Option, Some, None, is_some, nat_eq, pos, slice_get, slice_index, slice_range, codes, refl, sym, ap, subst, ◌∙◌, arith}
use Rattle.opal_base.specs.declared.place.Pos.{Pos}
use Rattle.opal_base.specs.Shown.{Wrote}
use Rattle.es5_tree.specs.Values.{Text, Val, Undefined, Null, Truth, Num, Str, Obj}
use Rattle.es5_tree.specs.Ends as leave
use Rattle.es5_tree.specs.Objects.Cells.{Kind, Object, Array, Arguments, Function, Host, Record, is_array, new_cell}
use Rattle.es5_tree.specs.Objects.Links.{cell_at, link_at, in_chain, with_link}
use Rattle.es5_tree.specs.Intrinsics.Calls.{HostFn}
use Rattle.es5_tree.specs.Intrinsics.Calls as host
use Rattle.es5_tree.specs.Intrinsics.Rows.{Gives, Sets, Makes, Throws, row, link_of, link_value, or_type_error, linked, where_true, passed_on, covered, is_passed_on}
use Rattle.es5_evaluation.specs.Task.{Completion, Normal, Task, Leaves, Look, Print, ◌>>=◌, walk}
use Rattle.es5_evaluation.specs.Evaluate.{Call, host_functions, host_task, invoke, invoke_kind, passed, row_task}
use Rattle.es5_evaluation.specs.Run.{run}
use Rattle.es5_rules.specs.Moments.{moments, moments_by}
use Rattle.es5_rules.proofs.Steps.{steps_print}
use Rattle.es5_executor.specs.Runs.{Gave, look}
use Rattle.es5_executor.specs.Memory.{has, relink}
use Rattle.es5_executor.proofs.Runs.{silent, silently}
use Rattle.es5_executor.proofs.Changes
use Rattle.es5_executor.proofs.Sym
use Rattle.es5_executor.proofs.Sym.{Fact, Own, Seen, Lacks, Absent, Names, Link, IsKind, Gone, fact_at, Here, Cont, KindAt, Hinted, here}
use Rattle.es5_executor.proofs.Sound
use Rattle.es5_executor.proofs.Right
use Rattle.es5_executor.proofs.Right.{Sit, at, Code', real, Valid, Reached}

-- a kind of an intrinsic function, which is known
pub record Known (k : Kind) (F : ℕ → HostFn → Here) (σ : Sit) : Type 0 where
  pub number : ℕ
  pub which : HostFn
  pub is : k ≡ Host number
  pub listed : slice_get host_functions number ≡ Some which
  pub so : at (F number which) σ

pub intrinsic_is : (r o : ℕ) (this : Val) (k : Kind) (F : ℕ → HostFn → Here) (σ : Sit) → at (Sym.intrinsic r o this k F) σ → Known k F σ
unfolding Sym.intrinsic Sym.found Sym.No
intrinsic_is r o this (Host j) F σ x = go (slice_get host_functions j) refl x
  where
    go : (w : Option HostFn) → slice_get host_functions j ≡ w → at (Sym.found r o this w (F j)) σ → Known (Host j) F σ
    go None e y = absurd y
    go (Some which) e y = record { number = j; which = which; is = refl; listed = e; so = y }
intrinsic_is r o this Object F σ x = absurd x
intrinsic_is r o this Array F σ x = absurd x
intrinsic_is r o this Arguments F σ x = absurd x
intrinsic_is r o this (Function c a) F σ x = absurd x
intrinsic_is r o this (Record a) F σ x = absurd x

module _ (r o : ℕ) (this : Val) where
  -- by the fact of a kind
  pub kinds : (a i : ℕ) (T : Code') (F : Kind → Here) (K : Cont) (σ : Sit) → Valid r o σ → at (Sym.kind_by i a F) σ → ((k : Kind) → (cell_at σ.heap a).kind ≡ k → at (F k) σ → Reached r o T K σ) → Reached r o T K σ
  unfolding Sym.kind_by KindAt
  kinds a i T F K σ v x f = go (fact_at σ.facts i) refl x
    where
      go : (q : Option Fact) → fact_at σ.facts i ≡ q → at (KindAt q a F) σ → Reached r o T K σ
      go None e y = absurd y
      go (Some (Own b n w)) e y = absurd y
      go (Some (Seen b n w)) e y = absurd y
      go (Some (Lacks b n)) e y = absurd y
      go (Some (Absent b n)) e y = absurd y
      go (Some (Names b ns)) e y = absurd y
      go (Some (Link b l)) e y = absurd y
      go (Some (IsKind b k)) e y = f k (ap (λ z. (cell_at σ.heap z).kind) y.0 ∙ (Sound.fact_is σ.heap σ.facts i (IsKind b k) v.facts e).0) y.1
      go (Some Gone) e y = absurd y

  -- by the fact of a link
  links : (a i : ℕ) (T : Code') (F : Option ℕ → Here) (K : Cont) (σ : Sit) → Valid r o σ → at (Sym.link_by i a F) σ → ((l : Option ℕ) → link_at σ.heap a ≡ l → at (F l) σ → Reached r o T K σ) → Reached r o T K σ
  unfolding Sym.link_by Sym.LinkAt
  links a i T F K σ v x f = go (fact_at σ.facts i) refl x
    where
      go : (q : Option Fact) → fact_at σ.facts i ≡ q → at (Sym.LinkAt q a F) σ → Reached r o T K σ
      go None e y = absurd y
      go (Some (Own b n w)) e y = absurd y
      go (Some (Seen b n w)) e y = absurd y
      go (Some (Lacks b n)) e y = absurd y
      go (Some (Absent b n)) e y = absurd y
      go (Some (Names b ns)) e y = absurd y
      go (Some (Link b l)) e y = f l (ap (link_at σ.heap) y.0 ∙ (Sound.fact_is σ.heap σ.facts i (Link b l) v.facts e).0) y.1
      go (Some (IsKind b k)) e y = absurd y
      go (Some Gone) e y = absurd y

  -- by a fact that tells whether there is an own property
  owners : (a : ℕ) (m : Text) (i : ℕ) (T : Code') (F : Bool → Here) (K : Cont) (σ : Sit) → Valid r o σ → at (Sym.owns_by i a m F) σ → ((b : Bool) → is_some (has σ.heap a m) ≡ b → at (F b) σ → Reached r o T K σ) → Reached r o T K σ
  unfolding Sym.owns_by Sym.OwnsAt
  owners a m i T F K σ v x f = go (fact_at σ.facts i) refl x
    where
      go : (q : Option Fact) → fact_at σ.facts i ≡ q → at (Sym.OwnsAt q a m F) σ → Reached r o T K σ
      go None e y = absurd y
      go (Some (Own b n w)) e y = f true (ap is_some (subst (λ z. has σ.heap a z ≡ Some w) (sym y.1) (subst (λ z. has σ.heap z n ≡ Some w) (sym y.0) (Sound.fact_is σ.heap σ.facts i (Own b n w) v.facts e)))) y.2
      go (Some (Seen b n w)) e y = absurd y
      go (Some (Lacks b n)) e y = f false (ap is_some (subst (λ z. has σ.heap a z ≡ None) (sym y.1) (subst (λ z. has σ.heap z n ≡ None) (sym y.0) (Sound.fact_is σ.heap σ.facts i (Lacks b n) v.facts e).0))) y.2
      go (Some (Absent b n)) e y = f false (ap is_some (subst (λ z. has σ.heap a z ≡ None) (sym y.1) (subst (λ z. has σ.heap z n ≡ None) (sym y.0) (Changes.misses_own σ.heap b n (Sound.fact_is σ.heap σ.facts i (Absent b n) v.facts e))))) y.2
      go (Some (Names b ns)) e y = f false (ap is_some (subst (λ z. has σ.heap z m ≡ None) (sym y.0) ((Sound.fact_is σ.heap σ.facts i (Names b ns) v.facts e).0 m y.1 y.2))) y.3
      go (Some (Link b l)) e y = absurd y
      go (Some (IsKind b k)) e y = absurd y
      go (Some Gone) e y = absurd y

  -- ---- rows

  -- what the row of an intrinsic function says is done
  abbrev pub task : Call → Pos → HostFn → Val → List Val → Code'
  task call p which that vs k = Look (λ s. row_task call p (row which s.heap s.lines that vs) >>= k)

  by_gives : (call : Call) (p : Pos) (which : HostFn) (that : Val) (vs : List Val) (v : Val) (K : Cont) (σ : Sit) → Valid r o σ → row which σ.heap σ.rest.lines that vs ≡ Gives v → at (K (Gave (Normal v))) σ → Reached r o (task call p which that vs) K σ
  unfolding row_task run walk moments moments_by ◌>>=◌
  by_gives call p which that vs v K σ u e y = Right.stepped r o _ (Gave (Normal v)) K σ σ (λ k g. ap (λ z. look g (row_task call p z >>= k) (real r o σ)) e) refl refl u y

  by_throws : (call : Call) (p : Pos) (which : HostFn) (that : Val) (vs : List Val) (message : Text) (K : Cont) (σ : Sit) → Valid r o σ → row which σ.heap σ.rest.lines that vs ≡ Throws message → at (Sym.raised message K) σ → Reached r o (task call p which that vs) K σ
  unfolding row_task run walk moments moments_by ◌>>=◌
  by_throws call p which that vs message K σ u e y = Right.as_code r o _ _ K σ (λ k g. ap (λ z. look g (row_task call p z >>= k) (real r o σ)) e) (Right.raised_right r o message K σ u y)

  by_makes : (call : Call) (p : Pos) (which : HostFn) (that : Val) (vs : List Val) (l : Option ℕ) (K : Cont) (σ : Sit) → Valid r o σ → row which σ.heap σ.rest.lines that vs ≡ Makes (new_cell Object l) → at (Sym.make (new_cell Object l) K) σ → Reached r o (task call p which that vs) K σ
  unfolding row_task run walk moments moments_by ◌>>=◌
  by_makes call p which that vs l K σ u e y = Right.as_code r o _ _ K σ (λ k g. ap (λ z. look g (row_task call p z >>= k) (real r o σ)) e) (Right.make_right r o (new_cell Object l) K σ u y)

  by_sets : (call : Call) (p : Pos) (which : HostFn) (that : Val) (vs : List Val) (a : ℕ) (l : Option ℕ) (i : ℕ) (K : Cont) (σ : Sit) → Valid r o σ → (in_chain σ.heap a l ≡ false → row which σ.heap σ.rest.lines that vs ≡ Sets (Obj a) a (with_link (cell_at σ.heap a) l)) → at (Sym.link_at_by i a l (K (Gave (Normal (Obj a))))) σ → Reached r o (task call p which that vs) K σ
  unfolding Sym.link_at_by row_task relink run walk moments moments_by ◌>>=◌
  by_sets call p which that vs a l i K σ u e y =
      let g = Sound.relinks σ.heap a l i σ.facts (λ f. at (K (Gave (Normal (Obj a)))) (record σ { heap = relink σ.heap a l; facts = f })) u.facts y.1 in
      let σ1 = record σ { heap = relink σ.heap a l; facts = g.facts } in
      Right.stepped r o _ (Gave (Normal (Obj a))) K σ σ1 (λ k j. ap (λ z. look j (row_task call p z >>= k) (real r o σ)) (e y.0)) refl refl
      (record { within = u.within; below = u.below; facts = g.are; outers = u.outers; away = u.away }) g.so

  by_writes : (call : Call) (p : Pos) (that : Val) (t : Text) (K : Cont) (σ : Sit) → Valid r o σ → at (K (Gave (Normal Undefined))) (record σ { rest = record { codes = σ.rest.codes; lines = σ.rest.lines; calls = Wrote t ∷ σ.rest.calls; seen = σ.rest.seen ++ real r o σ ∷ [] } }) → Reached r o (task call p host.Write that (Str t ∷ [])) K σ
  unfolding row_task run walk moments moments_by ◌>>=◌
  by_writes call p that t K σ u y = record {
    units = 0;
    seen = real r o σ ∷ [];
    end = Gave (Normal Undefined);
    sit = record σ { rest = record { codes = σ.rest.codes; lines = σ.rest.lines; calls = Wrote t ∷ σ.rest.calls; seen = σ.rest.seen ++ real r o σ ∷ [] } };
    leads = λ k. silently (silent (task call p host.Write that (Str t ∷ []) k) (Print t (k (Normal Undefined))) (real r o σ) (real r o σ) (λ g. refl)) (steps_print t (k (Normal Undefined)) (real r o σ));
    valid = record { within = u.within; below = u.below; facts = u.facts; outers = u.outers; away = u.away };
    count = omega arith;
    sees = refl;
    so = y;
  }

  created_right : (call : Call) (p : Pos) (that v : Val) → Right.Right r o (task call p host.Create that (v ∷ [])) (Sym.created r o this (link_of v))
  unfolding Sym.created
  created_right call p that v K σ u x = go (link_of v) refl x
    where
      go : (l : Option (Option ℕ)) → link_of v ≡ l → at (Sym.created r o this l K) σ → Reached r o (task call p host.Create that (v ∷ [])) K σ
      go None e y = by_throws call p host.Create that (v ∷ []) (codes "not an object") K σ u (ap (λ z. or_type_error z (λ link. Makes (new_cell Object link))) e) y
      go (Some l) e y = by_makes call p host.Create that (v ∷ []) l K σ u (ap (λ z. or_type_error z (λ link. Makes (new_cell Object link))) e) y

  linking_right : (call : Call) (p : Pos) (that : Val) (a : ℕ) (v : Val) → Right.Right r o (task call p host.SetPrototypeOf that (Obj a ∷ v ∷ [])) (Sym.linking r o this a (link_of v))
  unfolding Sym.linking
  linking_right call p that a v K σ u x = go (link_of v) refl x
    where
      go : (l : Option (Option ℕ)) → link_of v ≡ l → at (Sym.linking r o this a l K) σ → Reached r o (task call p host.SetPrototypeOf that (Obj a ∷ v ∷ [])) K σ
      go None e y = by_throws call p host.SetPrototypeOf that (Obj a ∷ v ∷ []) (codes "not an object") K σ u (ap (λ z. or_type_error z (λ link. linked (in_chain σ.heap a link) σ.heap a link)) e) y
      go (Some l) e y = Right.hinted_here r o _ _ K σ y (λ i hs z.
          by_sets call p host.SetPrototypeOf that (Obj a ∷ v ∷ []) a l i K (record σ { hints = hs }) (Right.fewer r o σ hs u)
          (λ c. ap (λ z. or_type_error z (λ link. linked (in_chain σ.heap a link) σ.heap a link)) e ∙ ap (λ b. linked b σ.heap a l) c) z)

  array_test : (k : Kind) (a : ℕ) → is_some (if is_array k then Some a else None) ≡ is_array k
  array_test k a = go (is_array k)
    where
      go : (b : Bool) → is_some (if b then Some a else None) ≡ b
      go true = refl
      go false = refl

  arrays_right : (call : Call) (p : Pos) (that v : Val) → Right.Right r o (task call p host.IsArray that (v ∷ [])) (Sym.arrays r o this v)
  unfolding Sym.arrays
  arrays_right call p that (Obj a) K σ u x = Right.hinted_here r o _ _ K σ x (λ i hs y. kinds a i _ _ K (record σ { hints = hs }) (Right.fewer r o σ hs u) y (λ k e z.
      by_gives call p host.IsArray that (Obj a ∷ []) (Truth (is_array k)) K (record σ { hints = hs }) (Right.fewer r o σ hs u) (ap (λ q. Gives (Truth (is_some (if is_array q then Some a else None)))) e ∙ ap (λ b. Gives (Truth b)) (array_test k a)) z))
  arrays_right call p that Undefined K σ u x = by_gives call p host.IsArray that (Undefined ∷ []) (Truth false) K σ u refl x
  arrays_right call p that Null K σ u x = by_gives call p host.IsArray that (Null ∷ []) (Truth false) K σ u refl x
  arrays_right call p that (Truth b) K σ u x = by_gives call p host.IsArray that (Truth b ∷ []) (Truth false) K σ u refl x
  arrays_right call p that (Num z) K σ u x = by_gives call p host.IsArray that (Num z ∷ []) (Truth false) K σ u refl x
  arrays_right call p that (Str t) K σ u x = by_gives call p host.IsArray that (Str t ∷ []) (Truth false) K σ u refl x

  -- ---- each function that is run so

  pub hosted_right : (call : Call) (p : Pos) (which : HostFn) (that : Val) (vs : List Val) → Right.Right r o (task call p which that vs) (Sym.hosted r o this which that vs)
  unfolding Sym.hosted Sym.Holds Sym.prints
  hosted_right call p host.Create that (v ∷ []) K σ u x = created_right call p that v K σ u x
  hosted_right call p host.GetPrototypeOf that (Obj a ∷ []) K σ u x = Right.hinted_here r o _ _ K σ x (λ i hs y. links a i _ _ K (record σ { hints = hs }) (Right.fewer r o σ hs u) y (λ l e z.
      by_gives call p host.GetPrototypeOf that (Obj a ∷ []) (link_value l) K (record σ { hints = hs }) (Right.fewer r o σ hs u) (ap (λ q. Gives (link_value q)) e) z))
  hosted_right call p host.SetPrototypeOf that (Obj a ∷ v ∷ []) K σ u x = linking_right call p that a v K σ u x
  hosted_right call p host.HasOwnProperty (Obj a) (Str m ∷ []) K σ u x = Right.hinted_here r o _ _ K σ x (λ i hs y. owners a m i _ _ K (record σ { hints = hs }) (Right.fewer r o σ hs u) y (λ b e z.
      by_gives call p host.HasOwnProperty (Obj a) (Str m ∷ []) (Truth b) K (record σ { hints = hs }) (Right.fewer r o σ hs u) (ap (λ q. Gives (Truth q)) e) z))
  hosted_right call p host.IsArray that (v ∷ []) K σ u x = arrays_right call p that v K σ u x
  hosted_right call p host.CharCodeAt (Str t) (Num (pos i) ∷ []) K σ u x = by_gives call p host.CharCodeAt (Str t) (Num (pos i) ∷ []) (Num (pos (slice_index t i))) K σ u (ap (λ b. where_true b (Gives (Num (pos (slice_index t i))))) x.0) x.1
  hosted_right call p host.Substring (Str t) (Num (pos i) ∷ Num (pos j) ∷ []) K σ u x = by_gives call p host.Substring (Str t) (Num (pos i) ∷ Num (pos j) ∷ []) (Str (slice_range t i j)) K σ u (ap (λ b. where_true b (Gives (Str (slice_range t i j)))) x.0) x.1
  hosted_right call p host.FromCharCode that (Num (pos i) ∷ []) K σ u x = by_gives call p host.FromCharCode that (Num (pos i) ∷ []) (Str (i ∷ [])) K σ u (ap (λ b. where_true b (Gives (Str (i ∷ [])))) x.0) x.1
  hosted_right call p host.Write that (Str t ∷ []) K σ u x = by_writes call p that t K σ u x
  hosted_right call p which that vs K σ u x = Right.never r o _ K σ u x

  -- ---- `call` of one

  abbrev stopped : Pos → Call
  stopped p f that vs = Leaves leave.Host p

  passes : (p : Pos) (g j : ℕ) (which : HostFn) (that : Val) (vs : List Val) (σ : Sit) → (cell_at σ.heap g).kind ≡ Host j → slice_get host_functions j ≡ Some which → (nat_eq j 5 || nat_eq j 6) ≡ false → (k : Completion → Task) (i : ℕ) →
      look i (task (passed p) p host.Call (Obj g) (that ∷ vs) k) (real r o σ) ≡ look i (task (stopped p) p which that vs k) (real r o σ)
  unfolding row_task passed run walk moments moments_by ◌>>=◌
  passes p g j which that vs σ e l n k i =
      ap (λ q. look i (row_task (passed p) p (covered (if is_passed_on q then Some g else None) (λ f. passed_on f (that ∷ vs))) >>= k) (real r o σ)) e
      ∙ ap (λ b. look i (row_task (passed p) p (covered (if not b then Some g else None) (λ f. passed_on f (that ∷ vs))) >>= k) (real r o σ)) n
      ∙ ap (λ q. look i (invoke_kind (stopped p) p q (real r o σ) g that vs >>= k) (real r o σ)) e
      ∙ ap (λ w. look i (host_task (stopped p) p w (real r o σ) that vs >>= k) (real r o σ)) l

  pub passing_right : (p : Pos) (which : HostFn) (that : Val) (vs : List Val) → Right.Right r o (task (passed p) p which that vs) (Sym.passing r o this which that vs)
  unfolding Sym.passing Sym.Fails
  passing_right p host.Call (Obj g) (that ∷ vs) K σ u x = Right.hinted_here r o _ _ K σ x (λ i hs y. kinds g i _ _ K (record σ { hints = hs }) (Right.fewer r o σ hs u) y (λ k e z.
      let f = intrinsic_is r o this k _ (record σ { hints = hs }) z in
      Right.as_code r o _ (task (stopped p) p f.which that vs) K (record σ { hints = hs }) (passes p g f.number f.which that vs (record σ { hints = hs }) (e ∙ f.is) f.listed f.so.0)
      (hosted_right (stopped p) p f.which that vs K (record σ { hints = hs }) (Right.fewer r o σ hs u) f.so.1)))
  passing_right p which that vs K σ u x = hosted_right (passed p) p which that vs K σ u x

  called : (p : Pos) (f j : ℕ) (which : HostFn) (that : Val) (vs : List Val) (σ : Sit) → (cell_at σ.heap f).kind ≡ Host j → slice_get host_functions j ≡ Some which → (k : Completion → Task) (i : ℕ) →
      look i (invoke p (Obj f) that vs >>= k) (real r o σ) ≡ look i (task (passed p) p which that vs k) (real r o σ)
  unfolding invoke run walk moments moments_by ◌>>=◌
  called p f j which that vs σ e l k i =
      ap (λ q. look i (invoke_kind (passed p) p q (real r o σ) f that vs >>= k) (real r o σ)) e
      ∙ ap (λ w. look i (host_task (passed p) p w (real r o σ) that vs >>= k) (real r o σ)) l

  pub by_row_right : (p : Pos) (i f : ℕ) (that : Val) (vs : List Val) → Right.Right r o (λ k. invoke p (Obj f) that vs >>= k) (Sym.by_row r o this i (Obj f) that vs)
  unfolding Sym.by_row
  by_row_right p i f that vs K σ u x = kinds f i _ _ K σ u x (λ k e z.
      let g = intrinsic_is r o this k _ σ z in
      Right.as_code r o _ (task (passed p) p g.which that vs) K σ (called p f g.number g.which that vs σ (e ∙ g.is) g.listed) (passing_right p g.which that vs K σ u g.so))

-- The executor is right for each node.
use Rattle.std.proofs.Common.{◌≡◌, ℕ, zero, suc, Bool, true, false, not, List, [], ◌∷◌, ◌++◌, Option, Some, None, refl, sym, ap, subst, ◌∙◌, codes}
use Rattle.opal_base.specs.declared.place.Pos.{Pos}
use Rattle.std.proofs.Math.Path.{fun_ext}
use Rattle.es5_tree.specs.Ends.{OutKind}
use Rattle.es5_tree.specs.declared.tree.Catch.{Catch}
use Rattle.es5_tree.specs.declared.tree.EsExpr.{EsExpr}
use Rattle.es5_tree.specs.declared.tree.EsStmt.{EsStmt, out-EsStmt}
use Rattle.es5_tree.specs.declared.tree.EsKind.TheOpen.{EsKind-F, EsStmt-F}
use Rattle.es5_tree.specs.Values.{Text, Val, Undefined, Null, Truth, Num, Str, Obj, find_own}
use Rattle.es5_tree.specs.Objects.Cells.{Object, new_cell}
use Rattle.es5_tree.specs.Objects.Links.{cell_at}
use Rattle.es5_tree.specs.Intrinsics.Made.{object_prototype}
use Rattle.es5_evaluation.specs.State.{record_at, set_record, binding, value_in}
use Rattle.es5_evaluation.specs.Task.{Place, Variable, Property, Completion, Normal, Refers, Return, Throw, Break, Continue, Scope, Evaluate, Refer, Execute, Task, Done, Ask, ◌>>=◌, walk}
use Rattle.es5_evaluation.specs.Values.{truthy, key_of, type_name, kind_name, negated, binary, or_undefined, holder_of}
use Rattle.es5_evaluation.specs.Evaluate.{delete_place, tried, at_last, instead, caught_by, Layer, Statement, layer, perform, eval_node, refer_node, exec_node, write_name, read_property, access, access_at, access_from, access_key, no_properties, ItsValue, ItsPlace, Wanted, normally, gives, gather, all, invoke, call_with, call_place, read_place, write_place, this_of, make_array, make_object, with_properties, type_of, type_of_bound, type_of_place, operated, and_then, or_else, choose, branch, type_error}
use Rattle.es5_evaluation.specs.Run.{run}
use Rattle.es5_rules.specs.Moments.{moments, moments_by}
use Rattle.es5_executor.specs.Runs.{Gave, Outside, look, TakesSeen}
use Rattle.es5_executor.specs.Memory.{Outer, bound_from}
use Rattle.es5_executor.proofs.Runs.{associates}
use Rattle.es5_executor.proofs.Sym
use Rattle.es5_executor.proofs.Sym.{Fact, Own, Seen, Lacks, Absent, Names, Link, IsKind, Gone, FactIs, Facts, fact_at, outer_at, Known, Here, Cont, Node, Ev, Rf, Do, Nodes, No, on, on_place, Hinted, Test, VarIs, KindAt, act, here, there}
use Rattle.es5_executor.proofs.Sound
use Rattle.es5_executor.proofs.Right
use Rattle.es5_executor.proofs.Hosted
use Rattle.es5_executor.proofs.Right.{Sit, at, Code', real, Valid, Reached}

-- as access_from, for a key that is known
abbrev keyed : Option ℕ → Pos → Wanted → Val → Option Text → Task
keyed None p want v q = no_properties
keyed (Some o) p want v q = access_key p want v q

keyed_is : (h : Option ℕ) (p : Pos) (want : Wanted) (v w : Val) → access_from h p want v w ≡ keyed h p want v (key_of w)
keyed_is None p want v w = refl
keyed_is (Some o) p want v w = refl

module _ (r o : ℕ) where
  -- ---- what an object is called

  pub typed_right : (b : Val) → Right.Right r o (λ k. type_of b >>= k) (Sym.typed b)
  unfolding Sym.typed Sym.kind_by KindAt type_of run walk moments moments_by ◌>>=◌
  typed_right (Obj a) K σ v x = Right.hinted r o (λ k. type_of (Obj a) >>= k) (λ i K. Sym.kind_by i a (λ k. K (Gave (Normal (Str (kind_name k)))))) by_hint K σ v x
    where
      by_hint : (i : ℕ) → Right.Right r o (λ k. type_of (Obj a) >>= k) (λ K. Sym.kind_by i a (λ k. K (Gave (Normal (Str (kind_name k))))))
      by_hint i K σ v x = go (fact_at σ.facts i) refl x
        where
          go : (q : Option Fact) → fact_at σ.facts i ≡ q → at (KindAt q a (λ k. K (Gave (Normal (Str (kind_name k)))))) σ → Reached r o (λ k. type_of (Obj a) >>= k) K σ
          go None e y = absurd y
          go (Some (Own b n w)) e y = absurd y
          go (Some (Seen b n w)) e y = absurd y
          go (Some (Lacks b n)) e y = absurd y
          go (Some (Absent b n)) e y = absurd y
          go (Some (Names b ns)) e y = absurd y
          go (Some (Link b l)) e y = absurd y
          go (Some Gone) e y = absurd y
          go (Some (IsKind b n)) e y = Right.stepped r o _ (Gave (Normal (Str (kind_name n)))) K σ σ (λ k g. ap (λ z. look g (k (Normal (Str (kind_name z)))) (real r o σ)) (ap (λ z. (cell_at σ.heap z).kind) y.0 ∙ (Sound.fact_is σ.heap σ.facts i (IsKind b n) v.facts e).0)) refl refl v y.1
  typed_right Undefined K σ v x = Right.stepped r o _ (Gave (Normal (Str (type_name [] Undefined)))) K σ σ (λ k g. refl) refl refl v x
  typed_right Null K σ v x = Right.stepped r o _ (Gave (Normal (Str (type_name [] Null)))) K σ σ (λ k g. refl) refl refl v x
  typed_right (Truth b) K σ v x = Right.stepped r o _ (Gave (Normal (Str (type_name [] (Truth b))))) K σ σ (λ k g. refl) refl refl v x
  typed_right (Num z) K σ v x = Right.stepped r o _ (Gave (Normal (Str (type_name [] (Num z))))) K σ σ (λ k g. refl) refl refl v x
  typed_right (Str t) K σ v x = Right.stepped r o _ (Gave (Normal (Str (type_name [] (Str t))))) K σ σ (λ k g. refl) refl refl v x

  type_of_var : (x : Text) → Right.Right r o (λ k. type_of_place r (Variable x) >>= k) (λ K. Sym.var x (on (λ v. Sym.typed v K) K))
  unfolding Sym.var VarIs on type_of_place run walk moments moments_by ◌>>=◌
  type_of_var x K σ v h = go (find_own σ.frame x) refl (outer_at σ.fars x) refl h
    where
      reads : (w : Val) (b : ℕ) → binding (set_record σ.records r (act o σ.frame)) r x ≡ Some b → value_in (record_at (set_record σ.records r (act o σ.frame)) b) x ≡ Some w → (k : Completion → Task) (g : ℕ) → look g (type_of_place r (Variable x) >>= k) (real r o σ) ≡ look g (type_of w >>= k) (real r o σ)
      reads w b e f k g = ap (λ z. look g (type_of_bound (real r o σ).records z x >>= k) (real r o σ)) e ∙ ap (λ z. look g (type_of (or_undefined z) >>= k) (real r o σ)) f

      go : (a : Option Val) → find_own σ.frame x ≡ a → (u : Option Outer) → outer_at σ.fars x ≡ u → at (VarIs a u (λ w. Sym.typed w K)) σ → Reached r o (λ k. type_of_place r (Variable x) >>= k) K σ
      go (Some w) e u f y = Right.as_code r o _ (λ k. type_of w >>= k) K σ (reads w r (Sound.own_binding σ.records r o σ.frame v.within v.below x w e) (Sound.own_value σ.records r o σ.frame v.within v.below x w e)) (typed_right w K σ v y)
      go None e None f y = absurd y
      go None e (Some u) f y =
          let w = Sound.find_outer (set_record σ.records r (act o σ.frame)) r o σ.fars x u v.outers v.away f in
          let b = subst (λ z. bound_from (set_record σ.records r (act o σ.frame)) o z ≡ Some u.at) w.name w.is.0 in
          Right.as_code r o _ (λ k. type_of u.val >>= k) K σ (reads u.val u.at (Sound.far_binding σ.records r o σ.frame v.within v.below x u.at e b) (subst (λ z. value_in (record_at (set_record σ.records r (act o σ.frame)) u.at) z ≡ Some u.val) w.name (Sound.known_value u.free _ u.name u.val w.is.1))) (typed_right u.val K σ v y)

  type_of_place_right : (q : Place) → (E : Nodes) (this : Val) → Right.Right r o (λ k. type_of_place r q >>= k) (Sym.typed_place r o this E q)
  unfolding Sym.typed_place type_of_place ◌>>=◌
  type_of_place_right (Variable x) E this = type_of_var x
  type_of_place_right (Property b m) E this = assoc (Right.bind r o (λ k. read_property b m >>= k) (Sym.prop b m) type_of Sym.typed (Right.prop_right r o b m) typed_right)
    where
      assoc : Right.Right r o (λ k. read_property b m >>= (λ c. normally type_of c >>= k)) (λ K. Sym.prop b m (on (λ v. Sym.typed v K) K)) → Right.Right r o (λ k. (read_property b m >>= normally type_of) >>= k) (λ K. Sym.prop b m (on (λ v. Sym.typed v K) K))
      assoc f K σ v x = Right.as_code r o _ _ K σ (λ k g. ap (λ t. look g t (real r o σ)) (associates (read_property b m) (normally type_of) k)) (f K σ v x)

  -- ---- keys

  index_value : (p : Pos) (b : Val) (q : Option Text) → Right.Right r o (λ k. keyed (holder_of b) p ItsValue b q >>= k) (λ K. Sym.named q (λ m. Sym.prop b m K))
  unfolding Sym.named access Sym.prop
  index_value p Undefined None K σ v x = Right.never r o _ K σ v x
  index_value p Undefined (Some m) K σ v x = Right.raised_right r o (codes "no properties") K σ v x
  index_value p Null None K σ v x = Right.never r o _ K σ v x
  index_value p Null (Some m) K σ v x = Right.raised_right r o (codes "no properties") K σ v x
  index_value p (Truth t) None K σ v x = Right.never r o _ K σ v x
  index_value p (Truth t) (Some m) K σ v x = Right.prop_right r o (Truth t) m K σ v x
  index_value p (Num z) None K σ v x = Right.never r o _ K σ v x
  index_value p (Num z) (Some m) K σ v x = Right.prop_right r o (Num z) m K σ v x
  index_value p (Str t) None K σ v x = Right.never r o _ K σ v x
  index_value p (Str t) (Some m) K σ v x = Right.prop_right r o (Str t) m K σ v x
  index_value p (Obj a) None K σ v x = Right.never r o _ K σ v x
  index_value p (Obj a) (Some m) K σ v x = Right.prop_right r o (Obj a) m K σ v x

  index_place : (p : Pos) (b : Val) (q : Option Text) → Right.Right r o (λ k. keyed (holder_of b) p ItsPlace b q >>= k) (λ K. Sym.named q (λ m. Sym.placed b m K))
  unfolding Sym.named Sym.placed
  index_place p Undefined None K σ v x = Right.never r o _ K σ v x
  index_place p Undefined (Some m) K σ v x = Right.raised_right r o (codes "no properties") K σ v x
  index_place p Null None K σ v x = Right.never r o _ K σ v x
  index_place p Null (Some m) K σ v x = Right.raised_right r o (codes "no properties") K σ v x
  index_place p (Truth t) None K σ v x = Right.never r o _ K σ v x
  index_place p (Truth t) (Some m) K σ v x = Right.placed_right r o (Truth t) m K σ v x
  index_place p (Num z) None K σ v x = Right.never r o _ K σ v x
  index_place p (Num z) (Some m) K σ v x = Right.placed_right r o (Num z) m K σ v x
  index_place p (Str t) None K σ v x = Right.never r o _ K σ v x
  index_place p (Str t) (Some m) K σ v x = Right.placed_right r o (Str t) m K σ v x
  index_place p (Obj a) None K σ v x = Right.never r o _ K σ v x
  index_place p (Obj a) (Some m) K σ v x = Right.placed_right r o (Obj a) m K σ v x

  index_value_at : (p : Pos) (b w : Val) → Right.Right r o (λ k. access_at p ItsValue b w >>= k) (λ K. Sym.named (key_of w) (λ m. Sym.prop b m K))
  unfolding access_at
  index_value_at p b w = subst (λ t. Right.Right r o (λ k. t >>= k) (λ K. Sym.named (key_of w) (λ m. Sym.prop b m K))) (sym (keyed_is (holder_of b) p ItsValue b w)) (index_value p b (key_of w))

  index_place_at : (p : Pos) (b w : Val) → Right.Right r o (λ k. access_at p ItsPlace b w >>= k) (λ K. Sym.named (key_of w) (λ m. Sym.placed b m K))
  unfolding access_at
  index_place_at p b w = subst (λ t. Right.Right r o (λ k. t >>= k) (λ K. Sym.named (key_of w) (λ m. Sym.placed b m K))) (sym (keyed_is (holder_of b) p ItsPlace b w)) (index_place p b (key_of w))

  -- ---- places

  read_right : (q : Place) → Right.Right r o (λ k. read_place r q >>= k) (Sym.read q)
  unfolding Sym.read read_place
  read_right (Variable x) = Right.var_right r o x
  read_right (Property b m) = Right.prop_right r o b m

  set_right : (p : Pos) (q : Place) (w : Val) → Right.Right r o (λ k. write_place p r q w >>= k) (Sym.set q w)
  unfolding Sym.set write_place
  set_right p (Variable x) w = Right.set_var_right r o x w
  set_right p (Property b m) w = Right.set_prop_right r o p b m w

  module _ (this : Val) where
    abbrev ρ : Scope
    ρ = record { this = this; innermost = r }

    module _ (E : Nodes) (right : (q : Node) → Right.Right r o (λ k. Ask (Sym.request r o this q) k) (E q)) where
      gather_right : (es : List EsExpr) (vs : List Val) (F : List Val → Task) (G : List Val → Cont → Here) → ((ws : List Val) → Right.Right r o (λ k. F ws >>= k) (G ws)) → Right.Right r o (λ k. gather es (ρ) vs F >>= k) (λ K. Sym.gathers r o this E es vs (λ ws. G ws K) K)
      unfolding Sym.gathers gather ◌>>=◌
      gather_right [] vs F G f = f vs
      gather_right (e ∷ es) vs F G f = Right.bind r o (λ k. Ask (Evaluate e (ρ)) k) (E (Ev e)) (λ v. gather es (ρ) (vs ++ v ∷ []) F) (λ v K. Sym.gathers r o this E es (vs ++ v ∷ []) (λ ws. G ws K) K) (right (Ev e)) (λ v. gather_right es (vs ++ v ∷ []) F G f)

      all_right : (ts : List EsStmt) → Right.Right r o (λ k. all ts (ρ) >>= k) (Sym.alls r o this E ts)
      unfolding Sym.alls all ◌>>=◌
      all_right [] = Right.over r o _ (Gave (Normal Undefined)) (λ k. refl)
      all_right (t ∷ ts) = Right.bind r o (λ k. Ask (Execute t (ρ)) k) (E (Do t)) (λ v. all ts (ρ)) (λ v. Sym.alls r o this E ts) (right (Do t)) (λ v. all_right ts)

      invoked_right : (p : Pos) (f that : Val) (vs : List Val) → Right.Right r o (λ k. invoke p f that vs >>= k) (Sym.invoked r o this E p f that vs)
      unfolding Sym.invoked invoke
      invoked_right p (Obj f) that vs K σ v x = Right.known_right r o this (invoke p (Obj f) that vs) (λ i. Sym.by_row r o this i (Obj f) that vs) (λ i. Hosted.by_row_right r o this p i f that vs) K σ v x
      invoked_right p Undefined that vs K σ v x = Right.raised_right r o (codes "not a function") K σ v x
      invoked_right p Null that vs K σ v x = Right.raised_right r o (codes "not a function") K σ v x
      invoked_right p (Truth b) that vs K σ v x = Right.raised_right r o (codes "not a function") K σ v x
      invoked_right p (Num z) that vs K σ v x = Right.raised_right r o (codes "not a function") K σ v x
      invoked_right p (Str t) that vs K σ v x = Right.raised_right r o (codes "not a function") K σ v x

      called_right : (p : Pos) (args : List EsExpr) (that f : Val) → Right.Right r o (λ k. call_with p args (ρ) that f >>= k) (Sym.called r o this E p args that f)
      unfolding Sym.called
      called_right p args that f = gather_right args [] (λ vs. invoke p f that vs) (λ vs. Sym.invoked r o this E p f that vs) (λ vs. invoked_right p f that vs)

      one : (e : EsExpr) (F : Val → Task) (G : Val → Cont → Here) → ((v : Val) → Right.Right r o (λ k. F v >>= k) (G v)) → Right.Right r o (λ k. Ask (Evaluate e (ρ)) (λ c. normally F c >>= k)) (λ K. E (Ev e) (on (λ v. G v K) K))
      one e F G f = Right.bind r o (λ k. Ask (Evaluate e (ρ)) k) (E (Ev e)) F G (right (Ev e)) f

      two : (a b : EsExpr) (F : Val → Val → Task) (G : Val → Val → Cont → Here) → ((v w : Val) → Right.Right r o (λ k. F v w >>= k) (G v w)) → Right.Right r o (λ k. Ask (Evaluate a (ρ)) (λ c. normally (λ v. Ask (Evaluate b (ρ)) (normally (F v))) c >>= k)) (λ K. E (Ev a) (on (λ v. E (Ev b) (on (λ w. G v w K) K)) K))
      unfolding ◌>>=◌
      two a b F G f = one a (λ v. Ask (Evaluate b (ρ)) (normally (F v))) (λ v K. E (Ev b) (on (λ w. G v w K) K)) (λ v. one b (F v) (G v) (f v))

      place_right : (p : Pos) (args : List EsExpr) (q : Place) → Right.Right r o (λ k. call_place p args (ρ) q >>= k) (λ K. Sym.read q (on (λ f. Sym.called r o this E p args (this_of q) f K) K))
      place_right p args q K σ v x =
          Right.as_code r o _ (λ k. read_place r q >>= (λ c. normally (call_with p args (ρ) (this_of q)) c >>= k)) K σ
          (λ k g. ap (λ t. look g t (real r o σ)) (associates (read_place r q) (normally (call_with p args (ρ) (this_of q))) k))
          (Right.bind r o (λ k. read_place r q >>= k) (Sym.read q) (call_with p args (ρ) (this_of q)) (λ f. Sym.called r o this E p args (this_of q) f) (read_right q) (λ f. called_right p args (this_of q) f) K σ v x)

      make_object_right : (keys : List Text) (vs : List Val) → Right.Right r o (λ k. make_object keys vs >>= k) (Sym.make (with_properties (new_cell Object (Some object_prototype)) keys vs))
      unfolding make_object ◌>>=◌
      make_object_right keys vs = Right.make_right r o (with_properties (new_cell Object (Some object_prototype)) keys vs)

      choices : (b : Bool) (t : Bool → Task) (F G : Cont → Here) → Right.Right r o (λ k. t true >>= k) F → Right.Right r o (λ k. t false >>= k) G → Right.Right r o (λ k. t b >>= k) (λ K. Test b (F K) (G K))
      choices b t F G f g = Right.tested r o (λ c k. t c >>= k) b F G f g

      asked : (q : Node) → Right.Right r o (λ k. Ask (Sym.request r o this q) Done >>= k) (E q)
      unfolding ◌>>=◌
      asked q = right q

      eval_right : (l : Layer) (p : Pos) → Right.Right r o (λ k. eval_node l p (ρ) >>= k) (Sym.eval r o this E l p)
      unfolding Sym.eval eval_node access ◌>>=◌
      eval_right (EsKind-F.Num z) p = Right.over r o _ (Gave (Normal (Num z))) (λ k. refl)
      eval_right (EsKind-F.Str t) p = Right.over r o _ (Gave (Normal (Str t))) (λ k. refl)
      eval_right EsKind-F.True p = Right.over r o _ (Gave (Normal (Truth true))) (λ k. refl)
      eval_right EsKind-F.False p = Right.over r o _ (Gave (Normal (Truth false))) (λ k. refl)
      eval_right EsKind-F.Null p = Right.over r o _ (Gave (Normal Null)) (λ k. refl)
      eval_right EsKind-F.This p = Right.over r o _ (Gave (Normal this)) (λ k. refl)
      eval_right (EsKind-F.Name x) p = Right.var_right r o x
      eval_right (EsKind-F.Array items) p = gather_right items [] make_array (λ vs. Sym.arrayed vs) (λ vs. Right.arrayed_right r o vs)
      eval_right (EsKind-F.Object keys values) p = gather_right values [] (make_object keys) (λ vs. Sym.make (with_properties (new_cell Object (Some object_prototype)) keys vs)) (make_object_right keys)
      eval_right (EsKind-F.Function name params body) p = Right.function_right r o (record { name = name; params = params; body = body })
      eval_right (EsKind-F.Member b m mark) p = one b (λ v. access ItsValue v m) (λ v. Sym.prop v m) (λ v. Right.prop_right r o v m)
      eval_right (EsKind-F.Index b key mark) p = two b key (λ v w. access_at p ItsValue v w) (λ v w K. Sym.named (key_of w) (λ m. Sym.prop v m K)) (λ v w. index_value_at p v w)
      eval_right (EsKind-F.Call callee args) p = Right.bind_place r o (λ k. Ask (Refer callee (ρ)) k) (E (Rf callee)) (call_place p args (ρ)) (call_with p args (ρ) Undefined) (λ q K. Sym.read q (on (λ f. Sym.called r o this E p args (this_of q) f K) K)) (Sym.called r o this E p args Undefined) (right (Rf callee)) (place_right p args) (called_right p args Undefined)
      eval_right (EsKind-F.Not e) p = one e (λ v. gives (Truth (not (truthy v)))) (λ v K. K (Gave (Normal (Truth (not (truthy v)))))) (λ v. Right.over r o _ (Gave (Normal (Truth (not (truthy v))))) (λ k. refl))
      eval_right (EsKind-F.Neg e) p = one e (λ v. operated p (negated v)) (λ v. Sym.result p (negated v)) (λ v. Right.result_right r o p (negated v))
      eval_right (EsKind-F.Typeof e) p = Right.bind_place r o (λ k. Ask (Refer e (ρ)) k) (E (Rf e)) (type_of_place r) type_of (λ q. Sym.typed_place r o this E q) Sym.typed (right (Rf e)) (λ q. type_of_place_right q E this) typed_right
      eval_right (EsKind-F.Delete e) p = Right.bind_place r o (λ k. Ask (Refer e (ρ)) k) (E (Rf e)) delete_place (λ v. gives (Truth true)) (λ q. Sym.removed q) (λ v K. K (Gave (Normal (Truth true)))) (right (Rf e)) (λ q. Right.removed_right r o q) (λ v. Right.over r o _ (Gave (Normal (Truth true))) (λ k. refl))
      eval_right (EsKind-F.Binary op a b) p = two a b (λ v w. operated p (binary op v w)) (Sym.operate p op) (Right.operate_right r o p op)
      eval_right (EsKind-F.And a b) p = one a (λ v. and_then (truthy v) v b (ρ)) (λ v K. Test (truthy v) (E (Ev b) K) (K (Gave (Normal v)))) (λ v. choices (truthy v) (λ t. and_then t v b (ρ)) (E (Ev b)) (λ K. K (Gave (Normal v))) (right (Ev b)) (Right.over r o _ (Gave (Normal v)) (λ k. refl)))
      eval_right (EsKind-F.Or a b) p = one a (λ v. or_else (truthy v) v b (ρ)) (λ v K. Test (truthy v) (K (Gave (Normal v))) (E (Ev b) K)) (λ v. choices (truthy v) (λ t. or_else t v b (ρ)) (λ K. K (Gave (Normal v))) (E (Ev b)) (Right.over r o _ (Gave (Normal v)) (λ k. refl)) (right (Ev b)))
      eval_right (EsKind-F.Cond t a b) p = one t (λ v. Ask (Evaluate (choose (truthy v) a b) (ρ)) Done) (λ v K. Test (truthy v) (E (Ev a) K) (E (Ev b) K)) (λ v. choices (truthy v) (λ c. Ask (Evaluate (choose c a b) (ρ)) Done) (E (Ev a)) (E (Ev b)) (right (Ev a)) (right (Ev b)))
      eval_right (EsKind-F.Assign target e) p = Right.bind_place r o (λ k. Ask (Refer target (ρ)) k) (E (Rf target)) (λ q. Ask (Evaluate e (ρ)) (normally (write_place p r q))) (λ v. type_error (codes "not writable")) (λ q K. E (Ev e) (on (λ v. Sym.set q v K) K)) (λ v K. No) (right (Rf target)) (λ q. one e (write_place p r q) (Sym.set q) (set_right p q)) (λ v. Right.never r o _)

      refer_right : (l : Layer) (p : Pos) → Right.Right r o (λ k. refer_node l p (ρ) >>= k) (Sym.refer r o this E l p)
      unfolding Sym.refer refer_node ◌>>=◌
      refer_right (EsKind-F.Name x) p = Right.over r o _ (Gave (Refers (Variable x))) (λ k. refl)
      refer_right (EsKind-F.Member b m mark) p = one b (λ v. access ItsPlace v m) (λ v. Sym.placed v m) (λ v. Right.placed_right r o v m)
      refer_right (EsKind-F.Index b key mark) p = two b key (λ v w. access_at p ItsPlace v w) (λ v w K. Sym.named (key_of w) (λ m. Sym.placed v m K)) (λ v w. index_place_at p v w)
      refer_right l p = eval_right l p

      second_right : (a : EsStmt) (b : Option EsStmt) → Right.Right r o (λ k. branch false a b (ρ) >>= k) (Sym.second r o this E b)
      unfolding Sym.second ◌>>=◌
      second_right a None = Right.over r o _ (Gave (Normal Undefined)) (λ k. refl)
      second_right a (Some t) = right (Do t)

      lasts_out : (fin : Option (List EsStmt)) (K : Cont) (q : OutKind) (p : Pos) → Sym.lasts r o this E fin K (Outside q p) ≡ K (Outside q p)
      unfolding Sym.lasts
      lasts_out None K q p = refl
      lasts_out (Some fin) K q p = refl

      tries_out : (catch : Option Catch) (fin : Option (List EsStmt)) (K : Cont) (q : OutKind) (p : Pos) → Sym.tries r o this E catch fin K (Outside q p) ≡ K (Outside q p)
      unfolding Sym.tries
      tries_out None fin K q p = lasts_out fin K q p
      tries_out (Some part) fin K q p = refl

      instead_is : (c d : Completion) → normally (λ v. Done c) d ≡ instead c d
      instead_is c (Normal v) = refl
      instead_is c (Refers p) = refl
      instead_is c (Return v) = refl
      instead_is c (Throw v) = refl
      instead_is c Break = refl
      instead_is c Continue = refl

      lasts_right : (fin : Option (List EsStmt)) (c : Completion) → Right.Right r o (λ k. at_last fin (ρ) c >>= k) (λ K. Sym.lasts r o this E fin K (Gave c))
      unfolding Sym.lasts ◌>>=◌
      lasts_right None c K σ v x = Right.over r o _ (Gave c) (λ k. refl) K σ v x
      lasts_right (Some fin) c K σ v x =
          Right.as_code r o _ (λ k. all fin (ρ) >>= (λ d. normally (λ v. Done c) d >>= k)) K σ
          (λ k g. ap (λ t. look g t (real r o σ)) (associates (all fin (ρ)) (instead c) k ∙ ap (λ f. all fin (ρ) >>= (λ d. f d >>= k)) (sym (fun_ext (instead_is c)))))
          (Right.bind r o (λ k. all fin (ρ) >>= k) (Sym.alls r o this E fin) (λ v. Done c) (λ v K. K (Gave c)) (all_right fin) (λ v. Right.over r o _ (Gave c) (λ k. refl)) K σ v x)

      tries_right : (catch : Option Catch) (fin : Option (List EsStmt)) (c : Completion) → Right.Right r o (λ k. tried catch fin (ρ) c >>= k) (λ K. Sym.tries r o this E catch fin K (Gave c))
      unfolding Sym.tries
      tries_right None fin c K σ v x = lasts_right fin c K σ v x
      tries_right (Some part) fin (Throw w) K σ v x =
          Right.as_code r o _ (λ k. caught_by part (ρ) w >>= (λ c. at_last fin (ρ) c >>= k)) K σ
          (λ k g. ap (λ t. look g t (real r o σ)) (associates (caught_by part (ρ) w) (at_last fin (ρ)) k))
          (Right.bind_end r o (λ k. caught_by part (ρ) w >>= k) (λ K. Sym.known r o this (λ s m e s' seen. TakesSeen (caught_by part (ρ) w) s m e s' seen) (λ i. No) K) (at_last fin (ρ)) (Sym.lasts r o this E fin) (lasts_out fin) (Right.known_right r o this (caught_by part (ρ) w) (λ i K. No) (λ i. Right.never r o _)) (lasts_right fin) K σ v x)
      tries_right (Some part) fin (Normal w) K σ v x = lasts_right fin (Normal w) K σ v x
      tries_right (Some part) fin (Refers q) K σ v x = lasts_right fin (Refers q) K σ v x
      tries_right (Some part) fin (Return w) K σ v x = lasts_right fin (Return w) K σ v x
      tries_right (Some part) fin Break K σ v x = lasts_right fin Break K σ v x
      tries_right (Some part) fin Continue K σ v x = lasts_right fin Continue K σ v x

      try_right : (body : List EsStmt) (catch : Option Catch) (fin : Option (List EsStmt)) → Right.Right r o (λ k. (all body (ρ) >>= tried catch fin (ρ)) >>= k) (λ K. Sym.alls r o this E body (Sym.tries r o this E catch fin K))
      try_right body catch fin K σ v x =
          Right.as_code r o _ (λ k. all body (ρ) >>= (λ c. tried catch fin (ρ) c >>= k)) K σ
          (λ k g. ap (λ t. look g t (real r o σ)) (associates (all body (ρ)) (tried catch fin (ρ)) k))
          (Right.bind_end r o (λ k. all body (ρ) >>= k) (Sym.alls r o this E body) (tried catch fin (ρ)) (Sym.tries r o this E catch fin) (tries_out catch fin) (all_right body) (tries_right catch fin) K σ v x)

      exec_right : (l : Statement) → Right.Right r o (λ k. exec_node l (ρ) >>= k) (Sym.exec r o this E l)
      unfolding Sym.exec Sym.first_value Sym.returned exec_node ◌>>=◌
      exec_right (EsStmt-F.Var x None) = Right.over r o _ (Gave (Normal Undefined)) (λ k. refl)
      exec_right (EsStmt-F.Var x (Some e)) = one e (write_name r x) (Sym.set_var x) (Right.set_var_right r o x)
      exec_right (EsStmt-F.Expr e) = right (Ev e)
      exec_right (EsStmt-F.Block body) = all_right body
      exec_right (EsStmt-F.If t a b) = one t (λ v. branch (truthy v) a b (ρ)) (λ v K. Test (truthy v) (E (Do a) K) (Sym.second r o this E b K)) (λ v. choices (truthy v) (λ c. branch c a b (ρ)) (E (Do a)) (Sym.second r o this E b) (right (Do a)) (second_right a b))
      exec_right (EsStmt-F.While t body) = Right.known_right r o this (exec_node (EsStmt-F.While t body) (ρ)) (λ i K. No) (λ i. Right.never r o _)
      exec_right (EsStmt-F.Return None) = Right.over r o _ (Gave (Return Undefined)) (λ k. refl)
      exec_right (EsStmt-F.Return (Some e)) = one e (λ v. Done (Return v)) (λ v K. K (Gave (Return v))) (λ v. Right.over r o _ (Gave (Return v)) (λ k. refl))
      exec_right EsStmt-F.Break = Right.over r o _ (Gave Break) (λ k. refl)
      exec_right EsStmt-F.Continue = Right.over r o _ (Gave Continue) (λ k. refl)
      exec_right (EsStmt-F.Throw e) = one e (λ v. Done (Throw v)) (λ v K. K (Gave (Throw v))) (λ v. Right.over r o _ (Gave (Throw v)) (λ k. refl))
      exec_right (EsStmt-F.Try body catch finally) = try_right body catch finally
      exec_right EsStmt-F.Empty = Right.over r o _ (Gave (Normal Undefined)) (λ k. refl)

      node_right : (q : Node) → Right.Right r o (λ k. perform (Sym.request r o this q) >>= k) (Sym.node r o this E q)
      unfolding Sym.node perform
      node_right (Ev e) = eval_right (layer e) e.pos
      node_right (Rf e) = refer_right (layer e) e.pos
      node_right (Do t) = exec_right (out-EsStmt t)

    pub go_right : (g : ℕ) (q : Node) → Right.Right r o (λ k. Ask (Sym.request r o this q) k) (Sym.go r o this g q)
    unfolding Sym.go
    go_right zero q K σ v x = absurd x
    go_right (suc g) q K σ v x = Right.begun r o (Sym.request r o this q) K σ (node_right (Sym.go r o this g) (go_right g) q K (record σ { units = suc σ.units }) (Right.later r o σ v) x)

    -- statements one after another
    pub all_go_right : (g : ℕ) (ts : List EsStmt) → Right.Right r o (λ k. all ts (ρ) >>= k) (Sym.alls r o this (Sym.go r o this g) ts)
    all_go_right g ts = all_right (Sym.go r o this g) (go_right g) ts

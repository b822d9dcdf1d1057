-- The executor is right, node by node.
use Rattle.std.proofs.Common.{map, codes, nat_le, append-nil, append_assoc, ◌≡◌, ℕ, zero, suc, ◌+◌, ◌<◌, Bool, true, false, if◌then◌else◌, List, [], ◌∷◌, ◌++◌, length, Option, Some, None, pos, refl, sym, ap, subst, ◌∙◌, arith, ℤ, ◌+ℤ◌, ◌-ℤ◌, ◌*ℤ◌, int_div, int_rem}
use Rattle.std.proofs.lemmas.List.{set-get_or}
use Rattle.opal_base.specs.declared.place.Pos.{Pos}
use Rattle.es5_tree.specs.declared.tree.Operator.{Operator}
use Rattle.es5_tree.specs.declared.tree.Operator.TheVariants as operator
use Rattle.es5_tree.specs.Values.{Text, Val, Undefined, Null, Truth, Num, Str, Obj, find_own, first}
use Rattle.es5_tree.specs.Ends.{OutKind, Number, Division}
use Rattle.es5_tree.specs.Objects.Names.{is_length, index_of}
use Rattle.es5_tree.specs.Objects.Cells.{Cell, Function, new_cell, with_property}
use Rattle.es5_tree.specs.Objects.Links.{get, link_at}
use Rattle.es5_tree.specs.Intrinsics.Made.{function_prototype, number_prototype, truth_prototype, text_prototype}
use Rattle.es5_tree.specs.Intrinsics.Rows.{array_of}
use Rattle.es5_evaluation.specs.State.{Code, State, record_at, set_record, value_in}
use Rattle.es5_evaluation.specs.Task.{Place, Variable, Property, Completion, Normal, Refers, Return, Throw, Break, Continue, Request, Task, Done, Ask, Make, ◌>>=◌, walk}
use Rattle.es5_evaluation.specs.Values.{Result, Is, Out, largest, truthy, key_of, type_name, kind_name, negated, binary, is_zero, or_undefined, in_range, quotient, remainder}
use Rattle.es5_evaluation.specs.Values as values
use Rattle.es5_evaluation.specs.Evaluate.{make_array, delete_place, delete_property, error_object, raise, type_error, perform, read_name, write_name, read_property, write_property, access, ItsPlace, normally, referred, make_function, operated}
use Rattle.es5_evaluation.specs.Run.{run}
use Rattle.es5_rules.specs.Moments.{moments, moments_by}
use Rattle.es5_rules.proofs.Steps.{steps_count}
use Rattle.es5_executor.specs.Runs.{End, Gave, Outside, after, Leads, look, TakesSeen}
use Rattle.es5_executor.specs.Memory.{Heap, Records, Frame, has, write, erase, Misses, assign, bound_from, value_by, Outer}
use Rattle.es5_executor.proofs.Runs.{sequence_is, stays, silent, silently, begins}
use Rattle.es5_executor.proofs.Changes
use Rattle.es5_executor.proofs.Memory
use Rattle.es5_executor.proofs.Sym
use Rattle.es5_executor.proofs.Sym.{Fact, Own, Seen, Lacks, Absent, Names, Link, IsKind, Gone, FactIs, Facts, Outers, Away, fact_at, outer_at, rewritten, revalued, news, Rest, Known, ByRun, ByRow, Here, Cont, Node, Ev, Rf, Do, Nodes, No, on, on_place, Hinted, Choice, Test, VarIs, SetIs, SeenAt, KindAt, fits, act, here, there}
use Rattle.es5_executor.proofs.Sound
use Rattle.es5_executor.proofs.Sound.{Found}

-- where the executor stands
pub record Sit : Type 0 where
  pub hints : List ℕ
  pub subs : List Known
  pub heap : Heap
  pub records : Records
  pub frame : Frame
  pub facts : List Fact
  pub fars : List Outer
  pub rest : Rest
  pub units : ℕ

abbrev pub at : Here → Sit → Type 0
at H σ = H σ.hints σ.subs σ.heap σ.records σ.frame σ.facts σ.fars σ.rest σ.units

-- code by what is done behind it
abbrev pub Code' : Type 0
Code' = (Completion → Task) → Task

module _ (r o : ℕ) where
  abbrev pub real : Sit → State
  real σ = here r o σ.heap σ.records σ.frame σ.rest

  pub record Valid (σ : Sit) : Type 0 where
    pub within : r < length σ.records
    pub below : o < r
    pub facts : Facts σ.heap σ.facts
    pub outers : Outers (set_record σ.records r (act o σ.frame)) o σ.fars
    pub away : Away r σ.fars

  pub record Reached (T : Code') (K : Cont) (σ : Sit) : Type 0 where
    pub units : ℕ
    pub seen : List State
    pub end : End
    pub sit : Sit
    pub leads : (k : Completion → Task) → Leads units (T k) (real σ) (after end k) (real sit) seen
    pub valid : Valid sit
    pub count : sit.units ≡ σ.units + units
    pub sees : sit.rest.seen ≡ σ.rest.seen ++ seen
    pub so : at (K end) sit

  abbrev pub Right : Code' → (Cont → Here) → Type 1
  Right T H = (K : Cont) (σ : Sit) → Valid σ → at (H K) σ → Reached T K σ

  -- ---- ends, one after another

  pub over : (T : Code') (e : End) → ((k : Completion → Task) → T k ≡ after e k) → Right T (λ K. K e)
  over T e same K σ v x = record {
    units = 0;
    seen = [];
    end = e;
    sit = σ;
    leads = λ k. subst (λ t. Leads 0 t (real σ) (after e k) (real σ) []) (sym (same k)) (stays (after e k) (real σ));
    valid = v;
    count = omega arith;
    sees = sym (append-nil σ.rest.seen);
    so = x;
  }

  -- a step without a unit comes to an end in another situation
  pub stepped : (T : Code') (e : End) (K : Cont) (σ σ1 : Sit) → ((k : Completion → Task) (g : ℕ) → look g (T k) (real σ) ≡ look g (after e k) (real σ1)) → σ1.units ≡ σ.units → σ1.rest.seen ≡ σ.rest.seen → Valid σ1 → at (K e) σ1 → Reached T K σ
  stepped T e K σ σ1 f u w v x = record {
    units = 0;
    seen = [];
    end = e;
    sit = σ1;
    leads = λ k. silent (T k) (after e k) (real σ) (real σ1) (f k);
    valid = v;
    count = omega (arith, u);
    sees = w ∙ sym (append-nil σ.rest.seen);
    so = x;
  }

  -- code that is the same up to silent steps
  pub as_code : (T U : Code') (K : Cont) (σ : Sit) → ((k : Completion → Task) (g : ℕ) → look g (T k) (real σ) ≡ look g (U k) (real σ)) → Reached U K σ → Reached T K σ
  as_code T U K σ f a = record {
    units = a.units;
    seen = a.seen;
    end = a.end;
    sit = a.sit;
    leads = λ k. silently (silent (T k) (U k) (real σ) (real σ) (f k)) (a.leads k);
    valid = a.valid;
    count = a.count;
    sees = a.sees;
    so = a.so;
  }

  -- one after another
  joined : (T U V : Code') (K L : Cont) (σ : Sit) (a : Reached T L σ) (g : Completion → Task) → ((k : Completion → Task) → Leads a.units (V k) (real σ) (U k) (real a.sit) a.seen) → Reached U K a.sit → Reached V K σ
  joined T U V K L σ a g f b = record {
    units = a.units + b.units;
    seen = a.seen ++ b.seen;
    end = b.end;
    sit = b.sit;
    leads = λ k. sequence_is (V k) (U k) (after b.end k) (real σ) (real a.sit) (real b.sit) a.units b.units a.seen b.seen (f k) (b.leads k);
    valid = b.valid;
    count = let p = a.count in let q = b.count in omega (arith, p, q);
    sees = b.sees ∙ ap (λ l. l ++ b.seen) a.sees ∙ append_assoc σ.rest.seen a.seen b.seen;
    so = b.so;
  }

  pub bind : (T : Code') (H : Cont → Here) (F : Val → Task) (G : Val → Cont → Here) → Right T H → ((v : Val) → Right (λ k. F v >>= k) (G v)) → Right (λ k. T (λ c. normally F c >>= k)) (λ K. H (on (λ v. G v K) K))
  unfolding on ◌>>=◌
  bind T H F G f g K σ v x = go (f (on (λ w. G w K) K) σ v x)
    where
      end_of : (a : Reached T (on (λ w. G w K) K) σ) (e : End) → a.end ≡ e → at (on (λ w. G w K) K e) a.sit → Reached (λ k. T (λ c. normally F c >>= k)) K σ
      end_of a (Gave (Normal w)) p s = joined T (λ k. F w >>= k) (λ k. T (λ c. normally F c >>= k)) K (on (λ w. G w K) K) σ a Done (λ k. subst (λ e. Leads a.units (T (λ c. normally F c >>= k)) (real σ) (after e (λ c. normally F c >>= k)) (real a.sit) a.seen) p (a.leads (λ c. normally F c >>= k))) (g w K a.sit a.valid s)
      end_of a (Gave (Refers q)) p s = record { units = a.units; seen = a.seen; end = Gave (Refers q); sit = a.sit; leads = λ k. subst (λ e. Leads a.units (T (λ c. normally F c >>= k)) (real σ) (after e (λ c. normally F c >>= k)) (real a.sit) a.seen) p (a.leads (λ c. normally F c >>= k)); valid = a.valid; count = a.count; sees = a.sees; so = s }
      end_of a (Gave (Return w)) p s = record { units = a.units; seen = a.seen; end = Gave (Return w); sit = a.sit; leads = λ k. subst (λ e. Leads a.units (T (λ c. normally F c >>= k)) (real σ) (after e (λ c. normally F c >>= k)) (real a.sit) a.seen) p (a.leads (λ c. normally F c >>= k)); valid = a.valid; count = a.count; sees = a.sees; so = s }
      end_of a (Gave (Throw w)) p s = record { units = a.units; seen = a.seen; end = Gave (Throw w); sit = a.sit; leads = λ k. subst (λ e. Leads a.units (T (λ c. normally F c >>= k)) (real σ) (after e (λ c. normally F c >>= k)) (real a.sit) a.seen) p (a.leads (λ c. normally F c >>= k)); valid = a.valid; count = a.count; sees = a.sees; so = s }
      end_of a (Gave Break) p s = record { units = a.units; seen = a.seen; end = Gave Break; sit = a.sit; leads = λ k. subst (λ e. Leads a.units (T (λ c. normally F c >>= k)) (real σ) (after e (λ c. normally F c >>= k)) (real a.sit) a.seen) p (a.leads (λ c. normally F c >>= k)); valid = a.valid; count = a.count; sees = a.sees; so = s }
      end_of a (Gave Continue) p s = record { units = a.units; seen = a.seen; end = Gave Continue; sit = a.sit; leads = λ k. subst (λ e. Leads a.units (T (λ c. normally F c >>= k)) (real σ) (after e (λ c. normally F c >>= k)) (real a.sit) a.seen) p (a.leads (λ c. normally F c >>= k)); valid = a.valid; count = a.count; sees = a.sees; so = s }
      end_of a (Outside q z) p s = record { units = a.units; seen = a.seen; end = Outside q z; sit = a.sit; leads = λ k. subst (λ e. Leads a.units (T (λ c. normally F c >>= k)) (real σ) (after e (λ c. normally F c >>= k)) (real a.sit) a.seen) p (a.leads (λ c. normally F c >>= k)); valid = a.valid; count = a.count; sees = a.sees; so = s }

      go : (a : Reached T (on (λ w. G w K) K) σ) → Reached (λ k. T (λ c. normally F c >>= k)) K σ
      go a = end_of a a.end refl a.so

  pub bind_place : (T : Code') (H : Cont → Here) (P : Place → Task) (F : Val → Task) (I : Place → Cont → Here) (G : Val → Cont → Here) → Right T H → ((q : Place) → Right (λ k. P q >>= k) (I q)) → ((v : Val) → Right (λ k. F v >>= k) (G v)) → Right (λ k. T (λ c. referred P F c >>= k)) (λ K. H (on_place (λ q. I q K) (λ v. G v K) K))
  unfolding on_place ◌>>=◌
  bind_place T H P F I G f i g K σ v x = go (f (on_place (λ q. I q K) (λ w. G w K) K) σ v x)
    where
      end_of : (a : Reached T (on_place (λ q. I q K) (λ w. G w K) K) σ) (e : End) → a.end ≡ e → at (on_place (λ q. I q K) (λ w. G w K) K e) a.sit → Reached (λ k. T (λ c. referred P F c >>= k)) K σ
      end_of a (Gave (Normal w)) p s = joined T (λ k. F w >>= k) (λ k. T (λ c. referred P F c >>= k)) K (on_place (λ q. I q K) (λ w. G w K) K) σ a Done (λ k. subst (λ e. Leads a.units (T (λ c. referred P F c >>= k)) (real σ) (after e (λ c. referred P F c >>= k)) (real a.sit) a.seen) p (a.leads (λ c. referred P F c >>= k))) (g w K a.sit a.valid s)
      end_of a (Gave (Refers q)) p s = joined T (λ k. P q >>= k) (λ k. T (λ c. referred P F c >>= k)) K (on_place (λ q. I q K) (λ w. G w K) K) σ a Done (λ k. subst (λ e. Leads a.units (T (λ c. referred P F c >>= k)) (real σ) (after e (λ c. referred P F c >>= k)) (real a.sit) a.seen) p (a.leads (λ c. referred P F c >>= k))) (i q K a.sit a.valid s)
      end_of a (Gave (Return w)) p s = record { units = a.units; seen = a.seen; end = Gave (Return w); sit = a.sit; leads = λ k. subst (λ e. Leads a.units (T (λ c. referred P F c >>= k)) (real σ) (after e (λ c. referred P F c >>= k)) (real a.sit) a.seen) p (a.leads (λ c. referred P F c >>= k)); valid = a.valid; count = a.count; sees = a.sees; so = s }
      end_of a (Gave (Throw w)) p s = record { units = a.units; seen = a.seen; end = Gave (Throw w); sit = a.sit; leads = λ k. subst (λ e. Leads a.units (T (λ c. referred P F c >>= k)) (real σ) (after e (λ c. referred P F c >>= k)) (real a.sit) a.seen) p (a.leads (λ c. referred P F c >>= k)); valid = a.valid; count = a.count; sees = a.sees; so = s }
      end_of a (Gave Break) p s = record { units = a.units; seen = a.seen; end = Gave Break; sit = a.sit; leads = λ k. subst (λ e. Leads a.units (T (λ c. referred P F c >>= k)) (real σ) (after e (λ c. referred P F c >>= k)) (real a.sit) a.seen) p (a.leads (λ c. referred P F c >>= k)); valid = a.valid; count = a.count; sees = a.sees; so = s }
      end_of a (Gave Continue) p s = record { units = a.units; seen = a.seen; end = Gave Continue; sit = a.sit; leads = λ k. subst (λ e. Leads a.units (T (λ c. referred P F c >>= k)) (real σ) (after e (λ c. referred P F c >>= k)) (real a.sit) a.seen) p (a.leads (λ c. referred P F c >>= k)); valid = a.valid; count = a.count; sees = a.sees; so = s }
      end_of a (Outside q z) p s = record { units = a.units; seen = a.seen; end = Outside q z; sit = a.sit; leads = λ k. subst (λ e. Leads a.units (T (λ c. referred P F c >>= k)) (real σ) (after e (λ c. referred P F c >>= k)) (real a.sit) a.seen) p (a.leads (λ c. referred P F c >>= k)); valid = a.valid; count = a.count; sees = a.sees; so = s }

      go : (a : Reached T (on_place (λ q. I q K) (λ w. G w K) K) σ) → Reached (λ k. T (λ c. referred P F c >>= k)) K σ
      go a = end_of a a.end refl a.so

  -- behind every end but one outside the profile
  pub bind_end : (T : Code') (H : Cont → Here) (F : Completion → Task) (G : Cont → Cont) → ((K : Cont) (q : OutKind) (p : Pos) → G K (Outside q p) ≡ K (Outside q p)) → Right T H → ((c : Completion) → Right (λ k. F c >>= k) (λ K. G K (Gave c))) → Right (λ k. T (λ c. F c >>= k)) (λ K. H (G K))
  bind_end T H F G out f g K σ v x = go (f (G K) σ v x)
    where
      end_of : (a : Reached T (G K) σ) (e : End) → a.end ≡ e → at (G K e) a.sit → Reached (λ k. T (λ c. F c >>= k)) K σ
      end_of a (Gave c) p s = joined T (λ k. F c >>= k) (λ k. T (λ c. F c >>= k)) K (G K) σ a Done (λ k. subst (λ e. Leads a.units (T (λ c. F c >>= k)) (real σ) (after e (λ c. F c >>= k)) (real a.sit) a.seen) p (a.leads (λ c. F c >>= k))) (g c K a.sit a.valid s)
      end_of a (Outside q z) p s = record { units = a.units; seen = a.seen; end = Outside q z; sit = a.sit; leads = λ k. subst (λ e. Leads a.units (T (λ c. F c >>= k)) (real σ) (after e (λ c. F c >>= k)) (real a.sit) a.seen) p (a.leads (λ c. F c >>= k)); valid = a.valid; count = a.count; sees = a.sees; so = subst (λ Z. at Z a.sit) (out K q z) s }

      go : (a : Reached T (G K) σ) → Reached (λ k. T (λ c. F c >>= k)) K σ
      go a = end_of a a.end refl a.so

  pub never : (T : Code') → Right T (λ K. No)
  unfolding No
  never T K σ v x = absurd x

  -- the next hint is taken
  pub hinted : (T : Code') (F : ℕ → Cont → Here) → ((i : ℕ) → Right T (F i)) → Right T (λ K. Hinted (λ i. F i K))
  unfolding Hinted
  hinted T F f K σ v x = go σ.hints x
    where
      go : (hs : List ℕ) → Hinted (λ i. F i K) hs σ.subs σ.heap σ.records σ.frame σ.facts σ.fars σ.rest σ.units → Reached T K σ
      go [] y = absurd y
      go (i ∷ hs) y =
          let a = f i K (record σ { hints = hs }) (record { within = v.within; below = v.below; facts = v.facts; outers = v.outers; away = v.away }) y in
          record { units = a.units; seen = a.seen; end = a.end; sit = a.sit; leads = a.leads; valid = a.valid; count = a.count; sees = a.sees; so = a.so }

  pub fewer : (σ : Sit) (hs : List ℕ) → Valid σ → Valid (record σ { hints = hs })
  fewer σ hs v = record { within = v.within; below = v.below; facts = v.facts; outers = v.outers; away = v.away }

  -- at one place
  pub hinted_here : (T : Code') (F : ℕ → Here) (K : Cont) (σ : Sit) → at (Hinted F) σ → ((i : ℕ) (hs : List ℕ) → at (F i) (record σ { hints = hs }) → Reached T K (record σ { hints = hs })) → Reached T K σ
  unfolding Hinted
  hinted_here T F K σ x f = go σ.hints x
    where
      go : (hs : List ℕ) → Hinted F hs σ.subs σ.heap σ.records σ.frame σ.facts σ.fars σ.rest σ.units → Reached T K σ
      go [] y = absurd y
      go (i ∷ hs) y = let a = f i hs y in record { units = a.units; seen = a.seen; end = a.end; sit = a.sit; leads = a.leads; valid = a.valid; count = a.count; sees = a.sees; so = a.so }

  pub tested : (T : Bool → Code') (b : Bool) (F G : Cont → Here) → Right (T true) F → Right (T false) G → Right (T b) (λ K. Test b (F K) (G K))
  unfolding Test Choice
  tested T b F G f g = hinted (T b) (λ i K. Choice i b (F K) (G K)) by_hint
    where
      by_hint : (i : ℕ) → Right (T b) (λ K. Choice i b (F K) (G K))
      by_hint zero K σ v x = subst (λ c. Reached (T c) K σ) (sym x.0) (g K σ v x.1)
      by_hint (suc i) K σ v x = subst (λ c. Reached (T c) K σ) (sym x.0) (f K σ v x.1)

  -- ---- variables

  pub var_right : (x : Text) → Right (λ k. read_name r x >>= k) (Sym.var x)
  unfolding Sym.var VarIs
  var_right x K σ v h = go (find_own σ.frame x) refl (outer_at σ.fars x) refl h
    where
      go : (a : Option Val) → find_own σ.frame x ≡ a → (u : Option Outer) → outer_at σ.fars x ≡ u → at (VarIs a u (λ w. K (Gave (Normal w)))) σ → Reached (λ k. read_name r x >>= k) K σ
      go (Some w) e u f y = stepped _ (Gave (Normal w)) K σ σ (λ k g. Sound.name_read r (real σ) x r w k g (Sound.own_binding σ.records r o σ.frame v.within v.below x w e) (Sound.own_value σ.records r o σ.frame v.within v.below x w e)) refl refl v y
      go None e None f y = absurd y
      go None e (Some u) f y =
          let w = Sound.find_outer (set_record σ.records r (act o σ.frame)) r o σ.fars x u v.outers v.away f in
          let b = subst (λ z. bound_from (set_record σ.records r (act o σ.frame)) o z ≡ Some u.at) w.name w.is.0 in
          stepped _ (Gave (Normal u.val)) K σ σ (λ k g. Sound.name_read r (real σ) x u.at u.val k g (Sound.far_binding σ.records r o σ.frame v.within v.below x u.at e b) (subst (λ z. value_in (record_at (set_record σ.records r (act o σ.frame)) u.at) z ≡ Some u.val) w.name (Sound.known_value u.free _ u.name u.val w.is.1))) refl refl v y

  pub set_var_right : (x : Text) (a : Val) → Right (λ k. write_name r x a >>= k) (Sym.set_var x a)
  unfolding Sym.set_var SetIs
  set_var_right x a K σ v h = go (find_own σ.frame x) refl (outer_at σ.fars x) refl h
    where
      go : (b : Option Val) → find_own σ.frame x ≡ b → (u : Option Outer) → outer_at σ.fars x ≡ u → at (SetIs x a b u (K (Gave (Normal a)))) σ → Reached (λ k. write_name r x a >>= k) K σ
      go (Some w) e u f y =
          let σ1 = record σ { frame = with_property σ.frame x a } in
          let top = Sound.top σ.records r o σ.frame v.within v.below in
          stepped _ (Gave (Normal a)) K σ σ1
          (λ k g. Sound.name_written r (real σ) x r a w k g (Sound.own_binding σ.records r o σ.frame v.within v.below x w e) (ap (λ z. find_own z.variables x) top ∙ e)
          ∙ ap (λ Z. look g (k (Normal a)) (record (real σ) { records = Z })) (Sound.own_store σ.records r o σ.frame v.within v.below x a))
          refl refl
          (record { within = v.within; below = v.below; facts = v.facts; outers = Sound.outers_kept (set_record σ.records r (act o σ.frame)) (set_record σ.records r (act o σ1.frame)) r o σ.fars (Sound.own_alike σ.records r o σ.frame v.within v.below x a w e) (λ b d. Sound.own_apart σ.records r o σ.frame v.within v.below x a b d) v.away v.outers; away = v.away }) y
      go None e None f y = absurd y
      go None e (Some u) f y =
          let S = set_record σ.records r (act o σ.frame) in
          let w = Sound.find_outer S r o σ.fars x u v.outers v.away f in
          let b = subst (λ z. bound_from S o z ≡ Some u.at) w.name w.is.0 in
          let val : find_own (record_at S u.at).variables x ≡ Some u.val = subst (λ z. find_own (record_at S u.at).variables z ≡ Some u.val) w.name (subst (λ t. value_by t (record_at S u.at) u.name ≡ Some u.val) y.0 w.is.1) in
          let σ1 = record σ { records = assign σ.records u.at x a; fars = rewritten σ.fars x a } in
          let st = Sound.far_store σ.records r o σ.frame v.within v.below x a u.at w.away in
          let inside = Memory.record_inside S u.at x u.val val in
          stepped _ (Gave (Normal a)) K σ σ1
          (λ k g. Sound.name_written r (real σ) x u.at a u.val k g (Sound.far_binding σ.records r o σ.frame v.within v.below x u.at e b) val
          ∙ ap (λ Z. look g (k (Normal a)) (record (real σ) { records = Z })) st)
          refl refl
          (record { within = let l = Memory.assign_length σ.records u.at x a in let q = v.within in omega (arith, l, q); below = v.below; facts = v.facts; outers = subst (λ Z. Outers Z o (rewritten σ.fars x a)) st (Sound.outers_written S o u.at x a u.val σ.fars b val inside v.outers); away = Sound.away_same r σ.fars x a v.away }) y.1

  -- ---- new objects, and errors of the machine

  pub makes_right : (c : Cell) (e : Val → End) → Right (λ k. Make c (λ a. after (e (Obj a)) k)) (Sym.makes c e)
  unfolding Sym.makes run walk moments moments_by
  makes_right c e K σ v x =
      let σ1 = record σ { heap = σ.heap ++ c ∷ []; facts = σ.facts ++ news (length σ.heap) c c.properties } in
      stepped _ (e (Obj (length σ.heap))) K σ σ1 (λ k g. refl) refl refl
      (record { within = v.within; below = v.below; facts = Sound.facts_join _ σ.facts _ (Sound.facts_old σ.heap c σ.facts v.facts) (Sound.facts_new σ.heap c c.properties); outers = v.outers; away = v.away }) x

  pub make_right : (c : Cell) → Right (λ k. Make c (λ a. k (Normal (Obj a)))) (Sym.make c)
  unfolding Sym.make
  make_right c = makes_right c (λ v. Gave (Normal v))

  pub arrayed_right : (vs : List Val) → Right (λ k. make_array vs >>= k) (Sym.arrayed vs)
  unfolding Sym.arrayed make_array run walk moments moments_by ◌>>=◌
  arrayed_right vs K σ v x =
      let c = array_of (map (λ v. Some v) vs) in
      let σ1 = record σ { heap = σ.heap ++ c ∷ []; facts = σ.facts ++ (Sym.items (length σ.heap) 0 vs ++ Sym.listing (length σ.heap) vs) } in
      stepped _ (Gave (Normal (Obj (length σ.heap)))) K σ σ1 (λ k g. refl) refl refl
      (record { within = v.within; below = v.below; facts = Sound.facts_join _ σ.facts _ (Sound.facts_old σ.heap c σ.facts v.facts) (Sound.facts_array σ.heap vs); outers = v.outers; away = v.away }) x

  pub raised_right : (message : Text) → Right (λ k. type_error message >>= k) (Sym.raised message)
  unfolding Sym.raised raise ◌>>=◌
  raised_right message = makes_right (error_object (codes "TypeError") message) (λ v. Gave (Throw v))

  -- ---- properties

  -- what is done with the value of a property of an object
  abbrev Uses : ℕ → Text → Code' → Type 1
  Uses a m T = (K : Cont) (σ : Sit) (w : Val) → Valid σ → or_undefined (get σ.heap a m) ≡ w → at (K (Gave (Normal w))) σ → Reached T K σ

  -- behind an object that lacks it
  behind : (a : ℕ) (m : Text) (T : Code') → Uses a m T → (K : Cont) (σ : Sit) → Valid σ → has σ.heap a m ≡ None → a < length σ.heap → at (Hinted (λ i. Sym.link_by i a (λ l. Sym.behind l m (K (Gave (Normal Undefined)))))) σ → Reached T K σ
  unfolding Sym.link_by Sym.LinkAt Sym.behind Sym.absent_by Sym.AbsentAt
  behind a m T f K σ v lacks inside x = hinted_here T (λ i. Sym.link_by i a (λ l. Sym.behind l m (K (Gave (Normal Undefined))))) K σ x by_link
    where
      misses : (hs : List ℕ) → Misses σ.heap a m → at (K (Gave (Normal Undefined))) (record σ { hints = hs }) → Reached T K (record σ { hints = hs })
      misses hs e y = f K (record σ { hints = hs }) Undefined (fewer σ hs v) (ap or_undefined (Changes.misses_is σ.heap a m e)) y

      by_next : (b : ℕ) → link_at σ.heap a ≡ Some b → (i : ℕ) (hs : List ℕ) → at (Sym.absent_by i b m (K (Gave (Normal Undefined)))) (record σ { hints = hs }) → Reached T K (record σ { hints = hs })
      by_next b l i hs y = go (fact_at σ.facts i) refl y
        where
          go : (q : Option Fact) → fact_at σ.facts i ≡ q → at (Sym.AbsentAt q b m (K (Gave (Normal Undefined)))) (record σ { hints = hs }) → Reached T K (record σ { hints = hs })
          go None e z = absurd z
          go (Some (Own c n w)) e z = absurd z
          go (Some (Seen c n w)) e z = absurd z
          go (Some (Lacks c n)) e z = absurd z
          go (Some (Absent c n)) e z = misses hs (Changes.misses_before σ.heap a b m lacks inside l (subst (λ q. Misses σ.heap q m) (sym z.0) (subst (λ q. Misses σ.heap c q) (sym z.1) (Sound.fact_is σ.heap σ.facts i (Absent c n) v.facts e)))) z.2
          go (Some (Names c ns)) e z = absurd z
          go (Some (Link c k)) e z = absurd z
          go (Some (IsKind c k)) e z = absurd z
          go (Some Gone) e z = absurd z

      by_end : (l : Option ℕ) → link_at σ.heap a ≡ l → (hs : List ℕ) → at (Sym.behind l m (K (Gave (Normal Undefined)))) (record σ { hints = hs }) → Reached T K (record σ { hints = hs })
      by_end None e hs y = misses hs (Changes.misses_last σ.heap a m lacks inside e) y
      by_end (Some b) e hs y = hinted_here T (λ i. Sym.absent_by i b m (K (Gave (Normal Undefined)))) K (record σ { hints = hs }) y (by_next b e)

      by_link : (i : ℕ) (hs : List ℕ) → at (Sym.link_by i a (λ l. Sym.behind l m (K (Gave (Normal Undefined))))) (record σ { hints = hs }) → Reached T K (record σ { hints = hs })
      by_link i hs y = go (fact_at σ.facts i) refl y
        where
          go : (q : Option Fact) → fact_at σ.facts i ≡ q → at (Sym.LinkAt q a (λ l. Sym.behind l m (K (Gave (Normal Undefined))))) (record σ { hints = hs }) → Reached T K (record σ { hints = hs })
          go None e z = absurd z
          go (Some (Own c n w)) e z = absurd z
          go (Some (Seen c n w)) e z = absurd z
          go (Some (Lacks c n)) e z = absurd z
          go (Some (Absent c n)) e z = absurd z
          go (Some (Names c ns)) e z = absurd z
          go (Some (Link c l)) e z = by_end l (subst (λ q. link_at σ.heap q ≡ l) (sym z.0) (Sound.fact_is σ.heap σ.facts i (Link c l) v.facts e).0) hs z.1
          go (Some (IsKind c k)) e z = absurd z
          go (Some Gone) e z = absurd z

  use_fact : (a : ℕ) (m : Text) (T : Code') → Uses a m T → Right T (λ K. Hinted (λ i. Sym.seen_by i a m (λ w. K (Gave (Normal w)))))
  unfolding Sym.seen_by SeenAt
  use_fact a m T f = hinted T (λ i K. Sym.seen_by i a m (λ w. K (Gave (Normal w)))) by_hint
    where
      by_hint : (i : ℕ) → Right T (λ K. Sym.seen_by i a m (λ w. K (Gave (Normal w))))
      by_hint i K σ v x = go (fact_at σ.facts i) refl x
        where
          go : (q : Option Fact) → fact_at σ.facts i ≡ q → at (SeenAt q a m (λ w. K (Gave (Normal w)))) σ → Reached T K σ
          go None e y = absurd y
          go (Some (Own b n w)) e y = f K σ w v (ap or_undefined (Memory.get_own σ.heap a m w (subst (λ z. has σ.heap a z ≡ Some w) (sym y.1) (subst (λ z. has σ.heap z n ≡ Some w) (sym y.0) (Sound.fact_is σ.heap σ.facts i (Own b n w) v.facts e))))) y.2
          go (Some (Seen b n w)) e y = f K σ w v (ap or_undefined (subst (λ z. get σ.heap a z ≡ Some w) (sym y.1) (subst (λ z. get σ.heap z n ≡ Some w) (sym y.0) (Sound.fact_is σ.heap σ.facts i (Seen b n w) v.facts e)))) y.2
          go (Some (Lacks b n)) e y =
              let k = Sound.fact_is σ.heap σ.facts i (Lacks b n) v.facts e in
              behind a m T f K σ v (subst (λ z. has σ.heap a z ≡ None) (sym y.1) (subst (λ z. has σ.heap z n ≡ None) (sym y.0) k.0)) (subst (λ z. z < length σ.heap) (sym y.0) k.1) y.2
          go (Some (Absent b n)) e y = f K σ Undefined v (ap or_undefined (Changes.misses_is σ.heap a m (subst (λ z. Misses σ.heap a z) (sym y.1) (subst (λ z. Misses σ.heap z n) (sym y.0) (Sound.fact_is σ.heap σ.facts i (Absent b n) v.facts e))))) y.2
          go (Some (Names b ns)) e y =
              let k = Sound.fact_is σ.heap σ.facts i (Names b ns) v.facts e in
              behind a m T f K σ v (subst (λ z. has σ.heap z m ≡ None) (sym y.0) (k.0 m y.1 y.2)) (subst (λ z. z < length σ.heap) (sym y.0) k.1) y.3
          go (Some (Link b l)) e y = absurd y
          go (Some (IsKind b n)) e y = absurd y
          go (Some Gone) e y = absurd y

  pub prop_right : (b : Val) (m : Text) → Right (λ k. read_property b m >>= k) (Sym.prop b m)
  unfolding Sym.prop Sym.Pick Sym.NoIndex read_property run walk moments moments_by ◌>>=◌
  prop_right Undefined m K σ v x = raised_right (codes "no properties") K σ v x
  prop_right Null m K σ v x = raised_right (codes "no properties") K σ v x
  prop_right (Truth t) m K σ v x = use_fact truth_prototype m (λ k. read_property (Truth t) m >>= k) (λ K σ w v e y. stepped _ (Gave (Normal w)) K σ σ (λ k g. ap (λ z. look g (k (Normal z)) (real σ)) e) refl refl v y) K σ v x
  prop_right (Num z) m K σ v x = use_fact number_prototype m (λ k. read_property (Num z) m >>= k) (λ K σ w v e y. stepped _ (Gave (Normal w)) K σ σ (λ k g. ap (λ z. look g (k (Normal z)) (real σ)) e) refl refl v y) K σ v x
  prop_right (Obj a) m K σ v x = use_fact a m (λ k. read_property (Obj a) m >>= k) (λ K σ w v e y. stepped _ (Gave (Normal w)) K σ σ (λ k g. ap (λ z. look g (k (Normal z)) (real σ)) e) refl refl v y) K σ v x
  prop_right (Str t) m K σ v x = go (is_length m) refl x
    where
      method : is_length m ≡ false → index_of m ≡ None → Uses text_prototype m (λ k. read_property (Str t) m >>= k)
      method p q K σ w v e y = stepped _ (Gave (Normal w)) K σ σ (λ k g.
          ap (λ a. look g (k (Normal (or_undefined (first (if a then Some (Num (pos (length t))) else values.unit_at t (index_of m)) (λ u. get σ.heap text_prototype m))))) (real σ)) p
          ∙ ap (λ a. look g (k (Normal (or_undefined (first (values.unit_at t a) (λ u. get σ.heap text_prototype m))))) (real σ)) q
          ∙ ap (λ z. look g (k (Normal z)) (real σ)) e) refl refl v y

      go : (q : Bool) → is_length m ≡ q → at (Sym.Pick q (K (Gave (Normal (Num (pos (length t)))))) (Sym.NoIndex m (Hinted (λ i. Sym.seen_by i text_prototype m (λ v. K (Gave (Normal v))))))) σ → Reached (λ k. read_property (Str t) m >>= k) K σ
      go true e y = stepped _ (Gave (Normal (Num (pos (length t))))) K σ σ (λ k g. ap (λ q. look g (k (Normal (or_undefined (first (if q then Some (Num (pos (length t))) else values.unit_at t (index_of m)) (λ u. get σ.heap text_prototype m))))) (real σ)) e) refl refl v y
      go false e y = use_fact text_prototype m (λ k. read_property (Str t) m >>= k) (method e (Memory.plain_is m y.0)) K σ v y.1

  pub placed_right : (b : Val) (m : Text) → Right (λ k. access ItsPlace b m >>= k) (Sym.placed b m)
  unfolding Sym.placed access ◌>>=◌
  placed_right Undefined m K σ v x = raised_right (codes "no properties") K σ v x
  placed_right Null m K σ v x = raised_right (codes "no properties") K σ v x
  placed_right (Truth t) m K σ v x = over _ (Gave (Refers (Property (Truth t) m))) (λ k. refl) K σ v x
  placed_right (Num z) m K σ v x = over _ (Gave (Refers (Property (Num z) m))) (λ k. refl) K σ v x
  placed_right (Str t) m K σ v x = over _ (Gave (Refers (Property (Str t) m))) (λ k. refl) K σ v x
  placed_right (Obj a) m K σ v x = over _ (Gave (Refers (Property (Obj a) m))) (λ k. refl) K σ v x

  put_right : (p : Pos) (a : ℕ) (m : Text) (w : Val) (i : ℕ) → Right (λ k. write_property p (Obj a) m w >>= k) (λ K. Sym.put_at i a m w (K (Gave (Normal w))))
  unfolding Sym.put_at
  put_right p a m w i K σ v x =
      let g = Sound.writes σ.heap a m w i σ.facts (λ l. at (K (Gave (Normal w))) (record σ { heap = write σ.heap a m w; facts = l })) x.0 v.facts x.1 in
      let σ1 = record σ { heap = write σ.heap a m w; facts = g.facts } in
      stepped _ (Gave (Normal w)) K σ σ1 (λ k j. Sound.property_written p (real σ) a m w k j x.0) refl refl
      (record { within = v.within; below = v.below; facts = g.are; outers = v.outers; away = v.away }) g.so

  pub set_prop_right : (p : Pos) (b : Val) (m : Text) (w : Val) → Right (λ k. write_property p b m w >>= k) (Sym.set_prop b m w)
  unfolding Sym.set_prop write_property
  set_prop_right p (Obj a) m w K σ v x = hinted (λ k. write_property p (Obj a) m w >>= k) (λ i K. Sym.put_at i a m w (K (Gave (Normal w)))) (put_right p a m w) K σ v x
  set_prop_right p Undefined m w K σ v x = raised_right (codes "not writable") K σ v x
  set_prop_right p Null m w K σ v x = raised_right (codes "not writable") K σ v x
  set_prop_right p (Truth t) m w K σ v x = raised_right (codes "not writable") K σ v x
  set_prop_right p (Num z) m w K σ v x = raised_right (codes "not writable") K σ v x
  set_prop_right p (Str t) m w K σ v x = raised_right (codes "not writable") K σ v x

  -- ---- deletions

  cut_right : (a : ℕ) (m : Text) (i : ℕ) → Right (λ k. delete_property (Obj a) m >>= k) (λ K. Sym.cut_at i a m (K (Gave (Normal (Truth true)))))
  unfolding Sym.cut_at
  cut_right a m i K σ v x =
      let g = Sound.erases σ.heap a m i σ.facts (λ l. at (K (Gave (Normal (Truth true)))) (record σ { heap = erase σ.heap a m; facts = l })) x.0 v.facts x.1 in
      let σ1 = record σ { heap = erase σ.heap a m; facts = g.facts } in
      stepped _ (Gave (Normal (Truth true))) K σ σ1 (λ k j. Sound.property_erased (real σ) a m k j x.0) refl refl
      (record { within = v.within; below = v.below; facts = g.are; outers = v.outers; away = v.away }) g.so

  cut_prop_right : (b : Val) (m : Text) → Right (λ k. delete_property b m >>= k) (Sym.cut_prop b m)
  unfolding Sym.cut_prop delete_property
  cut_prop_right (Obj a) m K σ v x = hinted (λ k. delete_property (Obj a) m >>= k) (λ i K. Sym.cut_at i a m (K (Gave (Normal (Truth true))))) (cut_right a m) K σ v x
  cut_prop_right Undefined m K σ v x = raised_right (codes "not deletable") K σ v x
  cut_prop_right Null m K σ v x = raised_right (codes "not deletable") K σ v x
  cut_prop_right (Truth t) m K σ v x = raised_right (codes "not deletable") K σ v x
  cut_prop_right (Num z) m K σ v x = raised_right (codes "not deletable") K σ v x
  cut_prop_right (Str t) m K σ v x = raised_right (codes "not deletable") K σ v x

  pub removed_right : (q : Place) → Right (λ k. delete_place q >>= k) (Sym.removed q)
  unfolding Sym.removed delete_place ◌>>=◌
  removed_right (Variable x) = over _ (Gave (Normal (Truth true))) (λ k. refl)
  removed_right (Property b m) = cut_prop_right b m

  -- ---- functions

  pub function_right : (c : Code) → Right (λ k. make_function c r >>= k) (Sym.function r c)
  unfolding Sym.function Sym.make Sym.makes make_function run walk moments moments_by ◌>>=◌
  function_right c K σ v x =
      let cell = new_cell (Function (length σ.rest.codes) r) (Some function_prototype) in
      let w1 : Rest = record { codes = σ.rest.codes ++ c ∷ []; lines = σ.rest.lines; calls = σ.rest.calls; seen = σ.rest.seen } in
      let σ1 = record σ { heap = σ.heap ++ cell ∷ []; facts = σ.facts ++ news (length σ.heap) cell cell.properties; rest = w1 } in
      stepped _ (Gave (Normal (Obj (length σ.heap)))) K σ σ1 (λ k g. refl) refl refl
      (record { within = v.within; below = v.below; facts = Sound.facts_join _ σ.facts _ (Sound.facts_old σ.heap cell σ.facts v.facts) (Sound.facts_new σ.heap cell cell.properties); outers = v.outers; away = v.away }) x

  -- ---- calls and loops that are known

  pub known_right : (this : Val) (t : Task) (B : ℕ → Cont → Here) → ((i : ℕ) → Right (λ k. t >>= k) (B i)) → Right (λ k. t >>= k) (λ K. Sym.known r o this (λ s m e s' seen. TakesSeen t s m e s' seen) (λ i. B i K) K)
  unfolding Sym.known record_at
  known_right this t B b K σ v x = go σ.subs x
    where
      go : (cs : List Known) → Sym.known r o this (λ s m e s' seen. TakesSeen t s m e s' seen) (λ i. B i K) K σ.hints cs σ.heap σ.records σ.frame σ.facts σ.fars σ.rest σ.units → Reached (λ k. t >>= k) K σ
      go [] y = absurd y
      go (ByRow i ∷ cs) y =
          let a = b i K (record σ { subs = cs }) (record { within = v.within; below = v.below; facts = v.facts; outers = v.outers; away = v.away }) y in
          record { units = a.units; seen = a.seen; end = a.end; sit = a.sit; leads = a.leads; valid = a.valid; count = a.count; sees = a.sees; so = a.so }
      go (ByRun c ∷ cs) y =
          let same : set_record c.records r (act o c.frame) ≡ c.records = ap (λ a. set_record c.records r a) (sym y.1) ∙ set-get_or c.records r (record { variables = []; constants = []; outer = None }) in
          record {
            units = c.units;
            seen = c.seen;
            end = c.end;
            sit = record { hints = σ.hints; subs = cs; heap = c.heap; records = c.records; frame = c.frame; facts = c.facts; fars = revalued σ.fars c.values; rest = Sym.rest_after σ.rest c; units = σ.units + c.units };
            leads = λ k. subst (λ Z. Leads c.units (t >>= k) (real σ) (after c.end k) (record { heap = c.heap; codes = c.rest.codes; records = Z; lines = c.rest.lines; calls = c.rest.calls }) c.seen) (sym same) (y.0 k);
            valid = record { within = y.2; below = v.below; facts = y.3; outers = subst (λ Z. Outers Z o (revalued σ.fars c.values)) (sym same) y.4; away = Sound.away_revalued r σ.fars c.values v.away };
            count = refl;
            sees = refl;
            so = y.5;
          }

  -- ---- operators

  pub result_right : (p : Pos) (z : Result) → Right (λ k. operated p z >>= k) (Sym.result p z)
  unfolding Sym.result ◌>>=◌
  result_right p (Is w) K σ v x = over _ (Gave (Normal w)) (λ k. refl) K σ v x
  result_right p (Out q) K σ v x = over _ (Outside q p) (λ k. refl) K σ v x

  pub ranged_right : (p : Pos) (z : ℤ) → Right (λ k. operated p (in_range z) >>= k) (Sym.ranged p z)
  unfolding Sym.ranged ◌>>=◌
  ranged_right p z K σ v x = tested (λ b k. operated p (if b then Is (Num z) else Out Number) >>= k) (fits z) (λ K. K (Gave (Normal (Num z)))) (λ K. K (Outside Number p)) (over _ (Gave (Normal (Num z))) (λ k. refl)) (over _ (Outside Number p) (λ k. refl)) K σ v x

  divided_right : (p : Pos) (m n : ℤ) → Right (λ k. operated p (quotient m n) >>= k) (Sym.divided p m n)
  unfolding Sym.divided Sym.Fails Sym.Holds
  divided_right p m n K σ v x = subst (λ b. Reached (λ k. operated p (if b then Out Division else if is_zero (int_rem m n) then in_range (int_div m n) else Out Division) >>= k) K σ) (sym x.0)
      (subst (λ b. Reached (λ k. operated p (if b then in_range (int_div m n) else Out Division) >>= k) K σ) (sym x.1.0) (ranged_right p (int_div m n) K σ v x.1.1))

  rest_right : (p : Pos) (m n : ℤ) → Right (λ k. operated p (remainder m n) >>= k) (Sym.rest p m n)
  unfolding Sym.rest Sym.Fails
  rest_right p m n K σ v x = subst (λ b. Reached (λ k. operated p (if b then Out Division else in_range (int_rem m n)) >>= k) K σ) (sym x.0) (ranged_right p (int_rem m n) K σ v x.1)

  spelled_right : (p : Pos) (t : Text) → Right (λ k. operated p (values.of_length t) >>= k) (Sym.spelled p t)
  unfolding Sym.spelled ◌>>=◌
  spelled_right p t K σ v x = tested (λ b k. operated p (if b then Is (Str t) else Out Number) >>= k) (nat_le (length t) largest) (λ K. K (Gave (Normal (Str t)))) (λ K. K (Outside Number p)) (over _ (Gave (Normal (Str t))) (λ k. refl)) (over _ (Outside Number p) (λ k. refl)) K σ v x

  sum_right : (p : Pos) (a b : Val) → Right (λ k. operated p (values.sum a b) >>= k) (Sym.sum p a b)
  unfolding Sym.sum
  sum_right p (Num m) (Num n) = ranged_right p (m +ℤ n)
  sum_right p (Num m) (Str t) = spelled_right p (values.numeral m ++ t)
  sum_right p (Str s) (Num n) = spelled_right p (s ++ values.numeral n)
  sum_right p (Str s) (Str t) = spelled_right p (s ++ t)
  sum_right p a b = never _

  numbers_right : (p : Pos) (f : ℤ → ℤ → Result) (F : ℤ → ℤ → Cont → Here) → ((m n : ℤ) → Right (λ k. operated p (f m n) >>= k) (F m n)) → (a b : Val) → Right (λ k. operated p (values.on_numbers f a b) >>= k) (Sym.numbers F a b)
  unfolding Sym.numbers
  numbers_right p f F g (Num m) (Num n) = g m n
  numbers_right p f F g a b = never _

  pub operate_right : (p : Pos) (op : Operator) (a b : Val) → Right (λ k. operated p (binary op a b) >>= k) (Sym.operate p op a b)
  unfolding Sym.operate
  operate_right p operator.Same a b = result_right p _
  operate_right p operator.Different a b = result_right p _
  operate_right p operator.Less a b = result_right p _
  operate_right p operator.Greater a b = result_right p _
  operate_right p operator.LessOrEqual a b = result_right p _
  operate_right p operator.GreaterOrEqual a b = result_right p _
  operate_right p operator.Add a b = sum_right p a b
  operate_right p operator.Subtract a b = numbers_right p _ _ (λ m n. ranged_right p (m -ℤ n)) a b
  operate_right p operator.Multiply a b = numbers_right p _ _ (λ m n. ranged_right p (m *ℤ n)) a b
  operate_right p operator.Divide a b = numbers_right p _ _ (divided_right p) a b
  operate_right p operator.Remainder a b = numbers_right p _ _ (rest_right p) a b

  -- ---- a node begins

  pub later : (σ : Sit) → Valid σ → Valid (record σ { units = suc σ.units })
  later σ v = record { within = v.within; below = v.below; facts = v.facts; outers = v.outers; away = v.away }

  pub begun : (q : Request) (K : Cont) (σ : Sit) → Reached (λ k. perform q >>= k) K (record σ { units = suc σ.units }) → Reached (λ k. Ask q k) K σ
  begun q K σ a = record {
    units = suc a.units;
    seen = a.seen;
    end = a.end;
    sit = a.sit;
    leads = λ k. steps_count (1 + a.units) (suc a.units) (omega arith) (sequence_is (Ask q k) (perform q >>= k) (after a.end k) (real σ) (real σ) (real a.sit) 1 a.units [] a.seen (begins q k (real σ)) (a.leads k));
    valid = a.valid;
    count = let p = a.count in omega (arith, p);
    sees = a.sees;
    so = a.so;
  }

-- A part of a node, and what comes behind its value; a statement that puts a value into the node's temporary.
use Rattle.std.proofs.Common.{◌≡◌, ◌⊎◌, inl, inr, ℕ, zero, suc, ◌+◌, ◌<◌, ◌≤◌, List, [], ◌∷◌, ◌++◌, length, Option, Some, None, refl, ap, ◌∙◌, subst, arith, codes}
use Rattle.ruby_meaning.specs.declared.value.Value.{Value}
use Rattle.es5_tree.specs.declared.tree.EsExpr.{EsExpr}
use Rattle.es5_tree.specs.declared.tree.EsStmt.{EsStmt}
use Rattle.es5_tree.specs.declared.tree.EsStmt.TheVariants as stmt
use Rattle.opal_base.specs.declared.place.Pos.{Pos}
use Rattle.es5_tree.specs.Values.{Text}
use Rattle.es5_tree.specs.Values as values
use Rattle.es5_evaluation.specs.State.{record_at, binding, has_variable, with_variable}
use Rattle.es5_evaluation.specs.State as es
use Rattle.es5_evaluation.specs.Task.{Completion, Normal, Throw, Break, Continue, Scope, Variable, Evaluate, Done, Ask, ◌>>=◌}
use Rattle.es5_evaluation.specs.Task as task
use Rattle.es5_evaluation.specs.Evaluate.{all, normally, nothing, referred, type_error, write_place}
use Rattle.es5_evaluation.proofs.Nodes as node
use Rattle.es5_evaluation.proofs.Tasks.{all_both, all_first, all_none, and_all}
use Rattle.es5_rules.specs.Steps.{Steps, Gives}
use Rattle.es5_rules.proofs.Steps.{steps_refl, steps_from, steps_count, steps_begin, steps_trans}
use Rattle.es5_rules.proofs.Expressions.{places_name, steps_write}
use Rattle.ruby_evaluation.specs.State.{Ruby}
use Rattle.ruby_evaluation.specs.Task.{BreakLoop, Next, Return, Result, Val, Leaves, Jump, Place, Request, Task, Eval, State, Outcome, Ends, Starved, andthen, walk, onval}
use Rattle.ruby_evaluation.specs.Task as ruby
use Rattle.ruby_evaluation.specs.Requires.{Files}
use Rattle.ruby_evaluation.specs.Nodes.{perform}
use Rattle.ruby_evaluation.specs.Run.{eval_to}
use Rattle.both_meanings.specs.Agree.{Relation}
use Rattle.both_meanings.specs.Names.{temp, Generated, is_temp}
use Rattle.both_meanings.specs.Carries.{Carries}
use Rattle.both_meanings.specs.World.{Listed, World, IsValue}
use Rattle.both_meanings.specs.Follows.{calls_of, Post, Follows}
use Rattle.both_meanings.specs.Holds.{Site, Scheme, value_of, Holds}
use Rattle.both_meanings.specs.Simulates.{Here, RecordsStay, Kept, Later, Matches, m_value, m_thrown, m_break, m_continue, m_next, m_return, or_top, writes_from, Good, Below}
use Rattle.both_meanings.specs.Code.{Sets}
use Rattle.both_meanings.proofs.Meeting.{met_none}
use Rattle.both_meanings.proofs.Bind.{after, follows_then, follows_end, follows_post, follows_quiet, follows_starves, follows_task}
use Rattle.both_meanings.proofs.Growing.{here_grows}
use Rattle.both_meanings.proofs.Records.{bound_is, has_var, var_binds, var_within, wrote, value_wrote, value_other, length_wrote, shape_wrote}
use Rattle.both_meanings.proofs.Holding.{holds_temp, kept_temp}
use Rattle.both_meanings.proofs.Laters.{later_refl, later_trans, stay_trans}

-- ---- a request begins: it takes a unit

pub begins : (files : Files) (d : ℕ) (q : Request) (st : State) (t0 : EsStmt) (ts : List EsStmt) (ρ : Scope) {C : Relation} {g a : ℕ} {s : es.State} {P : Post} → calls_of st.calls ≡ s.calls → ((l : ℕ) → suc l ≡ g → Follows C st.calls l a (walk (eval_to files d) (perform files q) st l) (all (t0 ∷ ts) ρ) s P) → Follows C st.calls g (suc a) (eval_to files (suc d) q st g) (all (t0 ∷ ts) ρ) s P
unfolding eval_to
begins files d q st t0 ts ρ {C} {g = zero} same next = follows_task (all_first t0 ts ρ) (follows_starves steps_refl (met_none C st.calls) same (omega arith))
begins files d q st t0 ts ρ {g = suc l} {a = a} same next = follows_quiet {l = l} {a2 = a} steps_refl (omega arith) (omega arith) (next l refl)

-- ---- one after the other

below_top : (site : Site) (t : ℕ) (x : Result) → Below site.loop t → writes_from site t x ≤ t
below_top site t (Val v) b = omega arith
below_top site t (Leaves (BreakLoop v)) b = by site.loop b
  where
    by : (l : Option ℕ) → Below l t → or_top t l ≤ t
    by None c = omega arith
    by (Some n) c = omega (arith, c)
below_top site t (Leaves (ruby.Break n v)) b = omega arith
below_top site t (Leaves (Next v)) b = omega arith
below_top site t (Leaves (Return k v)) b = omega arith
below_top site t (Leaves (ruby.Raise k)) b = omega arith
below_top site t (Leaves ruby.Again) b = omega arith

kept_trans : {w w1 : World} {r t u v : ℕ} {s y z : es.State} → Kept w r t s y → Kept w1 r u y z → v ≤ t → v ≤ u → length s.records ≤ length y.records → ((o q n : ℕ) → w.role o ≡ Some (Listed q n) → w1.role o ≡ Some (Listed q n)) → Kept w r v s z
kept_trans {r = r} {v = v} a b vt vu more g = record {
  temps = λ q n l c. b.temps q n (omega (arith, l, more)) (lower c (λ i. omega (arith, i, vu))) ∙ a.temps q n l (lower c (λ i. omega (arith, i, vt)));
  lists = λ o q n e c. b.lists o q n (g o q n e) (lower c (λ i. omega (arith, i, vu))) ∙ a.lists o q n e (lower c (λ i. omega (arith, i, vt)));
}
  where
    lower : {q n m : ℕ} → (q ≡ r → ⊥) ⊎ (n < v) → (n < v → n < m) → (q ≡ r → ⊥) ⊎ (n < m)
    lower (inl f) i = inl f
    lower (inr l) i = inr (i l)

kept_low : {w : World} {r t u : ℕ} {s z : es.State} → t ≤ u → Kept w r u s z → Kept w r t s z
kept_low {r = r} {t = t} {u = u} le a = record { temps = λ q n l c. a.temps q n l (lower c); lists = λ o q n e c. a.lists o q n e (lower c) }
  where
    lower : {q n : ℕ} → (q ≡ r → ⊥) ⊎ (n < t) → (q ≡ r → ⊥) ⊎ (n < u)
    lower (inl f) = inl f
    lower (inr l) = inr (omega (arith, l, le))

writes_up : (site : Site) (t u : ℕ) (x : Result) → t ≤ u → writes_from site t x ≤ writes_from site u x
writes_up site t u (Val v) le = le
writes_up site t u (Leaves (BreakLoop v)) le = by site.loop
  where
    by : (l : Option ℕ) → or_top t l ≤ or_top u l
    by None = le
    by (Some n) = omega arith
writes_up site t u (Leaves (ruby.Break n v)) le = le
writes_up site t u (Leaves (Next v)) le = le
writes_up site t u (Leaves (Return k v)) le = le
writes_up site t u (Leaves (ruby.Raise k)) le = le
writes_up site t u (Leaves ruby.Again) le = le

-- what is good behind a part is good for the whole; the part may have stood at a higher temporary
pub good_trans : {T : Scheme} {w w1 : World} {p : Place} {r : ℕ} {site : Site} {t u : ℕ} {st st1 st2 : State} {s y z : es.State} {x : Result} {c : Completion} → Below site.loop t → t ≤ u → Later w st.ruby w1 st1.ruby → RecordsStay s.records y.records → Kept w r u s y → Good T w1 p r site t st1 y x st2 c z → Good T w p r site t st s x st2 c z
good_trans {site = site} {t = t} {x = x} b le later stay kept g =
    let low = below_top site t x b in
    record {
      w1 = g.w1;
      holds = g.holds;
      stay = stay_trans stay g.stay;
      kept = kept_trans kept g.kept (omega (arith, low, le)) (omega arith) stay.more (λ o q n e. later.grows.role o (Listed q n) e);
      later = later_trans later g.later;
      is = g.is;
    }

-- ---- a part

-- where a node stands behind a part of it
pub here_later : {T : Scheme} {w w1 : World} {p : Place} {r : ℕ} {site : Site} {st : State} {s : es.State} {r1 : Ruby} → Here T w st.ruby p r site → Holds T w st s → Later w st.ruby w1 r1 → Here T w1 r1 p r site
here_later {T} {p = p} {r = r} {site = site} {st = st} {r1 = r1} here holds l =
    let there = (holds.records.frames p.frame here.frame here.is).0 in
    here_grows l.grows T st.ruby r1 p r site (l.opened p.frame there) (l.returns p.frame there) here

-- a jump of the part at u is one of the whole
jumps_on : {w : World} {p : Place} {r : ℕ} {site : Site} (u t : ℕ) (j : Jump) (c : Completion) (z : es.State) → Matches w p r site u z (Leaves j) c → Matches w p r site t z (Leaves j) c
jumps_on u t _ _ z (m_thrown j y a) = m_thrown j y a
jumps_on u t _ _ z (m_break l v y e i q) = m_break l v y e i q
jumps_on u t _ _ z (m_continue l v e) = m_continue l v e
jumps_on u t _ _ z (m_next v y e i q) = m_next v y e i q
jumps_on u t _ _ z (m_return v y e q) = m_return v y e q

module _ {T : Scheme} {w : World} {p : Place} {site : Site} (t u : ℕ) (low : Below site.loop t) (le : t ≤ u) {st : State} {s : es.State} (ρ : Scope) (here : Here T w st.ruby p ρ.innermost site) (holds : Holds T w st s) (f : Eval) (k : Value → Task) (rest : List EsStmt) where
  -- what the value of a part at u leaves to do
  pub record Behind (n a : ℕ) : Type 0 where
    pub by : (v : Value) (y : values.Val) (st1 : State) (l : ℕ) (z : es.State) (w1 : World) → l ≤ n → Later w st.ruby w1 st1.ruby → RecordsStay s.records z.records → Kept w ρ.innermost u s z → Here T w1 st1.ruby p ρ.innermost site → Holds T w1 st1 z → value_of z ρ.innermost (temp u) ≡ Some y → IsValue w1 v y → Follows (Carries T.called) st1.calls l a (walk f (k v) st1 l) (all rest ρ) z (Good T w1 p ρ.innermost site t st1 z)

  -- a jump ends the whole
  leaves_whole : (j : Jump) (st1 : State) (c : Completion) (z : es.State) → Good T w p ρ.innermost site u st s (Leaves j) st1 c z → Good T w p ρ.innermost site t st s (Leaves j) st1 c z
  leaves_whole j st1 c z g = record { w1 = g.w1; holds = g.holds; stay = g.stay; kept = kept_low (writes_up site t u (Leaves j) le) g.kept; later = g.later; is = jumps_on u t j c z g.is }

  behind_part : (n av : ℕ) → Behind n av → (x : Result) (st1 : State) (l : ℕ) (c : Completion) (z : es.State) → (g : Good T w p ρ.innermost site u st s x st1 c z) → l ≤ n → Matches g.w1 p ρ.innermost site u z x c → Follows (Carries T.called) st1.calls l (after x av 0) (walk f (onval k x) st1 l) (and_all rest ρ c) z (Good T w p ρ.innermost site t st s)
  behind_part n av next _ st1 l _ z g i (m_value v u1 y e q) =
      follows_post _ (λ x st2 c z2 h. good_trans low le g.later g.stay g.kept h) (next.by v u1 st1 l z g.w1 i g.later g.stay g.kept (here_later here holds g.later) g.holds e q)
  behind_part n av next _ st1 l _ z g i (m_thrown j y a) = follows_end (Throw y) steps_refl (met_none (Carries T.called) st1.calls) (leaves_whole j st1 (Throw y) z g) (omega arith) (omega arith)
  behind_part n av next _ st1 l _ z g i (m_break b v y e a q) = follows_end Break steps_refl (met_none (Carries T.called) st1.calls) (leaves_whole (BreakLoop v) st1 Break z g) (omega arith) (omega arith)
  behind_part n av next _ st1 l _ z g i (m_continue b v e) = follows_end Continue steps_refl (met_none (Carries T.called) st1.calls) (leaves_whole (Next v) st1 Continue z g) (omega arith) (omega arith)
  behind_part n av next _ st1 l _ z g i (m_next v y e a q) = follows_end (task.Return y) steps_refl (met_none (Carries T.called) st1.calls) (leaves_whole (Next v) st1 (task.Return y) z g) (omega arith) (omega arith)
  behind_part n av next _ st1 l _ z g i (m_return v y e q) = follows_end (task.Return y) steps_refl (met_none (Carries T.called) st1.calls) (leaves_whole (Return p.frame v) st1 (task.Return y) z g) (omega arith) (omega arith)

  -- a part's statements, and then what its value leaves to do
  pub part : (n a b av : ℕ) (q : Request) (ts : List EsStmt) → a ≤ b → a + av ≤ b + 120 → Follows (Carries T.called) st.calls n a (f q st n) (all ts ρ) s (Good T w p ρ.innermost site u st s) → Behind n av → Follows (Carries T.called) st.calls n b (walk f (ruby.Ask q (onval k)) st n) (all (ts ++ rest) ρ) s (Good T w p ρ.innermost site t st s)
  part n a b av q ts x y first next =
      follows_task (all_both ts rest ρ)
      (follows_then {a1 = a} {av = av} {aj = 0} (Good T w p ρ.innermost site u st s) (omega (arith, y)) (omega (arith, x)) first
      (λ x st1 l c z g i. behind_part n av next x st1 l c z g i g.is))

-- ---- a statement that puts a value into a temporary

-- what follows the value
abbrev pub stored_then : Pos → Scope → ℕ → List EsStmt → Completion → task.Task
stored_then at ρ t rest c = normally (write_place at ρ.innermost (Variable (temp t))) c >>= (λ d. Done d >>= and_all rest ρ)

-- the value is asked for
pub sets_begins : (ts : EsStmt) (rest : List EsStmt) (t : ℕ) (a : EsExpr) (ρ : Scope) (s : es.State) → (i : Sets ts t a) → Steps (all (ts ∷ rest) ρ) s 3 (Ask (Evaluate a ρ) (stored_then i.whole.pos ρ t rest)) s []
unfolding ◌>>=◌
sets_begins ts rest t a ρ s i =
    steps_from (ap (λ x. all (x ∷ rest) ρ) i.is ∙ all_first (stmt.Expr i.whole) rest ρ)
    (steps_trans (steps_begin (and_all rest ρ) (node.exec_expr i.whole ρ))
    (steps_trans (steps_begin (λ c. Done c >>= and_all rest ρ) (node.eval_assign i.whole i.target a ρ i.assigns))
    ((places_name i.target (temp t) ρ s i.named).by (λ d. referred (λ place. Ask (Evaluate a ρ) (normally (write_place i.whole.pos ρ.innermost place))) (λ v. type_error (codes "not writable")) d >>= (λ c. Done c >>= and_all rest ρ)))))

module _ {T : Scheme} {w : World} {p : Place} {site : Site} {st : State} {s : es.State} (ρ : Scope) (here : Here T w st.ruby p ρ.innermost site) (holds : Holds T w st s) (t : ℕ) (room : t < site.top) where
  -- and is put there
  sets_ends : (at : Pos) (rest : List EsStmt) (u : values.Val) → Steps (stored_then at ρ t rest (Normal u)) s 0 (all rest ρ) (wrote s ρ.innermost (temp t) u) []
  unfolding ◌>>=◌ write_place
  sets_ends at rest u =
      let var = here.temps t room in
      steps_write ρ.innermost (temp t) ρ.innermost u (λ d. Done d >>= and_all rest ρ) s (bound_is holds.records.shapes ρ.innermost ρ.innermost (temp t) (var_binds var)) (has_var holds.records.shapes ρ.innermost (temp t) var)

  -- where the value of a node stands in its temporary
  pub set_good : (v : Value) (u y : values.Val) → IsValue w v u → Good T w p ρ.innermost site t st s (Val v) st (Normal y) (wrote s ρ.innermost (temp t) u)
  set_good v u y i =
      let var = here.temps t room in
      let inside = var_within holds.records.shapes ρ.innermost (temp t) var in
      record {
        w1 = w;
        holds = holds_temp T w st s ρ.innermost t u holds var;
        stay = record {
          more = let n = length_wrote s ρ.innermost (temp t) u in omega (arith, n);
          shape = λ q l. shape_wrote s ρ.innermost (temp t) u q inside (has_var holds.records.shapes ρ.innermost (temp t) var);
          plain = λ q x l n. value_other s ρ.innermost q (temp t) u x inside (λ e. n (subst Generated e (is_temp t)));
        };
        kept = kept_temp w s ρ.innermost t t u inside (omega arith);
        later = later_refl w st.ruby;
        is = m_value v u y (value_wrote s ρ.innermost (temp t) u inside) i;
      }

  -- a node that has a value at once
  pub leaf : (n a l m : ℕ) (v : Value) (u : values.Val) (ts : EsStmt) (e : EsExpr) → Sets ts t e → Gives e ρ s m u s [] → IsValue w v u → l ≤ n → n ≤ l + 1000 → Follows (Carries T.called) st.calls n a (Ends (Val v) st l) (all (ts ∷ []) ρ) s (Good T w p ρ.innermost site t st s)
  leaf n a l m v u ts e i g q x y =
      follows_end nothing
      (steps_count (3 + (m + (0 + 0))) (3 + m) (omega arith)
      (steps_trans (sets_begins ts [] t e ρ s i)
      (steps_trans (g.by (stored_then i.whole.pos ρ t []))
      (steps_trans (sets_ends i.whole.pos [] u) (steps_from (all_none ρ) steps_refl)))))
      (met_none (Carries T.called) st.calls) (set_good v u values.Undefined q) x (omega (arith, y))

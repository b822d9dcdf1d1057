-- The body of a method or of a block: its statements follow the evaluation of its text in its frame, and what ends it is the answer of the call.
use Rattle.std.proofs.Common.{◌≡◌, inl, ℕ, ◌+◌, ◌<◌, ◌≤◌, true, List, [], ◌∷◌, ◌++◌, length, Some, None, sym, ap, ◌∙◌, subst, arith}
use Rattle.ruby_meaning.specs.declared.tree.Node.{Node}
use Rattle.ruby_meaning.specs.declared.value.Value.{Value}
use Rattle.es5_tree.specs.declared.tree.EsExpr.{EsExpr}
use Rattle.es5_tree.specs.declared.tree.EsKind.TheVariants as kind
use Rattle.es5_tree.specs.declared.tree.EsStmt.{EsStmt}
use Rattle.es5_tree.specs.declared.tree.EsStmt.TheVariants as stmt
use Rattle.es5_tree.specs.Values.{Text, first, find_own}
use Rattle.es5_tree.specs.Values as values
use Rattle.es5_evaluation.specs.State.{record_at}
use Rattle.es5_evaluation.specs.State as es
use Rattle.es5_evaluation.specs.Task.{Completion, Normal, Throw, Scope, ◌>>=◌, Done}
use Rattle.es5_evaluation.specs.Task as task
use Rattle.es5_evaluation.specs.Evaluate.{all, left}
use Rattle.es5_evaluation.proofs.Tasks.{all_both, all_first, and_all, then_assoc}
use Rattle.es5_rules.specs.Steps.{Steps, Gives}
use Rattle.es5_rules.proofs.Steps.{steps_refl, steps_from}
use Rattle.es5_rules.proofs.Expressions.{gives_name}
use Rattle.es5_rules.proofs.Statements.{does_return}
use Rattle.ruby_evaluation.specs.State.{closed}
use Rattle.ruby_evaluation.specs.Task.{Jump, BreakLoop, Next, Return, Raise, Result, Val, Leaves, Place, Evaluate, Task, Change, State, Outcome, Ends, Eval, changed, walk, run_node}
use Rattle.ruby_evaluation.specs.Task as ruby
use Rattle.ruby_evaluation.specs.Requires.{Files}
use Rattle.ruby_evaluation.specs.Run.{eval_to}
use Rattle.both_meanings.specs.Names.{temp}
use Rattle.both_meanings.specs.World.{OfFrame, Listed, World, Var}
use Rattle.both_meanings.specs.Carries.{Carries}
use Rattle.both_meanings.specs.Follows.{Follows}
use Rattle.both_meanings.specs.Holds.{Site, Scheme, value_of, Holds}
use Rattle.both_meanings.specs.Simulates.{Here, RecordsStay, KeptAll, Later, Answers, a_value, Matches, m_value, m_thrown, m_break, m_continue, m_next, m_return, Good, Called, Below, Simulates}
use Rattle.both_meanings.proofs.Basics.{none_some}
use Rattle.both_meanings.proofs.Meeting.{met_none}
use Rattle.both_meanings.proofs.Bind.{after, follows_end, follows_task, follows_then}
use Rattle.both_meanings.proofs.Growing.{var_grows}
use Rattle.both_meanings.proofs.Records.{bound_is, var_binds}
use Rattle.both_meanings.proofs.Holding.{NoToken, holds_closed, closed_other, closed_frames}
use Rattle.both_meanings.proofs.Laters.{later_ruby, later_trans, stay_trans}

-- how a body's result becomes that of the call
pub record Finishes (w : World) (p : Place) (site : Site) (end : Result → Result) : Type 0 where
  pub value : (v : Value) → end (Val v) ≡ Val v
  pub thrown : (j : Jump) (y : values.Val) → Answers w (Leaves j) (Throw y) → end (Leaves j) ≡ Leaves j
  pub returned : (v : Value) → site.returns ≡ true → end (Leaves (Return p.frame v)) ≡ Val v
  pub nexted : (v : Value) → site.nexts ≡ true → end (Leaves (Next v)) ≡ Val v

-- the call began in s, and its body begins in z
pub record Began (w : World) (before : State) (s : es.State) (w1 : World) (st : State) (z : es.State) (k r : ℕ) : Type 0 where
  pub later : Later w before.ruby w1 st.ruby
  pub fresh : length before.ruby.frames ≤ k
  pub there : k < length st.ruby.frames
  pub kept : KeptAll w s z
  pub stay : RecordsStay s.records z.records
  pub beyond : length s.records ≤ r
  pub none : NoToken w1 k

-- ---- the statement at a body's end

pub reads_temp : {T : Scheme} {w : World} {st : State} {z : es.State} (e0 : EsExpr) (ρ : Scope) (t : ℕ) (u : values.Val) → e0.kind ≡ kind.Name (temp t) → Holds T w st z → Var w ρ.innermost (temp t) → value_of z ρ.innermost (temp t) ≡ Some u → Gives e0 ρ z 1 u z []
reads_temp {z = z} e0 ρ t u named h var e = gives_name e0 (temp t) ρ z ρ.innermost u named (bound_is h.records.shapes ρ.innermost ρ.innermost (temp t) (var_binds var)) (ap (λ o. first o (λ x. find_own (record_at z.records ρ.innermost).constants (temp t))) e)

-- `return t;` ends the call with the value of t
returns_temp : {T : Scheme} {w : World} {st : State} {z : es.State} (e0 : EsExpr) (rest : List EsStmt) (ρ : Scope) (t : ℕ) (u y : values.Val) → e0.kind ≡ kind.Name (temp t) → Holds T w st z → Var w ρ.innermost (temp t) → value_of z ρ.innermost (temp t) ≡ Some u → Steps (and_all (stmt.Return (Some e0) ∷ rest) ρ (Normal y) >>= left) z 2 (Done (Normal u)) z []
unfolding ◌>>=◌
returns_temp {z = z} e0 rest ρ t u y named h var e =
    steps_from (ap (λ x. x >>= left) (all_first (stmt.Return (Some e0)) rest ρ)) ((does_return e0 ρ z z 1 u [] (reads_temp e0 ρ t u named h var e)).by (λ c. and_all rest ρ c >>= left))

-- ---- the whole

module _ {T : Scheme} {files : Files} {d : ℕ} (ih : Simulates T files d) (a : ℕ) (small : a ≤ 120) (site : Site) (loop : site.loop ≡ None) (room : 0 < site.top) (body : Node) (code rest : List EsStmt) (stands : (p : Place) → T.texts.stands a site 0 (Evaluate body p) (λ ρ. all code ρ)) (e0 : EsExpr) (named : e0.kind ≡ kind.Name (temp 0)) (end : Result → Result) (p : Place) (finishes : (w : World) → NoToken w p.frame → Finishes w p site end) where
  -- what Ruby's side does behind the body
  abbrev ended : Result → Task
  ended x = Change (closed p.frame) (ruby.Done (end x))

  module _ (w : World) (before : State) (s : es.State) (h : Holds T w before s) where
    -- the answer, with all that is known of the end
    answered : (w1 : World) (st1 : State) (z1 : es.State) (ρ : Scope) → Began w before s w1 st1 z1 p.frame ρ.innermost → (x : Result) (st : State) (c : Completion) (z : es.State) → (g : Good T w1 p ρ.innermost site 0 st1 z1 x st c z) → (answer : Completion) → Answers g.w1 (end x) answer → Called T w before s (end x) (changed (closed p.frame) st) answer z
    answered w1 st1 z1 ρ b x st c z g answer is =
        let none : NoToken g.w1 p.frame = λ o e. b.none o (g.later.tokens o (OfFrame p.frame) b.there e) in
        let there : p.frame < length st.ruby.frames = omega (arith, b.there, g.later.frames) in
        record {
          w1 = g.w1;
          holds = holds_closed T g.w1 st z p.frame there none g.holds;
          stay = stay_trans b.stay g.stay;
          kept = record {
            temps = λ q n l. g.kept.temps q n (omega (arith, l, b.stay.more)) (inl (λ e. let y = b.beyond in absurd (omega (arith, l, y, e)))) ∙ b.kept.temps q n l;
            lists = λ o q n e.
                let i = h.records.lists o q n e in
                g.kept.lists o q n (b.later.grows.role o (Listed q n) e) (inl (λ j. let y = b.beyond in absurd (omega (arith, i, y, j)))) ∙ b.kept.lists o q n e;
          };
          later = later_ruby (later_trans b.later g.later) (omega (arith, closed_frames st.ruby p.frame)) (omega arith) (λ j l. closed_other st.ruby p.frame j (λ e. let y = b.fresh in absurd (omega (arith, l, y, e))));
          is = is;
        }

    -- a result of the body with the completion of its statements: what is left to do
    rests : (w1 : World) (st1 : State) (z1 : es.State) (ρ : Scope) → Began w before s w1 st1 z1 p.frame ρ.innermost → Here T w1 st1.ruby p ρ.innermost site → (x : Result) (st : State) (l : ℕ) (c : Completion) (z : es.State) → (g : Good T w1 p ρ.innermost site 0 st1 z1 x st c z) → Matches g.w1 p ρ.innermost site 0 z x c → Follows (Carries T.called) st.calls l (after x 0 120) (walk (eval_to files d) (ended x) st l) (and_all (stmt.Return (Some e0) ∷ rest) ρ c >>= left) z (Called T w before s)
    unfolding ◌>>=◌
    rests w1 st1 z1 ρ b here _ st l _ z g (m_value v u y e i) =
        let none : NoToken g.w1 p.frame = λ o q. b.none o (g.later.tokens o (OfFrame p.frame) b.there q) in
        let is = (finishes g.w1 none).value v in
        subst (λ x. Follows (Carries T.called) st.calls l 0 (Ends x (changed (closed p.frame) st) l) (and_all (stmt.Return (Some e0) ∷ rest) ρ (Normal y) >>= left) z (Called T w before s)) (sym is)
        (follows_end (Normal u) (returns_temp e0 rest ρ 0 u y named g.holds (var_grows g.later.grows ρ.innermost (temp 0) (here.temps 0 room)) e) (met_none (Carries T.called) st.calls)
        (subst (λ x. Called T w before s x (changed (closed p.frame) st) (Normal u) z) is (answered w1 st1 z1 ρ b (Val v) st (Normal y) z g (Normal u) (subst (λ x. Answers g.w1 x (Normal u)) (sym is) (a_value v u i))))
        (omega arith) (omega arith))
    rests w1 st1 z1 ρ b here _ st l _ z g (m_thrown j y answer) =
        let none : NoToken g.w1 p.frame = λ o q. b.none o (g.later.tokens o (OfFrame p.frame) b.there q) in
        let is = (finishes g.w1 none).thrown j y answer in
        subst (λ x. Follows (Carries T.called) st.calls l 120 (Ends x (changed (closed p.frame) st) l) (and_all (stmt.Return (Some e0) ∷ rest) ρ (Throw y) >>= left) z (Called T w before s)) (sym is)
        (follows_end (Throw y) steps_refl (met_none (Carries T.called) st.calls)
        (subst (λ x. Called T w before s x (changed (closed p.frame) st) (Throw y) z) is (answered w1 st1 z1 ρ b (Leaves j) st (Throw y) z g (Throw y) (subst (λ x. Answers g.w1 x (Throw y)) (sym is) answer)))
        (omega arith) (omega arith))
    rests w1 st1 z1 ρ b here _ st l _ z g (m_break n v u e i q) = absurd (none_some n (sym loop ∙ e))
    rests w1 st1 z1 ρ b here _ st l _ z g (m_continue n v e) = absurd (none_some n (sym loop ∙ e))
    rests w1 st1 z1 ρ b here _ st l _ z g (m_next v u e q i) =
        let none : NoToken g.w1 p.frame = λ o q. b.none o (g.later.tokens o (OfFrame p.frame) b.there q) in
        let is = (finishes g.w1 none).nexted v q in
        subst (λ x. Follows (Carries T.called) st.calls l 120 (Ends x (changed (closed p.frame) st) l) (and_all (stmt.Return (Some e0) ∷ rest) ρ (task.Return u) >>= left) z (Called T w before s)) (sym is)
        (follows_end (Normal u) steps_refl (met_none (Carries T.called) st.calls)
        (subst (λ x. Called T w before s x (changed (closed p.frame) st) (Normal u) z) is (answered w1 st1 z1 ρ b (Leaves (Next v)) st (task.Return u) z g (Normal u) (subst (λ x. Answers g.w1 x (Normal u)) (sym is) (a_value v u i))))
        (omega arith) (omega arith))
    rests w1 st1 z1 ρ b here _ st l _ z g (m_return v u q i) =
        let none : NoToken g.w1 p.frame = λ o q. b.none o (g.later.tokens o (OfFrame p.frame) b.there q) in
        let is = (finishes g.w1 none).returned v q in
        subst (λ x. Follows (Carries T.called) st.calls l 120 (Ends x (changed (closed p.frame) st) l) (and_all (stmt.Return (Some e0) ∷ rest) ρ (task.Return u) >>= left) z (Called T w before s)) (sym is)
        (follows_end (Normal u) steps_refl (met_none (Carries T.called) st.calls)
        (subst (λ x. Called T w before s x (changed (closed p.frame) st) (Normal u) z) is (answered w1 st1 z1 ρ b (Leaves (Return p.frame v)) st (task.Return u) z g (Normal u) (subst (λ x. Answers g.w1 x (Normal u)) (sym is) (a_value v u i))))
        (omega arith) (omega arith))

    pub body_follows : (w1 : World) (st1 : State) (z1 : es.State) (ρ : Scope) (l : ℕ) → l ≤ d → Began w before s w1 st1 z1 p.frame ρ.innermost → Here T w1 st1.ruby p ρ.innermost site → Holds T w1 st1 z1
        → Follows (Carries T.called) st1.calls l (a + 120) (walk (eval_to files d) (ruby.Ask (Evaluate body p) ended) st1 l) (all (code ++ (stmt.Return (Some e0) ∷ rest)) ρ >>= left) z1 (Called T w before s)
    body_follows w1 st1 z1 ρ l le b here holds =
        follows_task (ap (λ t. t >>= left) (all_both code (stmt.Return (Some e0) ∷ rest) ρ) ∙ then_assoc (all code ρ) (and_all (stmt.Return (Some e0) ∷ rest) ρ) left)
        (follows_then {a1 = a} {av = 0} {aj = 120} (Good T w1 p ρ.innermost site 0 st1 z1) (omega arith) (omega arith)
        (ih.by a site 0 (Evaluate body p) (λ ρ. all code ρ) w1 ρ st1 z1 l le small (subst (λ o. Below o 0) (sym loop) tt) (stands p) here holds)
        (λ x st2 l2 c z g less. rests w1 st1 z1 ρ b here x st2 l2 c z g g.is))

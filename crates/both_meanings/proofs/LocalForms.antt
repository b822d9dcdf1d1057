-- Reading and setting a local, in any scheme.
use Rattle.std.proofs.Common.{◌≡◌, ℕ, ◌<◌, true, [], ◌∷◌, Some, ap, ◌∙◌, subst, arith}
use Rattle.ruby_meaning.specs.declared.value.Value.{Value}
use Rattle.es5_tree.specs.declared.tree.EsExpr.{EsExpr}
use Rattle.es5_tree.specs.declared.tree.EsKind.TheVariants as kind
use Rattle.es5_tree.specs.declared.tree.EsStmt.{EsStmt}
use Rattle.es5_tree.specs.declared.tree.EsStmt.TheVariants as stmt
use Rattle.es5_tree.specs.Values.{Val, first, find_own}
use Rattle.es5_evaluation.specs.State.{record_at}
use Rattle.es5_evaluation.specs.State as es
use Rattle.es5_evaluation.specs.Task.{Scope}
use Rattle.es5_evaluation.specs.Evaluate.{all, nothing}
use Rattle.es5_evaluation.proofs.Tasks.{all_first, all_none, and_all}
use Rattle.es5_rules.proofs.Steps.{steps_from, steps_to}
use Rattle.es5_rules.proofs.Expressions.{gives_name, gives_assign}
use Rattle.es5_rules.proofs.Statements.{does_expr}
use Rattle.ruby_evaluation.specs.Tables.{Name}
use Rattle.ruby_evaluation.specs.Locals.{local, with_local}
use Rattle.ruby_evaluation.specs.Task.{Place, Eval, State, Look, Change, walk, gives}
use Rattle.both_meanings.specs.Names as names
use Rattle.both_meanings.specs.Carries.{Carries}
use Rattle.both_meanings.specs.World.{World, IsValue, Binds, stands}
use Rattle.both_meanings.specs.Follows.{Follows}
use Rattle.both_meanings.specs.Holds.{Site, Scheme, value_of, Holds}
use Rattle.both_meanings.specs.Simulates.{Here, m_value, Good}
use Rattle.both_meanings.specs.Code.{Sets, SetsLocal}
use Rattle.both_meanings.proofs.Meeting.{met_none}
use Rattle.both_meanings.proofs.Bind.{follows_end}
use Rattle.both_meanings.proofs.Records.{bound_is, has_var, wrote}
use Rattle.both_meanings.proofs.Bodies.{reads_temp}
use Rattle.both_meanings.proofs.Locals.{seen, reads, holds_local, later_set, stay_set, temp_set, kept_set}
use Rattle.both_meanings.proofs.Parts.{leaf}

module _ {T : Scheme} {w : World} {p : Place} {site : Site} {st : State} {s : es.State} (ρ : Scope) (here : Here T w st.ruby p ρ.innermost site) (holds : Holds T w st s) (t : ℕ) (x : Name) (known : stands x site.names ≡ true) where
  -- `t = l$x;`
  pub local_get : (f : Eval) (n a : ℕ) (ts : EsStmt) (e : EsExpr) → t < site.top → Sets ts t e → e.kind ≡ kind.Name (names.local x) → Follows (Carries T.called) st.calls n a (walk f (Look (λ r. gives (local r p.frame x))) st n) (all (ts ∷ []) ρ) s (Good T w p ρ.innermost site t st s)
  local_get f n a ts e room i q =
      let l = here.locals x known in
      let r = reads holds.records p.frame l.0 x here.frame here.is l.1 in
      leaf ρ here holds t room n a n 1 (local st.ruby p.frame x) r.value ts e i
      (gives_name e (names.local x) ρ s r.at r.value q (bound_is holds.records.shapes ρ.innermost r.at (names.local x) (subst (λ b. Binds w b (names.local x) r.at) here.record_is r.binds)) (ap (λ o. first o (λ z. find_own (record_at s.records r.at).constants (names.local x))) r.is))
      r.same (omega arith) (omega arith)

  -- `l$x = t;` behind the value of a part
  pub local_put : (f : Eval) (n a : ℕ) (ts : EsStmt) (v : Value) (u : Val) → t < site.top → SetsLocal ts x t → value_of s ρ.innermost (names.temp t) ≡ Some u → IsValue w v u → Follows (Carries T.called) st.calls n 120 (walk f (Change (with_local p.frame x v) (gives v)) st n) (all (ts ∷ []) ρ) s (Good T w p ρ.innermost site t st s)
  local_put f n a ts v u room i at vu =
      let l = here.locals x known in
      let g = seen holds.records p.frame l.0 x here.frame here.is l.1 in
      let var = here.temps t room in
      let binds = bound_is holds.records.shapes ρ.innermost g.frame.record_at (names.local x) (subst (λ b. Binds w b (names.local x) g.frame.record_at) here.record_is g.binds) in
      let does = does_expr i.whole ρ s (wrote s g.frame.record_at (names.local x) u) 3 u [] (gives_assign i.whole i.target i.from (names.local x) ρ s s g.frame.record_at 1 u [] i.assigns i.named (reads_temp i.from ρ t u i.from_is holds var at) binds (has_var holds.records.shapes g.frame.record_at (names.local x) g.var)) in
      follows_end nothing
      (steps_from (ap (λ y. all (y ∷ []) ρ) i.is ∙ all_first (stmt.Expr i.whole) [] ρ) (steps_to (all_none ρ) (does.by (and_all [] ρ))))
      (met_none (Carries T.called) st.calls)
      (record {
        w1 = w;
        holds = holds_local holds p.frame l.0 x here.frame here.is l.1 v u vu;
        stay = stay_set holds p.frame l.0 x here.frame here.is l.1 v u vu;
        kept = kept_set holds p.frame l.0 x here.frame here.is l.1 v u vu ρ.innermost t;
        later = later_set holds p.frame l.0 x here.frame here.is l.1 v u vu;
        is = m_value v u _ (temp_set holds p.frame l.0 x here.frame here.is l.1 v u vu ρ.innermost t ∙ at) vu;
      })
      (omega arith) (omega arith)

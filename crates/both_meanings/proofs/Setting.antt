-- The small setting: its nodes are simulated, and calls of methods and blocks and jumps to tokens follow Ruby's.
use Rattle.std.proofs.Common.{◌≡◌, ℕ, ℤ, zero, suc, ◌<◌, ◌≤◌, true, if◌then◌else◌, List, [], ◌∷◌, ◌++◌, Some, None, refl, sym, ap, ◌∙◌, subst, arith, codes}
use Rattle.opal_base.specs.declared.place.Pos.{Pos}
use Rattle.ruby_meaning.specs.declared.tree.Base.TheOpen.{Kind-F}
use Rattle.ruby_meaning.specs.declared.tree.JumpKind.TheVariants as jump_kind
use Rattle.ruby_meaning.specs.declared.tree.Kind.{out-Kind}
use Rattle.ruby_meaning.specs.declared.tree.Node.{Node}
use Rattle.ruby_meaning.specs.declared.value.Value.{Value}
use Rattle.ruby_meaning.specs.declared.value.Value.TheVariants as value
use Rattle.es5_tree.specs.declared.tree.EsExpr.{EsExpr}
use Rattle.es5_tree.specs.declared.tree.EsKind.TheVariants as kind
use Rattle.es5_tree.specs.declared.tree.EsStmt.{EsStmt}
use Rattle.es5_tree.specs.declared.tree.EsStmt.TheVariants as stmt
use Rattle.es5_tree.specs.Values.{Text}
use Rattle.es5_tree.specs.Values as values
use Rattle.es5_evaluation.specs.State as es
use Rattle.es5_evaluation.specs.Task.{Completion, Scope, Done, ◌>>=◌}
use Rattle.es5_evaluation.specs.Task as task
use Rattle.es5_evaluation.specs.Evaluate.{all}
use Rattle.es5_evaluation.proofs.Tasks.{all_first, and_all}
use Rattle.es5_rules.specs.Steps.{Steps}
use Rattle.es5_rules.proofs.Steps.{steps_refl, steps_from}
use Rattle.es5_rules.proofs.Expressions.{gives_num, gives_name}
use Rattle.es5_rules.proofs.Statements.{does_return}
use Rattle.ruby_evaluation.specs.Tables.{Name}
use Rattle.ruby_evaluation.specs.Lists.{Layer}
use Rattle.ruby_evaluation.specs.State.{frame_at}
use Rattle.ruby_evaluation.specs.Task.{Next, Return, Result, Val, Leaves, Place, Request, Evaluate, Turn, BodyFirst, Attempt, Task, Eval, State, Outcome, Ends, walk, onval}
use Rattle.ruby_evaluation.specs.Task as ruby
use Rattle.ruby_evaluation.specs.Requires.{Files}
use Rattle.ruby_evaluation.specs.Nodes.{act, perform, return_from}
use Rattle.ruby_evaluation.specs.Texts.{jump_error}
use Rattle.ruby_evaluation.specs.Run.{eval_to}
use Rattle.both_meanings.specs.Names.{temp, self_name}
use Rattle.both_meanings.specs.Carries.{Carries}
use Rattle.both_meanings.specs.World.{World, is_int, Sees}
use Rattle.both_meanings.specs.Follows.{Follows}
use Rattle.both_meanings.specs.Holds.{Site, Scheme, value_of, Holds}
use Rattle.both_meanings.specs.Simulates.{Here, m_next, m_return, Good, Below, place_of, Simulates}
use Rattle.both_meanings.specs.Code.{Sets}
use Rattle.both_meanings.specs.Small.{CodeOf, of_int, of_self, of_next, of_return, IsCode, small, SmallSimulates}
use Rattle.both_meanings.proofs.Basics.{some_same, none_some}
use Rattle.both_meanings.proofs.Meeting.{met_none}
use Rattle.both_meanings.proofs.Bind.{follows_end, follows_outcome, follows_starves, follows_task}
use Rattle.both_meanings.proofs.Records.{bound_is}
use Rattle.both_meanings.proofs.Holding.{kept_refl}
use Rattle.both_meanings.proofs.Laters.{later_refl, stay_refl}
use Rattle.both_meanings.proofs.Bodies.{reads_temp}
use Rattle.both_meanings.proofs.Parts.{begins, part, leaf}

-- ---- code is never empty

record Begun (code : List EsStmt) : Type 0 where
  first : EsStmt
  rest : List EsStmt
  is : code ≡ first ∷ rest

begun : (a : ℕ) (site : Site) (t : ℕ) (node : Node) (code : List EsStmt) → CodeOf a site t node code → Begun code
begun _ site t node _ (of_int a _ _ _ n ts e k l i j) = record { first = ts; rest = []; is = refl }
begun _ site t node _ (of_self a _ _ _ ts e k l i j) = record { first = ts; rest = []; is = refl }
begun _ site t node _ (of_next a _ _ _ q t0 ts e k x y l c j) = record { first = t0; rest = ts ++ stmt.Return (Some e) ∷ []; is = refl }
begun _ site t node _ (of_return a _ _ _ q t0 ts e k y l c j) = record { first = t0; rest = ts ++ stmt.Return (Some e) ∷ []; is = refl }

-- ---- `return t;`

returns : {T : Scheme} {w : World} {st : State} {p : Place} {site : Site} {z : es.State} (e0 : EsExpr) (ρ : Scope) (t : ℕ) (u : values.Val) → t < site.top → e0.kind ≡ kind.Name (temp t) → Here T w st.ruby p ρ.innermost site → Holds T w st z → value_of z ρ.innermost (temp t) ≡ Some u → Steps (all (stmt.Return (Some e0) ∷ []) ρ) z 2 (Done (task.Return u)) z []
returns {z = z} e0 ρ t u l named here holds e =
    steps_from (all_first (stmt.Return (Some e0)) [] ρ) ((does_return e0 ρ z z 1 u [] (reads_temp e0 ρ t u named holds (here.temps t l) e)).by (and_all [] ρ))

module _ (nil : ℕ) (called : List Name) (files : Files) (d : ℕ) (ih : Simulates (small nil called) files d) where
  abbrev T : Scheme
  T = small nil called

  module _ (p : Place) {w : World} {st : State} {s : es.State} (ρ : Scope) (l : ℕ) (le : l ≤ d) (holds : Holds T w st s) where
    -- what is to be shown of a node, with its layer open
    abbrev Followed : ℕ → Site → ℕ → Layer → Pos → List EsStmt → Type 0
    Followed a site t layer at code = Follows (Carries called) st.calls l a (walk (eval_to files d) (act files at layer p) st l) (all code ρ) s (Good T w p ρ.innermost site t st s)

    int_follows : (a : ℕ) (site : Site) (t : ℕ) (n : ℤ) (at : Pos) (ts : EsStmt) (e : EsExpr) → Here T w st.ruby p ρ.innermost site → t < site.top → Sets ts t e → e.kind ≡ kind.Num n → Followed a site t (Kind-F.Int n) at (ts ∷ [])
    int_follows a site t n at ts e here room i k = leaf ρ here holds t room l a l 1 (value.Int n) (values.Num n) ts e i (gives_num e n ρ s k) (is_int n) (omega arith) (omega arith)

    self_follows : (a : ℕ) (site : Site) (t : ℕ) (at : Pos) (ts : EsStmt) (e : EsExpr) → Here T w st.ruby p ρ.innermost site → t < site.top → Sets ts t e → e.kind ≡ kind.Name self_name → Followed a site t Kind-F.SelfRef at (ts ∷ [])
    self_follows a site t at ts e here room i k =
        let fr = (holds.records.frames p.frame here.frame here.is).1 in
        let u = fr.me.0 in
        let sees = subst (λ r. Sees w r self_name u) here.record_is fr.me.1 in
        leaf ρ here holds t room l a l 1 (frame_at st.ruby p.frame).me u ts e i (gives_name e self_name ρ s sees.at u k (bound_is holds.records.shapes ρ.innermost sees.at self_name sees.binds) (holds.records.fixed sees.at self_name u sees.is).2) fr.me.2 (omega arith) (omega arith)

    -- the part of a jump
    part_follows : (a : ℕ) (site : Site) (t : ℕ) (q : Node) (code : List EsStmt) → a ≤ 120 → Below site.loop t → Here T w st.ruby p ρ.innermost site → CodeOf a site t q code → Follows (Carries called) st.calls l a (eval_to files d (Evaluate q p) st l) (all code ρ) s (Good T w p ρ.innermost site t st s)
    part_follows a site t q code small_a low here c = ih.by a site t (Evaluate q p) (λ ρ. all code ρ) w ρ st s l le small_a low (record { node = q; is = refl; code = code; of = c; all_of = refl }) here holds

    next_follows : (a : ℕ) (site : Site) (t : ℕ) (q : Node) (at : Pos) (t0 : EsStmt) (ts : List EsStmt) (e : EsExpr) → a ≤ 120 → Below site.loop t → Here T w st.ruby p ρ.innermost site → site.loop ≡ None → site.nexts ≡ true → t < site.top → CodeOf a site t q (t0 ∷ ts) → e.kind ≡ kind.Name (temp t) → Followed a site t (Kind-F.Jump jump_kind.Next q) at (t0 ∷ (ts ++ stmt.Return (Some e) ∷ []))
    next_follows a site t q at t0 ts e small_a low here none nexts room c k =
        part t t low (omega arith) ρ here holds (eval_to files d) (λ v. ruby.jumps (Next v)) (stmt.Return (Some e) ∷ []) l a a 120 (Evaluate q p) (t0 ∷ ts) (omega arith) (omega arith) (part_follows a site t q (t0 ∷ ts) small_a low here c)
        (record { by = λ v y st1 l1 z w1 b later stay kept here1 holds1 e1 i. follows_end (task.Return y) (returns e ρ t y room k here1 holds1 e1) (met_none (Carries called) st1.calls) (record { w1 = w1; holds = holds1; stay = stay_refl z.records; kept = kept_refl w1 z ρ.innermost t; later = later_refl w1 st1.ruby; is = m_next v y none nexts i }) (omega arith) (omega arith) })

    -- in a frame that is open, which a return there ends
    returned : (site : Site) (v : Value) (w1 : World) (st1 : State) (l1 : ℕ) → Here T w1 st1.ruby p ρ.innermost site → site.returns ≡ true → walk (eval_to files d) (return_from v p) st1 l1 ≡ Ends (Leaves (Return p.frame v)) st1 l1
    returned site v w1 st1 l1 here i =
        ap (λ k. walk (eval_to files d) (if (frame_at st1.ruby k).is_open then ruby.jumps (Return k v) else jump_error (codes "unexpected return")) st1 l1) (here.returns i)
        ∙ ap (λ b. walk (eval_to files d) (if b then ruby.jumps (Return p.frame v) else jump_error (codes "unexpected return")) st1 l1) here.opened

    return_follows : (a : ℕ) (site : Site) (t : ℕ) (q : Node) (at : Pos) (t0 : EsStmt) (ts : List EsStmt) (e : EsExpr) → a ≤ 120 → Below site.loop t → Here T w st.ruby p ρ.innermost site → site.returns ≡ true → t < site.top → CodeOf a site t q (t0 ∷ ts) → e.kind ≡ kind.Name (temp t) → Followed a site t (Kind-F.Jump jump_kind.Return q) at (t0 ∷ (ts ++ stmt.Return (Some e) ∷ []))
    return_follows a site t q at t0 ts e small_a low here rets room c k =
        part t t low (omega arith) ρ here holds (eval_to files d) (λ v. return_from v p) (stmt.Return (Some e) ∷ []) l a a 120 (Evaluate q p) (t0 ∷ ts) (omega arith) (omega arith) (part_follows a site t q (t0 ∷ ts) small_a low here c)
        (record { by = λ v y st1 l1 z w1 b later stay kept here1 holds1 e1 i. follows_outcome (returned site v w1 st1 l1 here1 rets) (follows_end (task.Return y) (returns e ρ t y room k here1 holds1 e1) (met_none (Carries called) st1.calls) (record { w1 = w1; holds = holds1; stay = stay_refl z.records; kept = kept_refl w1 z ρ.innermost t; later = later_refl w1 st1.ruby; is = m_return v y rets i }) (omega arith) (omega arith)) })

    -- with the layer of a node
    opened : (a : ℕ) (site : Site) (t : ℕ) (node : Node) (code : List EsStmt) (layer : Layer) → out-Kind node.kind ≡ layer → Followed a site t layer node.span.from code → Follows (Carries called) st.calls l a (walk (eval_to files d) (perform files (Evaluate node p)) st l) (all code ρ) s (Good T w p ρ.innermost site t st s)
    opened a site t node code layer e f = follows_outcome (ap (λ y. walk (eval_to files d) (act files node.span.from y p) st l) e) f

    -- each form of code
    code_follows : (a : ℕ) (site : Site) (t : ℕ) (node : Node) (code : List EsStmt) → suc a ≤ 120 → Below site.loop t → Here T w st.ruby p ρ.innermost site → CodeOf (suc a) site t node code → Follows (Carries called) st.calls l a (walk (eval_to files d) (perform files (Evaluate node p)) st l) (all code ρ) s (Good T w p ρ.innermost site t st s)
    code_follows a site t node _ small_a low here (of_int _ _ _ _ n ts e k room i j) =
        opened a site t node (ts ∷ []) (Kind-F.Int n) k (int_follows a site t n node.span.from ts e here room i j)
    code_follows a site t node _ small_a low here (of_self _ _ _ _ ts e k room i j) =
        opened a site t node (ts ∷ []) Kind-F.SelfRef k (self_follows a site t node.span.from ts e here room i j)
    code_follows a site t node _ small_a low here (of_next _ _ _ _ q t0 ts e k none nexts room c j) =
        opened a site t node _ (Kind-F.Jump jump_kind.Next q) k (next_follows a site t q node.span.from t0 ts e (omega (arith, small_a)) low here none nexts room c j)
    code_follows a site t node _ small_a low here (of_return _ _ _ _ q t0 ts e k rets room c j) =
        opened a site t node _ (Kind-F.Jump jump_kind.Return q) k (return_follows a site t q node.span.from t0 ts e (omega (arith, small_a)) low here rets room c j)

  no_code : (a : ℕ) (site : Site) (t : ℕ) (node : Node) (code : List EsStmt) → a ≡ 0 → CodeOf a site t node code → ⊥
  no_code _ site t node _ e (of_int a _ _ _ n ts x k l i j) = omega (arith, e)
  no_code _ site t node _ e (of_self a _ _ _ ts x k l i j) = omega (arith, e)
  no_code _ site t node _ e (of_next a _ _ _ q t0 ts x k y z l c j) = omega (arith, e)
  no_code _ site t node _ e (of_return a _ _ _ q t0 ts x k y l c j) = omega (arith, e)

  evaluates : (a : ℕ) (site : Site) (t : ℕ) (node : Node) (p : Place) (code : List EsStmt) (w : World) (ρ : Scope) (st : State) (s : es.State) (g : ℕ) → g ≤ suc d → a ≤ 120 → Below site.loop t → CodeOf a site t node code → Here T w st.ruby p ρ.innermost site → Holds T w st s → Follows (Carries called) st.calls g a (eval_to files (suc d) (Evaluate node p) st g) (all code ρ) s (Good T w p ρ.innermost site t st s)
  evaluates zero site t node p code w ρ st s g le small_a low c here holds = absurd (no_code 0 site t node code refl c)
  evaluates (suc a) site t node p code w ρ st s g le small_a low c here holds =
      let b = begun (suc a) site t node code c in
      follows_task (ap (λ ts. all ts ρ) b.is)
      (begins files d (Evaluate node p) st b.first b.rest ρ holds.calls
      (λ l e. subst (λ ts. Follows (Carries called) st.calls l a (walk (eval_to files d) (perform files (Evaluate node p)) st l) (all ts ρ) s (Good T w p ρ.innermost site t st s)) b.is
      (code_follows p ρ l (omega (arith, le, e)) holds a site t node code small_a low here c)))

  -- one request more
  more : Simulates T files (suc d)
  more = record { by = by }
    where
      by : (a : ℕ) (site : Site) (t : ℕ) (q : Request) (u : Scope → task.Task) (w : World) (ρ : Scope) (st : State) (s : es.State) (g : ℕ) → g ≤ suc d → a ≤ 120 → Below site.loop t → IsCode a site t q u → Here T w st.ruby (place_of q) ρ.innermost site → Holds T w st s → Follows (Carries called) st.calls g a (eval_to files (suc d) q st g) (u ρ) s (Good T w (place_of q) ρ.innermost site t st s)
      by a site t (Evaluate node p) u w ρ st s g le small_a low i here holds =
          follows_task (ap (λ f. f ρ) i.all_of)
          (evaluates a site t node p i.code w ρ st s g le small_a low (subst (λ n. CodeOf a site t n i.code) (sym (some_same node i.node i.is)) i.of) here holds)
      by a site t (Turn c b p) u w ρ st s g le small_a low i here holds = absurd (none_some i.node i.is)
      by a site t (BodyFirst c b p) u w ρ st s g le small_a low i here holds = absurd (none_some i.node i.is)
      by a site t (Attempt b cs o p) u w ρ st s g le small_a low i here holds = absurd (none_some i.node i.is)

-- with no request nested both sides stand still
nothing_nested : (nil : ℕ) (called : List Name) (files : Files) (a : ℕ) (site : Site) (t : ℕ) (q : Request) (u : Scope → task.Task) (w : World) (ρ : Scope) (st : State) (s : es.State) (g : ℕ) → g ≤ 0 → a ≤ 120 → Below site.loop t → IsCode a site t q u → Here (small nil called) w st.ruby (place_of q) ρ.innermost site → Holds (small nil called) w st s → Follows (Carries called) st.calls g a (eval_to files 0 q st g) (u ρ) s (Good (small nil called) w (place_of q) ρ.innermost site t st s)
unfolding eval_to
nothing_nested nil called files a site t q u w ρ st s g le small_a low i here holds =
    let b = begun a site t i.node i.code i.of in
    follows_task (ap (λ f. f ρ) i.all_of ∙ ap (λ ts. all ts ρ) b.is ∙ all_first b.first b.rest ρ)
    (follows_starves steps_refl (met_none (Carries called) st.calls) holds.calls (omega (arith, le)))

pub simulates : SmallSimulates
simulates nil called files zero = record { by = λ a site t q u w ρ st s g le small_a low i here holds. nothing_nested nil called files a site t q u w ρ st s g le small_a low i here holds }
simulates nil called files (suc d) = more nil called files d (simulates nil called files d)

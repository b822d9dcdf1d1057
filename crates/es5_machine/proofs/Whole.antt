-- The machine over all its steps.
use Rattle.std.proofs.Common.{◌≡◌, inl, inr, ℕ, suc, ◌+◌, ◌-◌, ◌≤◌, ◌<◌, List, [], ◌∷◌, ◌++◌, length, map, Option, Some, None, refl, sym, ap, ◌∙◌, subst, arith, append-nil, append_assoc}
use Rattle.std.proofs.lemmas.List.{length-append, length-map}
use Rattle.opal_base.specs.Outside.{appended}
use Rattle.opal_base.specs.Shown.{HostCall, Shown, Ended, Going, output_of}
use Rattle.es5_tree.specs.declared.tree.Script.{Script}
use Rattle.es5_tree.specs.Values.{Text}
use Rattle.es5_tree.specs.Ends.{EsEnd, Finished, Uncaught, Outside}
use Rattle.es5_evaluation.specs.State.{State}
use Rattle.es5_evaluation.specs.Task.{Completion, Scope, Task, Done, Leaves, Ask, Look, Set, Make, Keep, Enter, Store, Print, Read, Outcome, walk, with_new, with_record}
use Rattle.es5_evaluation.specs.Task as task
use Rattle.es5_evaluation.specs.Evaluate.{all, perform}
use Rattle.es5_evaluation.specs.Run.{ask, run, outcome, es_run, cells_at, cells_of, at_first, shown_by, state_of, end_of, first_state, script_scope}
use Rattle.es5_evaluation.proofs.Growing.{Later, walk_adds, ask_adds}
use Rattle.es5_host.specs.Values.{out_of}
use Rattle.es5_code.specs.At.{Table}
use Rattle.es5_code.specs.Trees.{stmts_in}
use Rattle.es5_code.specs.declared.node.Node.{Node}
use Rattle.es5_pending.specs.declared.action.Begins.{Begins}
use Rattle.es5_pending.specs.declared.frame.Frame.{Frame}
use Rattle.es5_pending.specs.Meaning.{completion_of, request_of, rest as rest_of}
use Rattle.es5_store.specs.declared.effect.Halt.{Halt}
use Rattle.es5_store.specs.declared.effect.Halt.TheVariants as halt
use Rattle.es5_store.specs.declared.store.Store.{Store as Stored}
use Rattle.es5_store.specs.Store.{Sound, state_in, record_of}
use Rattle.es5_store.specs.Steps.{MakesCell, MakesOneMore, WritesOn}
use Rattle.es5_execution.specs.declared.pending.Rest.{Rest}
use Rattle.es5_execution.specs.declared.pending.Rest.TheVariants as rest
use Rattle.es5_execution.specs.Progress.{Followed, Halted, beginning, rest_task}
use Rattle.opal_base.proofs.Outputs.{output_both}
use Rattle.opal_base.proofs.Took.{appended_none, appended_twice}
use Rattle.es5_machine.specs.declared.end.RunEnd.{RunEnd}
use Rattle.es5_machine.specs.declared.end.RunEnd.TheVariants as end
use Rattle.es5_machine.specs.Run.{Ran, output, output_at, IsFront, FrontPieces, Ends, GoesOn, Fills, Tells, Caused, Keeps, IsAgain}
use Rattle.es5_machine.specs.Progress.{end_in, IsTold, IsNode, end_of_halt, script_in, Holds, HoldsUnless}

-- ---- what a script shows

shown_output : (o : Outcome) → output (shown_by o) ≡ output_of (state_of o).calls
shown_output (task.Ended c s g) = refl
shown_output (task.Left kind p s) = refl
shown_output (task.Going s) = refl

output_is : (script : Script) (input : Text) (n : ℕ) → output_at script input n ≡ output_of (state_of (outcome script input n)).calls
unfolding es_run
output_is script input n = shown_output (outcome script input n)

shows : (script : Script) (input : Text) (n : ℕ) (o : Outcome) → outcome script input n ≡ o → es_run script input n ≡ shown_by o
unfolding es_run
shows script input n o e = ap shown_by e

cells_are : (script : Script) (input : Text) (n : ℕ) (o : Outcome) → outcome script input n ≡ o → cells_at script input n ≡ cells_of (state_of o)
unfolding cells_at
cells_are script input n o e = ap (λ x. cells_of (state_of x)) e

-- ---- without a unit

-- where a node would begin, or nothing is left to do, the state stays
stays : (T : List Node) (ρ : Scope) (fs : List Frame) (next : Rest) (s : State) → state_of (walk (ask 0) 0 (rest_task T ρ fs next) s) ≡ s
unfolding walk ask
stays T ρ fs (rest.Begins b) s = refl
stays T ρ fs (rest.Ended c) s = refl
stays T ρ fs (rest.Left kind p) s = refl

-- a node begins
begun : (T : List Node) (ρ : Scope) (fs : List Frame) (b : Begins) (g : ℕ) (s : State) → walk (ask (suc g)) (suc g) (rest_task T ρ fs (rest.Begins b)) s ≡ walk (ask g) g (beginning T ρ b fs) s
unfolding walk ask
begun T ρ fs b g s = refl

-- what a walk without a unit comes to
adds : (t : Task) (s : State) → Later s (state_of (walk (ask 0) 0 t s))
adds t s = walk_adds (ask 0) (ask_adds 0) 0 t s

-- the output of a later state goes on from the earlier one
output_later : (s t : State) → Later s t → (more : List ℕ) × (output_of t.calls ≡ output_of s.calls ++ more)
output_later s t l = (output_of l.calls.0, ap output_of l.calls.1 ∙ output_both l.calls.0 s.calls)

abbrev all_of : State → ℕ
all_of s = length s.heap + length s.records

one_more : {A : Type 0} (xs : List A) (x : A) → length (xs ++ x ∷ []) ≡ suc (length xs)
one_more xs x = let e = length-append xs (x ∷ []) in omega (arith, e)

-- a task that makes a cell first makes one
makes_one : (t : Task) (s : State) → MakesCell t → suc (all_of s) ≤ all_of (state_of (walk (ask 0) 0 t s))
unfolding walk
makes_one (Done c) s m = absurd m
makes_one (Leaves kind p) s m = absurd m
makes_one (Ask q k) s m = absurd m
makes_one (Look f) s m = absurd m
makes_one (Set o c t) s m = absurd m
makes_one (Make c f) s m =
    let l = adds (f (length s.heap)) (with_new s c) in
    let o = l.objects in
    let r = l.records in
    let e = one_more s.heap c in
    omega (arith, o, r, e)
makes_one (Keep c f) s m = absurd m
makes_one (Enter a f) s m =
    let l = adds (f (length s.records)) (with_record s a) in
    let o = l.objects in
    let r = l.records in
    let e = one_more s.records a in
    omega (arith, o, r, e)
makes_one (Store r a t) s m = absurd m
makes_one (Print x t) s m = absurd m
makes_one (Read n t) s m = absurd m

-- ---- the first step

units : (script : Script) (input : Text) (g : ℕ) → outcome script input (0 + g) ≡ walk (ask g) g (all script.body script_scope) (first_state script input)
unfolding outcome run
units script input g = ap (λ n. walk (ask n) n (all script.body script_scope) (first_state script input)) {x = 0 + g} {y = g} (omega arith)

pub holds_first : (t : Table) (input : Text) (cells : ℕ) (store : Stored) (ρ : Scope) (fs : List Frame) (next : Rest) → state_in t.nodes store [] ≡ first_state (script_in t) input → rest_task t.nodes ρ fs next ≡ all (stmts_in t.nodes t.body) script_scope → Sound store → store.limit ≡ cells → Holds t input cells 0 store ρ fs next
holds_first t input cells store ρ fs next e f s l = record {
  calls = [];
  tied = λ g. units (script_in t) input g ∙ ap (λ (r : Task). walk (ask g) g r (first_state (script_in t) input)) (sym f) ∙ ap (walk (ask g) g (rest_task t.nodes ρ fs next)) (sym e);
  sound = s;
  limit = l;
}

-- ---- what the machine holds

module _ (t : Table) (input : Text) (cells n : ℕ) (store : Stored) (ρ : Scope) (fs : List Frame) where
  abbrev script : Script
  script = script_in t

  abbrev ran : ℕ → Option RunEnd → Ran
  ran m ended = record { script = script; input = input; cells = cells; steps = m; ended = ended }

  abbrev PiecesTo : ℕ → ℕ → Option (List ℕ) → Option (List ℕ) → Type 0
  PiecesTo n0 m old new = (piece : List ℕ) × (new ≡ appended old piece) × (output_at script input m ≡ output_at script input n0 ++ piece)

  module _ (next : Rest) (h : Holds t input cells n store ρ fs next) where
    abbrev state : State
    state = state_in t.nodes store h.calls

    now : outcome script input n ≡ walk (ask 0) 0 (rest_task t.nodes ρ fs next) state
    now = ap (outcome script input) {x = n} {y = n + 0} (omega arith) ∙ h.tied 0

    held_output : output_at script input n ≡ output_of h.calls
    held_output = output_is script input n ∙ ap (λ o. output_of (state_of o).calls) now ∙ ap (λ (s : State). output_of s.calls) (stays t.nodes ρ fs next state)

    within_cells : cells_of state ≤ cells
    within_cells =
        let w = h.sound.within in
        let l = h.limit in
        let m = length-map store.records.items record_of in
        omega (arith, w, l, m)

    held_cells : cells_at script input n ≤ cells
    held_cells = subst (λ c. c ≤ cells) (sym (cells_are script input n _ now ∙ ap cells_of (stays t.nodes ρ fs next state))) within_cells

    -- an outcome that no number of units changes
    lasting : (last : EsEnd) (ended : Option RunEnd) (F : ℕ → Outcome) → ((k : ℕ) → walk (ask k) k (rest_task t.nodes ρ fs next) state ≡ F k) → ((k : ℕ) → shown_by (F k) ≡ Ended (output_of h.calls) last) → ((k : ℕ) → state_of (F k) ≡ state) → Ends (ran n ended) last
    lasting last ended F e s u = record {
      shows = λ k. shows script input (n + k) (F k) (h.tied k ∙ e k) ∙ s k ∙ ap (λ l. Ended l last) (sym held_output);
      within = λ k. subst (λ c. c ≤ cells) (sym (cells_are script input (n + k) (F k) (h.tied k ∙ e k) ∙ ap cells_of (u k))) within_cells;
    }

  -- the script has ended
  ends_so : (next : Rest) → Holds t input cells n store ρ fs next → (last : EsEnd) (ended : Option RunEnd) → end_in next store.heap.cells ≡ Some last → Ends (ran n ended) last
  unfolding walk
  ends_so (rest.Begins b) h last ended e = absurd (let q : None ≡ Some last = e in cc)
  ends_so (rest.Ended c) h last ended e = lasting (rest.Ended c) h last ended (λ k. task.Ended (completion_of c) (state (rest.Ended c) h) k) (λ k. refl) (λ k. ap (Ended (output_of h.calls)) (let q : Some (end_of (completion_of c) store.heap.cells) ≡ Some last = e in cc)) (λ k. refl)
  ends_so (rest.Left kind pos) h last ended e = lasting (rest.Left kind pos) h last ended (λ k. task.Left (out_of kind) pos (state (rest.Left kind pos) h)) (λ k. refl) (λ k. ap (Ended (output_of h.calls)) (let q : Some (Outside (out_of kind) pos) ≡ Some last = e in cc)) (λ k. refl)

  -- a node begins next
  goes_on_so : (b : Begins) → Holds t input cells n store ρ fs (rest.Begins b) → (ended : Option RunEnd) → GoesOn (ran n ended)
  unfolding walk ask
  goes_on_so b h ended = record {
    shows = shows script input n (task.Going (state (rest.Begins b) h)) (now (rest.Begins b) h) ∙ ap Going (sym (held_output (rest.Begins b) h));
    within = held_cells (rest.Begins b) h;
  }

  -- ---- a step

  module _ (b : Begins) (h : Holds t input cells n store ρ fs (rest.Begins b)) where
    abbrev here : State
    here = state (rest.Begins b) h

    -- the run a step later
    later : (m k : ℕ) → m ≡ n + 1 → outcome script input (m + k) ≡ walk (ask k) k (beginning t.nodes ρ b fs) here
    later m k e = ap (outcome script input) {x = m + k} {y = n + suc k} (omega (arith, e)) ∙ h.tied (suc k) ∙ begun t.nodes ρ fs b k here

    later_now : (m : ℕ) → m ≡ n + 1 → outcome script input m ≡ walk (ask 0) 0 (beginning t.nodes ρ b fs) here
    later_now m e = ap (outcome script input) {x = m} {y = m + 0} (omega arith) ∙ later m 0 e

    pub step_holds : (m : ℕ) (new : Stored) (σ : Scope) (gs : List Frame) (next : Rest) (told taken : Option (List ℕ)) → m ≡ n + 1 → Sound new → new.limit ≡ store.limit → Followed t.nodes (beginning t.nodes ρ b fs) store (rest_task t.nodes σ gs next) new told taken → Holds t input cells m new σ gs next
    step_holds m new σ gs next told taken e s l f = record {
      calls = f.0 ++ h.calls;
      tied = λ g. later m g e ∙ f.2 (ask g) g h.calls;
      sound = s;
      limit = l ∙ h.limit;
    }

    pub step_pieces : (m n0 : ℕ) (new : Stored) (σ : Scope) (gs : List Frame) (next : Rest) (old mid taken : Option (List ℕ)) → m ≡ n + 1 → Followed t.nodes (beginning t.nodes ρ b fs) store (rest_task t.nodes σ gs next) new mid taken → PiecesTo n0 n old mid → PiecesTo n0 m old taken
    step_pieces m n0 new σ gs next old mid taken e (more, u, f) (piece, v, p) = (
      piece ++ output_of more,
      u ∙ ap (λ x. appended x (output_of more)) v ∙ appended_twice old piece (output_of more),
      output_is script input m
          ∙ ap (λ o. output_of (state_of o).calls) (later_now m e ∙ f (ask 0) 0 h.calls)
          ∙ ap (λ (s : State). output_of s.calls) (stays t.nodes σ gs next (state_in t.nodes new (more ++ h.calls)))
          ∙ output_both more h.calls
          ∙ ap (λ l. l ++ output_of more) (sym (held_output (rest.Begins b) h) ∙ p)
          ∙ append_assoc (output_at script input n0) piece (output_of more),
    )

    wrote_pieces : (m n0 : ℕ) (old mid taken : Option (List ℕ)) (piece : List ℕ) → m ≡ n + 1 → taken ≡ appended mid piece → WritesOn piece h.calls (walk (ask 0) 0 (beginning t.nodes ρ b fs) here) (ask 0) 0 → PiecesTo n0 n old mid → (out : List ℕ) × (taken ≡ appended old out) × IsFront (output_at script input n0 ++ out) (output_at script input m)
    wrote_pieces m n0 old mid taken piece e u w (before, v, p) =
        let l = output_later w.state (state_of (walk (ask 0) 0 w.task w.state)) (adds w.task w.state) in (
          before ++ piece,
          u ∙ ap (λ x. appended x piece) v ∙ appended_twice old before piece,
          (
            w.rest ++ l.0,
            output_is script input m
                ∙ ap (λ o. output_of (state_of o).calls) (later_now m e ∙ w.comes)
                ∙ l.1
                ∙ ap (λ x. x ++ l.0) (w.front ∙ ap (λ x. (x ++ piece) ++ w.rest) (sym (held_output (rest.Begins b) h) ∙ p) ∙ ap (λ x. x ++ w.rest) (append_assoc (output_at script input n0) before piece))
                ∙ append_assoc (output_at script input n0 ++ (before ++ piece)) w.rest l.0,
          ),
        )

    -- the machine stops in a step
    pub halt_tells : (stop : Halt) (m n0 : ℕ) (ended : Option RunEnd) (old mid taken : Option (List ℕ)) → m ≡ n + 1 → PiecesTo n0 n old mid → Halted stop t.nodes (beginning t.nodes ρ b fs) store mid taken → Tells (end_of_halt stop) (ran m ended) n0 old taken
    halt_tells halt.WriteFault m n0 ended old mid taken e p (piece, u, f) = wrote_pieces m n0 old mid taken piece e u (f (ask 0) 0 h.calls) p
    halt_tells halt.NoMemory m n0 ended old mid taken e p (piece, u, f) = wrote_pieces m n0 old mid taken piece e u (f (ask 0) 0 h.calls) p
    halt_tells halt.CellsFull m n0 ended old mid taken e (before, v, p) (more, u, f) =
        let x = f (ask 0) 0 h.calls in
        let last = state_of (walk (ask 0) 0 x.task x.state) in
        let comes = later_now m e ∙ x.comes in
        let l = output_later x.state last (adds x.task x.state) in
        let makes = makes_one x.task x.state x.makes in
        let full = x.full in
        let lim = h.limit in
        let told : output_at script input n ++ output_of more ≡ output_at script input n0 ++ (before ++ output_of more) = ap (λ y. y ++ output_of more) p ∙ append_assoc (output_at script input n0) before (output_of more) in
        record {
          before = n;
          last = omega (arith, e);
          within = held_cells (rest.Begins b) h;
          over = subst (λ c. cells < c) (sym (cells_are script input m _ comes)) (omega (arith, makes, full, lim));
          piece = before ++ output_of more;
          took = u ∙ ap (λ y. appended y (output_of more)) v ∙ appended_twice old before (output_of more);
          least = (output_of more, sym told);
          most = (
            l.0,
            output_is script input m ∙ ap (λ o. output_of (state_of o).calls) comes ∙ l.1
                ∙ ap (λ y. y ++ l.0) (ap output_of x.quiet ∙ output_both more h.calls ∙ ap (λ y. y ++ output_of more) (sym (held_output (rest.Begins b) h)) ∙ told),
          );
        }

-- ---- the end that is kept

abbrev pub Taken : Script → Text → ℕ → ℕ → Option (List ℕ) → Option (List ℕ) → Type 0
Taken script input n0 n old new = (piece : List ℕ) × (new ≡ appended old piece) × (output_at script input n ≡ output_at script input n0 ++ piece)

pub taken_first : (script : Script) (input : Text) (n : ℕ) (o : Option (List ℕ)) → Taken script input n n o o
taken_first script input n o = ([], sym (appended_none o), sym (append-nil (output_at script input n)))

-- an end that is told
told_tells : (e : Option EsEnd) (r : RunEnd) (m : Ran) (n0 : ℕ) (old new : Option (List ℕ)) → ((last : EsEnd) → e ≡ Some last → Ends m last) → (e ≡ None → ⊥) → Taken m.script m.input n0 m.steps old new → IsTold e r → Tells r m n0 old new
told_tells e end.Finished m n0 old new h s p q = (h Finished q, p)
told_tells e (end.Uncaught name message) m n0 old new h s p q = (h (Uncaught name message) q, p)
told_tells e (end.Outside kind pos) m n0 old new h s p q = (h (Outside (out_of kind) pos) q, p)
told_tells e end.OutOfSteps m n0 old new h s p q = absurd (s q)
told_tells e end.CellsFull m n0 old new h s p q = absurd q
told_tells e end.WriteFault m n0 old new h s p q = absurd q
told_tells e end.NoMemory m n0 old new h s (piece, t, o) q = (piece, t, ([], o ∙ sym (append-nil (output_at m.script m.input n0 ++ piece))))

weaker : (e : RunEnd) (m : Ran) (n0 : ℕ) (old new : Option (List ℕ)) → Tells e m n0 old new → FrontPieces m n0 old new
weaker end.Finished m n0 old new (x, (p, t, o)) = (p, t, ([], o ∙ sym (append-nil (output_at m.script m.input n0 ++ p))))
weaker (end.Uncaught n k) m n0 old new (x, (p, t, o)) = (p, t, ([], o ∙ sym (append-nil (output_at m.script m.input n0 ++ p))))
weaker (end.Outside n k) m n0 old new (x, (p, t, o)) = (p, t, ([], o ∙ sym (append-nil (output_at m.script m.input n0 ++ p))))
weaker end.OutOfSteps m n0 old new (x, (p, t, o)) = (p, t, ([], o ∙ sym (append-nil (output_at m.script m.input n0 ++ p))))
weaker end.CellsFull m n0 old new x = (x.piece, x.took, x.most)
weaker end.WriteFault m n0 old new x = x
weaker end.NoMemory m n0 old new x = x

pub tells_again : (e r : RunEnd) (m : Ran) (n0 : ℕ) (old new : Option (List ℕ)) → IsAgain e r → Tells e m n0 old new → Tells r m n0 old new
tells_again e r m n0 old new (inl q) x = subst (λ y. Tells y m n0 old new) (sym q) x
tells_again e r m n0 old new (inr q) x = subst (λ y. Tells y m n0 old new) (sym q) (weaker e m n0 old new x)

pub caused_again : (e r : RunEnd) (a b : ℕ) → IsAgain e r → Caused e a b → Caused r a b
caused_again e r a b (inl q) x = subst (λ y. Caused y a b) (sym q) x
caused_again e r a b (inr q) x = subst (λ y. Caused y a b) (sym q) tt

abbrev IsOpen : RunEnd → Type 0
IsOpen end.OutOfSteps = Unit {0}
IsOpen end.Finished = ⊥
IsOpen (end.Uncaught n k) = ⊥
IsOpen (end.Outside n k) = ⊥
IsOpen end.CellsFull = ⊥
IsOpen end.WriteFault = ⊥
IsOpen end.NoMemory = ⊥

pub halts_closed : (stop : Halt) → end_of_halt stop ≡ end.OutOfSteps → ⊥
halts_closed halt.CellsFull q = subst IsOpen (sym q) tt
halts_closed halt.WriteFault q = subst IsOpen (sym q) tt
halts_closed halt.NoMemory q = subst IsOpen (sym q) tt

pub told_closed : (e : Option EsEnd) (r : RunEnd) → (e ≡ None → ⊥) → IsTold e r → r ≡ end.OutOfSteps → ⊥
told_closed e r s h q = s (subst (IsTold e) q h)

pub keeps_kept : (e r : RunEnd) (m : Ran) (most : ℕ) → (e ≡ end.OutOfSteps → ⊥) → IsAgain e r → m.ended ≡ Some r → Keeps r m most
keeps_kept e r m most n (inl q) k = record { all_begun = λ x. absurd (n (sym q ∙ x)); kept = λ x. k }
keeps_kept e r m most n (inr q) k = record { all_begun = λ x. absurd (subst IsOpen (sym (sym q ∙ x)) tt); kept = λ x. k }

pub keeps_open : (m : Ran) (most : ℕ) → m.ended ≡ None → m.steps ≡ most → Keeps end.OutOfSteps m most
keeps_open m most e s = record { all_begun = λ x. (e, s); kept = λ n. absurd (n refl) }

-- ---- what a call of the machine says

module _ (t : Table) (input : Text) (cells n : ℕ) (store : Stored) (ρ : Scope) (fs : List Frame) where
  abbrev machine : ℕ → Option RunEnd → Ran
  machine m ended = record { script = script_in t; input = input; cells = cells; steps = m; ended = ended }

  -- nothing is left to do
  pub says_over : (next : Rest) (ended : Option RunEnd) (n0 before : ℕ) (old new : Option (List ℕ)) (e r : RunEnd) → n0 ≡ before → Holds t input cells n store ρ fs next → IsNode next None → Taken (script_in t) input n0 n old new → IsTold (end_in next store.heap.cells) e → IsAgain e r → Tells r (machine n ended) before old new
  says_over next ended n0 before old new e r q h over taken told again =
      subst (λ x. Tells r (machine n ended) x old new) q
      (tells_again e r (machine n ended) n0 old new again
      (told_tells (end_in next store.heap.cells) e (machine n ended) n0 old new (λ last s. ends_so t input cells n store ρ fs next h last ended s) (over store.heap.cells) taken told))

  -- the machine stops in a step
  pub says_halt : (next : Rest) (b : Begins) (stop : Halt) (m : ℕ) (ended : Option RunEnd) (n0 before : ℕ) (old mid new : Option (List ℕ)) (r : RunEnd) → n0 ≡ before → m ≡ n + 1 → next ≡ rest.Begins b → Holds t input cells n store ρ fs next → Taken (script_in t) input n0 n old mid → Halted stop t.nodes (beginning t.nodes ρ b fs) store mid new → IsAgain (end_of_halt stop) r → Tells r (machine m ended) before old new
  says_halt next b stop m ended n0 before old mid new r q l is h taken x again =
      subst (λ y. Tells r (machine m ended) y old new) q
      (tells_again (end_of_halt stop) r (machine m ended) n0 old new again
      (halt_tells t input cells n store ρ fs b (subst (Holds t input cells n store ρ fs) is h) stop m n0 ended old mid new l taken x))

  -- no step is left
  pub says_open : (next : Rest) (b : Begins) (ended : Option RunEnd) (n0 before : ℕ) (old new : Option (List ℕ)) → n0 ≡ before → next ≡ rest.Begins b → Holds t input cells n store ρ fs next → Taken (script_in t) input n0 n old new → Tells end.OutOfSteps (machine n ended) before old new
  says_open next b ended n0 before old new q is h taken =
      subst (λ x. Tells end.OutOfSteps (machine n ended) x old new) q
      (goes_on_so t input cells n store ρ fs b (subst (Holds t input cells n store ρ fs) is h) ended, taken)

  -- a step is done
  pub steps_on : (next : Rest) (b : Begins) (m : ℕ) (new : Stored) (σ : Scope) (gs : List Frame) (after : Rest) (told taken : Option (List ℕ)) → m ≡ n + 1 → next ≡ rest.Begins b → Holds t input cells n store ρ fs next → Sound new → new.limit ≡ store.limit → Followed t.nodes (beginning t.nodes ρ b fs) store (rest_task t.nodes σ gs after) new told taken → Holds t input cells m new σ gs after
  steps_on next b m new σ gs after told taken e is h s l f = step_holds t input cells n store ρ fs b (subst (Holds t input cells n store ρ fs) is h) m new σ gs after told taken e s l f

  pub steps_take : (next : Rest) (b : Begins) (m n0 : ℕ) (new : Stored) (σ : Scope) (gs : List Frame) (after : Rest) (old mid taken : Option (List ℕ)) → m ≡ n + 1 → next ≡ rest.Begins b → Holds t input cells n store ρ fs next → Followed t.nodes (beginning t.nodes ρ b fs) store (rest_task t.nodes σ gs after) new mid taken → Taken (script_in t) input n0 n old mid → Taken (script_in t) input n0 m old taken
  steps_take next b m n0 new σ gs after old mid taken e is h f p = step_pieces t input cells n store ρ fs b (subst (Holds t input cells n store ρ fs) is h) m n0 new σ gs after old mid taken e f p

pub held_unless : (ended : Option RunEnd) (t : Table) (input : Text) (cells n : ℕ) (store : Stored) (ρ : Scope) (fs : List Frame) (next : Rest) → ended ≡ None → HoldsUnless ended t input cells n store ρ fs next → Holds t input cells n store ρ fs next
held_unless ended t input cells n store ρ fs next e h = subst (λ x. HoldsUnless x t input cells n store ρ fs next) e h

pub holds_so : (ended : Option RunEnd) (t : Table) (input : Text) (cells n : ℕ) (store : Stored) (ρ : Scope) (fs : List Frame) (next : Rest) → ended ≡ None → Holds t input cells n store ρ fs next → HoldsUnless ended t input cells n store ρ fs next
holds_so ended t input cells n store ρ fs next e h = subst (λ x. HoldsUnless x t input cells n store ρ fs next) (sym e) h

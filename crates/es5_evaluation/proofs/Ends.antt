-- A run has one end, its output only grows, and so do its cells.
use Rattle.std.proofs.Common.{◌≡◌, ℕ, ◌+◌, ◌-◌, ◌≤◌, List, ◌++◌, refl, sym, ap, ◌∙◌, subst, arith, inl, inr, ⊎_elim}
use Rattle.std.proofs.lemmas.Bool.{cases_lt}
use Rattle.opal_base.specs.Shown.{Ended, Shows, output_of}
use Rattle.opal_base.proofs.Outputs.{output_both}
use Rattle.es5_tree.specs.declared.tree.Script.{Script}
use Rattle.es5_tree.specs.Values.{Text}
use Rattle.es5_tree.specs.Ends.{EsEnd, Outside}
use Rattle.es5_evaluation.specs.State.{State}
use Rattle.es5_evaluation.specs.Task.{Outcome, Left, Going}
use Rattle.es5_evaluation.specs.Task as task
use Rattle.es5_evaluation.specs.Evaluate.{all}
use Rattle.es5_evaluation.specs.Run.{es_run, cells_at, cells_of, outcome, shown_by, end_of, state_of, first_state, script_scope}
use Rattle.es5_evaluation.specs.Laws.{MoreUnits, OneEnd, OutputGrows, CellsGrow}
use Rattle.es5_evaluation.proofs.Growing.{Later, later_refl, GoesOn, run_more}

-- a script with k units more
pub outcome_more : (script : Script) (input : Text) (n k : ℕ) → GoesOn k (outcome script input n) (outcome script input (n + k))
unfolding outcome
outcome_more script input n k = run_more k n (all script.body script_scope) (first_state script input)

pub more_outcome : (k : ℕ) (o later : Outcome) (output : List ℕ) (end : EsEnd) → GoesOn k o later → shown_by o ≡ Ended output end → shown_by later ≡ Ended output end
more_outcome k (task.Ended c s g) later output end h e = ap shown_by h ∙ e
more_outcome k (Left kind p s) later output end h e = ap shown_by h ∙ e
more_outcome k (Going s) later output end h e = cc

pub more_units_is : MoreUnits
unfolding es_run
more_units_is script input n k output end e = more_outcome k (outcome script input n) (outcome script input (n + k)) output end (outcome_more script input n k) e

one_end_up : (script : Script) (input : Text) (n m : ℕ) (output other : List ℕ) (end last : EsEnd) → n ≤ m → es_run script input n ≡ Ended output end → es_run script input m ≡ Ended other last → (output ≡ other) × (end ≡ last)
one_end_up script input n m output other end last l e f =
    let h : es_run script input m ≡ Ended output end = subst (λ x. es_run script input x ≡ Ended output end) {x = n + (m - n)} {y = m} (omega (arith, l)) (more_units_is script input n (m - n) output end e) in
    (cc, cc)

pub one_end_is : OneEnd
one_end_is script input n m output other end last e f =
    ⊎_elim
    (λ l. one_end_up script input n m output other end last (omega (arith, l)) e f)
    (λ l. let h = one_end_up script input m n other output last end l f e in (sym h.0, sym h.1))
    (cases_lt n m)

-- ---- output

pub shows_own : (o : Outcome) → Shows (shown_by o) (output_of (state_of o).calls)
shows_own (task.Ended c s g) = inr (end_of c s.heap, refl)
shows_own (Left kind p s) = inr (Outside kind p, refl)
shows_own (Going s) = inl refl

pub shows_no_other : (o : Outcome) (output : List ℕ) → Shows (shown_by o) output → output_of (state_of o).calls ≡ output
shows_no_other (task.Ended c s g) output (inl e) = cc
shows_no_other (task.Ended c s g) output (inr (end, e)) = cc
shows_no_other (Left kind p s) output (inl e) = cc
shows_no_other (Left kind p s) output (inr (end, e)) = cc
shows_no_other (Going s) output (inl e) = cc
shows_no_other (Going s) output (inr (end, e)) = cc

-- the state behind more units is a later one
pub state_later : (k : ℕ) (o later : Outcome) → GoesOn k o later → Later (state_of o) (state_of later)
state_later k (task.Ended c s g) later h = subst (λ x. Later s (state_of x)) (sym h) (later_refl s)
state_later k (Left kind p s) later h = subst (λ x. Later s (state_of x)) (sym h) (later_refl s)
state_later k (Going s) later h = h

pub output_grows_is : OutputGrows
unfolding es_run
output_grows_is script input n k output e =
    let o = outcome script input n in
    let later = outcome script input (n + k) in
    let g = (state_later k o later (outcome_more script input n k)).calls in
    let rest = output_of g.0 in
    (rest, subst (λ l. Shows (shown_by later) l) (ap output_of g.1 ∙ output_both g.0 (state_of o).calls ∙ ap (λ l. l ++ rest) (shows_no_other o output e)) (shows_own later))

-- ---- cells

cells_later : (s later : State) → Later s later → cells_of s ≤ cells_of later
cells_later s later h =
    let o = h.objects in
    let r = h.records in
    omega (arith, o, r)

pub cells_grow_is : CellsGrow
unfolding cells_at
cells_grow_is script input n k = cells_later _ _ (state_later k (outcome script input n) (outcome script input (n + k)) (outcome_more script input n k))

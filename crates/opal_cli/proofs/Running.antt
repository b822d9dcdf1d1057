-- From what the machine tells to how a run with a budget ends.
use Rattle.std.proofs.Common.{◌≡◌, ◌≤◌, ◌<◌, ℕ, ◌+◌, ◌-◌, List, [], ◌∷◌, ◌++◌, refl, sym, ap, ◌∙◌, subst, arith, zero-add, Option, None}
use Rattle.std.proofs.lemmas.List.{append-nil}
use Rattle.opal_base.specs.Outside.{appended}
use Rattle.opal_base.specs.Shown.{Ended, Going}
use Rattle.opal_base.proofs.Took.{appended_none}
use Rattle.es5_tree.specs.declared.tree.Script.{Script}
use Rattle.es5_tree.specs.declared.tree.EsStmt.{EsStmt}
use Rattle.es5_tree.specs.Values.{Text}
use Rattle.es5_tree.specs.Ends.{EsEnd, Finished, Uncaught, Outside}
use Rattle.es5_evaluation.specs.Task.{walk}
use Rattle.es5_evaluation.specs.Evaluate.{all}
use Rattle.es5_evaluation.specs.Run.{ask, run, outcome, es_run, shown_by, script_scope, first_state, cells_at}
use Rattle.es5_host.specs.Values.{out_of}
use Rattle.es5_machine.specs.Run.{Ran, HasRun, Keeps, started, output, output_at, IsFront, Pieces, FrontPieces, Ends, GoesOn, Fills, Tells}
use Rattle.es5_machine.specs.declared.end.RunEnd.{RunEnd}
use Rattle.es5_machine.specs.declared.end.RunEnd.TheVariants as run_end
use Rattle.opal_cli.specs.declared.words.Budget.{Budget}
use Rattle.opal_cli.specs.Ends.{End, status_of, IsAnswer}
use Rattle.opal_cli.specs.Execution as job
use Rattle.opal_cli.specs.Execution.{Stands, RanTo, TookRun, end_of_run}

-- nothing is written without a step
no_output : (script : Script) (body : List EsStmt) (input : Text) → output (shown_by (run 0 (all body script_scope) (first_state script input))) ≡ []
unfolding run walk ask all first_state
no_output script [] input = refl
no_output script (t ∷ ts) input = refl

pub nothing_yet : (script : Script) (input : Text) → output_at script input 0 ≡ []
unfolding es_run outcome
nothing_yet script input = no_output script script.body input

-- the budget with the machine's cells
abbrev pub budget_with : ℕ → Ran → Budget
budget_with n m = record { steps = n; cells = m.cells }

-- the pieces are the whole output
whole : (m : Ran) (piece : List ℕ) → output_at m.script m.input m.steps ≡ output_at m.script m.input 0 ++ piece → output_at m.script m.input m.steps ≡ piece
whole m piece e = e ∙ ap (λ front. front ++ piece) (nothing_yet m.script m.input)

at_budget : (m : Ran) (n : ℕ) → m.steps ≤ n → m.steps + (n - m.steps) ≡ n
at_budget m n l = omega arith

ended : (m : Ran) (n : ℕ) (end : EsEnd) (old new : Option (List ℕ)) → m.steps ≤ n → Ends m end → Pieces m 0 old new
    → (output : List ℕ) × Stands m.script m.input (budget_with n m) (Ended output end) × (new ≡ appended old output)
ended m n end old new l e p = (
  p.0,
  record {
    shows = subst (λ k. es_run m.script m.input k ≡ Ended p.0 end) (at_budget m n l) (e.shows (n - m.steps) ∙ ap (λ o. Ended o end) (whole m p.0 p.2));
    within = subst (λ k. cells_at m.script m.input k ≤ m.cells) (at_budget m n l) (e.within (n - m.steps));
  },
  p.1,
)

goes_on : (m : Ran) (n : ℕ) (old new : Option (List ℕ)) → m.steps ≡ n → GoesOn m → Pieces m 0 old new
    → (output : List ℕ) × Stands m.script m.input (budget_with n m) (Going output) × (new ≡ appended old output)
goes_on m n old new e g p = (
  p.0,
  record {
    shows = subst (λ k. es_run m.script m.input k ≡ Going p.0) e (g.shows ∙ ap Going (whole m p.0 p.2));
    within = subst (λ k. cells_at m.script m.input k ≤ m.cells) e g.within;
  },
  p.1,
)

fills : (m : Ran) (n : ℕ) (old new : Option (List ℕ)) → m.steps ≤ n → Fills m 0 old new
    → (output : List ℕ) × job.Fills m.script m.input (budget_with n m) output × (new ≡ appended old output)
fills m n old new l f = (
  f.piece,
  record {
    before = f.before;
    some = let e = f.last in omega arith;
    within = f.within;
    over = subst (λ k. m.cells < cells_at m.script m.input k) f.last f.over;
    least = subst (λ front. IsFront (output_at m.script m.input f.before) (front ++ f.piece)) (nothing_yet m.script m.input) f.least;
    most = subst (λ k. IsFront f.piece (output_at m.script m.input k)) f.last (subst (λ front. IsFront (front ++ f.piece) (output_at m.script m.input m.steps)) (nothing_yet m.script m.input) f.most);
  },
  f.took,
)

-- the machine's end is the end of the run with the budget
pub ran : (m : Ran) (n : ℕ) (end : RunEnd) (old new : Option (List ℕ)) → m.steps ≤ n → (end ≡ run_end.OutOfSteps → m.steps ≡ n) → Tells end m 0 old new
    → IsAnswer (status_of (end_of_run (budget_with n m) end)) → RanTo m.script m.input (budget_with n m) (end_of_run (budget_with n m) end) old new
ran m n run_end.Finished old new l begun t a = ended m n Finished old new l t.0 t.1
ran m n (run_end.Uncaught name message) old new l begun t a = ended m n (Uncaught name message) old new l t.0 t.1
ran m n (run_end.Outside kind pos) old new l begun t a = ended m n (Outside (out_of kind) pos) old new l t.0 t.1
ran m n run_end.OutOfSteps old new l begun t a = let r = goes_on m n old new (begun refl) t.0 t.1 in (r.0, (refl, r.1), r.2)
ran m n run_end.CellsFull old new l begun t a = let r = fills m n old new l t in (r.0, (refl, r.1), r.2)
ran m n run_end.WriteFault old new l begun t a = absurd a
ran m n run_end.NoMemory old new l begun t a = absurd a

pieces_front : (m : Ran) (n : ℕ) (old new : Option (List ℕ)) → m.steps ≤ n → Pieces m 0 old new → TookRun m.script m.input (budget_with n m) old new
pieces_front m n old new l p = record {
  steps = m.steps;
  within = l;
  output = p.0;
  front = ([], whole m p.0 p.2 ∙ sym (append-nil p.0));
  took = p.1;
}

front_front : (m : Ran) (n : ℕ) (old new : Option (List ℕ)) → m.steps ≤ n → FrontPieces m 0 old new → TookRun m.script m.input (budget_with n m) old new
front_front m n old new l p = record {
  steps = m.steps;
  within = l;
  output = p.0;
  front = subst (λ front. IsFront (front ++ p.0) (output_at m.script m.input m.steps)) (nothing_yet m.script m.input) p.2;
  took = p.1;
}

-- out took a front of the run's output
pub took_run : (m : Ran) (n : ℕ) (end : RunEnd) (old new : Option (List ℕ)) → m.steps ≤ n → Tells end m 0 old new → TookRun m.script m.input (budget_with n m) old new
took_run m n run_end.Finished old new l t = pieces_front m n old new l t.1
took_run m n (run_end.Uncaught name message) old new l t = pieces_front m n old new l t.1
took_run m n (run_end.Outside kind pos) old new l t = pieces_front m n old new l t.1
took_run m n run_end.OutOfSteps old new l t = pieces_front m n old new l t.1
took_run m n run_end.CellsFull old new l t = record {
  steps = m.steps;
  within = l;
  output = t.piece;
  front = subst (λ front. IsFront (front ++ t.piece) (output_at m.script m.input m.steps)) (nothing_yet m.script m.input) t.most;
  took = t.took;
}
took_run m n run_end.WriteFault old new l t = front_front m n old new l t
took_run m n run_end.NoMemory old new l t = front_front m n old new l t

-- before the run nothing was taken
pub took_nothing : (script : Script) (input : Text) (budget : Budget) (told : Option (List ℕ)) → TookRun script input budget told told
took_nothing script input budget told = record {
  steps = 0;
  within = omega arith;
  output = [];
  front = (output_at script input 0, refl);
  took = sym (appended_none told);
}

-- ---- from the machine to the run that was asked for

pub ran_on : (script : Script) (input : Text) (budget : Budget) (m : Ran) (end : RunEnd) (told : End) (old new : Option (List ℕ))
    → HasRun (started script input budget.cells) m → m.steps ≤ budget.steps → Keeps end m budget.steps → Tells end m 0 old new
    → told ≡ end_of_run budget end → IsAnswer (status_of told) → RanTo script input budget told old new
ran_on script input budget m end told old new same l keeps t e a =
    subst (λ s. RanTo s input budget told old new) same.script
    (subst (λ i. RanTo m.script i budget told old new) same.input
    (subst (λ x. RanTo m.script m.input budget x old new) (sym e)
    (subst (λ c. IsAnswer (status_of (end_of_run (record { steps = budget.steps; cells = c }) end)) → RanTo m.script m.input (record { steps = budget.steps; cells = c }) (end_of_run (record { steps = budget.steps; cells = c }) end) old new) same.cells
    (ran m budget.steps end old new l (λ o. (keeps.all_begun o).1) t)
    (subst (λ x. IsAnswer (status_of x)) e a))))

pub took_on : (script : Script) (input : Text) (budget : Budget) (m : Ran) (end : RunEnd) (old new : Option (List ℕ))
    → HasRun (started script input budget.cells) m → m.steps ≤ budget.steps → Tells end m 0 old new → TookRun script input budget old new
took_on script input budget m end old new same l t =
    subst (λ s. TookRun s input budget old new) same.script
    (subst (λ i. TookRun m.script i budget old new) same.input
    (subst (λ c. TookRun m.script m.input (record { steps = budget.steps; cells = c }) old new) same.cells (took_run m budget.steps end old new l t)))

pub ran_from : (script : Script) (input : Text) (budget : Budget) (m0 m : Ran) (end : RunEnd) (told : End) (old new : Option (List ℕ)) → m0 ≡ started script input budget.cells
    → HasRun m0 m → m.steps ≤ m0.steps + budget.steps → (m0.ended ≡ None → Keeps end m (m0.steps + budget.steps)) → (m0.ended ≡ None → Tells end m m0.steps old new)
    → told ≡ end_of_run budget end → IsAnswer (status_of told) → RanTo script input budget told old new
ran_from script input budget m0 m end told old new e0 same l keeps t e a =
    subst (λ x. HasRun x m → m.steps ≤ x.steps + budget.steps → (x.ended ≡ None → Keeps end m (x.steps + budget.steps)) → (x.ended ≡ None → Tells end m x.steps old new) → RanTo script input budget told old new) (sym e0)
    (λ same1 l1 keeps1 t1. ran_on script input budget m end told old new same1 (subst (λ k. m.steps ≤ k) (zero-add budget.steps) l1) (subst (λ k. Keeps end m k) (zero-add budget.steps) (keeps1 refl)) (t1 refl) e a) same l keeps t

pub took_from : (script : Script) (input : Text) (budget : Budget) (m0 m : Ran) (end : RunEnd) (old new : Option (List ℕ)) → m0 ≡ started script input budget.cells
    → HasRun m0 m → m.steps ≤ m0.steps + budget.steps → (m0.ended ≡ None → Tells end m m0.steps old new) → TookRun script input budget old new
took_from script input budget m0 m end old new e0 same l t =
    subst (λ x. HasRun x m → m.steps ≤ x.steps + budget.steps → (x.ended ≡ None → Tells end m x.steps old new) → TookRun script input budget old new) (sym e0)
    (λ same1 l1 t1. took_on script input budget m end old new same1 (subst (λ k. m.steps ≤ k) (zero-add budget.steps) l1) (t1 refl)) same l t

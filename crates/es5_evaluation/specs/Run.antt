-- The run of a script on an input, with a number of units.
use Rattle.std.specs.Prelude.{ℕ, zero, suc, ◌+◌, ◌-◌, List, [], ◌∷◌, length, None, Some, codes}
use Rattle.opal_base.specs.Shown.{Shown, output_of}
use Rattle.opal_base.specs.Shown as shown
use Rattle.es5_tree.specs.declared.tree.Script.{Script}
use Rattle.es5_tree.specs.Values.{Text, Val, Undefined, Obj}
use Rattle.es5_tree.specs.Ends.{EsEnd, Finished, Uncaught, Outside, text_or}
use Rattle.es5_tree.specs.Objects.Cells.{Cell, own}
use Rattle.es5_tree.specs.Objects.Links.{cell_at}
use Rattle.es5_tree.specs.Intrinsics.Made as made
use Rattle.es5_evaluation.specs.State.{Activation, State}
use Rattle.es5_evaluation.specs.Task.{Completion, Normal, Refers, Return, Throw, Break, Continue, Scope, Request, Task, Done, Leaves, Ask, Look, Set, Make, Keep, Enter, Store, Print, Read, ◌>>=◌, Outcome, Ended, Left, Going, Answers, walk, with_object, with_new, with_code, with_record, with_stored, printed, has_read}
use Rattle.es5_evaluation.specs.Declared.{locals}
use Rattle.es5_evaluation.specs.Evaluate.{all, perform, undefined_variables}

-- A node that begins takes a unit. What follows it walks with one less.
unfoldable pub ask : ℕ → Answers
ask zero q k s = Going s
ask (suc g) q k s = walk (ask g) g (perform q >>= k) s

-- a task with a number of units
unfoldable pub run : ℕ → Task → State → Outcome
run g t s = walk (ask g) g t s

-- what comes behind a completion; the other outcomes stand
abbrev pub behind : Outcome → (Completion → State → ℕ → Outcome) → Outcome
behind (Ended c s g) k = k c s g
behind (Left kind p s) k = Left kind p s
behind (Going s) k = Going s

-- a task goes on with a completion, a state and the units that are left
abbrev pub run_on : (Completion → Task) → Completion → State → ℕ → Outcome
run_on k c s g = run g (k c) s

-- ---- scripts

-- the globals can't be written, and the script's own variables stand in a record inside them
abbrev pub global_record : Activation
global_record = record { variables = []; constants = made.globals; outer = None }

abbrev pub script_record : Script → Activation
script_record script = record { variables = undefined_variables (locals [] script.body); constants = []; outer = Some 0 }

unfoldable pub first_state : Script → Text → State
first_state script input = record {
  heap = made.cells;
  codes = [];
  records = global_record ∷ script_record script ∷ [];
  lines = record { input = input; read = 0 };
  calls = [];
}

abbrev pub script_scope : Scope
script_scope = record { this = Undefined; innermost = 1 }

unfoldable pub outcome : Script → Text → ℕ → Outcome
outcome script input n = run n (all script.body script_scope) (first_state script input)

-- ---- what is shown

-- a throw ends with the own texts `name` and `message` of the thrown object, or with `Error` and the empty text
abbrev pub thrown : List Cell → Val → EsEnd
thrown cells (Obj o) = Uncaught (text_or (codes "Error") (own (cell_at cells o) (codes "name"))) (text_or [] (own (cell_at cells o) (codes "message")))
thrown cells _ = Uncaught (codes "Error") []

abbrev pub end_of : Completion → List Cell → EsEnd
end_of (Normal v) cells = Finished
end_of (Refers p) cells = Finished
end_of (Return v) cells = Finished
end_of (Throw v) cells = thrown cells v
end_of Break cells = Finished
end_of Continue cells = Finished

abbrev pub shown_by : Outcome → Shown EsEnd
shown_by (Ended c s g) = shown.Ended (output_of s.calls) (end_of c s.heap)
shown_by (Left kind p s) = shown.Ended (output_of s.calls) (Outside kind p)
shown_by (Going s) = shown.Going (output_of s.calls)

unfoldable pub es_run : Script → Text → ℕ → Shown EsEnd
es_run script input n = shown_by (outcome script input n)

-- ---- cells

abbrev pub state_of : Outcome → State
state_of (Ended c s g) = s
state_of (Left kind p s) = s
state_of (Going s) = s

-- the intrinsic objects, and the records of the globals and of the script, are no cells
abbrev pub at_first : ℕ
at_first = made.count + 2

-- the objects and the activation records that the run made
abbrev pub cells_of : State → ℕ
cells_of s = (length s.heap + length s.records) - at_first

unfoldable pub cells_at : Script → Text → ℕ → ℕ
cells_at script input n = cells_of (state_of (outcome script input n))

-- ---- the states before each call of the host, and the last one

-- what is seen behind a node that begins
abbrev pub Seen : Type 0
Seen = Request → (Completion → Task) → State → List State

unfoldable pub seen : Seen → Task → State → List State
seen A (Done c) s = s ∷ []
seen A (Leaves o p) s = []
seen A (Ask q k) s = A q k s
seen A (Look f) s = seen A (f s) s
seen A (Set o c t) s = seen A t (with_object s o c)
seen A (Make c f) s = seen A (f (length s.heap)) (with_new s c)
seen A (Keep c f) s = seen A (f (length s.codes)) (with_code s c)
seen A (Enter a f) s = seen A (f (length s.records)) (with_record s a)
seen A (Store r a t) s = seen A t (with_stored s r a)
seen A (Print x t) s = s ∷ seen A t (printed s x)
seen A (Read n t) s = s ∷ seen A t (has_read s n)

unfoldable pub seen_with : ℕ → Seen
seen_with zero q k s = []
seen_with (suc g) q k s = seen (seen_with g) (perform q >>= k) s

-- the states before each call of `$host.write` and `$host.line`, and the last state where the script finished or a throw ended it
unfoldable pub es_at : Script → Text → ℕ → List State
es_at script input n = seen (seen_with n) (all script.body script_scope) (first_state script input)

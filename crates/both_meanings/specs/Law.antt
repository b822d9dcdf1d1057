-- What it comes to that the statements of a script follow the evaluation of a program.
use Rattle.std.specs.Prelude.{◌≡◌, ℕ, List, []}
use Rattle.es5_tree.specs.declared.tree.Script.{Script}
use Rattle.es5_evaluation.specs.State as es
use Rattle.es5_evaluation.specs.Task.{Completion}
use Rattle.es5_evaluation.specs.Evaluate.{all}
use Rattle.es5_evaluation.specs.Run.{es_run, es_at, script_scope}
use Rattle.es5_evaluation.specs.Run as evaluation
use Rattle.ruby_meaning.specs.declared.tree.Node.{Node}
use Rattle.ruby_evaluation.specs.Tables.{Name, Text}
use Rattle.ruby_evaluation.specs.Task.{Result, State}
use Rattle.ruby_evaluation.specs.Run.{Bundled, outcome, ruby_run, ruby_at, end_of}
use Rattle.both_meanings.specs.Agree.{Relation, SameEnd, AgreeRuns, CarriedRuns}
use Rattle.both_meanings.specs.Carries.{Carries}
use Rattle.both_meanings.specs.Follows.{calls_of, Post, Follows}

-- the same calls of the host were made, the ends are the same, and the states are in the relation
pub record Alike (C : Relation) (r : Result) (st : State) (c : Completion) (z : es.State) : Type 0 where
  pub calls : calls_of st.calls ≡ z.calls
  pub end : SameEnd (end_of r st.ruby) (evaluation.end_of c z.heap)
  pub states : C st.ruby z

-- With every number of units the script's statements follow the program.
abbrev pub FollowsRun : Relation → Post → Node → Bundled → Script → Text → ℕ → Type 0
FollowsRun C P core b script input a =
    (n : ℕ) → Follows C [] n a (outcome core b input n) (all script.body script_scope) (evaluation.first_state script input) P

-- Then both runs agree, and so do the states that they show.
pub record Agreed (C : Relation) (core : Node) (b : Bundled) (script : Script) (input : Text) : Type 0 where
  pub runs : AgreeRuns (ruby_run core b input) (es_run script input)
  pub states : CarriedRuns C (ruby_at core b input) (es_at script input)

-- So it is for the states that carry those of Ruby, where they are alike at the ends.
abbrev pub Law : Type 0
Law = (called : List Name) (core : Node) (b : Bundled) (script : Script) (input : Text) (a : ℕ)
    → FollowsRun (Carries called) (Alike (Carries called)) core b script input a
    → Agreed (Carries called) core b script input

-- The agreement of a bundle's evaluation and a script's run.
use Rattle.std.specs.Prelude.{List, ℕ}
use Rattle.ruby_meaning.specs.declared.bundle.Bundle.{Bundle}
use Rattle.ruby_meaning.specs.declared.tree.Node.{Node}
use Rattle.ruby_evaluation.specs.Core.{IsCore, bundled}
use Rattle.ruby_evaluation.specs.Run.{ruby_run}
use Rattle.es5_tree.specs.declared.tree.Script.{Script}
use Rattle.es5_evaluation.specs.Run.{es_run}
use Rattle.both_meanings.specs.Agree.{AgreeRuns}

-- Over the core library, and for every input, the evaluation ends with an output and an end exactly when the script ends with
-- the same output and the same end; while neither ends, each output that one shows the other shows too; and the script leaves
-- the profile by a number alone.
abbrev pub Agree : Bundle → Script → Type 0
Agree bundle script = (core : Node) → IsCore core → (input : List ℕ) → AgreeRuns (ruby_run core (bundled bundle) input) (es_run script input)

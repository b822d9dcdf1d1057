use Rattle.std.specs.Prelude.{[], refl}
use Rattle.opal_base.specs.declared.place.Pos.{Pos}
use Rattle.ruby_meaning.specs.declared.tree.Kind.TheVariants as kinds
use Rattle.ruby_meaning.specs.declared.tree.Node.{Node}
use Rattle.ruby_evaluation.proofs.laws.some_core.Goals as goal

abbrev start : Pos
start = record { line = 0; col = 0 }

-- no statement
abbrev empty : Node
empty = record { kind = kinds.Seq []; span = record { «from» = start; to = start }; mark = start }

pub returns : goal.returns
returns c = (empty, refl)

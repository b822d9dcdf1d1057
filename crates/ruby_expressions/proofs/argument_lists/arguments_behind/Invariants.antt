use Rattle.std.proofs.Common.{◌≡◌, suc, length}
use Rattle.ruby_reading.specs.Ahead.{ahead}
use Rattle.ruby_expressions.specs.ArgumentSteps.{go_on, weight}
use Rattle.ruby_reading.specs.Shown.{shown_args}
use Rattle.ruby_expressions.proofs.argument_lists.arguments_behind.Given as goal

abbrev pub invariant-steps : goal.invariant-steps
invariant-steps g l =
    go_on l.parser.takes_do l.parser.in_rescue l.fn.blocks (suc l.parser.depth) l.fn.first.goes (shown_args l.fn.first.args) (ahead l.fn.cursor)
    ≡ go_on l.parser.takes_do l.parser.in_rescue l.fn.blocks (suc l.parser.depth) l.goes (shown_args l.args) (ahead l.cursor)

abbrev pub decreases-steps : goal.decreases-steps
decreases-steps g l = weight l.goes (length (ahead l.cursor))

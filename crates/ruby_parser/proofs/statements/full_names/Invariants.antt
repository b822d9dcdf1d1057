use Rattle.std.proofs.Common.{◌≡◌, ◌++◌, drop}
use Rattle.ruby_meaning.specs.Grammar.Actions.{full_names}
use Rattle.ruby_parser.specs.StatementValues.{shown_methods}
use Rattle.ruby_parser.proofs.statements.full_names.Given as goal

-- the names made so far and those that are left
abbrev pub invariant-loop-method : goal.invariant-loop-method
invariant-loop-method l = full_names (shown_methods l.methods) ≡ l.all ++ full_names (shown_methods (drop l.method-index l.methods))

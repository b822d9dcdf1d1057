use Rattle.std.proofs.Common.{◌≡◌, drop}
use Rattle.ruby_meaning.specs.Grammar.Actions.{names_span}
use Rattle.ruby_parser.specs.StatementValues.{shown_methods}
use Rattle.ruby_parser.proofs.statements.names_span.Given as goal

-- the names that are left decide
abbrev pub invariant-loop-method : goal.invariant-loop-method
invariant-loop-method l = names_span l.fn.span (shown_methods l.fn.methods) ≡ names_span l.last (shown_methods (drop l.method-index l.fn.methods))

use Rattle.std.proofs.Common.{◌≡◌, drop}
use Rattle.ruby_meaning.specs.Grammar.Actions.{last_span}
use Rattle.ruby_parameters.proofs.lists.last_span.Given as goal

-- the nodes that are left decide
abbrev pub invariant-loop-node : goal.invariant-loop-node
invariant-loop-node l = last_span l.fn.span l.fn.nodes ≡ last_span l.last (drop l.node-index l.fn.nodes)

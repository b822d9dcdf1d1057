use Rattle.std.proofs.Common.{◌≡◌, drop}
use Rattle.ruby_meaning.specs.Scoping.Names.{has}
use Rattle.ruby_meaning.proofs.scope.is_listed.Given as goal

-- the name is among those that are left, if it is among them at all
abbrev pub invariant-loop-i : goal.invariant-loop-i
invariant-loop-i l = has (drop l.i l.fn.names) l.name ≡ has l.fn.names l.name

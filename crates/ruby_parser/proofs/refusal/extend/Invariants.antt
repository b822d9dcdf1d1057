use Rattle.std.proofs.Common.{◌≡◌, ◌++◌, drop, map}
use Rattle.ruby_meaning.specs.Grammar.Refusals.{stand_ins}
use Rattle.ruby_reading.specs.Ahead.{see}
use Rattle.ruby_parser.proofs.refusal.extend.Given as goal

abbrev pub invariant-loop-sign : goal.invariant-loop-sign
invariant-loop-sign l = map see l.sights.items ++ stand_ins (drop l.sign-index l.fn.signs) ≡ map see l.fn.sights.items ++ stand_ins l.fn.signs

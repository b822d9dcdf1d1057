use Rattle.std.proofs.Common.{◌≡◌, false, drop, map}
use Rattle.ruby_reading.specs.Ahead.{see}
use Rattle.ruby_parser.specs.Refusing.{case_from}
use Rattle.ruby_parser.proofs.refusal.is_behind_case.Given as goal

-- the tokens that are left decide
abbrev pub invariant-loop-sight : goal.invariant-loop-sight
invariant-loop-sight l = case_from false (map see l.fn.front) ≡ case_from l.found (map see (drop l.sight-index l.fn.front))

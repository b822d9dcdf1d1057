use Rattle.std.proofs.Common.{◌≡◌, ◌+◌, ◌-◌, ◌≤◌, length, drop}
use Rattle.ruby_meaning.specs.Lexing.Runs.{run}
use Rattle.ruby_lexemes.proofs.runs.run.Given as goal

abbrev pub invariant-members : goal.invariant-members
invariant-members l = (l.end + run l.class (drop l.end l.z) ≡ run l.class l.z) × (l.end ≤ length l.z)

abbrev pub decreases-members : goal.decreases-members
decreases-members l = length l.z - l.end

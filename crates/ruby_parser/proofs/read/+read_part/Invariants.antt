use Rattle.std.proofs.Common.{◌+◌, ◌*◌}
use Rattle.ruby_parser.proofs.Turns.{turn}
use Rattle.ruby_parser.proofs.read.+read_part.Given as goal

-- statements stand behind other parts at the same level
abbrev pub decreases-read_part : goal.decreases-read_part
decreases-read_part l = 2 * l.levels + turn l.part.production

use Rattle.std.proofs.Common.{rules, arith}
use Rattle.std.proofs.lemmas.Grind.{common_steps}
use Rattle.ruby_reading.specs.Ahead.{ahead}
use Rattle.ruby_primaries.proofs.LiteralLists.{pairs_given}
use Rattle.ruby_primaries.proofs.primary.pairs_behind.Goals as goal

pub returns : goal.returns
returns g c =
    pairs_given c.args.parser.now.in_rescue c.args.parser.now.depth _ _ c.args.first.key c.args.first.value (ahead c.args.cursor.now) c.more_pairs.result (ahead c.more_pairs.new.cursor)
    (first_of (search rules, grind (arith, common_steps))) (first_of (search rules, grind (arith, common_steps))) c.more_pairs.ensures

use Rattle.std.proofs.Common.{◌≡◌, false, rules, arith}
use Rattle.std.proofs.lemmas.Grind.{common_steps}
use Rattle.grammar.specs.FormReaders.{next_in}
use Rattle.ruby_meaning.specs.Grammar.Calls.{begins_block}
use Rattle.ruby_reading.specs.Ahead.{ahead, see, class_code}
use Rattle.ruby_operands.proofs.CallLevels.{empty_given}
use Rattle.ruby_operands.proofs.values.behind_empty.Goals as goal

pub returns-else-sees_block : goal.returns-else-sees_block
returns-else-sees_block g c =
    let none : next_in (λ x. begins_block c.args.parser.now.in_rescue c.args.parser.now.takes_do (class_code x)) (ahead c.args.cursor.now) ≡ false = first_of (cc, search rules, grind (arith, common_steps)) in
    empty_given c.args.parser.now.in_rescue c.args.parser.now.takes_do c.args.parser.now.depth (see c.args.name) (see c.args.close) (ahead c.args.cursor.now) c.name_closed.result none c.name_closed.ensures

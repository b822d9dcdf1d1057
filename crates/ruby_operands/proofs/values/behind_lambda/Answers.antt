use Rattle.std.proofs.Common.{◌≡◌, false, rules, arith}
use Rattle.std.proofs.lemmas.Grind.{common_steps}
use Rattle.grammar.specs.FormReaders.{next_in}
use Rattle.ruby_meaning.specs.declared.production.Sign.TheVariants as sign
use Rattle.ruby_meaning.specs.Grammar.Classes.{a}
use Rattle.ruby_reading.specs.Ahead.{ahead, see, class_code}
use Rattle.ruby_operands.proofs.CallLevels.{alone_given}
use Rattle.ruby_operands.proofs.values.behind_lambda.Goals as goal

pub returns-then-not-sees : goal.returns-then-not-sees
returns-then-not-sees g c =
    let none : next_in (λ x. a sign.CallOpen (class_code x)) (ahead c.args.cursor.now) ≡ false = first_of (cc, search rules, grind (arith, common_steps)) in
    alone_given c.args.parser.now.in_rescue c.args.parser.now.takes_do c.args.parser.now.depth (see c.args.name) (ahead c.args.cursor.now) c.name_alone.result none c.name_alone.ensures

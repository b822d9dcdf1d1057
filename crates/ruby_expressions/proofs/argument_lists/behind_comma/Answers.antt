use Rattle.std.specs.Prelude.{◌∷◌, []}
use Rattle.grammar.specs.Spelling.{token_in}
use Rattle.ruby_meaning.specs.declared.production.Sign.TheVariants as sign
use Rattle.ruby_meaning.specs.declared.token.Mark.TheVariants as mark
use Rattle.descent.specs.Sets.{one_of}
use Rattle.ruby_reading.specs.Ahead.{ahead, see, class_code, codes}
use Rattle.ruby_expressions.proofs.ArgumentSteps.{comma_lighter}
use Rattle.ruby_expressions.proofs.argument_lists.behind_comma.Goals as goal

pub returns-clause-lighter : goal.returns-clause-lighter
returns-clause-lighter g c = comma_lighter (token_in class_code (one_of (codes (sign.Op mark.Comma ∷ [])))) c.args.goes (ahead c.args.cursor.now) (see c.in_ok-take.field-0) (ahead c.take.new.self) c.in_ok-take.ensures

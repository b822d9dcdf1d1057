use Rattle.std.proofs.Common.{subst}
use Rattle.es5_reading.specs.Gives.{ahead}
use Rattle.es5_parser.specs.Levels.{GivesStart}
use Rattle.es5_parser.proofs.Turned.{not_bracketed, bracketed}
use Rattle.es5_parser.proofs.names.Parser.start.Goals as goal

pub returns-then-is_empty : goal.returns-then-is_empty
returns-then-is_empty g c =
    subst (λ o. GivesStart o c.first_of.result (ahead c.first_of.new.tokens))
    (not_bracketed c.args.self.now.depth c.args.level (ahead c.args.tokens.now) c.take_openings-opened.result.now (ahead c.take_openings-opened.new.tokens) c.take_openings-opened.ensures.taken c.take_openings-opened.ensures.passed c.is_empty.result c.is_empty.ensures c.if-is_empty.true)
    c.first_of.ensures

pub returns : goal.returns
returns g c =
    subst (λ o. GivesStart o c.bracketed.result (ahead c.bracketed.new.tokens))
    (bracketed c.args.self.now.depth c.args.level (ahead c.args.tokens.now) c.take_openings-opened.result.now (ahead c.take_openings-opened.new.tokens) c.take_openings-opened.ensures.taken c.take_openings-opened.ensures.passed c.is_empty.result c.is_empty.ensures c.if-is_empty.false)
    c.bracketed.ensures

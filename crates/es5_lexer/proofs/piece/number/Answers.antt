use Rattle.std.proofs.Common.{sym, subst, ◌∙◌, Some}
use Rattle.es5_tree.specs.declared.token.EsTokenKind.TheVariants as kind
use Rattle.es5_lexer.specs.Pieces.{PieceAt}
use Rattle.es5_lexer.proofs.Steps.{number_at, no_number, number_goes_on}
use Rattle.es5_lexer.proofs.piece.number.Goals as goal

pub returns-then-goes_on : goal.returns-then-goes_on
returns-then-goes_on c = number_goes_on c.args.bytes.now c.digits_size-size.result c.requires.some c.requires.digit c.digits_size-size.ensures.value (sym c.goes_on.ensures ∙ c.if-goes_on.true)

pub returns-in-Some : goal.returns-in-Some
returns-in-Some c = subst (λ number. PieceAt c.args.bytes.now (Some (kind.Num number)) c.digits_size-size.result) (sym c.from_u64.ensures) (number_at c.args.bytes.now c.digits_size-size.result c.in-Some.value c.digits_size-size.ensures.value c.digits_size-size.ensures.within (sym c.goes_on.ensures ∙ c.if-goes_on.false) (sym c.numeral.ensures.is ∙ c.in-Some.is))

pub returns-in-None : goal.returns-in-None
returns-in-None c = no_number c.args.bytes.now c.digits_size-size.result c.requires.some c.requires.digit c.digits_size-size.ensures.value (sym c.numeral.ensures.is ∙ c.in-None.is)

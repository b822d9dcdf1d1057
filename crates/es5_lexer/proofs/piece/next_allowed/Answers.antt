use Rattle.std.proofs.Common.{sym, ◌∙◌, subst}
use Rattle.es5_lexer.specs.Pieces.{PieceOrNot}
use Rattle.es5_lexer.proofs.Steps.{not_allowed_at}
use Rattle.es5_lexer.proofs.piece.next_allowed.Goals as goal

pub returns-else-allows : goal.returns-else-allows
returns-else-allows c = not_allowed_at c.args.restriction c.args.bytes.now c.in-Some.piece (subst (PieceOrNot c.args.bytes.now) c.in-Some.is c.in_ok-piece.ensures) (sym c.if-allows.false ∙ c.allows.ensures)

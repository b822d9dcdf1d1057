use Rattle.std.proofs.Common.{sym, ◌∙◌}
use Rattle.es5_lexer.proofs.Steps.{mark_at, refused_mark, no_mark, other_at}
use Rattle.es5_lexer.proofs.piece.other.Goals as goal

pub returns-in-Some-Mark-default : goal.returns-in-Some-Mark-default
returns-in-Some-Mark-default c = mark_at c.args.bytes.now c.in-Some-Mark-default.field-0-0 c.in-Some-Mark-default.mark c.in-Some-Mark-default.size (sym c.sign_at.ensures ∙ c.in-Some-Mark-default.is) c.in-Some-Mark-default.field-0-0-is

pub returns-in-Some-Refused-default : goal.returns-in-Some-Refused-default
returns-in-Some-Refused-default c =
    let none = refused_mark c.args.bytes.now c.in-Some-Refused-default.field-0-0 c.in-Some-Refused-default.field-0-1 (sym c.sign_at.ensures ∙ c.in-Some-Refused-default.is) c.in-Some-Refused-default.field-0-0-is in
    other_at c.args.bytes.now c.comment.result c.requires.some c.requires.other none c.comment.ensures

pub returns-in-None : goal.returns-in-None
returns-in-None c = other_at c.args.bytes.now c.comment-in-None.result c.requires.some c.requires.other (no_mark c.args.bytes.now (sym c.sign_at.ensures ∙ c.in-None.is)) c.comment-in-None.ensures

use Rattle.es5_lexer.proofs.Steps.{word_at}
use Rattle.es5_lexer.proofs.piece.word.Goals as goal

pub returns : goal.returns
returns c = word_at c.args.bytes.now c.in_ok-word_units.field-0 c.name_size-size.result c.requires.some c.requires.letter c.name_size-size.ensures.value c.name_size-size.ensures.within c.in_ok-word_units.ensures

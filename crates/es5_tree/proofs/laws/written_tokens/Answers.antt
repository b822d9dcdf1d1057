use Rattle.es5_tree.proofs.Written.{number_stands_is, word_stands_is, text_stands_is}
use Rattle.es5_tree.proofs.laws.written_tokens.Goals as goal

pub returns : goal.returns
returns c = record { number = number_stands_is; word = word_stands_is; text = text_stands_is }

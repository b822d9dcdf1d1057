use Rattle.grammar.proofs.SmallLists.{nearest_if, no_word_twice, levels}
use Rattle.grammar.proofs.laws.small_lists.Goals as goal

pub returns-clause-nearest : goal.returns-clause-nearest
returns-clause-nearest c = nearest_if

pub returns-clause-no_word_twice : goal.returns-clause-no_word_twice
returns-clause-no_word_twice c = no_word_twice

pub returns-clause-levels : goal.returns-clause-levels
returns-clause-levels c = levels

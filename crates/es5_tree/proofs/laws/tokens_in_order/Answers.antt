use Rattle.es5_tree.proofs.Slices.{lexed_ended, slices_ascend_is, numerals_safe_is}
use Rattle.es5_tree.proofs.laws.tokens_in_order.Goals as goal

pub returns : goal.returns
returns c = record { ascend = slices_ascend_is; ended = lexed_ended; safe = numerals_safe_is }

use Rattle.es5_tree.proofs.Cutting.{tokens_or_none_is, lexed_once_is}
use Rattle.es5_tree.proofs.laws.one_list_of_tokens.Goals as goal

pub returns : goal.returns
returns c = record { one = tokens_or_none_is; once = lexed_once_is }

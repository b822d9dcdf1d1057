use Rattle.es5_tree.proofs.Grammar.Scripts.{one_script_is, spelled_or_refused_is, never_both_is, one_stop_is, stops_at_token_is}
use Rattle.es5_tree.proofs.grammar_laws.tokens_spell_one.Goals as goal

pub returns : goal.returns
returns c = record { one_script = one_script_is; some_answer = spelled_or_refused_is; never_both = never_both_is; one_stop = one_stop_is; at_token = stops_at_token_is }

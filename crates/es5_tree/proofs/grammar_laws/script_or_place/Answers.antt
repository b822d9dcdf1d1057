use Rattle.es5_tree.proofs.Grammar.Scripts.{script_or_place_is, not_script_or_read_is, one_place_is}
use Rattle.es5_tree.proofs.grammar_laws.script_or_place.Goals as goal

pub returns : goal.returns
returns c = record { some_answer = script_or_place_is; never_both = not_script_or_read_is; one_place = one_place_is }

use Rattle.es5_tree.proofs.Grammar.Scripts.{one_read_is, read_spells_is, one_spelled_is}
use Rattle.es5_tree.proofs.grammar_laws.bytes_spell_one.Goals as goal

pub returns : goal.returns
returns c = record { one_read = one_read_is; spells = read_spells_is; one_spelled = one_spelled_is }

use Rattle.es5_spelling.proofs.Alike.{spelled_is_spellable_is}
use Rattle.es5_spelling.proofs.ReadBack.{read_is_spellable_is}
use Rattle.es5_spelling.proofs.laws.spelled_is_spellable.Goals as goal

pub returns : goal.returns
returns c = record { read = read_is_spellable_is; spelled = spelled_is_spellable_is }

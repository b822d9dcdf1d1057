use Rattle.es5_tree.proofs.Written.{digits_read_is, digits_written_is}
use Rattle.es5_tree.proofs.laws.decimal_numerals.Goals as goal

pub returns : goal.returns
returns c = record { read = digits_read_is; written = digits_written_is }

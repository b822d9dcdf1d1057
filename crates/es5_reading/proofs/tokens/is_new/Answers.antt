use Rattle.std.proofs.Common.{◌∙◌, ap, not}
use Rattle.name_set.specs.Names.{has}
use Rattle.es5_reading.proofs.NewNames.{none_of}
use Rattle.es5_reading.proofs.tokens.is_new.Goals as goal

pub returns : goal.returns
returns c = ap not (c.contains.ensures ∙ ap (has c.args.names.now) c.spelling.ensures) ∙ none_of c.args.names.now c.args.token.now

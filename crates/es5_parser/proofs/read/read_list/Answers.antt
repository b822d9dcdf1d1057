use Rattle.std.proofs.Common.{ap, sym, ◌∙◌, length, subst}
use Rattle.es5_reading.specs.Gives.{ahead}
use Rattle.es5_parser.specs.Wholes.{ReadsAll, whole}
use Rattle.es5_parser.proofs.Wholes.{whole_told}
use Rattle.es5_parser.proofs.read.read_list.Goals as goal

pub returns : goal.returns
returns c =
    subst (ReadsAll c.args.levels c.args.tokens.now) (sym (c.whole.ensures ∙ ap (whole c.whole_script-read.result (length c.args.tokens.now)) c.left.ensures))
    (whole_told c.args.levels c.args.tokens.now (ahead c.whole_script-read.new.tokens) c.whole_script-read.result c.whole_script-read.ensures)

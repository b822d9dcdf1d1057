use Rattle.std.proofs.Common.{ap, ◌∙◌, ◌-◌, length, take}
use Rattle.es5_parser.proofs.Wholes.{before}
use Rattle.es5_parser.proofs.script.before_end.Goals as goal

pub returns-clause-before : goal.returns-clause-before
returns-clause-before c = ap (λ l. take (length l - 1) l) c.as_slice-all.ensures ∙ before c.args.tokens.now c.requires

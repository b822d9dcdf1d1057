use Rattle.std.proofs.Common.{◌<◌, Ok, Err, length, subst}
use Rattle.es5_parser.specs.declared.read.Halt.TheVariants as halt
use Rattle.es5_parser.specs.Wholes.{ReadsAll}
use Rattle.es5_parser.proofs.Wholes.{script_told, stop_before, stop_told}
use Rattle.es5_parser.proofs.script.parse_script.Goals as goal

pub returns-in-Ok-clause-script : goal.returns-in-Ok-clause-script
returns-in-Ok-clause-script c = script_told c.args.tokens.now c.in-Ok.body (subst (λ l. ReadsAll 1200 l (Ok c.in-Ok.body)) c.before_end.ensures.before c.in-Ok.ensures)

pub at-requires : goal.at-requires
at-requires c =
    stop_before c.args.tokens.now c.in-Err-At.at (subst (λ l. length l < length c.args.tokens.now) c.before_end.ensures.before c.before_end.ensures.end)
    (subst (λ l. ReadsAll 1200 l (Err (halt.At c.in-Err-At.at))) c.before_end.ensures.before (rw c.in-Err-At.field-0-is at c.in-Err-At.ensures))

pub returns-in-Err-At-clause-not_script : goal.returns-in-Err-At-clause-not_script
returns-in-Err-At-clause-not_script c =
    stop_told c.args.tokens.now c.in-Err-At.at c.at.result.now (subst (λ l. ReadsAll 1200 l (Err (halt.At c.in-Err-At.at))) c.before_end.ensures.before (rw c.in-Err-At.field-0-is at c.in-Err-At.ensures)) c.at.ensures

use Rattle.std.proofs.Common.{refl, subst}
use Rattle.opal_cli.specs.Execution.{ReadsScript}
use Rattle.require_bundles.proofs.Loads.{told_content}
use Rattle.opal_cli.proofs.Scripts.{script_in}
use Rattle.opal_cli.proofs.script.script_in.Goals as goal

pub returns-in-Ok-clause-reads : goal.returns-in-Ok-clause-reads
returns-in-Ok-clause-reads g c map e =
    script_in map c.args.file.now c.in-Ok.bytes.items (map c.args.file.now) c.script_of.result refl
    (told_content _ map _ _ _ e c.in-Ok.ensures.content)
    (subst (λ bytes. ReadsScript bytes c.script_of.result) c.deref.ensures.value c.script_of.ensures)

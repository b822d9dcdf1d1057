use Rattle.opal_cli.proofs.Readback.{never_refused, program_read}
use Rattle.opal_cli.proofs.exec.script_back.Goals as goal

pub returns-in-Ok-read_script : goal.returns-in-Ok-read_script
returns-in-Ok-read_script c =
    program_read c.args.bundle.now c.in-Ok-read_script.script c.in-Ok.text c.as_slice.result.now c.as_slice.ensures
    c.in-Ok.ensures.text c.in-Ok.ensures.short c.in-Ok.ensures.spells c.in-Ok.ensures.agrees c.in-Ok-read_script.ensures.script

-- the text of the bundle's script spells it, and the script isn't deep
pub unreachable-requires : goal.unreachable-requires
unreachable-requires c =
    never_refused c.script_or_place.ensures.never_both c.same_depth.ensures c.args.bundle.now c.in-Ok.text c.as_slice.result.now c.in-Err-NotScript.field-0-0 c.as_slice.ensures
    c.in-Ok.ensures.spells (rw c.in-Err-NotScript.field-0-is at c.in-Err-NotScript.ensures.not_script)

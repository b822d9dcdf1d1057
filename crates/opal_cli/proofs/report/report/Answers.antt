use Rattle.std.proofs.Common.{refl, sym, ◌∙◌}
use mathlib.Core.Logic.{inl, inr}
use Rattle.opal_cli.specs.Ends.{OutOfMemory, end_of}
use Rattle.opal_cli.proofs.Reports.{tried, fault_line, memory_is_no_fault}
use Rattle.opal_cli.proofs.report.report.Goals as goal

pub returns-in-WriteFault-clause-told : goal.returns-in-WriteFault-clause-told
returns-in-WriteFault-clause-told g c = fault_line _ _ _ _ _ (sym c.status-status.ensures ∙ c.in-WriteFault.is) c.write_all.ensures.front

pub returns-in-Ok-clause-told : goal.returns-in-Ok-clause-told
returns-in-Ok-clause-told g c = let t = c.tell.ensures in
    tried _ _ _ _ _ (end_of c.args.outcome.now) _ _ _ (inl refl) c.status-status.ensures (c.as_slice.ensures ∙ c.in-Ok.ensures) c.in_default.not-WriteFault t.status t.line t.cut t.rose

pub returns-in-Err-clause-told : goal.returns-in-Err-clause-told
returns-in-Err-clause-told g c = let t = c.tell-in-Err.ensures in
    tried _ _ _ _ _ OutOfMemory _ _ _ (inr refl) refl refl memory_is_no_fault t.status t.line t.cut t.rose

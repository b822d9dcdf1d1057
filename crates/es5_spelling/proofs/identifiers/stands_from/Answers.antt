use Rattle.std.proofs.Common.{sym, ◌∙◌}
use Rattle.std.specs.Prelude.{bytes_eq}
use Rattle.es5_spelling.proofs.Loops.{any_found, any_next}
use Rattle.es5_spelling.proofs.identifiers.stands_from.Goals as goal

pub returns-then-same_name : goal.returns-then-same_name
returns-then-same_name c = any_found (λ other. bytes_eq c.args.name.now other) c.args.names.now c.loop-i.i c.at.result.now _ c.at.ensures (sym c.same_name.ensures ∙ c.if-same_name.true) c.loop-i.invariant

pub loop-i-preserved : goal.loop-i-preserved
loop-i-preserved c = any_next (λ other. bytes_eq c.args.name.now other) c.args.names.now c.loop-i.i c.at.result.now _ c.at.ensures (sym c.same_name.ensures ∙ c.if-same_name.false) c.loop-i.invariant

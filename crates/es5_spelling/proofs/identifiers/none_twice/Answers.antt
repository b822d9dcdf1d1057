use Rattle.std.proofs.Common.{sym, ◌∙◌}
use Rattle.es5_spelling.proofs.Loops.{twice_found, twice_next}
use Rattle.es5_spelling.proofs.identifiers.none_twice.Goals as goal

pub returns-then-stands_from : goal.returns-then-stands_from
returns-then-stands_from c = twice_found c.args.names.now c.loop-i.i c.at.result.now _ c.at.ensures (sym c.stands_from.ensures ∙ c.if-stands_from.true) c.loop-i.invariant

pub loop-i-preserved : goal.loop-i-preserved
loop-i-preserved c = twice_next c.args.names.now c.loop-i.i c.at.result.now _ c.at.ensures (sym c.stands_from.ensures ∙ c.if-stands_from.false) c.loop-i.invariant

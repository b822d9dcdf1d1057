use Rattle.std.proofs.Common.{arith}
use Rattle.es5_code.proofs.NewNames.{first_names, next_name, no_more_names}
use Rattle.es5_code.proofs.own.new_names.Goals as goal

pub loop-i-init : goal.loop-i-init
loop-i-init c = first_names c.args.names.now c.args.known.now c.in_ok-seen.seen c.new-new.result c.in_ok-seen.ensures c.new-new.ensures

pub loop-i-preserved : goal.loop-i-preserved
loop-i-preserved c = next_name c.args.names.now c.loop-i.seen c.loop-i.new _ _ _ c.loop-i.i c.at.result.now c.at.ensures c.in_ok-put_new.ensures.known c.in_ok-put_new.ensures.new c.loop-i.invariant

pub returns : goal.returns
returns c = no_more_names c.args.names.now c.loop-i.seen c.loop-i.new _ c.loop-i.i (omega (arith, c.loop-i-test.false, c.len-i-end.ensures)) c.loop-i.invariant

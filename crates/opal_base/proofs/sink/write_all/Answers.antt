use Rattle.std.proofs.Common.{◌+◌, arith}
use Rattle.opal_base.proofs.Took.{joined, within}
use Rattle.opal_base.proofs.sink.write_all.Goals as goal

pub loop-at-preserved : goal.loop-at-preserved
loop-at-preserved g c = record {
  within = within c.args.bytes.now c.loop-at.at c.in-Ok.count c.loop-at.invariant.within c.in-Ok.ensures.bound;
  took = joined _ _ _ c.args.bytes.now c.loop-at.at c.in-Ok.count c.loop-at.invariant.took c.in-Ok.ensures.took;
  later = omega (arith, c.loop-at.invariant.later, c.in-Ok.ensures.cause.later);
}

pub returns-in-Err-clause-front : goal.returns-in-Err-clause-front
returns-in-Err-clause-front g c =
    let f = c.in-Err.ensures.front in
    (c.loop-at.at + f.0, within c.args.bytes.now c.loop-at.at f.0 c.loop-at.invariant.within f.1, joined _ _ _ c.args.bytes.now c.loop-at.at f.0 c.loop-at.invariant.took f.2)

pub returns-clause-front : goal.returns-clause-front
returns-clause-front g c = (c.loop-at.at, c.loop-at.invariant.within, c.loop-at.invariant.took)

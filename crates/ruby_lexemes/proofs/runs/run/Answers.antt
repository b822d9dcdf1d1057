use Rattle.ruby_meaning.proofs.Lexing.Runs.{run_on}
use Rattle.ruby_meaning.specs.Lexing.Runs as spec
use Rattle.ruby_lexemes.proofs.runs.run.Goals as goal

pub members-preserved : goal.members-preserved
members-preserved c = run_on (spec.step c.args.class) c.args.z.now c.members.end c.step-more.result _ c.step-more.ensures.value c.if-more-eq0.false c.step-more.ensures.within c.members.invariant.1 c.members.invariant.0

use Rattle.require_bundles.proofs.Texts.{misspelled, resolved, unresolved}
use Rattle.require_bundles.proofs.bundle.resolved_text.Goals as goal

pub returns-in-Err-clause-stops : goal.returns-in-Err-clause-stops
returns-in-Err-clause-stops c = misspelled c.args.text.now _ c.in-Err.stop c.in_ok-tokens.ensures.tokens c.in-Err.ensures.refused

pub returns-clause-resolves : goal.returns-clause-resolves
returns-clause-resolves c =
    resolved c.args.text.now _ c.in-Ok.program c.resolve.result c.in_ok-tokens.ensures.tokens c.in-Ok.ensures.spelled c.resolve.ensures.scoped

pub returns-clause-stops : goal.returns-clause-stops
returns-clause-stops c =
    unresolved c.args.text.now _ c.in-Ok.program c.resolve.result c.in_ok-tokens.ensures.tokens c.in-Ok.ensures.spelled c.resolve.ensures.refused

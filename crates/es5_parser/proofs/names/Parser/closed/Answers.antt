use Rattle.std.proofs.Common.{rules, arith, ◌∙◌}
use Rattle.std.proofs.lemmas.Grind.{common_steps}
use Rattle.es5_reading.specs.Gives.{ahead}
use Rattle.es5_parser.specs.Levels.{shown_start}
use Rattle.es5_parser.proofs.Turned.{one_closed, all_closed}
use Rattle.es5_parser.proofs.names.Parser.closed.Goals as goal

pub returns-in_err-start : goal.returns-in_err-start
returns-in_err-start g c =
    let e = c.opened.invariant.0 ∙ one_closed c.args.self.now.depth (shown_start c.opened.start) (ahead c.opened.tokens) c.opened.opened.now c.opening-item.result c.in-len1-up.len_at_least c.opening-item.is in
    first_of (search rules, grind (arith, common_steps))

pub returns : goal.returns
returns g c = c.opened.invariant.0 ∙ all_closed c.args.self.now.depth (shown_start c.opened.start) (ahead c.opened.tokens) c.opened.opened.now c.in_default.len_below

pub opened-preserved : goal.opened-preserved
opened-preserved g c =
    let e = c.opened.invariant.0 ∙ one_closed c.args.self.now.depth (shown_start c.opened.start) (ahead c.opened.tokens) c.opened.opened.now c.opening-item.result c.in-len1-up.len_at_least c.opening-item.is in
    first_of (search rules, grind (arith, common_steps))

use Rattle.std.proofs.Common.{rules, arith, sym, ◌∙◌}
use Rattle.std.proofs.lemmas.Grind.{common_steps}
use Rattle.grammar.specs.Checks.{first}
use Rattle.grammar.specs.Readers.{read_named, read_rule}
use Rattle.grammar.proofs.Turns.{one_more}
use Rattle.es5_tree.specs.Grammar.Table.{table}
use Rattle.es5_reading.specs.Gives.{ahead}
use Rattle.es5_reading.specs.Loops.{fits, logicals, logical_part, joined}
use Rattle.es5_reading.specs.Named.{shown_operand}
use Rattle.es5_reading.proofs.Stopping.{none_begins, none_fits}
use Rattle.es5_parser.proofs.names.Parser.logicals.Goals.{then-not-sees_logical-via-then-not-sees_logical, then-not-sees_logical-via-else-not-sees_logical+then-not-fits}
use Rattle.es5_parser.proofs.names.Parser.logicals.Goals as goal

pub loop-turn-preserved : goal.loop-turn-preserved
loop-turn-preserved g c =
    let e = one_more (λ n. logicals c.args.which n c.args.self.now.depth (shown_operand c.loop-turn.left) (ahead c.loop-turn.tokens)) _ c.loop-turn._turn c.loop-turn-test.true c.loop-turn.invariant in
    first_of (search rules, grind (arith, common_steps))

pub returns-then-not-sees_logical : goal.returns-then-not-sees_logical
returns-then-not-sees_logical g c =
    let e = one_more (λ n. logicals c.args.which n c.args.self.now.depth (shown_operand c.loop-turn.left) (ahead c.loop-turn.tokens)) _ c.loop-turn._turn c.loop-turn-test.true c.loop-turn.invariant in
    elim c.then-not-sees_logical.branch [
      | then-not-sees_logical-via-then-not-sees_logical w ↦
          e ∙ none_begins (λ t. first table (logical_part c.args.which) (table.code t)) (fits c.args.self.now.depth) (joined c.args.which) (read_rule table (read_named table) (logical_part c.args.which) c.args.self.now.depth) _ (shown_operand c.loop-turn.left) (ahead c.loop-turn.tokens) (sym c.sees_logical.ensures ∙ w.if-not-sees_logical.true)
      | then-not-sees_logical-via-else-not-sees_logical+then-not-fits w ↦
          e ∙ none_fits (λ t. first table (logical_part c.args.which) (table.code t)) (fits c.args.self.now.depth) (joined c.args.which) (read_rule table (read_named table) (logical_part c.args.which) c.args.self.now.depth) _ (shown_operand c.loop-turn.left) (ahead c.loop-turn.tokens) (sym w.fits.ensures ∙ w.if-not-fits.true)
    ]

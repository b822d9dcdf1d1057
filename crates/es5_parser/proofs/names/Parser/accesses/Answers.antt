use Rattle.std.proofs.Common.{rules, arith, sym, ◌∙◌}
use Rattle.std.proofs.lemmas.Grind.{common_steps}
use Rattle.grammar.specs.Checks.{first}
use Rattle.grammar.specs.Readers.{read_named, read_rule}
use Rattle.grammar.proofs.Turns.{one_more}
use Rattle.es5_tree.specs.Grammar.Expressions.{access_part}
use Rattle.es5_tree.specs.Grammar.Nodes.{accessed}
use Rattle.es5_tree.specs.Grammar.Table.{table}
use Rattle.es5_reading.specs.Gives.{ahead}
use Rattle.es5_reading.specs.Loops.{fits, accesses}
use Rattle.es5_reading.specs.Named.{shown_operand}
use Rattle.es5_reading.proofs.Stopping.{none_begins, none_fits}
use Rattle.es5_parser.proofs.names.Parser.accesses.Goals.{then-not-sees_access-via-then-not-sees_access, then-not-sees_access-via-else-not-sees_access+then-not-fits}
use Rattle.es5_parser.proofs.names.Parser.accesses.Goals as goal

pub loop-turn-preserved : goal.loop-turn-preserved
loop-turn-preserved g c =
    let e = one_more (λ n. accesses n c.args.self.now.depth (shown_operand c.loop-turn.value) (ahead c.loop-turn.tokens)) _ c.loop-turn._turn c.loop-turn-test.true c.loop-turn.invariant in
    first_of (search rules, grind (arith, common_steps))

pub returns-then-not-sees_access : goal.returns-then-not-sees_access
returns-then-not-sees_access g c =
    let e = one_more (λ n. accesses n c.args.self.now.depth (shown_operand c.loop-turn.value) (ahead c.loop-turn.tokens)) _ c.loop-turn._turn c.loop-turn-test.true c.loop-turn.invariant in
    elim c.then-not-sees_access.branch [
      | then-not-sees_access-via-then-not-sees_access w ↦
          e ∙ none_begins (λ t. first table access_part (table.code t)) (fits c.args.self.now.depth) accessed (read_rule table (read_named table) access_part c.args.self.now.depth) _ (shown_operand c.loop-turn.value) (ahead c.loop-turn.tokens) (sym c.sees_access.ensures ∙ w.if-not-sees_access.true)
      | then-not-sees_access-via-else-not-sees_access+then-not-fits w ↦
          e ∙ none_fits (λ t. first table access_part (table.code t)) (fits c.args.self.now.depth) accessed (read_rule table (read_named table) access_part c.args.self.now.depth) _ (shown_operand c.loop-turn.value) (ahead c.loop-turn.tokens) (sym w.fits.ensures ∙ w.if-not-fits.true)
    ]

use Rattle.std.proofs.Common.{rules, arith, sym, ◌∙◌}
use Rattle.std.proofs.lemmas.Grind.{common_steps}
use Rattle.grammar.specs.Checks.{first}
use Rattle.grammar.specs.Readers.{read_named, read_rule}
use Rattle.grammar.proofs.Turns.{one_more}
use Rattle.es5_tree.specs.Grammar.Nodes.{binary}
use Rattle.es5_tree.specs.Grammar.Table.{table}
use Rattle.es5_reading.specs.Gives.{ahead}
use Rattle.es5_reading.specs.Loops.{fits, binaries, binary_part}
use Rattle.es5_reading.specs.Named.{shown_operand}
use Rattle.es5_reading.proofs.Stopping.{none_begins, none_fits}
use Rattle.es5_parser.proofs.names.Parser.binaries.Goals.{then-not-sees_binary-via-then-not-sees_binary, then-not-sees_binary-via-else-not-sees_binary+then-not-fits}
use Rattle.es5_parser.proofs.names.Parser.binaries.Goals as goal

pub loop-turn-preserved : goal.loop-turn-preserved
loop-turn-preserved g c =
    let e = one_more (λ n. binaries c.args.which n c.args.self.now.depth (shown_operand c.loop-turn.left) (ahead c.loop-turn.tokens)) _ c.loop-turn._turn c.loop-turn-test.true c.loop-turn.invariant in
    first_of (search rules, grind (arith, common_steps))

pub returns-then-not-sees_binary : goal.returns-then-not-sees_binary
returns-then-not-sees_binary g c =
    let e = one_more (λ n. binaries c.args.which n c.args.self.now.depth (shown_operand c.loop-turn.left) (ahead c.loop-turn.tokens)) _ c.loop-turn._turn c.loop-turn-test.true c.loop-turn.invariant in
    elim c.then-not-sees_binary.branch [
      | then-not-sees_binary-via-then-not-sees_binary w ↦
          e ∙ none_begins (λ t. first table (binary_part c.args.which) (table.code t)) (fits c.args.self.now.depth) binary (read_rule table (read_named table) (binary_part c.args.which) c.args.self.now.depth) _ (shown_operand c.loop-turn.left) (ahead c.loop-turn.tokens) (sym c.sees_binary.ensures ∙ w.if-not-sees_binary.true)
      | then-not-sees_binary-via-else-not-sees_binary+then-not-fits w ↦
          e ∙ none_fits (λ t. first table (binary_part c.args.which) (table.code t)) (fits c.args.self.now.depth) binary (read_rule table (read_named table) (binary_part c.args.which) c.args.self.now.depth) _ (shown_operand c.loop-turn.left) (ahead c.loop-turn.tokens) (sym w.fits.ensures ∙ w.if-not-fits.true)
    ]

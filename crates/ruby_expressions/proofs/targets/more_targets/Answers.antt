use Rattle.std.proofs.Common.{rules, arith, sym, ap, ◌∙◌, Ok}
use Rattle.std.proofs.lemmas.Grind.{common_steps}
use Rattle.grammar.specs.Readers.{read_named, read_rule}
use Rattle.ruby_meaning.specs.Grammar.Statements as s
use Rattle.ruby_meaning.specs.Grammar.Table.{table}
use Rattle.ruby_reading.specs.Ahead.{ahead}
use Rattle.ruby_expressions.specs.TargetSteps.{behind_found, shown_target}
use Rattle.ruby_expressions.proofs.TargetTurns.{at_end, at_first, last_one, next_left, next_refused, one_more, value_refused}
use Rattle.ruby_expressions.proofs.targets.more_targets.Goals as goal

pub loop-turn-init : goal.loop-turn-init
loop-turn-init g c =
    (at_first c.args.parser.now.in_rescue c.args.parser.now.depth c.in_ok-start.start c.args.first c.args.starred (ahead c.args.cursor.now) c.in_ok-start.ensures, omega (arith, c.left-turn-end.ensures))

pub returns-in_err-one : goal.returns-in_err-one
returns-in_err-one g c =
    let e = next_refused c.args.parser.now.in_rescue c.args.parser.now.depth _ c.loop-turn.found c.loop-turn.starred (ahead c.loop-turn.cursor) (ahead c.next_target.new.cursor) c.loop-turn.invariant.0 in
    first_of (search rules, grind (arith, common_steps, e))

pub returns-in_err-value : goal.returns-in_err-value
returns-in_err-value g c =
    let e = value_refused c.args.parser.now.in_rescue c.args.parser.now.depth _ c.loop-turn.found c.loop-turn.starred (ahead c.loop-turn.cursor) (ahead c.next_target.new.cursor) (shown_target c.in_ok-one.one) (ahead c.set_value.new.cursor) c.loop-turn.invariant.0 c.in_ok-one.ensures (sym c.sees.ensures ∙ c.if-not-sees.true) in
    first_of (search rules, grind (arith, common_steps, e))

pub returns-then-not-sees : goal.returns-then-not-sees
returns-then-not-sees g c =
    last_one c.args.parser.now.in_rescue c.args.parser.now.depth _ c.loop-turn.found c.loop-turn.starred (ahead c.loop-turn.cursor) (ahead c.next_target.new.cursor) (shown_target c.in_ok-one.one) c.in_ok-value.value (ahead c.set_value.new.cursor) c.loop-turn.invariant.0 c.in_ok-one.ensures (sym c.sees.ensures ∙ c.if-not-sees.true) c.in_ok-value.ensures
    ∙ ap (λ l. Ok ((l, c.in_ok-value.value), ahead c.set_value.new.cursor)) (sym c.in_ok-found.ensures)

pub loop-turn-preserved : goal.loop-turn-preserved
loop-turn-preserved g c = (
  one_more c.args.parser.now.in_rescue c.args.parser.now.depth _ c.loop-turn.found c.loop-turn.starred (ahead c.loop-turn.cursor) (ahead c.next_target.new.cursor) (shown_target c.in_ok-one.one) c.loop-turn.invariant.0 c.in_ok-one.ensures (sym c.sees.ensures ∙ c.if-not-sees.false)
      ∙ ap (λ l. behind_found l (read_rule table (read_named table) (s.more_targets c.args.parser.now.in_rescue c.in_ok-one.one.starred) c.args.parser.now.depth (ahead c.next_target.new.cursor))) (sym c.in_ok-found.ensures),
  omega (
    arith,
    c.loop-turn.invariant.1,
    c.loop-turn-test.true,
    next_left c.args.parser.now.in_rescue c.args.parser.now.depth c.loop-turn.starred (ahead c.loop-turn.cursor) (ahead c.next_target.new.cursor) (shown_target c.in_ok-one.one) c.in_ok-one.ensures,
  ),
)

pub returns : goal.returns
returns g c = at_end c.args.parser.now.in_rescue c.args.parser.now.depth _ c.loop-turn.found c.loop-turn.starred (ahead c.loop-turn.cursor) c.loop-turn.invariant.0 (omega (arith, c.loop-turn.invariant.1, c.loop-turn-test.false))

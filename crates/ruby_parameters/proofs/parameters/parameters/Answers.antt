use Rattle.std.proofs.Common.{rules, arith, sym, ap, ◌∙◌}
use Rattle.std.proofs.lemmas.Grind.{common_steps}
use Rattle.ruby_meaning.specs.Grammar.Actions as act
use Rattle.ruby_reading.specs.Ahead.{ahead, see}
use Rattle.ruby_parameters.specs.Parameters.{join, params_from, single_of, stage_of, with_found, with_single}
use Rattle.ruby_parameters.proofs.ParameterJoins.{at_first, behind_found, block_last, comma_refused, found_more, last_one, one_more, one_refused, rule_here}
use Rattle.ruby_meaning.specs.declared.token.Mark.TheVariants as mark
use Rattle.ruby_meaning.specs.Grammar.Classes.{op}
use Rattle.ruby_parameters.proofs.ParameterLengths.{at_end, single_left}
use Rattle.ruby_parameters.proofs.Skipped.{one_fewer_taken}
use Rattle.ruby_parameters.proofs.parameters.parameters.Goals as goal

pub loop-turn-init : goal.loop-turn-init
loop-turn-init g c = (act.no_parameters, c.none_found-found.ensures, at_first c.args.parser.now.in_rescue c.args.brackets c.args.parser.now.depth (ahead c.args.cursor.now), omega (arith, c.left-turn-end.ensures))

pub returns-in_err-one : goal.returns-in_err-one
returns-in_err-one g c =
    let e = one_refused c.args.parser.now.in_rescue c.args.brackets c.args.parser.now.depth _ c.loop-turn.invariant.0 (stage_of c.loop-turn.before) (ahead c.loop-turn.cursor) (ahead c.read_parameter.new.cursor) c.loop-turn.invariant.2 in
    first_of (search rules, grind (arith, common_steps, e))

pub returns-in_err-take : goal.returns-in_err-take
returns-in_err-take g c =
    let e = comma_refused c.args.parser.now.in_rescue c.args.brackets c.args.parser.now.depth _ c.loop-turn.invariant.0 (stage_of c.loop-turn.before) (single_of c.in_ok-one.one) (ahead c.loop-turn.cursor) (ahead c.read_parameter.new.cursor) (ahead c.take.new.self) c.loop-turn.invariant.2 c.in_ok-one.ensures (sym c.is_block-ends.ensures ∙ c.if-ends.false) (sym c.sees.ensures ∙ c.if-not-sees.false) in
    first_of (search rules, grind (arith, common_steps, e))

pub returns-then-ends : goal.returns-then-ends
returns-then-ends g c =
    let seen = c.loop-turn.invariant.0 in
    let s = stage_of c.loop-turn.before in
    let y = single_of c.in_ok-one.one in (
      join seen (with_single s y act.no_parameters),
      block_last c.args.parser.now.in_rescue c.args.brackets c.args.parser.now.depth _ seen s y (ahead c.loop-turn.cursor) (ahead c.read_parameter.new.cursor) c.loop-turn.invariant.2 c.in_ok-one.ensures (sym c.is_block-ends.ensures ∙ c.if-ends.true),
      sym (c.params_from.ensures ∙ ap params_from (c.in_ok-found.ensures ∙ ap (with_found s y) c.loop-turn.invariant.1 ∙ found_more s y seen)),
    )

pub returns-then-not-sees : goal.returns-then-not-sees
returns-then-not-sees g c =
    let seen = c.loop-turn.invariant.0 in
    let s = stage_of c.loop-turn.before in
    let y = single_of c.in_ok-one.one in (
      join seen (with_single s y act.no_parameters),
      last_one c.args.parser.now.in_rescue c.args.brackets c.args.parser.now.depth _ seen s y (ahead c.loop-turn.cursor) (ahead c.read_parameter.new.cursor) c.loop-turn.invariant.2 c.in_ok-one.ensures (sym c.is_block-ends.ensures ∙ c.if-ends.false) (sym c.sees.ensures ∙ c.if-not-sees.true),
      sym (c.params_from-then-not-sees.ensures ∙ ap params_from (c.in_ok-found.ensures ∙ ap (with_found s y) c.loop-turn.invariant.1 ∙ found_more s y seen)),
    )

pub loop-turn-preserved : goal.loop-turn-preserved
loop-turn-preserved g c =
    let seen = c.loop-turn.invariant.0 in
    let s = stage_of c.loop-turn.before in
    let y = single_of c.in_ok-one.one in (
      join seen (with_single s y act.no_parameters),
      c.in_ok-found.ensures ∙ ap (with_found s y) c.loop-turn.invariant.1 ∙ found_more s y seen,
      one_more c.args.parser.now.in_rescue c.args.brackets c.args.parser.now.depth _ seen s y (ahead c.loop-turn.cursor) (ahead c.read_parameter.new.cursor) (see c.in_ok-take.field-0) (ahead c.take.new.self) c.loop-turn.invariant.2 c.in_ok-one.ensures (sym c.is_block-ends.ensures ∙ c.if-ends.false) (sym c.sees.ensures ∙ c.if-not-sees.false) c.in_ok-take.ensures
          ∙ ap (λ z. behind_found (join seen (with_single s y act.no_parameters)) (rule_here c.args.parser.now.in_rescue c.args.brackets c.args.parser.now.depth z (ahead c.take.new.self))) (sym c.behind-next.ensures),
      omega (
        arith,
        c.loop-turn.invariant.3,
        c.loop-turn-test.true,
        single_left c.args.parser.now.in_rescue c.args.brackets c.args.parser.now.depth s (ahead c.loop-turn.cursor) y (ahead c.read_parameter.new.cursor) c.in_ok-one.ensures,
        one_fewer_taken (op mark.Comma) (ahead c.read_parameter.new.cursor) (ahead c.take.new.self) (see c.in_ok-take.field-0) c.in_ok-take.ensures,
      ),
    )

pub returns : goal.returns
returns g c = at_end c.args.parser.now.in_rescue c.args.brackets c.args.parser.now.depth _ c.loop-turn.invariant.0 (stage_of c.loop-turn.before) (ahead c.loop-turn.cursor) c.loop-turn.invariant.2 (omega (arith, c.loop-turn.invariant.3, c.loop-turn-test.false))

use Rattle.std.proofs.Common.{◌∙◌, sym, lit<, rules, drop, get_or, ℕ, ◌+◌, ◌-◌, ◌*◌, ◌≤◌}
use Rattle.es5_tree.specs.Objects.Names.{index_end}
use Rattle.es5_objects.proofs.Digits.{number_starts, number_step, too_large, small_enough, not_spelled, number_end}
use Rattle.es5_objects.proofs.index.index_of.Goals as goal

pub loop-unit-init : goal.loop-unit-init
loop-unit-init c = record { small = lit< tt; same = number_starts c.args.name.now }

pub returns-then-number-ge-INDEX_END-clause-index : goal.returns-then-number-ge-INDEX_END-clause-index
returns-then-number-ge-INDEX_END-clause-index c =
    let n : ℕ = c.loop-unit.number * 10 + (get_or c.args.name.now c.loop-unit.unit-index 0 - 48) in
    let large : index_end ≤ n = search rules in
    sym (too_large c.args.name.now n (drop (c.loop-unit.unit-index + 1) c.args.name.now) (c.loop-unit.invariant.same ∙ number_step c.args.name.now c.loop-unit.number c.loop-unit.unit-index c.loop-unit-test.true) large)

pub returns-then-spells-clause-index : goal.returns-then-spells-clause-index
returns-then-spells-clause-index c =
    sym (small_enough c.args.name.now c.loop-unit.number (c.loop-unit.invariant.same ∙ number_end c.args.name.now c.loop-unit.number c.loop-unit.unit-index c.loop-unit-test.false) c.loop-unit.invariant.small (sym c.spells.ensures ∙ c.if-spells.true))

pub returns-else-spells-clause-index : goal.returns-else-spells-clause-index
returns-else-spells-clause-index c =
    sym (not_spelled c.args.name.now c.loop-unit.number (c.loop-unit.invariant.same ∙ number_end c.args.name.now c.loop-unit.number c.loop-unit.unit-index c.loop-unit-test.false) (sym c.spells.ensures ∙ c.if-spells.false))

use Rattle.std.proofs.Common.{◌<◌, sym, ap, ◌∙◌, arith, bytes_eq, ne_eqb}
use Rattle.es5_tree.specs.Objects.Names.{decimal}
use Rattle.es5_objects.proofs.Digits.{by_one, by_more, decimal_units}
use Rattle.es5_objects.proofs.index.spells.Goals as goal

pub returns-then-name-eq1 : goal.returns-then-name-eq1
returns-then-name-eq1 c = by_one c.args.name.now c.if-name-eq1.true ∙ ap (λ n. bytes_eq c.args.name.now (decimal n)) (sym c.if-n-eq0.true)

pub returns-else-name-eq1 : goal.returns-else-name-eq1
returns-else-name-eq1 c = ne_eqb _ _ c.if-name-eq1.false ∙ (by_more c.args.name.now c.if-name-eq1.false ∙ ap (λ n. bytes_eq c.args.name.now (decimal n)) (sym c.if-n-eq0.true))

pub returns-else-n-eq0 : goal.returns-else-n-eq0
returns-else-n-eq0 c =
    let h : 0 < c.args.n = omega arith in
    c.has_digits.ensures ∙ ap (bytes_eq c.args.name.now) (sym (decimal_units c.args.n h))

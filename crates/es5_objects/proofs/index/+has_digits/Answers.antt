use Rattle.std.proofs.Common.{◌≡◌, ◌+◌, ◌-◌, ◌<◌, ◌/◌, ◌%◌, ◌&&◌, length, get_or, take, false, true, bytes_eq, sym, ap, ◌∙◌, eqb, eq-eqb, ne_eqb, rules, arith}
use Rattle.es5_objects.proofs.Digits.{units_of, by_last}
use Rattle.es5_objects.proofs.index.+has_digits.Goals as goal

pub returns-then-from-n : goal.returns-then-from-n
returns-then-from-n t c =
    let h : 0 < c.args.n = omega arith in
    let some : 0 < length c.args.name.now = search rules in
    let last : eqb (get_or c.args.name.now (length c.args.name.now - 1) 0) (48 + c.args.n % 10) ≡ true = eq-eqb _ _ (sym c.from.ensures ∙ c.if-from-n.true) in
    c.has_digits.ensures ∙ sym (by_last c.args.n h c.args.name.now some ∙ ap (λ b. b && bytes_eq (take (length c.args.name.now - 1) c.args.name.now) (units_of (c.args.n / 10))) last)

pub returns-else-from-n : goal.returns-else-from-n
returns-else-from-n t c =
    let h : 0 < c.args.n = omega arith in
    let some : 0 < length c.args.name.now = search rules in
    let last : eqb (get_or c.args.name.now (length c.args.name.now - 1) 0) (48 + c.args.n % 10) ≡ false = ne_eqb _ _ (λ e. c.if-from-n.false (c.from.ensures ∙ e)) in
    ne_eqb _ _ c.if-from-n.false ∙ sym (by_last c.args.n h c.args.name.now some ∙ ap (λ b. b && bytes_eq (take (length c.args.name.now - 1) c.args.name.now) (units_of (c.args.n / 10))) last)

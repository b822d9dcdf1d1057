use Rattle.std.proofs.Common.{◌≡◌, ◌+◌, ◌%◌, ◌∷◌, [], ◌++◌, OnOk, sym, ap, subst, ◌∙◌, append_assoc, ◌/◌}
use Rattle.es5_tree.specs.Objects.Names.{decimal}
use Rattle.es5_objects.proofs.Digits.{decimal_digit, decimal_more}
use Rattle.es5_objects.proofs.index.+push_decimal.Goals as goal

pub returns-then-n-lt10 : goal.returns-then-n-lt10
returns-then-n-lt10 t c =
    subst (λ text. OnOk c.push.result (c.push.new.self ≡ c.args.units.now ++ text)) (sym (decimal_digit c.args.n c.if-n-lt10.true)) c.push.ensures.ok

pub returns : goal.returns
returns t c =
    let e : c.push_decimal.new.units ++ (48 + c.args.n % 10) ∷ [] ≡ c.args.units.now ++ decimal c.args.n =
    ap (λ text. text ++ (48 + c.args.n % 10) ∷ []) c.in_ok-push_decimal.ensures
    ∙ (append_assoc c.args.units.now (decimal (c.args.n / 10)) ((48 + c.args.n % 10) ∷ [])
    ∙ ap (λ text. c.args.units.now ++ text) (sym (decimal_more c.args.n c.if-n-lt10.false))) in
    subst (λ text. OnOk c.push-2.result (c.push-2.new.self ≡ text)) e c.push-2.ensures.ok

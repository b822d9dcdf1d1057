use Rattle.std.proofs.Common.{◌∷◌, [], ◌++◌, ◌+◌, drop, ◌∙◌, sym, ap, append_assoc}
use Rattle.es5_code.proofs.NewNames.{dropped}
use Rattle.es5_code.proofs.own.extend.Goals as goal

pub loop-i-preserved : goal.loop-i-preserved
loop-i-preserved c =
    let rest = drop (c.loop-i.i + 1) c.args.more.now in
    ap (λ xs. xs ++ rest) c.in_ok-push.ensures.ok
    ∙ append_assoc c.loop-i.names (c.in_ok-try_clone.field-0 ∷ []) rest
    ∙ ap (λ x. c.loop-i.names ++ x ∷ rest) c.in_ok-try_clone.ensures
    ∙ ap (λ xs. c.loop-i.names ++ xs) (sym (dropped c.args.more.now c.loop-i.i c.at.result.now c.at.ensures))
    ∙ c.loop-i.invariant

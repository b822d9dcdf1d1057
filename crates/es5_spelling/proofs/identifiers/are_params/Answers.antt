use Rattle.std.proofs.Common.{◌&&◌, ap, sym, ◌∙◌}
use Rattle.es5_spelling.specs.Spellable.{is_binding, none_twice}
use Rattle.es5_spelling.proofs.Loops.{all_failed, all_next}
use Rattle.es5_spelling.proofs.identifiers.are_params.Goals as goal

pub returns-then-not-is_binding : goal.returns-then-not-is_binding
returns-then-not-is_binding c =
    ap (λ b. b && none_twice c.args.names.now)
    (all_failed is_binding c.args.names.now c.loop-i.i c.at.result.now _ c.at.ensures (sym c.is_binding.ensures ∙ c.if-not-is_binding.true) c.loop-i.invariant)

pub loop-i-preserved : goal.loop-i-preserved
loop-i-preserved c = all_next is_binding c.args.names.now c.loop-i.i c.at.result.now _ c.at.ensures (sym c.is_binding.ensures ∙ c.if-not-is_binding.false) c.loop-i.invariant

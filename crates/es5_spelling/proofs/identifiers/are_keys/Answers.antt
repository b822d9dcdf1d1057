use Rattle.std.proofs.Common.{◌&&◌, ap, sym, ◌∙◌}
use Rattle.es5_spelling.specs.Spellable.{is_identifier, none_twice}
use Rattle.es5_spelling.proofs.Loops.{all_failed, all_next}
use Rattle.es5_spelling.proofs.identifiers.are_keys.Goals as goal

pub returns-then-not-is_identifier : goal.returns-then-not-is_identifier
returns-then-not-is_identifier c =
    ap (λ b. b && none_twice c.args.names.now)
    (all_failed is_identifier c.args.names.now c.loop-i.i c.at.result.now _ c.at.ensures (sym c.is_identifier.ensures ∙ c.if-not-is_identifier.true) c.loop-i.invariant)

pub loop-i-preserved : goal.loop-i-preserved
loop-i-preserved c = all_next is_identifier c.args.names.now c.loop-i.i c.at.result.now _ c.at.ensures (sym c.is_identifier.ensures ∙ c.if-not-is_identifier.false) c.loop-i.invariant

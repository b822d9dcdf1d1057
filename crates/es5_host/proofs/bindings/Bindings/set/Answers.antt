use Rattle.std.proofs.Common.{◌∙◌, ap}
use Rattle.es5_objects.specs.Values.{value_of}
use Rattle.es5_host.specs.Bindings.{with_value_at}
use Rattle.es5_host.proofs.Bound.{below_items, value_put}
use Rattle.es5_host.proofs.Few.{still_past}
use Rattle.es5_host.proofs.bindings.Bindings.set.Goals as goal

pub invariant_of-self : goal.invariant_of-self
invariant_of-self c =
    c.self.invariant
    ∙ still_past c.self.inside.items.items c.args.i c.index_mut-binding.result.now c.args.value c.index_mut-binding.ensures.value (below_items c.self.inside.items.items c.args.self.now c.args.i c.self.view_is c.requires)

pub returns : goal.returns
returns c =
    value_put c.self.inside.items.items c.args.i c.index_mut-binding.result.now c.args.value c.index_mut-binding.ensures.value (below_items c.self.inside.items.items c.args.self.now c.args.i c.self.view_is c.requires)
    ∙ ap (λ bs. with_value_at bs c.args.i (value_of c.args.value)) c.self.view_is

use Rattle.std.proofs.Common.{◌<◌, ap, length, arith, is_ok}
use Rattle.std.proofs.lemmas.List.{length-map}
use Rattle.es5_host.specs.Bindings.{binding, few}
use Rattle.es5_host.proofs.Few.{still_few}
use Rattle.es5_host.proofs.bindings.Bindings.push_few.Goals as goal

pub invariant_of-self : goal.invariant_of-self
invariant_of-self c =
    let lt : length c.self.inside.items.items < few = omega (arith, ap length c.self.view_is, length-map c.self.inside.items.items binding, c.requires) in
    still_few (is_ok c.push.result) c.self.inside.items.items c.push.new.self.items _ c.self.inside.index lt c.push.ensures.items c.self.invariant

use Rattle.std.proofs.Common.{◌+◌, ◌∙◌, ap, sym, drop, position, bytes_eq}
use Rattle.std.specs.Option.{option_map}
use Rattle.es5_host.specs.Bindings.{few}
use Rattle.es5_host.proofs.Few.{past, names_place}
use Rattle.es5_host.proofs.bindings.Bindings.find_past.Goals as goal

pub returns-in-Some : goal.returns-in-Some
returns-in-Some c =
    let there = ap (position (bytes_eq c.args.name.now)) (c.self.invariant ∙ ap past c.self.view_is) ∙ names_place (drop few c.args.self.now) c.args.name.now in
    ap (option_map (λ i. i + few)) (sym c.in-Some.is ∙ (c.place.ensures ∙ there))

pub returns-in-None : goal.returns-in-None
returns-in-None c =
    let there = ap (position (bytes_eq c.args.name.now)) (c.self.invariant ∙ ap past c.self.view_is) ∙ names_place (drop few c.args.self.now) c.args.name.now in
    ap (option_map (λ i. i + few)) (sym c.in-None.is ∙ (c.place.ensures ∙ there))

use Rattle.std.proofs.Common.{◌≡◌, ◌≤◌, ◌∙◌, ap, sym, length, false, arith}
use Rattle.std.proofs.lemmas.List.{length-map}
use Rattle.name_set.specs.Names.{has}
use Rattle.es5_host.specs.Bindings.{binding, few}
use Rattle.es5_host.proofs.Few.{one_more}
use Rattle.es5_host.proofs.bindings.Bindings.push_past.Goals as goal
use Rattle.es5_host.proofs.bindings.Bindings.push_past.Goals.{in-Ok-push, in-Err-push}

pub invariant_of-self-2 : goal.invariant_of-self-2
invariant_of-self-2 c =
    let le : few ≤ length c.self.inside.items.items = omega (arith, ap length c.self.view_is, length-map c.self.inside.items.items binding, c.requires) in
    let absent : has c.self.inside.index c.args.name ≡ false = ap (λ name. has c.self.inside.index name) (sym c.as_slice.ensures) ∙ (sym c.contains.ensures ∙ c.if-contains.false) in
    elim c.match-push.branch [
      | in-Ok-push w ↦
          rw (w.in-Ok-push.ensures.items, c.in-Ok.ensures.items, c.in_ok-insert.ensures.names)
          (one_more c.self.inside.items.items _ c.self.inside.index le absent c.self.invariant)
      | in-Err-push w ↦ let full = w.in-Err-push.ensures.succeeds in let room = c.in-Ok.ensures.ok in grind arith
    ]

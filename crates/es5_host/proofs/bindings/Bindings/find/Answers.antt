use Rattle.std.proofs.Common.{◌≡◌, ◌+◌, ◌<◌, ◌∙◌, ap, sym, subst, length, drop, rules, position, IfSome}
use Rattle.std.specs.Option.{option_map}
use Rattle.es5_host.specs.Bindings.{few, place_of}
use Rattle.es5_host.proofs.Bound.{named, place_is, place_within}
use Rattle.es5_host.proofs.Few.{among_first, past_first}
use Rattle.es5_host.proofs.bindings.Bindings.find.Goals as goal

in_few : goal.returns-in-Some-clause-place
in_few c =
    let e : c.first_of.result ≡ position (named c.args.name.now) c.first_few.result.now = search rules in
    sym (among_first few c.args.self.now c.args.name.now c.in-Some.i
    (ap (λ bs. place_of bs c.args.name.now) (sym c.first_few.ensures) ∙ (sym (place_is c.first_few.result.now c.args.name.now) ∙ (sym e ∙ c.in-Some.is))))

past_few : goal.returns-in-None-clause-place
past_few c =
    let e : c.first_of.result ≡ position (named c.args.name.now) c.first_few.result.now = search rules in
    c.find_past.ensures
    ∙ (ap (λ name. option_map (λ i. i + few) (place_of (drop few c.args.self.now) name)) c.as_slice-in-None.ensures
    ∙ sym (past_first few c.args.self.now c.args.name.now
    (ap (λ bs. place_of bs c.args.name.now) (sym c.first_few.ensures) ∙ (sym (place_is c.first_few.result.now c.args.name.now) ∙ (sym e ∙ c.in-None.is)))))

pub returns-in-Some-clause-place : goal.returns-in-Some-clause-place
returns-in-Some-clause-place c = in_few c

pub returns-in-None-clause-place : goal.returns-in-None-clause-place
returns-in-None-clause-place c = past_few c

pub returns-in-None-clause-within : goal.returns-in-None-clause-within
returns-in-None-clause-within c = subst (λ r. IfSome r (λ i. i < length c.args.self.now)) (sym (past_few c)) (place_within c.args.self.now c.args.name.now)

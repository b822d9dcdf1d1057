use Rattle.std.proofs.Common.{◌≡◌, ◌++◌, [], ◌∷◌, sym, ap, ◌∙◌, subst}
use Rattle.std.specs.Prelude.{Some, IfSome}
use Rattle.name_set.specs.Names.{with_new}
use Rattle.ruby_meaning.specs.Scoping.Names.{has}
use Rattle.ruby_meaning.proofs.Scoping.Listing.{comes_last}
use Rattle.ruby_meaning.proofs.scope.NameList.add.Goals as goal

-- the set has the names before and the new one, as the list
pub invariant_of-self-in-Some : goal.invariant_of-self-in-Some
invariant_of-self-in-Some c =
    let taken : c.self.inside.set ≡ Some c.in-Some.set = sym c.take.ensures.value ∙ c.in-Some.is in
    let same : c.in-Some.set ≡ c.self.inside.names = subst (λ set. IfSome set (λ s. s ≡ c.self.inside.names)) taken c.self.invariant in
    let new : with_new c.self.inside.names c.args.name.now c.self.inside.names ≡ c.self.inside.names ++ c.args.name.now ∷ [] =
    comes_last c.args.name.now c.self.inside.names (ap (λ ns. has ns c.args.name.now) c.self.view_is ∙ c.requires) in
    c.in_ok-insert-in-Some.ensures.names
    ∙ ap (λ ns. with_new ns c.args.name.now ns) same
    ∙ (new ∙ (ap (λ n. c.self.inside.names ++ n ∷ []) (sym c.in_ok-copy.ensures) ∙ sym c.in_ok-push-in-Some.ensures.ok))

use Rattle.std.proofs.Common.{refl, subst}
use Rattle.require_bundles.specs.Loading.{ReadsTo}
use Rattle.require_bundles.proofs.Loads.{loads_to, told_content}
use Rattle.require_bundles.proofs.bundle.load.Goals as goal

pub returns-in-Ok-clause-loads : goal.returns-in-Ok-clause-loads
returns-in-Ok-clause-loads g c map e =
    loads_to map c.args.main.now c.in-Ok.bytes.items (map c.args.main.now) c.bundle_of.result refl
    (told_content _ map _ _ _ e c.in-Ok.ensures.content)
    (subst (λ bytes. ReadsTo bytes c.bundle_of.result) c.deref.ensures.value c.bundle_of.ensures)

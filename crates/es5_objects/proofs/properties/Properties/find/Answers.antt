use Rattle.std.proofs.Common.{◌≡◌, ◌∙◌, ap, rules}
use Rattle.std.specs.Map.{lookup}
use Rattle.std.specs.Option.{option_copied}
use Rattle.es5_tree.specs.Values.{find_own}
use Rattle.es5_objects.specs.Values.{value_if}
use Rattle.es5_objects.proofs.Lists.{is_name, found_is}
use Rattle.es5_objects.proofs.properties.Properties.find.Goals as goal

pub returns : goal.returns
returns c =
    let e : option_copied c.get.result ≡ lookup (is_name c.args.name.now) c.self.inside.items.entries = search rules in
    ap value_if e ∙ (found_is c.self.inside.items.entries c.args.name.now ∙ ap (λ ps. find_own ps c.args.name.now) c.self.view_is)

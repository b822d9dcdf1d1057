use Rattle.std.proofs.Common.{◌∙◌, ap, map}
use Rattle.es5_objects.specs.Values.{value_if}
use Rattle.es5_host.proofs.Named.{items_named, texts_named}
use Rattle.es5_host.proofs.array.names_array.Goals as goal

pub make_array-requires-clause-items : goal.make_array-requires-clause-items
make_array-requires-clause-items c = items_named _ c.deref.result.now _ (ap (map value_if) c.deref.ensures.value ∙ c.in-Ok-name_elements.ensures) (texts_named _ c.in-Ok.names)

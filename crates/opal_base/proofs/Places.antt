-- Places in a text, one unit further.
use Rattle.std.proofs.Common.{arith, refl}
use Rattle.std.proofs.lemmas.Grind.{common_steps}
use Rattle.opal_base.specs.Laws.{PlacesBegin, PlacesGoOn}

pub places_begin_is : PlacesBegin
places_begin_is text = refl

pub places_go_on_is : PlacesGoOn
places_go_on_is text at within = grind (arith, common_steps)

use Rattle.opal_base.proofs.Places.{places_begin_is, places_go_on_is}
use Rattle.opal_base.proofs.laws.places_go_on.Goals as goal

pub returns : goal.returns
returns c = record { begin = places_begin_is; go_on = places_go_on_is }

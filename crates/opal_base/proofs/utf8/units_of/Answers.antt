use Rattle.std.proofs.lemmas.Iterator.{YieldsList-from_chars}
use Rattle.std.proofs.lemmas.Iterator.Consumers.{YieldsList-end}
use Rattle.opal_base.proofs.Texts.{decoded_from}
use Rattle.opal_base.proofs.utf8.units_of.Goals as goal

pub returns : goal.returns
returns c =
    let t = YieldsList-end (YieldsList-from_chars c.args.text.now c.utf8.text cc) c.loop-c.yielded _ c.loop-c.yielded_by _ _ c.in-None.is c.next.ensures.steps in
    decoded_from c.args.text.now c.from_vec.result c.loop-c.yielded c.utf8.text t.0 cc

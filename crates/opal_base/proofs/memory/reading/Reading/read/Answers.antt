use Rattle.opal_base.proofs.Delivery.{slice_delivered}
use Rattle.opal_base.proofs.memory.reading.Reading.read.Goals as goal

pub returns : goal.returns
returns c = slice_delivered c.args.self.now.bytes.items c.deref.result.now c.args.buf.now c.copy_from_slice.new.self c.args.self.now.at c.min-count.result c.deref.ensures.value c.min-count.ensures c.copy_from_slice.ensures.after

use Rattle.std.proofs.Common.{arith}
use Rattle.require_bundles.proofs.Texts.{bad_text}
use Rattle.require_bundles.proofs.bundle.bundle_of.Goals as goal

pub returns-in-Err-Refused : goal.returns-in-Err-Refused
returns-in-Err-Refused c =
    bad_text c.args.bytes.now _ c.in-Err-Refused.field-0 c.in-Err-Refused.pos c.in-Err-Refused.construct (omega (arith, c.if-bytes-gt-MOST_BYTES.false)) c.in-Ok.ensures.decoded c.in-Err-Refused.ensures.stops
    (let e = c.in-Err-Refused.field-0-is in cc)

use Rattle.opal_base.proofs.Decoding.{decoded_fits_is}
use Rattle.opal_base.proofs.laws.decoded_fits.Goals as goal

pub returns : goal.returns
returns c = decoded_fits_is

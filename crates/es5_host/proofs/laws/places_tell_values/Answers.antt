use Rattle.es5_host.proofs.Bound.{found, missing}
use Rattle.es5_host.proofs.laws.places_tell_values.Goals as goal

pub returns : goal.returns
returns c = record {
  read = λ bs name i e. (found bs name i e).0;
  written = λ bs name i v e. (found bs name i e).1 v;
  unread = λ bs name e. (missing bs name e).0;
  added = λ bs name v e. (missing bs name e).1 v;
}

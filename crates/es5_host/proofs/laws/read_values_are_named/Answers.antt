use Rattle.std.proofs.Common.{length}
use Rattle.es5_tree.specs.Objects.Links.{cell_at}
use Rattle.es5_host.proofs.Validity.{named_longer}
use Rattle.es5_host.proofs.Named.{get_named, own_named, names_anywhere}
use Rattle.es5_host.proofs.laws.read_values_are_named.Goals as goal

pub returns : goal.returns
returns c = record {
  own = λ heap o name v. own_named (length heap) (cell_at heap o) name (names_anywhere heap o v);
  get = get_named;
  stay = λ n m v le h. named_longer n m le v h;
}

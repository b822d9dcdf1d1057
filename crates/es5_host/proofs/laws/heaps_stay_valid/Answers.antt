use Rattle.std.proofs.lemmas.List.Elements.{All-nil}
use Rattle.es5_tree.specs.Objects.Cells.{new_cell}
use Rattle.es5_host.proofs.Validity.{valid_push, valid_push_new, valid_put, valid_delete, valid_link}
use Rattle.es5_host.proofs.laws.heaps_stay_valid.Goals as goal

pub returns : goal.returns
returns c = record {
  put = valid_put;
  delete = valid_delete;
  link = valid_link;
  new = valid_push_new;
  create = λ heap kind link w v. valid_push heap (new_cell kind link) w (All-nil _) v;
}

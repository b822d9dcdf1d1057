use Rattle.es5_tree.proofs.ObjectProperties.{put_is_read, others_stay, deleted_is_gone, others_stay_undeleted}
use Rattle.es5_tree.proofs.object_laws.properties_change_apart.Goals as goal

pub returns : goal.returns
returns c = record { read = put_is_read; gone = deleted_is_gone; put_apart = others_stay; delete_apart = others_stay_undeleted }

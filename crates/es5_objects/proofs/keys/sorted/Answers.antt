use Rattle.es5_tree.proofs.ObjectRising.{sorted_is_rising}
use Rattle.es5_objects.proofs.keys.sorted.Goals as goal

pub returns-in-Ok : goal.returns-in-Ok
returns-in-Ok c = sorted_is_rising c.args.numbers.items c.sort.new.self.items c.sort.ensures.permutation c.in-Ok.ensures.sorted

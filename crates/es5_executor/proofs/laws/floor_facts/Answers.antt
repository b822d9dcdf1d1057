use Rattle.es5_executor.proofs.Floors.{floor_facts}
use Rattle.es5_executor.proofs.laws.floor_facts.Goals as goal

pub returns : goal.returns
returns c = floor_facts

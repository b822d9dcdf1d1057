use Rattle.std.proofs.lemmas.List.{length-set}
use Rattle.es5_objects.specs.Values.{value_of}
use Rattle.es5_steps.proofs.NameSteps.{assigned, variable_there}
use Rattle.es5_steps.proofs.names.assign.Goals as goal

pub set-requires : goal.set-requires
set-requires c = variable_there c.args.records.now c.args.a c.args.i c.index-records-a.result c.requires.record c.requires.variable

pub returns : goal.returns
returns c = record {
  changed = assigned c.args.records.now c.args.a c.args.i c.index-records-a.result c.set.new.self (value_of c.args.value) c.requires.record c.set.ensures;
  count = length-set c.args.records.now c.args.a _;
}

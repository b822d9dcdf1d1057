use Rattle.std.proofs.Common.{All}
use Rattle.es5_tree.specs.Intrinsics.Valid.{Names}
use Rattle.es5_calls.proofs.words.values.Given as goal

abbrev pub invariant-loop-word : goal.invariant-loop-word
invariant-loop-word l = All (Names l.objects) l.list

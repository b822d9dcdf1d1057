use Rattle.std.proofs.Common.{◌≡◌, take}
use Rattle.ruby_lexer.proofs.payload.copied.Given as goal

abbrev pub invariant-loop-u : goal.invariant-loop-u
invariant-loop-u l = l.out ≡ take l.u-index l.z

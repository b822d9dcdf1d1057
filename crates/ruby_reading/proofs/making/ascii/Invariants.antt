use Rattle.std.proofs.Common.{◌≡◌, take}
use Rattle.ruby_reading.proofs.making.ascii.Given as goal

abbrev pub invariant-loop-byte : goal.invariant-loop-byte
invariant-loop-byte l = l.units ≡ take l.byte-index l.text

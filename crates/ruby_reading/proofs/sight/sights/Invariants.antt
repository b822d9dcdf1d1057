use Rattle.std.proofs.Common.{◌≡◌, [], map, take}
use Rattle.ruby_meaning.specs.Grammar.Seen.{seen_behind}
use Rattle.ruby_reading.specs.Ahead.{see}
use Rattle.std.specs.Option.{option_copied}
use Rattle.ruby_reading.specs.Sights.{window}
use Rattle.ruby_reading.proofs.SightsRead.{onto}
use Rattle.ruby_reading.proofs.sight.sights.Given as goal

abbrev pub invariant-loop-i : goal.invariant-loop-i
invariant-loop-i l = record {
  sights : map see l.sights.items ≡ seen_behind [] (take l.i l.tokens);
  past : (option_copied l.before.0, (option_copied l.before.1.0, (option_copied l.before.1.1.0, option_copied l.before.1.1.1.0))) ≡ window (onto [] (take l.i l.tokens));
}

use Rattle.std.proofs.Common.{◌≡◌, ◌-◌, ◌≤◌, length}
use Rattle.descent.specs.Sets.{one_of}
use Rattle.ruby_reading.specs.Ahead.{ahead, codes}
use Rattle.ruby_parameters.specs.Parameters.{behind_those}
use Rattle.ruby_parameters.proofs.parameters.skip.Given as goal

-- the same tokens stand behind them, and no more are left than turns
abbrev pub invariant-loop-turn : goal.invariant-loop-turn
invariant-loop-turn l = record {
  same : behind_those (one_of (codes l.signs)) (ahead l.fn.cursor) ≡ behind_those (one_of (codes l.signs)) (ahead l.cursor);
  left : length (ahead l.cursor) ≤ l._turn-end - l._turn;
}

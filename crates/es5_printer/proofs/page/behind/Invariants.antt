use Rattle.std.proofs.Common.{◌≡◌, ◌+◌, ◌≤◌, length, drop}
use Rattle.es5_printer.specs.Pieces.{behind_bytes}
use Rattle.es5_printer.proofs.page.behind.Given as goal

-- the bytes that are left lead to the same place, and there are no more lines and columns than bytes
abbrev pub invariant-loop-byte : goal.invariant-loop-byte
invariant-loop-byte l =
    (behind_bytes l.fn.at l.fn.bytes ≡ behind_bytes l.pos (drop l.byte-index l.fn.bytes))
    × (l.pos.line + l.pos.col + length (drop l.byte-index l.fn.bytes) ≤ l.fn.at.line + l.fn.at.col + length l.fn.bytes)

use Rattle.std.proofs.Common.{ℕ, ◌≤◌, ◌++◌, ◌-◌, List, length, drop}
use Rattle.es5_tree.specs.Literals.{Characters, Unquoted}
use Rattle.es5_lexer.proofs.literal.literal.Given as goal

-- a text from here on is the rest of a text from the start on, and where none is here, none is there
abbrev pub invariant-characters : goal.invariant-characters
invariant-characters l = record {
  so_far : (more rest : List ℕ) → Characters l.quote more (drop l.end l.bytes) rest → Characters l.quote (l.text ++ more) l.bytes rest;
  none : Unquoted l.quote (drop l.end l.bytes) → Unquoted l.quote l.bytes;
  within : l.end ≤ length l.bytes;
}

abbrev pub decreases-characters : goal.decreases-characters
decreases-characters l = length l.bytes - l.end

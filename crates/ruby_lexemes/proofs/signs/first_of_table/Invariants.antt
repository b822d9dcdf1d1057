use Rattle.std.proofs.Common.{◌≡◌, length, map, true}
use Rattle.ruby_meaning.specs.Lexing.Signs.{first_of_table, each_some}
use Rattle.ruby_lexemes.proofs.signs.first_of_table.Given as goal

abbrev pub invariant-loop-table : goal.invariant-loop-table
invariant-loop-table l = (first_of_table (map (λ e. (e.0.now, e.1)) l.table) l.z ≡ first_of_table (map (λ e. (e.0.now, e.1)) l.initial.table) l.z) × (each_some (map (λ e. (e.0.now, e.1)) l.table) ≡ true)

abbrev pub decreases-loop-table : goal.decreases-loop-table
decreases-loop-table l = length l.table

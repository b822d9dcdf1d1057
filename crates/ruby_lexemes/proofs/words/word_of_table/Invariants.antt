use Rattle.std.proofs.Common.{◌≡◌, length, map}
use Rattle.ruby_meaning.specs.Lexing.Words.{word_of_table}
use Rattle.ruby_lexemes.proofs.words.word_of_table.Given as goal

abbrev pub invariant-loop-table : goal.invariant-loop-table
invariant-loop-table l = word_of_table (map (λ e. (e.0.now, e.1)) l.table) l.z ≡ word_of_table (map (λ e. (e.0.now, e.1)) l.initial.table) l.z

abbrev pub decreases-loop-table : goal.decreases-loop-table
decreases-loop-table l = length l.table

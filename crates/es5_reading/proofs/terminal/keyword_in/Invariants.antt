use Rattle.std.proofs.Common.{◌≡◌, length, map}
use Rattle.es5_tree.specs.Grammar.Terminals.{keyword_in}
use Rattle.es5_reading.proofs.terminal.keyword_in.Given as goal

abbrev pub invariant-entries : goal.invariant-entries
invariant-entries l = keyword_in (map (λ entry. (entry.0.now, entry.1)) l.entries) l.name ≡ keyword_in (map (λ entry. (entry.0.now, entry.1)) l.initial.entries) l.name

abbrev pub decreases-entries : goal.decreases-entries
decreases-entries l = length l.entries

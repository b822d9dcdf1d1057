use Rattle.std.proofs.Common.{◌≡◌, length, map}
use Rattle.es5_tree.specs.Signs.{first_of}
use Rattle.es5_lexer.proofs.sign.first_of.Given as goal

abbrev pub invariant-entries : goal.invariant-entries
invariant-entries l = first_of (map (λ entry. (entry.0.now, entry.1)) l.entries) l.bytes ≡ first_of (map (λ entry. (entry.0.now, entry.1)) l.initial.entries) l.bytes

abbrev pub decreases-entries : goal.decreases-entries
decreases-entries l = length l.entries

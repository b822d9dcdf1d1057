use Rattle.std.proofs.Common.{◌≡◌, ◌≤◌, ◌-◌, [], ◌∷◌, length}
use Rattle.grammar.specs.Readers.{read_named, read_rule}
use Rattle.ruby_meaning.specs.Grammar.Statements as s
use Rattle.ruby_meaning.specs.Grammar.Table.{table}
use Rattle.ruby_reading.specs.Ahead.{ahead}
use Rattle.ruby_expressions.specs.TargetSteps.{behind_found, read_targets}
use Rattle.ruby_expressions.proofs.targets.more_targets.Given as goal

-- what is read is what stands behind those found, and no more tokens are left than turns
abbrev pub invariant-loop-turn : goal.invariant-loop-turn
invariant-loop-turn g l =
    (behind_found (l.fn.first ∷ []) (read_targets l.parser.in_rescue l.parser.depth l.fn.starred (ahead l.fn.cursor))
    ≡ behind_found l.found (read_rule table (read_named table) (s.more_targets l.parser.in_rescue l.starred) l.parser.depth (ahead l.cursor))) ×
    (length (ahead l.cursor) ≤ l._turn-end - l._turn)

use Rattle.std.proofs.Common.{◌≡◌, ◌≤◌, ◌-◌, length}
use Rattle.grammar.specs.Readers.{read_named, read_rule}
use Rattle.ruby_meaning.specs.declared.production.Stage.TheVariants as stage
use Rattle.ruby_meaning.specs.Grammar.Actions as act
use Rattle.ruby_meaning.specs.Grammar.Parameters as rules
use Rattle.ruby_meaning.specs.Grammar.Table.{table}
use Rattle.ruby_reading.specs.Ahead.{ahead}
use Rattle.ruby_parameters.specs.Parameters.{found_of, stage_of}
use Rattle.ruby_parameters.proofs.ParameterJoins.{behind_found}
use Rattle.ruby_parameters.proofs.parameters.parameters.Given as goal

-- what was found is that of parameters, behind which the rest stands, and no more tokens are left than turns
abbrev pub invariant-loop-turn : goal.invariant-loop-turn
invariant-loop-turn g l = (seen : act.Parameters) × (l.found ≡ found_of seen) ×
    (read_rule table (read_named table) (rules.parameters l.parser.in_rescue l.brackets stage.Plain) l.parser.depth (ahead l.fn.cursor)
    ≡ behind_found seen (read_rule table (read_named table) (rules.parameters l.parser.in_rescue l.brackets (stage_of l.before)) l.parser.depth (ahead l.cursor))) ×
    (length (ahead l.cursor) ≤ l._turn-end - l._turn)

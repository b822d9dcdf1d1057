-- Brackets and blocks of calls.
use Rattle.std.specs.Prelude.{◌≡◌, ℕ, Bool, true, List, Option, Some, None, Result, Ok, Err}
use Rattle.grammar.specs.CommonRules.{maybe}
use Rattle.grammar.specs.Rules.{pair, leaf, optional, choice, absent, named}
use Rattle.ruby_meaning.specs.declared.production.Production.TheVariants as p
use Rattle.ruby_meaning.specs.declared.tree.Kind.TheVariants as kind
use Rattle.ruby_meaning.specs.declared.tree.Node.{Node}
use Rattle.ruby_meaning.specs.declared.tree.Params.{Params}
use Rattle.ruby_meaning.specs.Grammar.Actions as act
use Rattle.ruby_meaning.specs.Grammar.Actions.{make, start, tokens, filled}
use Rattle.ruby_meaning.specs.Grammar.Calls as g
use Rattle.ruby_meaning.specs.Grammar.Names.{args_sort, R, part}
use Rattle.ruby_meaning.specs.Grammar.Seen.{Seen}
use Rattle.ruby_primaries.specs.declared.calls.BlockParts.{BlockParts}
use Rattle.ruby_primaries.specs.declared.calls.Closed.{Closed}
use Rattle.ruby_primaries.specs.declared.calls.Tail.{Tail}
use Rattle.descent.specs.declared.fail.Fail.{Fail}
use Rattle.descent.specs.declared.fail.Fail.TheVariants.{NoMemory, Refused}
use Rattle.ruby_reading.specs.Ahead.{see}
use Rattle.ruby_reading.specs.Shown.{shown_args, shown_body}

abbrev pub shown_closed : Closed → act.Args × Seen
shown_closed c = (shown_args c.args, see c.close)

abbrev pub shown_closed_if : Option Closed → Option (act.Args × Seen)
shown_closed_if None = None
shown_closed_if (Some c) = Some (shown_closed c)

abbrev pub shown_tail : Tail → act.Tail
shown_tail t = (shown_closed_if t.paren, t.block)

abbrev pub some_arguments : Bool → Bool → R args_sort
some_arguments r blocks = choice (named (part (p.Arguments blocks) true r)) (absent act.no_args)

abbrev pub paren_if : Bool → R (optional (pair args_sort leaf))
paren_if r = maybe (g.paren r true)

abbrev pub block_node : Seen → Params → Node × ℕ → Seen → Node
block_node t params body z = make (kind.Block params (filled (tokens t z) body)) (tokens t z) (start t)

abbrev pub Block : Type 0
Block = Seen × (act.Parameters × ((Node × ℕ) × Seen))

abbrev pub GivesBlock : Result (Block × List Seen) (List Seen) → Result BlockParts Fail → List Seen → Type 0
GivesBlock outcome (Ok b) rest = (x : act.Parameters) × (outcome ≡ Ok ((see b.opening, (x, (shown_body b.body, see b.closing))), rest)) × (act.params_of x ≡ b.params)
GivesBlock outcome (Err NoMemory) rest = Unit {0}
GivesBlock outcome (Err Refused) rest = outcome ≡ Err rest

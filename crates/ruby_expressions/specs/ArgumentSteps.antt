-- Arguments that stand first, and the steps from one to the next.
use Rattle.std.specs.Prelude.{◌≡◌, ℕ, suc, ◌≤◌, Bool, true, false, not, ◌&&◌, if◌then◌else◌, List, Result, Ok, Err}
use Rattle.grammar.specs.CommonRules.{behind}
use Rattle.grammar.specs.FormReaders.{and_then, next_in, read_token}
use Rattle.grammar.specs.Readers.{read_named, read_rule}
use Rattle.grammar.specs.Spelling.{token_in}
use Rattle.grammar.specs.Rules.{marked, tree, view, suffix, named}
use Rattle.ruby_meaning.specs.declared.production.Production.TheVariants as p
use Rattle.ruby_meaning.specs.declared.token.Mark.TheVariants as mark
use Rattle.ruby_meaning.specs.Grammar.Actions as act
use Rattle.ruby_meaning.specs.Grammar.Classes.{op}
use Rattle.ruby_meaning.specs.Grammar.Expressions as g
use Rattle.ruby_meaning.specs.Grammar.Names.{args_sort, R, part}
use Rattle.ruby_expressions.specs.declared.argument_lists.How.{How}
use Rattle.ruby_expressions.specs.declared.argument_lists.How.TheVariants as how
use Rattle.ruby_expressions.specs.declared.argument_lists.First.{First}
use Rattle.ruby_meaning.specs.Grammar.Seen.{Seen}
use Rattle.ruby_meaning.specs.Grammar.Table.{table, begins_argument}
use Rattle.ruby_expressions.specs.Arguments.{first_rule, pair_rule, sees_block, block_from, arguments_from, pairs_from}
use Rattle.ruby_expressions.specs.declared.argument_lists.Goes.{Goes}
use Rattle.ruby_expressions.specs.declared.argument_lists.Goes.TheVariants as goes
use Rattle.ruby_expressions.specs.declared.argument_lists.Step.{Step}
use Rattle.descent.specs.declared.fail.Fail.{Fail}
use Rattle.descent.specs.declared.fail.Fail.TheVariants.{NoMemory, Refused}
use Rattle.descent.specs.Gives.{Gives}
use Rattle.ruby_reading.specs.Ahead.{class_code}
use Rattle.ruby_reading.specs.Shown.{shown_args}

abbrev pub how_code : How → ℕ
how_code how.Argued = act.argued
how_code how.Keyed = act.keyed
how_code how.Whole = act.whole

abbrev pub shown_first : First → act.Args × ℕ
shown_first x = (shown_args x.args, how_code x.how)

-- the value of an argument, which may be a command
abbrev pub value_rule : Bool → Bool → Bool → R (marked tree)
value_rule true d r = g.commanding d r (g.argument d r)
value_rule false d r = g.argument d r

abbrev pub value_first_rule : Bool → Bool → Bool → R (marked args_sort)
value_first_rule command d r =
    suffix 1 (view {s = marked tree} act.first_argument (value_rule command d r)) act.takes_more (behind (op mark.FatArrow) (named (part p.Argument d r))) (λ l v. (act.key_first l.0 v, act.keyed))

-- where arguments go on behind a first one
abbrev pub goes_on : act.Args → ℕ → Goes
goes_on x n = if act.takes_more (x, n) then goes.Arguments else (if act.takes_pairs (x, n) then goes.Pairs else goes.Nowhere)

-- what stands behind a comma
abbrev pub behind_first_comma : Bool → Goes → act.Args → List Seen → Result ((act.Args × Goes) × List Seen) (List Seen)
behind_first_comma d g x ts = and_then (read_token (token_in class_code (op mark.Comma)) ts)
    (λ comma rest. if d && not (next_in (λ t. begins_argument (class_code t)) rest) then Ok ((x, goes.Nowhere), rest) else Ok ((x, g), rest))

abbrev pub comma_step : Bool → Goes → act.Args → List Seen → Result ((act.Args × Goes) × List Seen) (List Seen)
comma_step d goes.Nowhere x ts = Ok ((x, goes.Nowhere), ts)
comma_step d g x ts = if next_in (λ t. op mark.Comma (class_code t)) ts then behind_first_comma d g x ts else Ok ((x, goes.Nowhere), ts)

abbrev pub shown_step : Step → act.Args × Goes
shown_step x = (shown_args x.args, x.goes)

abbrev pub Commas : Bool → Goes → act.Args → List Seen → Result Step Fail → List Seen → Type 0
Commas d g x ts result rest = Gives shown_step (comma_step d g x ts) result rest

-- from there on
abbrev pub go_on : Bool → Bool → Bool → ℕ → Goes → act.Args → List Seen → Result (act.Args × List Seen) (List Seen)
go_on d r blocks levels goes.Nowhere x ts = Ok (x, ts)
go_on d r blocks levels goes.Arguments x ts = arguments_from d r blocks levels x ts
go_on d r blocks levels goes.Pairs x ts = pairs_from d r blocks levels x ts

-- The reading is that from the step on.
abbrev pub Steps : Bool → Bool → Bool → ℕ → Result (act.Args × List Seen) (List Seen) → Result Step Fail → List Seen → Type 0
Steps d r blocks levels outcome (Ok s) rest = outcome ≡ go_on d r blocks levels s.goes (shown_args s.args) rest
Steps d r blocks levels outcome (Err NoMemory) rest = Unit {0}
Steps d r blocks levels outcome (Err Refused) rest = outcome ≡ Err rest

abbrev pub goes_somewhere : Goes → Bool
goes_somewhere goes.Nowhere = false
goes_somewhere goes.Arguments = true
goes_somewhere goes.Pairs = true

-- what is left to be read: nothing where nothing goes on
abbrev pub weight : Goes → ℕ → ℕ
weight goes.Nowhere n = 0
weight goes.Arguments n = suc n
weight goes.Pairs n = suc n

-- There are fewer tokens left with a step, or it is the last.
abbrev pub Lighter : ℕ → Result Step Fail → ℕ → Type 0
Lighter n (Ok s) m = weight s.goes m ≤ n
Lighter n (Err f) m = Unit {0}

-- an argument behind those found, as a step
abbrev pub argument_step : Bool → Bool → Bool → ℕ → R (marked tree) → act.Args → List Seen → Result (act.Args × List Seen) (List Seen)
argument_step d r blocks levels value found ts = if sees_block d r blocks levels ts then block_from d r blocks levels found ts
    else and_then (read_rule table (read_named table) (first_rule d r value) levels ts)
    (λ x rest. and_then (comma_step d (goes_on x.0 x.1) (act.with_more found x.0) rest) (λ y after. go_on d r blocks levels y.1 y.0 after))

abbrev pub pair_goes : act.Args → Goes
pair_goes x = if act.has_pair x then goes.Pairs else goes.Nowhere

abbrev pub pair_step : Bool → Bool → Bool → ℕ → act.Args → List Seen → Result (act.Args × List Seen) (List Seen)
pair_step d r blocks levels found ts = if sees_block d r blocks levels ts then block_from d r blocks levels found ts
    else and_then (read_rule table (read_named table) (pair_rule d r) levels ts)
    (λ x rest. and_then (comma_step d (pair_goes x) (act.with_more found x) rest) (λ y after. go_on d r blocks levels y.1 y.0 after))

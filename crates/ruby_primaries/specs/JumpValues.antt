-- What jumps give.
use Rattle.std.specs.Prelude.{ℕ, zero, suc, Bool, true, ◌&&◌, ◌||◌, List, Result}
use Rattle.grammar.specs.Rules.{tree, list, marked, choice, starting, absent, suffix, named}
use Rattle.grammar.specs.Readers.{read_named, read_rule}
use Rattle.opal_base.specs.declared.place.Span.{Span}
use Rattle.ruby_meaning.specs.declared.production.Production.TheVariants as p
use Rattle.ruby_meaning.specs.declared.tree.JumpKind.{JumpKind}
use Rattle.ruby_meaning.specs.declared.tree.Node.{Node}
use Rattle.ruby_meaning.specs.Grammar.Actions as act
use Rattle.ruby_meaning.specs.Grammar.Expressions as g
use Rattle.ruby_meaning.specs.Grammar.Names.{R, part}
use Rattle.ruby_meaning.specs.Grammar.Seen.{Seen}
use Rattle.ruby_meaning.specs.Grammar.Table.{table, begins_value, begins_splat}
use Rattle.descent.specs.declared.fail.Fail.{Fail}
use Rattle.descent.specs.Gives.{Gives}

abbrev pub jump_of : Seen → JumpKind
jump_of t = act.jump_of t.token.kind

abbrev pub jump_span : Seen → Node × ℕ → Span
jump_span t (n, zero) = act.from_token t n
jump_span t (n, suc k) = act.span_of t

abbrev pub given_node : Seen → Node × ℕ → Node
given_node t (n, zero) = n
given_node t (n, suc k) = act.replaced (act.span_of t) (act.start t) n

abbrev pub begins_given : ℕ → Bool
begins_given n = g.begins_no_modifier true true n && (begins_splat n || begins_value n)

-- as a value that nothing tells of
abbrev pub GivesPlain : Result ((Node × ℕ) × List Seen) (List Seen) → Result Node Fail → List Seen → Type 0
GivesPlain = Gives (λ n. (n, 0))

abbrev pub arguments_given : Bool → Bool → ℕ → List Seen → Result ((Node × ℕ) × List Seen) (List Seen)
arguments_given d r levels ts = read_rule table (read_named table)
    (suffix {r = list tree} 1 (g.plain (named (part p.Argument d r))) (λ l. true) (g.other_items d r) (λ l xs. (act.array_of l.0 xs, act.other))) levels ts

abbrev pub read_given : Bool → Bool → ℕ → List Seen → Result ((Node × ℕ) × List Seen) (List Seen)
read_given d r levels ts = read_rule table (read_named table) (g.jump_value d r) levels ts

abbrev pub given_or_nothing : Bool → Bool → R (marked tree)
given_or_nothing d r = choice (starting (g.begins_no_modifier d r) (g.jump_value d r)) (absent (act.nothing, 1))

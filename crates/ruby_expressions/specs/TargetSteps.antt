-- Targets, one after the other.
use Rattle.std.specs.Prelude.{ℕ, Bool, true, false, if◌then◌else◌, List, ◌++◌, Option, Some, Result, Ok}
use Rattle.grammar.specs.CommonRules.{behind}
use Rattle.grammar.specs.FormReaders.{and_then, next_in, read_token, read_view}
use Rattle.grammar.specs.Readers.{read_named, read_rule}
use Rattle.grammar.specs.Rules.{tree, named}
use Rattle.grammar.specs.Spelling.{token_in}
use Rattle.opal_base.specs.declared.place.Span.{Span}
use Rattle.ruby_meaning.specs.declared.production.Production.TheVariants as p
use Rattle.ruby_meaning.specs.declared.token.Mark.TheVariants as mark
use Rattle.ruby_meaning.specs.declared.tree.Kind.{Kind}
use Rattle.ruby_meaning.specs.declared.tree.Kind.TheVariants as kind
use Rattle.ruby_meaning.specs.declared.tree.Node.{Node}
use Rattle.ruby_meaning.specs.Grammar.Actions as act
use Rattle.ruby_meaning.specs.Grammar.Classes.{op}
use Rattle.ruby_meaning.specs.Grammar.Names.{R, part}
use Rattle.ruby_meaning.specs.Grammar.Seen.{Seen}
use Rattle.ruby_meaning.specs.Grammar.Statements as s
use Rattle.ruby_meaning.specs.Grammar.Table.{table}
use Rattle.ruby_expressions.specs.declared.targets.Target.{Target}
use Rattle.ruby_expressions.specs.declared.targets.Targets.{Targets}
use Rattle.ruby_reading.specs.Ahead.{class_code}

-- a set of several targets, from the span of the first one on
abbrev pub multi_set : Span → List Node × Node → Node
multi_set first x = act.make (kind.MultiSet x.0 x.1) (act.to_end first (x.1).span) first.from

-- ---- steps

abbrev pub sees_comma : List Seen → Bool
sees_comma ts = next_in (λ t. op mark.Comma (class_code t)) ts

abbrev pub sees_star : List Seen → Bool
sees_star ts = next_in (λ t. op mark.Star (class_code t)) ts

-- a target, and whether one behind it may have a "*"
abbrev pub Ones : Type 0
Ones = Result ((Node × Bool) × List Seen) (List Seen)

abbrev pub read_plain : Bool → ℕ → Bool → List Seen → Ones
read_plain r b starred ts = read_view (λ n. (n, starred)) (read_rule table (read_named table) (s.target r) b) ts

abbrev pub read_starred : Bool → ℕ → List Seen → Ones
read_starred r b ts = read_view (λ n. (n, false)) (read_rule table (read_named table) (s.star_target r) b) ts

abbrev pub read_one : Bool → ℕ → Bool → List Seen → Ones
read_one r b true ts = if sees_star ts then read_starred r b ts else read_plain r b true ts
read_one r b false ts = read_plain r b false ts

abbrev pub read_next : Bool → ℕ → Bool → List Seen → Ones
read_next r b starred ts = and_then (read_token (token_in class_code (op mark.Comma)) ts) (λ t k. read_one r b starred k)

-- the value of all
abbrev pub set_value : Bool → R tree
set_value r = behind (op mark.Assign) (named (part p.RightSide true r))

abbrev pub Several : Type 0
Several = Result ((List Node × Node) × List Seen) (List Seen)

-- those found before, with what stands behind them
abbrev pub behind_found : List Node → Several → Several
behind_found seen o = and_then o (λ x k. Ok ((seen ++ x.0, x.1), k))

abbrev pub read_targets : Bool → ℕ → Bool → List Seen → Several
read_targets r b starred ts = read_named table b (part (p.MoreTargets starred) true r) ts

-- ---- what the parser gives

abbrev pub shown_target : Target → Node × Bool
shown_target x = (x.node, x.starred)

abbrev pub shown_targets : Targets → List Node × Node
shown_targets x = (x.all, x.value)

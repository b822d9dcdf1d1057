-- Arguments behind those found.
use Rattle.std.specs.Prelude.{ℕ, Bool, true, not, ◌&&◌, if◌then◌else◌, List, Result, Ok}
use Rattle.grammar.specs.CommonRules.{◌or◌, behind}
use Rattle.grammar.specs.FormReaders.{and_then, next_in, read_token}
use Rattle.grammar.specs.Readers.{read_named, read_rule}
use Rattle.grammar.specs.Rules.{tree, marked, choice, view, suffix, named}
use Rattle.grammar.specs.Spelling.{token_in}
use Rattle.ruby_meaning.specs.declared.production.Production.TheVariants as p
use Rattle.ruby_meaning.specs.declared.token.Mark.TheVariants as mark
use Rattle.ruby_meaning.specs.Grammar.Actions as act
use Rattle.ruby_meaning.specs.Grammar.Classes.{op, marked_op}
use Rattle.ruby_meaning.specs.Grammar.Expressions as g
use Rattle.ruby_meaning.specs.Grammar.Names.{args_sort, R, part}
use Rattle.ruby_meaning.specs.Grammar.Seen.{Seen}
use Rattle.ruby_meaning.specs.Grammar.Table.{table, begins_argument}
use Rattle.ruby_reading.specs.Ahead.{class_code}

-- an argument that stands first: a value, one with "*", or a pair
abbrev pub first_rule : Bool → Bool → R (marked tree) → R (marked args_sort)
first_rule d r value = choice (view {s = tree} (λ n. (act.single n, act.argued)) (g.splat d r))
    (choice (view {s = args_sort} (λ x. (x, act.keyed)) (g.label_pair d r))
    (suffix 1 (view {s = marked tree} act.first_argument value) act.takes_more (behind (op mark.FatArrow) (named (part p.Argument d r))) (λ l v. (act.key_first l.0 v, act.keyed))))

abbrev pub pair_rule : Bool → Bool → R args_sort
pair_rule d r = choice (g.label_pair d r) (g.arrow_pair d r)

abbrev pub Outcome : Type 0
Outcome = Result (act.Args × List Seen) (List Seen)

module _ (d r blocks : Bool) (levels : ℕ) where
  -- behind those found
  abbrev pub pairs_from : act.Args → List Seen → Outcome
  pairs_from found ts = and_then (read_named table levels (part (p.MorePairs blocks) d r) ts) (λ x rest. Ok (act.with_more found x, rest))

  abbrev pub arguments_from : act.Args → List Seen → Outcome
  arguments_from found ts = and_then (read_named table levels (part (p.Arguments blocks) d r) ts) (λ x rest. Ok (act.with_more found x, rest))

  abbrev pub sees_block : List Seen → Bool
  sees_block ts = blocks && next_in (λ t. (op mark.Ampersand or marked_op mark.Ampersand) (class_code t)) ts

  abbrev pub block_from : act.Args → List Seen → Outcome
  block_from found ts = and_then (read_rule table (read_named table) (g.block_argument d r) levels ts) (λ x rest. Ok (act.with_more found x, rest))

  abbrev pub sees_comma : List Seen → Bool
  sees_comma ts = next_in (λ t. op mark.Comma (class_code t)) ts

  -- in brackets nothing need stand behind a comma
  abbrev pub ends_here : List Seen → Bool
  ends_here ts = d && not (next_in (λ t. begins_argument (class_code t)) ts)

  -- what stands behind a comma, if it is taken
  abbrev pub behind_comma : Bool → (act.Args → List Seen → Outcome) → act.Args → List Seen → Outcome
  behind_comma more next found ts =
      if sees_comma ts && more then and_then (read_token (token_in class_code (op mark.Comma)) ts) (λ comma rest. if ends_here rest then Ok (found, rest) else next found rest) else Ok (found, ts)

  abbrev pub pairs_step : act.Args → List Seen → Outcome
  pairs_step found ts = if sees_block ts then block_from found ts
      else and_then (read_rule table (read_named table) (pair_rule d r) levels ts) (λ x rest. behind_comma (act.has_pair x) pairs_from (act.with_more found x) rest)

  abbrev pub behind_first : act.Args → act.Args × ℕ → List Seen → Outcome
  behind_first found x ts = if act.takes_more x then behind_comma true arguments_from found ts else behind_comma (act.takes_pairs x) pairs_from found ts

  abbrev pub first_step : R (marked tree) → act.Args → List Seen → Outcome
  first_step value found ts = if sees_block ts then block_from found ts
      else and_then (read_rule table (read_named table) (first_rule d r value) levels ts) (λ x rest. behind_first (act.with_more found x.0) x rest)

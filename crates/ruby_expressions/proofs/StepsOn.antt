-- Arguments step by step.
use Rattle.std.proofs.Common.{◌≡◌, ℕ, Bool, true, false, ◌&&◌, List, Result, Ok, Err, refl, sym, ◌∙◌}
use Rattle.std.specs.Prelude.{if◌then◌else◌}
use Rattle.grammar.specs.FormReaders.{and_then, read_token}
use Rattle.grammar.specs.Readers.{read_named, read_rule}
use Rattle.grammar.specs.Rules.{tree, marked}
use Rattle.grammar.specs.Spelling.{token_in}
use Rattle.grammar.proofs.Loops.{and_then_same}
use Rattle.ruby_meaning.specs.declared.token.Mark.TheVariants as mark
use Rattle.ruby_meaning.specs.Grammar.Actions as act
use Rattle.ruby_meaning.specs.Grammar.Classes.{op}
use Rattle.ruby_meaning.specs.Grammar.Expressions.{argument, commanding}
use Rattle.ruby_meaning.specs.Grammar.Names.{R}
use Rattle.ruby_meaning.specs.Grammar.Seen.{Seen}
use Rattle.ruby_meaning.specs.Grammar.Table.{table}
use Rattle.ruby_expressions.specs.declared.argument_lists.Goes.{Goes}
use Rattle.ruby_expressions.specs.declared.argument_lists.Goes.TheVariants as goes
use Rattle.ruby_reading.specs.Ahead.{class_code}
use Rattle.ruby_expressions.specs.Arguments.{Outcome, first_rule, pair_rule, sees_block, sees_comma, ends_here, block_from, arguments_from, pairs_from, behind_comma, behind_first, first_step}
use Rattle.ruby_expressions.specs.ArgumentSteps.{goes_on, comma_step, behind_first_comma, go_on, pair_goes, argument_step, pair_step, value_rule}
use Rattle.ruby_expressions.proofs.ArgumentsRead.{arguments_step_is, command_step_is, pairs_step_is, command_from}

module _ (d r blocks : Bool) (b : ℕ) where
  abbrev on : (act.Args × Goes) → List Seen → Outcome
  on y rest = go_on d r blocks b y.1 y.0 rest

  ended : (g : Goes) (found : act.Args) (e : Bool) (rest : List Seen) → and_then (if e then Ok ((found, goes.Nowhere), rest) else Ok ((found, g), rest)) on ≡ (if e then Ok (found, rest) else go_on d r blocks b g found rest)
  ended g found true rest = refl
  ended g found false rest = refl

  comma_on : (g : Goes) (found : act.Args) (ts : List Seen) → and_then (behind_first_comma d g found ts) on
      ≡ and_then (read_token (token_in class_code (op mark.Comma)) ts) (λ comma rest. if ends_here d r blocks b rest then Ok (found, rest) else go_on d r blocks b g found rest)
  comma_on g found ts = by (read_token (token_in class_code (op mark.Comma)) ts)
    where
      by : (o : Result (Seen × List Seen) (List Seen))
          → and_then {A = act.Args × Goes} (and_then o (λ comma rest. if ends_here d r blocks b rest then Ok ((found, goes.Nowhere), rest) else Ok ((found, g), rest))) on
          ≡ and_then o (λ comma rest. if ends_here d r blocks b rest then Ok (found, rest) else go_on d r blocks b g found rest)
      by (Ok y) = ended g found (ends_here d r blocks b y.1) y.1
      by (Err y) = refl

  goes_arguments : (found : act.Args) (ts : List Seen) → and_then (comma_step d goes.Arguments found ts) on ≡ behind_comma d r blocks b true (arguments_from d r blocks b) found ts
  goes_arguments found ts = by (sees_comma d r blocks b ts)
    where
      by : (c : Bool) → and_then (if c then behind_first_comma d goes.Arguments found ts else Ok ((found, goes.Nowhere), ts)) on
          ≡ (if c && true then and_then (read_token (token_in class_code (op mark.Comma)) ts) (λ comma rest. if ends_here d r blocks b rest then Ok (found, rest) else arguments_from d r blocks b found rest) else Ok (found, ts))
      by true = comma_on goes.Arguments found ts
      by false = refl

  goes_pairs : (found : act.Args) (ts : List Seen) → and_then (comma_step d goes.Pairs found ts) on ≡ behind_comma d r blocks b true (pairs_from d r blocks b) found ts
  goes_pairs found ts = by (sees_comma d r blocks b ts)
    where
      by : (c : Bool) → and_then (if c then behind_first_comma d goes.Pairs found ts else Ok ((found, goes.Nowhere), ts)) on
          ≡ (if c && true then and_then (read_token (token_in class_code (op mark.Comma)) ts) (λ comma rest. if ends_here d r blocks b rest then Ok (found, rest) else pairs_from d r blocks b found rest) else Ok (found, ts))
      by true = comma_on goes.Pairs found ts
      by false = refl

  goes_nowhere : (P : act.Args → List Seen → Outcome) (found : act.Args) (ts : List Seen) → Ok (found, ts) ≡ behind_comma d r blocks b false P found ts
  goes_nowhere P found ts = by (sees_comma d r blocks b ts)
    where
      by : (c : Bool) → Ok (found, ts) ≡ (if c && false then and_then (read_token (token_in class_code (op mark.Comma)) ts) (λ comma rest. if ends_here d r blocks b rest then Ok (found, rest) else P found rest) else Ok (found, ts))
      by true = refl
      by false = refl

  first_on : (found x : act.Args) (n : ℕ) (ts : List Seen) → and_then (comma_step d (goes_on x n) found ts) on ≡ behind_first d r blocks b found (x, n) ts
  first_on found x n ts = by (act.takes_more (x, n)) (act.takes_pairs (x, n))
    where
      by : (more pairs : Bool) → and_then (comma_step d (if more then goes.Arguments else (if pairs then goes.Pairs else goes.Nowhere)) found ts) on
          ≡ (if more then behind_comma d r blocks b true (arguments_from d r blocks b) found ts else behind_comma d r blocks b pairs (pairs_from d r blocks b) found ts)
      by true pairs = goes_arguments found ts
      by false true = goes_pairs found ts
      by false false = goes_nowhere (pairs_from d r blocks b) found ts

  pair_on : (found x : act.Args) (ts : List Seen) → and_then (comma_step d (pair_goes x) found ts) on ≡ behind_comma d r blocks b (act.has_pair x) (pairs_from d r blocks b) found ts
  pair_on found x ts = by (act.has_pair x)
    where
      by : (pairs : Bool) → and_then (comma_step d (if pairs then goes.Pairs else goes.Nowhere) found ts) on ≡ behind_comma d r blocks b pairs (pairs_from d r blocks b) found ts
      by true = goes_pairs found ts
      by false = goes_nowhere (pairs_from d r blocks b) found ts

  other : (c : Bool) (o p q : Outcome) → p ≡ q → (if c then o else p) ≡ (if c then o else q)
  other true o p q h = refl
  other false o p q h = h

  step_is : (value : R (marked tree)) (found : act.Args) (ts : List Seen) → argument_step d r blocks b value found ts ≡ first_step d r blocks b value found ts
  step_is value found ts = other (sees_block d r blocks b ts) _ _ _
      (and_then_same (read_rule table (read_named table) (first_rule d r value) b ts) _ _ (λ x rest. first_on (act.with_more found x.0) x.0 x.1 rest))

  -- the reading of arguments is that of a step
  pub arguments_on : (found : act.Args) (ts : List Seen) → arguments_from d r blocks b found ts ≡ argument_step d r blocks b (value_rule false d r) found ts
  arguments_on found ts = arguments_step_is r b d blocks found ts ∙ sym (step_is (argument d r) found ts)

  pub command_on : (found : act.Args) (ts : List Seen) → command_from r b d blocks found ts ≡ argument_step d r blocks b (value_rule true d r) found ts
  command_on found ts = command_step_is r b d blocks found ts ∙ sym (step_is (commanding d r (argument d r)) found ts)

  pub pairs_on : (found : act.Args) (ts : List Seen) → pairs_from d r blocks b found ts ≡ pair_step d r blocks b found ts
  pairs_on found ts = pairs_step_is r b d blocks found ts ∙ sym (other (sees_block d r blocks b ts) (block_from d r blocks b found ts) _ _
      (and_then_same (read_rule table (read_named table) (pair_rule d r) b ts) _ _ (λ x rest. pair_on (act.with_more found x) x rest)))

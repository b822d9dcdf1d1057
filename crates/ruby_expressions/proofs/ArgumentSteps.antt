-- Arguments step by step: what a name reads, and that each step that goes on leaves fewer tokens.
use Rattle.std.proofs.Common.{◌≡◌, ℕ, suc, ◌≤◌, ◌<◌, Bool, true, false, List, [], ◌∷◌, length, Option, Some, None, Result, Ok, Err, refl, sym, ap, ◌∙◌, arith}
use Rattle.grammar.specs.Checks.{Checks}
use Rattle.grammar.specs.FormReaders.{read_token, read_one_token}
use Rattle.grammar.specs.Readers.{read_named, read_rule}
use Rattle.grammar.proofs.RuleReads.{left_of}
use Rattle.ruby_meaning.specs.declared.production.Production.TheVariants as p
use Rattle.ruby_meaning.specs.Grammar.Actions as act
use Rattle.ruby_meaning.specs.Grammar.Expressions as g
use Rattle.ruby_meaning.specs.Grammar.Names.{part}
use Rattle.ruby_meaning.specs.Grammar.Seen.{Seen}
use Rattle.ruby_meaning.specs.Grammar.Table.{table}
use Rattle.ruby_meaning.proofs.Grammar.Checks.{c_arguments, c_cargs, c_pairs}
use Rattle.ruby_meaning.proofs.Grammar.TableMeets.{predictive}
use Rattle.descent.specs.declared.fail.Fail.{Fail}
use Rattle.ruby_expressions.specs.declared.argument_lists.Goes.{Goes}
use Rattle.ruby_expressions.specs.declared.argument_lists.Goes.TheVariants as goes
use Rattle.ruby_expressions.specs.declared.argument_lists.Step.{Step}
use Rattle.ruby_expressions.specs.Arguments.{first_rule, pair_rule}
use Rattle.ruby_expressions.specs.ArgumentSteps.{argument_step, go_on, goes_somewhere, pair_step, value_rule, weight, Lighter}
use Rattle.ruby_expressions.proofs.ArgumentsRead.{none_found}
use Rattle.ruby_expressions.proofs.StepsOn.{arguments_on, command_on, pairs_on}

-- ---- names

pub arguments_are : (d r blocks : Bool) (b : ℕ) (ts : List Seen) → read_named table b (part (p.Arguments blocks) d r) ts ≡ argument_step d r blocks b (value_rule false d r) act.no_args ts
arguments_are d r blocks b ts = sym (none_found (read_named table b (part (p.Arguments blocks) d r) ts)) ∙ arguments_on d r blocks b act.no_args ts

pub command_is : (d r blocks : Bool) (b : ℕ) (ts : List Seen) → read_named table b (part (p.CommandArguments blocks) d r) ts ≡ argument_step d r blocks b (value_rule true d r) act.no_args ts
command_is d r blocks b ts = sym (none_found (read_named table b (part (p.CommandArguments blocks) d r) ts)) ∙ command_on d r blocks b act.no_args ts

pub pairs_are : (d r blocks : Bool) (b : ℕ) (ts : List Seen) → read_named table b (part (p.MorePairs blocks) d r) ts ≡ pair_step d r blocks b act.no_args ts
pairs_are d r blocks b ts = sym (none_found (read_named table b (part (p.MorePairs blocks) d r) ts)) ∙ pairs_on d r blocks b act.no_args ts

-- ---- tokens that are left

checks_first : (command d r : Bool) → Checks table (first_rule d r (value_rule command d r))
unfolding table g.arguments g.cargs g.arguments_from
checks_first false true r = ((c_arguments true r false).1).4.4
checks_first false false r = ((c_arguments false r false).1).4.4
checks_first true true r = ((c_cargs true r false).1).4.4
checks_first true false r = ((c_cargs false r false).1).4.4

checks_pair : (d r : Bool) → Checks table (pair_rule d r)
unfolding table g.more_pairs
checks_pair true r = (c_pairs true r false).4
checks_pair false r = (c_pairs false r false).4

same_left : {A : Type 0} (a b : A) (j k : List Seen) → ◌≡◌ {A = Result (A × List Seen) (List Seen)} (Ok (a, j)) (Ok (b, k)) → length k ≡ length j
same_left {A} a b j k e =
    let f : ◌≡◌ {A = A × List Seen} (a, j) (b, k) = cc in
    sym (ap (λ z. length z.1) f)

one_left : {A : Type 0} (o : Option A) (t : Seen) (ts : List Seen) (a : A) (rest : List Seen) → read_one_token o t ts ≡ Ok (a, rest) → length rest ≡ length ts
one_left (Some b) t ts a rest e = same_left b a ts rest e
one_left None t ts a rest e = cc

token_shorter : {A : Type 0} (f : Seen → Option A) (ts : List Seen) (a : A) (rest : List Seen) → read_token f ts ≡ Ok (a, rest) → length rest < length ts
token_shorter f [] a rest e = cc
token_shorter f (t ∷ ts) a rest e = let l = one_left (f t) t ts a rest e in omega (arith, l)

-- ---- steps

weight_within : (g : Goes) (m n : ℕ) → m < n → weight g m ≤ n
weight_within goes.Nowhere m n h = omega arith
weight_within goes.Arguments m n h = omega (arith, h)
weight_within goes.Pairs m n h = omega (arith, h)

-- behind a token
pub comma_lighter : {A : Type 0} (f : Seen → Option A) (g : Goes) (ts : List Seen) (a : A) (rest : List Seen) → read_token f ts ≡ Ok (a, rest) → weight g (length rest) ≤ length ts
comma_lighter f g ts a rest e = weight_within g (length rest) (length ts) (token_shorter f ts a rest e)

lighter_on : (k n : ℕ) (result : Result Step Fail) (m : ℕ) → k ≤ n → Lighter k result m → Lighter n result m
lighter_on k n (Ok s) m h l = omega (arith, h, l)
lighter_on k n (Err f) m h l = tt

-- behind an argument that stands first, and behind a pair
pub first_lighter : (command d r : Bool) (b : ℕ) (ts : List Seen) (x : act.Args × ℕ) (rest : List Seen) (result : Result Step Fail) (m : ℕ)
    → read_rule table (read_named table) (first_rule d r (value_rule command d r)) b ts ≡ Ok (x, rest) → Lighter (length rest) result m → Lighter (length ts) result m
first_lighter command d r b ts x rest result m e l =
    lighter_on (length rest) (length ts) result m (left_of table predictive (first_rule d r (value_rule command d r)) (checks_first command d r) b ts x rest e) l

pub pair_lighter : (d r : Bool) (b : ℕ) (ts : List Seen) (x : act.Args) (rest : List Seen) (result : Result Step Fail) (m : ℕ)
    → read_rule table (read_named table) (pair_rule d r) b ts ≡ Ok (x, rest) → Lighter (length rest) result m → Lighter (length ts) result m
pair_lighter d r b ts x rest result m e l = lighter_on (length rest) (length ts) result m (left_of table predictive (pair_rule d r) (checks_pair d r) b ts x rest e) l

pub weight_somewhere : (g : Goes) (n : ℕ) → goes_somewhere g ≡ true → weight g n ≡ suc n
weight_somewhere goes.Nowhere n h = cc
weight_somewhere goes.Arguments n h = refl
weight_somewhere goes.Pairs n h = refl

pub gone_on : (d r blocks : Bool) (b : ℕ) (g : Goes) (x : act.Args) (ts : List Seen) → goes_somewhere g ≡ false → go_on d r blocks b g x ts ≡ Ok (x, ts)
gone_on d r blocks b goes.Nowhere x ts h = refl
gone_on d r blocks b goes.Arguments x ts h = cc
gone_on d r blocks b goes.Pairs x ts h = cc

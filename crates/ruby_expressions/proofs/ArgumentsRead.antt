-- Arguments one after the other.
use Rattle.std.proofs.Common.{◌≡◌, ℕ, ◌≤◌, Bool, true, false, ◌&&◌, ◌++◌, List, [], Option, Some, None, Result, Ok, Err, refl, sym, ap, ◌∙◌, append_assoc, append-nil, arith, true≢false}
use Rattle.std.specs.Prelude.{not, nat_le, if◌then◌else◌}
use Rattle.grammar.specs.FormReaders.{and_then, next_in, read_token, read_choice, read_view, read_sequence, read_absent}
use Rattle.grammar.specs.Readers.{read_named, read_rule}
use Rattle.grammar.specs.Spelling.{token_in}
use Rattle.grammar.specs.Rules.{deep, tree, marked}
use Rattle.grammar.proofs.Loops.{and_then_assoc}
use Rattle.grammar.proofs.Stability.{read_named_is}
use Rattle.grammar.specs.Checks.{Checks}
use Rattle.grammar.proofs.RuleReads.{value_within}
use Rattle.ruby_meaning.specs.declared.production.Production.TheVariants as p
use Rattle.ruby_meaning.specs.declared.token.Mark.TheVariants as mark
use Rattle.ruby_meaning.specs.Depth.{depth_of}
use Rattle.ruby_meaning.specs.Grammar.Actions as act
use Rattle.ruby_meaning.specs.Grammar.Classes.{op}
use Rattle.ruby_meaning.specs.Grammar.Expressions.{block_argument, argument, commanding, arguments, cargs, more_pairs}
use Rattle.ruby_meaning.specs.Grammar.Expressions as g
use Rattle.ruby_meaning.specs.Grammar.Names.{args_sort, R, part}
use Rattle.ruby_meaning.specs.Grammar.Seen.{Seen}
use Rattle.ruby_meaning.specs.Grammar.Table.{table, begins_argument}
use Rattle.ruby_meaning.proofs.Grammar.Checks.{c_arguments, c_cargs, c_pairs}
use Rattle.ruby_meaning.proofs.Grammar.TableMeets.{predictive}
use Rattle.ruby_reading.specs.Ahead.{class_code}
use Rattle.ruby_expressions.specs.Arguments.{Outcome, pair_rule, pairs_from, pairs_step, arguments_from, first_step, sees_comma, ends_here, behind_comma, behind_first, first_rule}

or_else_assoc : {A : Type 0} (a b c : Option A) → act.or_else (act.or_else a b) c ≡ act.or_else a (act.or_else b c)
or_else_assoc (Some x) b c = refl
or_else_assoc None b c = refl

or_else_none : {A : Type 0} (a : Option A) → act.or_else a None ≡ a
or_else_none (Some x) = refl
or_else_none None = refl

pub more_assoc : (x y z : act.Args) → act.with_more (act.with_more x y) z ≡ act.with_more x (act.with_more y z)
more_assoc x y z = cc (append_assoc x.0 y.0 z.0, append_assoc (x.1.0) (y.1.0) (z.1.0), or_else_assoc (x.1.1) (y.1.1) (z.1.1))

pub more_none : (x : act.Args) → act.with_more x act.no_args ≡ x
more_none x = ap (λ z. (z, (x.1.0 ++ [], act.or_else (x.1.1) None))) (append-nil x.0) ∙ ap (λ z. (x.0, (z, act.or_else (x.1.1) None))) (append-nil (x.1.0))
    ∙ ap (λ z. (x.0, (x.1.0, z))) (or_else_none (x.1.1))

-- what is kept behind others
abbrev keep : act.Args → Outcome → Outcome
keep found o = and_then o (λ x rest. Ok (act.with_more found x, rest))

kept_again : (found x : act.Args) (o : Outcome) → keep found (and_then o (λ y rest. Ok (act.with_more x y, rest))) ≡ keep (act.with_more found x) o
kept_again found x (Ok y) = ap (λ z. Ok (z, y.1)) (sym (more_assoc found x y.0))
kept_again found x (Err r) = refl

chained : {A B : Type 0} (o : Result (A × List Seen) (List Seen)) (f g : A → List Seen → Result (B × List Seen) (List Seen)) → ((a : A) (rest : List Seen) → o ≡ Ok (a, rest) → f a rest ≡ g a rest) → and_then o f ≡ and_then o g
chained (Ok y) f g h = h y.0 y.1 refl
chained (Err y) f g h = refl

most : (m n : ℕ) → m ≤ n → nat_le m n ≡ true
most m n h = search (arith, h)

abbrev comma_token : List Seen → Result (Seen × List Seen) (List Seen)
comma_token ts = read_token (token_in class_code (op mark.Comma)) ts

-- what stands behind a comma, where `P` reads it
abbrev after_comma_read : Bool → ℕ → (List Seen → Outcome) → List Seen → Outcome
after_comma_read true b P ts = read_choice (λ t. begins_argument (class_code t)) P (read_absent (nat_le 0 b) act.no_args) ts
after_comma_read false b P ts = P ts

after_kept : (d r blocks : Bool) (b : ℕ) (P : List Seen → Outcome) (found : act.Args) (ts : List Seen)
    → keep found (after_comma_read d b P ts) ≡ (if ends_here d r blocks b ts then Ok (found, ts) else keep found (P ts))
after_kept false r blocks b P found ts = refl
after_kept true r blocks b P found ts = by (next_in (λ t. begins_argument (class_code t)) ts)
  where
    by : (c : Bool) → keep found (if c then P ts else (if nat_le 0 b then Ok (act.no_args, ts) else Err ts)) ≡ (if not c then Ok (found, ts) else keep found (P ts))
    by true = refl
    by false = ap (λ z. keep found (if z then Ok (act.no_args, ts) else Err ts)) (most 0 b (omega arith)) ∙ ap (λ z. Ok (z, ts)) (more_none found)

-- a comma and what stands behind it
abbrev comma_read : Bool → ℕ → (List Seen → Outcome) → List Seen → Outcome
comma_read d b P ts = read_view (λ x. x.1) (λ ts. read_sequence comma_token (after_comma_read d b P) ts) ts

comma_kept : (d r blocks : Bool) (b : ℕ) (P : List Seen → Outcome) (found : act.Args) (ts : List Seen)
    → keep found (comma_read d b P ts) ≡ and_then (comma_token ts) (λ comma rest. if ends_here d r blocks b rest then Ok (found, rest) else keep found (P rest))
comma_kept d r blocks b P found ts = by (comma_token ts)
  where
    seen : (comma : Seen) (o : Outcome) → keep found (and_then {A = Seen × act.Args} (and_then o (λ x after. Ok ((comma, x), after))) (λ x rest. Ok (x.1, rest))) ≡ keep found o
    seen comma (Ok y) = refl
    seen comma (Err y) = refl

    by : (o : Result (Seen × List Seen) (List Seen))
        → keep found (and_then {A = Seen × act.Args} (and_then o (λ comma rest. and_then (after_comma_read d b P rest) (λ x after. Ok ((comma, x), after)))) (λ x rest. Ok (x.1, rest)))
        ≡ and_then o (λ comma rest. if ends_here d r blocks b rest then Ok (found, rest) else keep found (P rest))
    by (Ok y) = seen y.0 (after_comma_read d b P y.1) ∙ after_kept d r blocks b P found y.1
    by (Err y) = refl

-- at most one such part behind a value within the levels
suffix_kept : (d r blocks : Bool) (b : ℕ) (P : List Seen → Outcome) (found x : act.Args) (more fits : Bool) (ts : List Seen) → fits ≡ true
    → keep found (if sees_comma d r blocks b ts && (more && fits) then and_then (comma_read d b P ts) (λ s rest. Ok (act.with_more x s, rest)) else Ok (x, ts))
    ≡ (if sees_comma d r blocks b ts && more then and_then (comma_token ts) (λ comma rest. if ends_here d r blocks b rest then Ok (act.with_more found x, rest) else keep (act.with_more found x) (P rest)) else Ok (act.with_more found x, ts))
suffix_kept d r blocks b P found x more fits ts e = by (sees_comma d r blocks b ts) more fits e
  where
    by : (c more fits : Bool) → fits ≡ true
        → keep found (if c && (more && fits) then and_then (comma_read d b P ts) (λ s rest. Ok (act.with_more x s, rest)) else Ok (x, ts))
        ≡ (if c && more then and_then (comma_token ts) (λ comma rest. if ends_here d r blocks b rest then Ok (act.with_more found x, rest) else keep (act.with_more found x) (P rest)) else Ok (act.with_more found x, ts))
    by true true true h = kept_again found x (comma_read d b P ts) ∙ comma_kept d r blocks b P (act.with_more found x) ts
    by true true false h = absurd (true≢false (sym h))
    by true false fits h = refl
    by false more fits h = refl

-- a block pass stands alone
block_kept : (found : act.Args) (c : Bool) (o other : Outcome) (rest : Outcome) → keep found other ≡ rest → keep found (if c then o else other) ≡ (if c then keep found o else rest)
block_kept found true o other rest h = refl
block_kept found false o other rest h = h

module _ (r : Bool) (b : ℕ) where
  abbrev pair_read : Bool → List Seen → Outcome
  pair_read d ts = read_rule table (read_named table) (pair_rule d r) b ts

  abbrev pairs_read : Bool → Bool → List Seen → Outcome
  pairs_read d blocks ts = read_named table b (part (p.MorePairs blocks) d r) ts

  abbrev args_deep : act.Args → ℕ
  args_deep x = deep Seen depth_of args_sort x

  pair_kept : (d blocks : Bool) → Checks table (pair_rule d r) → (found : act.Args) (ts : List Seen)
      → keep found (and_then (pair_read d ts) (λ x rest. if sees_comma d r blocks b rest && (act.has_pair x && nat_le (args_deep x) b) then and_then (comma_read d b (pairs_read d blocks) rest) (λ s after. Ok (act.with_more x s, after)) else Ok (x, rest)))
      ≡ and_then (pair_read d ts) (λ x rest. behind_comma d r blocks b (act.has_pair x) (pairs_from d r blocks b) (act.with_more found x) rest)
  unfolding table
  pair_kept d blocks checks found ts =
      and_then_assoc (pair_read d ts) _ _
      ∙ chained (pair_read d ts) _ _ (λ x rest e. suffix_kept d r blocks b (pairs_read d blocks) found x (act.has_pair x) (nat_le (args_deep x) b) rest (most (args_deep x) b (value_within table predictive (pair_rule d r) checks b ts x rest e)))

  -- pairs behind those found, one step at a time
  pub pairs_step_is : (d blocks : Bool) (found : act.Args) (ts : List Seen) → pairs_from d r blocks b found ts ≡ pairs_step d r blocks b found ts
  unfolding table more_pairs block_argument
  pairs_step_is true true found ts =
      ap (keep found) (read_named_is table predictive b (part (p.MorePairs true) true r) ts)
      ∙ block_kept found _ _ _ _ (pair_kept true true ((c_pairs true r true).3.4) found ts)
  pairs_step_is true false found ts =
      ap (keep found) (read_named_is table predictive b (part (p.MorePairs false) true r) ts)
      ∙ pair_kept true false ((c_pairs true r false).4) found ts
  pairs_step_is false true found ts =
      ap (keep found) (read_named_is table predictive b (part (p.MorePairs true) false r) ts)
      ∙ block_kept found _ _ _ _ (pair_kept false true ((c_pairs false r true).3.4) found ts)
  pairs_step_is false false found ts =
      ap (keep found) (read_named_is table predictive b (part (p.MorePairs false) false r) ts)
      ∙ pair_kept false false ((c_pairs false r false).4) found ts

-- ---- arguments

-- a list of arguments with how it was written
abbrev Written : Type 0
Written = act.Args × ℕ

-- a part behind a value that takes one, within the levels
abbrev part_behind : (d r blocks : Bool) (b : ℕ) → (List Seen → Outcome) → (Written → Bool) → Written → List Seen → Result (Written × List Seen) (List Seen)
part_behind d r blocks b P takes l ts =
    if sees_comma d r blocks b ts && (takes l && nat_le (deep Seen depth_of (marked args_sort) l) b) then and_then (comma_read d b P ts) (λ s rest. Ok ((act.with_more l.0 s, act.whole), rest)) else Ok (l, ts)

abbrev unwritten : Result (Written × List Seen) (List Seen) → Outcome
unwritten o = and_then o (λ x rest. Ok (x.0, rest))

abbrev behind_taken : (d r blocks : Bool) (b : ℕ) → Bool → (List Seen → Outcome) → act.Args → List Seen → Outcome
behind_taken d r blocks b more P found ts = behind_comma d r blocks b more (λ f rest. keep f (P rest)) found ts

module _ (d r blocks : Bool) (b : ℕ) (PM PP : List Seen → Outcome) (found : act.Args) (l : Written) where
  -- behind what has been finished no pair stands
  finished_kept : (o : Outcome) → keep found (unwritten (and_then (and_then o (λ s rest. Ok ((act.with_more l.0 s, act.whole), rest))) (λ x rest. part_behind d r blocks b PP act.takes_pairs x rest)))
      ≡ keep found (and_then o (λ s rest. Ok (act.with_more l.0 s, rest)))
  finished_kept (Err y) = refl
  finished_kept (Ok y) = by (sees_comma d r blocks b y.1)
    where
      by : (c : Bool) → keep found (unwritten (if c && (false && nat_le (deep Seen depth_of (marked args_sort) (act.with_more l.0 y.0, act.whole)) b) then and_then (comma_read d b PP y.1) (λ s rest. Ok ((act.with_more (act.with_more l.0 y.0) s, act.whole), rest)) else Ok ((act.with_more l.0 y.0, act.whole), y.1)))
          ≡ Ok (act.with_more found (act.with_more l.0 y.0), y.1)
      by true = refl
      by false = refl

  seen_kept : (o : Outcome) → keep found (unwritten (and_then o (λ s rest. Ok ((act.with_more l.0 s, act.whole), rest)))) ≡ keep found (and_then o (λ s rest. Ok (act.with_more l.0 s, rest)))
  seen_kept (Ok y) = refl
  seen_kept (Err y) = refl

  taken_kept : (P : List Seen → Outcome) (ts : List Seen) → keep found (and_then (comma_read d b P ts) (λ s rest. Ok (act.with_more l.0 s, rest)))
      ≡ and_then (comma_token ts) (λ comma rest. if ends_here d r blocks b rest then Ok (act.with_more found l.0, rest) else keep (act.with_more found l.0) (P rest))
  taken_kept P ts = kept_again found l.0 (comma_read d b P ts) ∙ comma_kept d r blocks b P (act.with_more found l.0) ts

  abbrev taken : (List Seen → Outcome) → List Seen → Outcome
  taken P ts = and_then (comma_token ts) (λ comma rest. if ends_here d r blocks b rest then Ok (act.with_more found l.0, rest) else keep (act.with_more found l.0) (P rest))

  -- a part behind a value, where it is within the levels
  tail_kept : (ts : List Seen) → nat_le (deep Seen depth_of (marked args_sort) l) b ≡ true
      → keep found (unwritten (part_behind d r blocks b PP act.takes_pairs l ts)) ≡ (if sees_comma d r blocks b ts && act.takes_pairs l then taken PP ts else Ok (act.with_more found l.0, ts))
  tail_kept ts e = by (sees_comma d r blocks b ts) (act.takes_pairs l) (nat_le (deep Seen depth_of (marked args_sort) l) b) e
    where
      by : (c pairs fits : Bool) → fits ≡ true
          → keep found (unwritten (if c && (pairs && fits) then and_then (comma_read d b PP ts) (λ s rest. Ok ((act.with_more l.0 s, act.whole), rest)) else Ok (l, ts)))
          ≡ (if c && pairs then taken PP ts else Ok (act.with_more found l.0, ts))
      by true true true h = seen_kept (comma_read d b PP ts) ∙ taken_kept PP ts
      by true true false h = absurd (true≢false (sym h))
      by true false fits h = refl
      by false pairs fits h = refl

  first_kept : (ts : List Seen) → nat_le (deep Seen depth_of (marked args_sort) l) b ≡ true
      → keep found (unwritten (and_then (part_behind d r blocks b PM act.takes_more l ts) (λ x rest. part_behind d r blocks b PP act.takes_pairs x rest)))
      ≡ (if act.takes_more l then behind_taken d r blocks b true PM (act.with_more found l.0) ts else behind_taken d r blocks b (act.takes_pairs l) PP (act.with_more found l.0) ts)
  first_kept ts e = by (sees_comma d r blocks b ts) refl (act.takes_more l) (act.takes_pairs l) refl (nat_le (deep Seen depth_of (marked args_sort) l) b) e
    where
      by : (c : Bool) → sees_comma d r blocks b ts ≡ c → (more pairs : Bool) → act.takes_pairs l ≡ pairs → (fits : Bool) → fits ≡ true
          → keep found (unwritten (and_then (if c && (more && fits) then and_then (comma_read d b PM ts) (λ s rest. Ok ((act.with_more l.0 s, act.whole), rest)) else Ok (l, ts))
          (λ x rest. part_behind d r blocks b PP act.takes_pairs x rest)))
          ≡ (if more then (if c && true then taken PM ts else Ok (act.with_more found l.0, ts)) else (if c && pairs then taken PP ts else Ok (act.with_more found l.0, ts)))
      by true ce true pairs pe true h = finished_kept (comma_read d b PM ts) ∙ taken_kept PM ts
      by c ce more pairs pe false h = absurd (true≢false (sym h))
      by false ce true pairs pe true h = tail_kept ts e ∙ ap (λ z. if z && act.takes_pairs l then taken PP ts else Ok (act.with_more found l.0, ts)) ce
      by false ce false pairs pe true h = tail_kept ts e ∙ ap (λ z. if z && act.takes_pairs l then taken PP ts else Ok (act.with_more found l.0, ts)) ce
      by true ce false pairs pe true h =
          tail_kept ts e ∙ ap (λ z. if z && act.takes_pairs l then taken PP ts else Ok (act.with_more found l.0, ts)) ce
          ∙ ap (λ z. if z then taken PP ts else Ok (act.with_more found l.0, ts)) pe

module _ (r : Bool) (b : ℕ) where
  abbrev first_read : Bool → R (marked tree) → List Seen → Result (Written × List Seen) (List Seen)
  first_read d value ts = read_rule table (read_named table) (first_rule d r value) b ts

  abbrev more_read : Bool → Bool → List Seen → Outcome
  more_read d blocks ts = read_named table b (part (p.Arguments blocks) d r) ts

  pub first_step_kept : (d blocks : Bool) (value : R (marked tree)) → Checks table (first_rule d r value) → (found : act.Args) (ts : List Seen)
      → keep found (unwritten (and_then (and_then (first_read d value ts) (λ x rest. part_behind d r blocks b (more_read d blocks) act.takes_more x rest)) (λ x rest. part_behind d r blocks b (pairs_read r b d blocks) act.takes_pairs x rest)))
      ≡ and_then (first_read d value ts) (λ x rest. behind_first d r blocks b (act.with_more found x.0) x rest)
  unfolding table
  first_step_kept d blocks value checks found ts =
      ap (λ o. keep found (unwritten o)) (and_then_assoc (first_read d value ts) _ _)
      ∙ ap (keep found) (and_then_assoc (first_read d value ts) _ _)
      ∙ and_then_assoc (first_read d value ts) _ _
      ∙ chained (first_read d value ts) _ _ (λ x rest e. first_kept d r blocks b (more_read d blocks) (pairs_read r b d blocks) found x rest (most _ b (value_within table predictive (first_rule d r value) checks b ts x rest e)))

  -- arguments behind those found, one step at a time
  pub arguments_step_is : (d blocks : Bool) (found : act.Args) (ts : List Seen) → arguments_from d r blocks b found ts ≡ first_step d r blocks b (argument d r) found ts
  unfolding table arguments g.arguments_from block_argument
  arguments_step_is true true found ts =
      ap (keep found) (read_named_is table predictive b (part (p.Arguments true) true r) ts)
      ∙ block_kept found _ _ _ _ (first_step_kept true true (argument true r) (((c_arguments true r true).3.1).4.4) found ts)
  arguments_step_is true false found ts =
      ap (keep found) (read_named_is table predictive b (part (p.Arguments false) true r) ts)
      ∙ first_step_kept true false (argument true r) (((c_arguments true r false).1).4.4) found ts
  arguments_step_is false true found ts =
      ap (keep found) (read_named_is table predictive b (part (p.Arguments true) false r) ts)
      ∙ block_kept found _ _ _ _ (first_step_kept false true (argument false r) (((c_arguments false r true).3.1).4.4) found ts)
  arguments_step_is false false found ts =
      ap (keep found) (read_named_is table predictive b (part (p.Arguments false) false r) ts)
      ∙ first_step_kept false false (argument false r) (((c_arguments false r false).1).4.4) found ts

  abbrev pub command_from : Bool → Bool → act.Args → List Seen → Outcome
  command_from d blocks found ts = keep found (read_named table b (part (p.CommandArguments blocks) d r) ts)

  -- those of a command, of which the first may be a command
  pub command_step_is : (d blocks : Bool) (found : act.Args) (ts : List Seen) → command_from d blocks found ts ≡ first_step d r blocks b (commanding d r (argument d r)) found ts
  unfolding table cargs g.arguments_from block_argument
  command_step_is true true found ts =
      ap (keep found) (read_named_is table predictive b (part (p.CommandArguments true) true r) ts)
      ∙ block_kept found _ _ _ _ (first_step_kept true true (commanding true r (argument true r)) (((c_cargs true r true).3.1).4.4) found ts)
  command_step_is true false found ts =
      ap (keep found) (read_named_is table predictive b (part (p.CommandArguments false) true r) ts)
      ∙ first_step_kept true false (commanding true r (argument true r)) (((c_cargs true r false).1).4.4) found ts
  command_step_is false true found ts =
      ap (keep found) (read_named_is table predictive b (part (p.CommandArguments true) false r) ts)
      ∙ block_kept found _ _ _ _ (first_step_kept false true (commanding false r (argument false r)) (((c_cargs false r true).3.1).4.4) found ts)
  command_step_is false false found ts =
      ap (keep found) (read_named_is table predictive b (part (p.CommandArguments false) false r) ts)
      ∙ first_step_kept false false (commanding false r (argument false r)) (((c_cargs false r false).1).4.4) found ts

pub none_found : (o : Outcome) → keep act.no_args o ≡ o
none_found (Ok y) = refl
none_found (Err y) = refl

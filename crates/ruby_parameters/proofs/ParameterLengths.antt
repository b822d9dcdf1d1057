-- A parameter leaves no more tokens than there were.
use Rattle.std.proofs.Common.{◌≡◌, ℕ, ◌≤◌, Bool, true, false, List, [], ◌∷◌, length, Result, Ok, Err, refl, ap, ◌∙◌, arith}
use Rattle.std.specs.Prelude.{if◌then◌else◌}
use Rattle.grammar.specs.Checks.{Checks}
use Rattle.grammar.specs.FormReaders.{and_then}
use Rattle.grammar.specs.Readers.{read_named, read_rule}
use Rattle.grammar.proofs.RuleReads.{left_of}
use Rattle.ruby_meaning.specs.declared.production.Stage.{Stage}
use Rattle.ruby_meaning.specs.declared.production.Stage.TheVariants as stage
use Rattle.ruby_meaning.specs.declared.token.Mark.TheVariants as mark
use Rattle.ruby_meaning.specs.Grammar.Actions as act
use Rattle.ruby_meaning.specs.Grammar.Parameters as g
use Rattle.ruby_meaning.specs.Grammar.Seen.{Seen}
use Rattle.ruby_meaning.specs.Grammar.Table.{table}
use Rattle.ruby_meaning.proofs.Grammar.Checks.{c_parameters}
use Rattle.ruby_meaning.proofs.Grammar.TableMeets.{predictive}
use Rattle.ruby_parameters.specs.Parameters.{Single, slot, default, rest, block, takes_default, read_value, read_name, read_brackets, read_star, read_block, read_sign, read_simple, read_single, go_on, sees_op, argument_behind, starred, ampersand}
use Rattle.ruby_parameters.proofs.ParameterTurns.{turn}
use Rattle.ruby_parameters.proofs.ParameterJoins.{behind_found, rule_here}

abbrev O : Type 0 → Type 0
O A = Result (A × List Seen) (List Seen)

abbrev Short : {A : Type 0} → ℕ → O A → Type 0
Short {A} n o = (a : A) (k : List Seen) → o ≡ Ok (a, k) → length k ≤ n

same_left : {A : Type 0} (a b : A) (j k : List Seen) (n : ℕ) → ◌≡◌ {A = O A} (Ok (a, j)) (Ok (b, k)) → length j ≤ n → length k ≤ n
same_left {A} a b j k n e h =
    let f : ◌≡◌ {A = A × List Seen} (a, j) (b, k) = cc in
    let l : length j ≡ length k = ap (λ z. length z.1) f in
    omega arith

short_then : {A B : Type 0} (o : O A) (v : A → List Seen → O B) (n : ℕ) → Short n o → ((a : A) (k : List Seen) → Short (length k) (v a k)) → Short n (and_then o v)
short_then (Ok (a, j)) v n h w b k e = let l = w a j b k e in let m = h a j refl in omega (arith, l, m)
short_then (Err j) v n h w b k e = cc

short_ok : {A : Type 0} (a : A) (j : List Seen) → Short (length j) (Ok (a, j))
short_ok a j b k e = same_left a b j k (length j) e (omega arith)

short_if : {A : Type 0} (c : Bool) (x y : O A) (n : ℕ) → Short n x → Short n y → Short n (if c then x else y)
short_if true x y n h w = h
short_if false x y n h w = w

module _ (r : Bool) (b : ℕ) where
  short_names : (ts : List Seen) → Short (length ts) (read_rule table (read_named table) g.bracketed_names b ts)
  unfolding g.parameters g.bracketed_parameter
  short_names ts names k e = left_of table predictive g.bracketed_names (c_parameters r true stage.Plain).2.1.1 b ts names k e

  short_name : (ts : List Seen) → Short (length ts) (read_rule table (read_named table) g.parameter_name b ts)
  unfolding g.parameter_name
  short_name ts t k e = left_of table predictive g.parameter_name tt b ts t k e

  checks_argument : Checks table (argument_behind r)
  unfolding table
  checks_argument = (λ x. omega arith, (refl, tt, tt))

  checks_starred : Checks table starred
  unfolding table g.parameter_name
  checks_starred = (λ x. omega arith, (refl, tt, (refl, refl, (λ x. refl, tt), tt)))

  checks_ampersand : Checks table ampersand
  unfolding table g.parameter_name
  checks_ampersand = (λ x. omega arith, (refl, tt, tt))

  short_brackets : (ts : List Seen) → Short (length ts) (read_brackets b ts)
  short_brackets ts = short_then (read_rule table (read_named table) g.bracketed_names b ts) (λ names k. Ok (slot names, k)) (length ts) (short_names ts) (λ names k. short_ok (slot names) k)

  short_star : (ts : List Seen) → Short (length ts) (read_star b ts)
  short_star ts = short_then (read_rule table (read_named table) starred b ts) (λ o k. Ok (rest o, k)) (length ts) (left_of table predictive starred checks_starred b ts) (λ o k. short_ok (rest o) k)

  short_block : (ts : List Seen) → Short (length ts) (read_block b ts)
  short_block ts = short_then (read_rule table (read_named table) ampersand b ts) (λ t k. Ok (block t, k)) (length ts) (left_of table predictive ampersand checks_ampersand b ts) (λ t k. short_ok (block t) k)

  short_value : (t : Seen) (ts : List Seen) → Short (length ts) (read_value r b t ts)
  short_value t ts = short_if (sees_op mark.Assign ts) _ _ (length ts)
      (short_then (read_rule table (read_named table) (argument_behind r) b ts) (λ n k. Ok (default t n, k)) (length ts) (left_of table predictive (argument_behind r) checks_argument b ts) (λ n k. short_ok (default t n) k))
      (short_ok (slot (t ∷ [])) ts)

  short_named : (s : Stage) (ts : List Seen) → Short (length ts) (read_name r b s ts)
  short_named s ts = short_then (read_rule table (read_named table) g.parameter_name b ts) (λ t k. if takes_default s then read_value r b t k else Ok (slot (t ∷ []), k)) (length ts) (short_name ts)
      (λ t k. short_if (takes_default s) (read_value r b t k) (Ok (slot (t ∷ []), k)) (length k) (short_value t k) (short_ok (slot (t ∷ [])) k))

  short_sign : (s : Stage) (ts : List Seen) → Short (length ts) (read_sign b s ts)
  short_sign s ts = short_if (takes_default s) _ _ (length ts) (short_if (sees_op mark.Star ts) _ _ (length ts) (short_star ts) (short_block ts)) (short_block ts)

  short_simple : (s : Stage) (ts : List Seen) → Short (length ts) (read_simple r b s ts)
  short_simple s ts = short_if _ (read_name r b s ts) (read_sign b s ts) (length ts) (short_named s ts) (short_sign s ts)

pub single_left : (r brackets : Bool) (b : ℕ) (s : Stage) (ts : List Seen) (y : Single) (k : List Seen) → read_single r brackets b s ts ≡ Ok (y, k) → length k ≤ length ts
single_left r true b s ts = short_if (sees_op mark.ParenOpen ts) (read_brackets b ts) (read_simple r b s ts) (length ts) (short_brackets r b ts) (short_simple r b s ts)
single_left r false b s ts = short_simple r b s ts

-- where no token is left
none_left : (r brackets : Bool) (b : ℕ) (s : Stage) → read_single r brackets b s [] ≡ Err []
none_left r true b stage.Plain = refl
none_left r true b stage.Optional = refl
none_left r true b stage.Rest = refl
none_left r true b stage.After = refl
none_left r false b stage.Plain = refl
none_left r false b stage.Optional = refl
none_left r false b stage.Rest = refl
none_left r false b stage.After = refl

pub at_end : (r brackets : Bool) (b : ℕ) (total : O act.Parameters) (seen : act.Parameters) (s : Stage) (ts : List Seen) → total ≡ behind_found seen (rule_here r brackets b s ts) → length ts ≤ 0 → total ≡ Err ts
at_end r brackets b total seen s [] e h = e ∙ ap (behind_found seen) (turn r brackets b s [] ∙ ap (λ o. and_then o (go_on r brackets b s)) (none_left r brackets b s))
at_end r brackets b total seen s (t ∷ ts) e h = absurd (omega arith)

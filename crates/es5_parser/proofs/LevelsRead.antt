-- An expression, read from its first operand on.
use Rattle.std.proofs.Common.{◌≡◌, ℕ, suc, Bool, true, false, List, length, Ok, Err, refl, ap, ◌∙◌}
use Rattle.std.specs.Prelude.{if◌then◌else◌}
use Rattle.grammar.specs.FormReaders.{and_then, next_in}
use Rattle.grammar.specs.Readers.{read_named, read_rule}
use Rattle.grammar.proofs.Loops.{and_then_assoc}
use Rattle.grammar.proofs.Stability.{read_named_is}
use Rattle.es5_tree.specs.declared.terminal.Level.{Level}
use Rattle.es5_tree.specs.declared.terminal.Level.TheVariants as level
use Rattle.es5_tree.specs.declared.token.EsToken.{EsToken}
use Rattle.es5_tree.specs.Grammar.Expressions as g
use Rattle.es5_tree.specs.Grammar.Names.{R, expr_sort, expr}
use Rattle.es5_tree.specs.Grammar.Nodes.{Node}
use Rattle.es5_tree.specs.Grammar.Table.{table, level_rule}
use Rattle.es5_tree.proofs.Grammar.TableMeets.{predictive}
use Rattle.es5_reading.specs.Loops.{Outcome, binaries, logicals, conditional_behind, assigned_behind}
use Rattle.es5_reading.specs.declared.parts.Binary.TheVariants as of_two
use Rattle.es5_reading.specs.declared.parts.Logical.TheVariants as logical
use Rattle.es5_parser.specs.Levels.{Begun, begun, behind_unary, behind_product, behind_sum, behind_relation, behind_equality, behind_and, behind_or, behind_test, behind_target, behind, is_operation, is_deletion, first_operand, first_of}

module _ (b : ℕ) (ts : List EsToken) where
  abbrev read : R expr_sort → Outcome (EsToken × Node)
  read r = read_rule table (read_named table) r (suc b) ts

  -- with an operator before its value nothing stands behind that
  plain_not : (o : Outcome (EsToken × Node)) → o ≡ and_then (begun false o) (λ s rest. behind_unary b s rest)
  unfolding behind_unary
  plain_not (Ok y) = refl
  plain_not (Err y) = refl

  plain_is : (o : Outcome (EsToken × Node)) → and_then o (λ x rest. behind_unary b (x, true) rest) ≡ and_then (begun true o) (λ s rest. behind_unary b s rest)
  plain_is (Ok y) = refl
  plain_is (Err y) = refl

  call_is : read g.call_level ≡ and_then (begun true (read g.primary)) (λ s rest. behind_unary b s rest)
  unfolding table g.call_level behind_unary
  call_is = plain_is (read g.primary)

  unary_is : read g.unary_level ≡ and_then (first_operand g.primary b ts) (λ s rest. behind_unary b s rest)
  unfolding table g.unary_level g.operation g.deletion
  unary_is = by (next_in is_operation ts) (next_in is_deletion ts)
    where
      by : (c d : Bool)
          → (if c then read g.operation else (if d then read g.deletion else read g.call_level))
          ≡ and_then (if c then begun false (read g.operation) else (if d then begun false (read g.deletion) else begun true (read g.primary))) (λ s rest. behind_unary b s rest)
      by true d = plain_not (read g.operation)
      by false true = plain_not (read g.deletion)
      by false false = call_is

  -- a level over the tighter one
  over : (o : Outcome Begun) (r : Outcome (EsToken × Node)) (f : Begun → List EsToken → Outcome (EsToken × Node)) (h : EsToken × Node → List EsToken → Outcome (EsToken × Node))
      → r ≡ and_then o f → and_then r h ≡ and_then o (λ s rest. and_then (f s rest) h)
  over o r f h e = ap (λ z. and_then z h) e ∙ and_then_assoc o f h

  abbrev first_one : Outcome Begun
  first_one = first_operand g.primary b ts

  product_is : read g.product_level ≡ and_then first_one (λ s rest. behind_product b s rest)
  unfolding table g.product_level behind_product
  product_is = over first_one (read g.unary_level) (λ s rest. behind_unary b s rest) (λ l rest. binaries of_two.Product (length rest) b l rest) unary_is

  sum_is : read g.sum_level ≡ and_then first_one (λ s rest. behind_sum b s rest)
  unfolding table g.sum_level behind_sum
  sum_is = over first_one (read g.product_level) (λ s rest. behind_product b s rest) (λ l rest. binaries of_two.Sum (length rest) b l rest) product_is

  relation_is : read g.relation_level ≡ and_then first_one (λ s rest. behind_relation b s rest)
  unfolding table g.relation_level behind_relation
  relation_is = over first_one (read g.sum_level) (λ s rest. behind_sum b s rest) (λ l rest. binaries of_two.Relation (length rest) b l rest) sum_is

  equality_is : read g.equality_level ≡ and_then first_one (λ s rest. behind_equality b s rest)
  unfolding table g.equality_level behind_equality
  equality_is = over first_one (read g.relation_level) (λ s rest. behind_relation b s rest) (λ l rest. binaries of_two.Equality (length rest) b l rest) relation_is

  and_is : read g.and_level ≡ and_then first_one (λ s rest. behind_and b s rest)
  unfolding table g.and_level behind_and
  and_is = over first_one (read g.equality_level) (λ s rest. behind_equality b s rest) (λ l rest. logicals logical.And (length rest) b l rest) equality_is

  or_is : read g.or_level ≡ and_then first_one (λ s rest. behind_or b s rest)
  unfolding table g.or_level behind_or
  or_is = over first_one (read g.and_level) (λ s rest. behind_and b s rest) (λ l rest. logicals logical.Or (length rest) b l rest) and_is

  test_is : read g.conditional_level ≡ and_then first_one (λ s rest. behind_test b s rest)
  unfolding table g.conditional_level behind_test
  test_is = over first_one (read g.or_level) (λ s rest. behind_or b s rest) (λ l rest. conditional_behind b l rest) or_is

  target_is : read g.assignment_level ≡ and_then first_one (λ s rest. behind_target b s rest)
  unfolding table g.assignment_level behind_target
  target_is = over first_one (read g.conditional_level) (λ s rest. behind_test b s rest) (λ l rest. assigned_behind b l rest) test_is

  level_is : (l : Level) → read (level_rule l) ≡ and_then (first_of g.primary l b ts) (λ s rest. behind l b s rest)
  level_is level.Assignment = target_is
  level_is level.And = and_is
  level_is level.Equality = equality_is
  level_is level.Relational = relation_is
  level_is level.Additive = sum_is
  level_is level.Multiplicative = product_is
  level_is level.Unary = unary_is
  level_is level.Call = call_is

  -- an expression is its first operand with what stands behind it
  pub expression_is : (l : Level) → read_named table (suc b) (expr l) ts ≡ and_then (and_then (first_of g.primary l b ts) (λ s rest. behind l b s rest)) (λ x rest. Ok (x.1, rest))
  unfolding table
  expression_is l = read_named_is table predictive (suc b) (expr l) ts ∙ ap (λ o. and_then {A = EsToken × Node} {B = Node} o (λ x rest. Ok (x.1, rest))) (level_is l)

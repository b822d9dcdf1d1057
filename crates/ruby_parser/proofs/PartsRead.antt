-- From what a rule gives to what its production gives.
use Rattle.std.proofs.Common.{◌≡◌, ℕ, Bool, List, Result, Ok, Err, refl, sym, ap, ◌∙◌, subst}
use Rattle.grammar.specs.Readers.{read_named, read_rule}
use Rattle.grammar.proofs.Stability.{read_named_is}
use Rattle.descent.specs.declared.fail.Fail.{Fail}
use Rattle.descent.specs.declared.fail.Fail.TheVariants.{NoMemory, Refused}
use Rattle.ruby_meaning.specs.declared.production.Part.{Part}
use Rattle.ruby_meaning.specs.declared.production.Production.{Production}
use Rattle.ruby_meaning.specs.declared.production.Production.TheVariants as p
use Rattle.ruby_meaning.specs.declared.tree.Node.{Node}
use Rattle.ruby_meaning.specs.Grammar.Definitions.{otherwise}
use Rattle.ruby_meaning.specs.Grammar.Expressions.{nested_value, one_value}
use Rattle.ruby_meaning.specs.Grammar.Names.{part}
use Rattle.ruby_meaning.specs.Grammar.Statements.{statement_list}
use Rattle.ruby_meaning.specs.Grammar.Seen.{Seen}
use Rattle.ruby_meaning.specs.Grammar.Table.{table, rule_of}
use Rattle.ruby_meaning.proofs.Grammar.TableMeets.{predictive}
use Rattle.ruby_reading.specs.declared.names.Tree.{Tree}
use Rattle.ruby_reading.specs.declared.names.Tree.TheVariants as t
use Rattle.ruby_reading.specs.declared.args.Args.{Args}
use Rattle.ruby_reading.specs.declared.value.Body.{Body}
use Rattle.ruby_reading.specs.declared.value.Reading.{Reading}
use Rattle.ruby_reading.specs.declared.value.Reading.TheVariants as reading
use Rattle.ruby_reading.specs.declared.value.Value.{Value}
use Rattle.ruby_reading.specs.Ahead.{GivesNode}
use Rattle.ruby_reading.specs.Named.{GivesArgs, GivesBody, GivesPart, GivesValue, production_of}
use Rattle.ruby_reading.specs.Shown.{shown_args, shown_body, shown_value}
use Rattle.ruby_parser.specs.TreeRules.{of_args, of_body, of_tree, of_value, tree_rule}

module _ (d r : Bool) (b : ℕ) (ts rest : List Seen) where
  -- a production is read by its rule
  pub rule_is : (k : Production) → read_named table b (part k d r) ts ≡ read_rule table (read_named table) (rule_of k d r) b ts
  unfolding table
  rule_is k = read_named_is table predictive b (part k d r) ts

  tree_ok : (t : Tree) (n : Node) → read_rule table (read_named table) (tree_rule t d r) b ts ≡ Ok (n, rest) → GivesPart (part (production_of t) d r) (read_named table b (part (production_of t) d r) ts) (Ok (reading.Tree n)) rest
  tree_ok t.Statement n h = (n, rule_is p.Statement ∙ h, refl)
  tree_ok t.Expression n h = (n, rule_is p.Expression ∙ h, refl)
  tree_ok t.NotExpression n h = (n, rule_is p.NotExpression ∙ h, refl)
  tree_ok t.RightSide n h = (n, rule_is p.RightSide ∙ h, refl)
  tree_ok t.Argument n h = (n, rule_is p.Argument ∙ h, refl)
  tree_ok t.Ternary n h = (n, rule_is p.Ternary ∙ h, refl)
  tree_ok t.RangeOperand n h = (n, rule_is p.RangeOperand ∙ h, refl)
  tree_ok t.OrOperand n h = (n, rule_is p.OrOperand ∙ h, refl)
  tree_ok t.AndOperand n h = (n, rule_is p.AndOperand ∙ h, refl)
  tree_ok t.EqualityOperand n h = (n, rule_is p.EqualityOperand ∙ h, refl)
  tree_ok t.ComparisonOperand n h = (n, rule_is p.ComparisonOperand ∙ h, refl)
  tree_ok t.ShiftOperand n h = (n, rule_is p.ShiftOperand ∙ h, refl)
  tree_ok t.SumOperand n h = (n, rule_is p.SumOperand ∙ h, refl)
  tree_ok t.ProductOperand n h = (n, rule_is p.ProductOperand ∙ h, refl)
  tree_ok t.PowerOperand n h = (n, rule_is p.PowerOperand ∙ h, refl)
  tree_ok t.NotOperand n h = (n, rule_is p.NotOperand ∙ h, refl)

  tree_err : (t : Tree) (f : Fail) → GivesNode (read_rule table (read_named table) (tree_rule t d r) b ts) (Err f) rest → GivesPart (part (production_of t) d r) (read_named table b (part (production_of t) d r) ts) (Err f) rest
  tree_err q NoMemory h = tt
  tree_err t.Statement Refused h = rule_is p.Statement ∙ h
  tree_err t.Expression Refused h = rule_is p.Expression ∙ h
  tree_err t.NotExpression Refused h = rule_is p.NotExpression ∙ h
  tree_err t.RightSide Refused h = rule_is p.RightSide ∙ h
  tree_err t.Argument Refused h = rule_is p.Argument ∙ h
  tree_err t.Ternary Refused h = rule_is p.Ternary ∙ h
  tree_err t.RangeOperand Refused h = rule_is p.RangeOperand ∙ h
  tree_err t.OrOperand Refused h = rule_is p.OrOperand ∙ h
  tree_err t.AndOperand Refused h = rule_is p.AndOperand ∙ h
  tree_err t.EqualityOperand Refused h = rule_is p.EqualityOperand ∙ h
  tree_err t.ComparisonOperand Refused h = rule_is p.ComparisonOperand ∙ h
  tree_err t.ShiftOperand Refused h = rule_is p.ShiftOperand ∙ h
  tree_err t.SumOperand Refused h = rule_is p.SumOperand ∙ h
  tree_err t.ProductOperand Refused h = rule_is p.ProductOperand ∙ h
  tree_err t.PowerOperand Refused h = rule_is p.PowerOperand ∙ h
  tree_err t.NotOperand Refused h = rule_is p.NotOperand ∙ h

module _ (k : Part) (d r : Bool) (b : ℕ) (ts rest : List Seen) where
  moved : (q : Production) (res : Result Reading Fail) → k.production ≡ q → k.takes_do ≡ d → k.in_rescue ≡ r → GivesPart (part q d r) (read_named table b (part q d r) ts) res rest → GivesPart k (read_named table b k ts) res rest
  moved q res e f g h =
      let same : part q d r ≡ k = ap (λ x. part x d r) (sym e) ∙ ap (λ x. part k.production x r) (sym f) ∙ ap (part k.production k.takes_do) (sym g) in
      subst (λ x. GivesPart x (read_named table b x ts) res rest) same h

  pub tree_part : (q : Tree) (res : Result Node Fail) → k.production ≡ production_of q → k.takes_do ≡ d → k.in_rescue ≡ r
      → GivesNode (read_rule table (read_named table) (tree_rule q d r) b ts) res rest → GivesPart k (read_named table b k ts) (of_tree res) rest
  tree_part q (Ok n) e f g h = moved (production_of q) (Ok (reading.Tree n)) e f g (tree_ok d r b ts rest q n h)
  tree_part q (Err x) e f g h = moved (production_of q) (Err x) e f g (tree_err d r b ts rest q x h)

  pub given : (res out : Result Reading Fail) → out ≡ res → GivesPart k (read_named table b k ts) res rest → GivesPart k (read_named table b k ts) out rest
  given res out e h = subst (λ x. GivesPart k (read_named table b k ts) x rest) (sym e) h

  -- ---- the others

  pub statements_part : (res : Result Body Fail) → k.production ≡ p.Statements → k.takes_do ≡ d → k.in_rescue ≡ r
      → GivesBody (read_rule table (read_named table) (statement_list r) b ts) res rest → GivesPart k (read_named table b k ts) (of_body res) rest
  statements_part (Ok x) e f g h = moved p.Statements (Ok (reading.Body x)) e f g (shown_body x, rule_is d r b ts rest p.Statements ∙ h, refl)
  statements_part (Err NoMemory) e f g h = moved p.Statements (Err NoMemory) e f g tt
  statements_part (Err Refused) e f g h = moved p.Statements (Err Refused) e f g (rule_is d r b ts rest p.Statements ∙ h)

  pub otherwise_part : (res : Result Body Fail) → k.production ≡ p.Otherwise → k.takes_do ≡ d → k.in_rescue ≡ r
      → GivesBody (read_rule table (read_named table) (otherwise r) b ts) res rest → GivesPart k (read_named table b k ts) (of_body res) rest
  otherwise_part (Ok x) e f g h = moved p.Otherwise (Ok (reading.Body x)) e f g (shown_body x, rule_is d r b ts rest p.Otherwise ∙ h, refl)
  otherwise_part (Err NoMemory) e f g h = moved p.Otherwise (Err NoMemory) e f g tt
  otherwise_part (Err Refused) e f g h = moved p.Otherwise (Err Refused) e f g (rule_is d r b ts rest p.Otherwise ∙ h)

  pub one_part : (res : Result Value Fail) → k.production ≡ p.OneValue → k.takes_do ≡ d → k.in_rescue ≡ r
      → GivesValue (read_rule table (read_named table) (one_value d r) b ts) res rest → GivesPart k (read_named table b k ts) (of_value res) rest
  one_part (Ok x) e f g h = moved p.OneValue (Ok (reading.Value x)) e f g (shown_value x, rule_is d r b ts rest p.OneValue ∙ h, refl)
  one_part (Err NoMemory) e f g h = moved p.OneValue (Err NoMemory) e f g tt
  one_part (Err Refused) e f g h = moved p.OneValue (Err Refused) e f g (rule_is d r b ts rest p.OneValue ∙ h)

  pub nested_part : (res : Result Value Fail) → k.production ≡ p.NestedValue → k.takes_do ≡ d → k.in_rescue ≡ r
      → GivesValue (read_rule table (read_named table) (nested_value d r) b ts) res rest → GivesPart k (read_named table b k ts) (of_value res) rest
  nested_part (Ok x) e f g h = moved p.NestedValue (Ok (reading.Value x)) e f g (shown_value x, rule_is d r b ts rest p.NestedValue ∙ h, refl)
  nested_part (Err NoMemory) e f g h = moved p.NestedValue (Err NoMemory) e f g tt
  nested_part (Err Refused) e f g h = moved p.NestedValue (Err Refused) e f g (rule_is d r b ts rest p.NestedValue ∙ h)

  pub arguments_part : (blocks : Bool) (res : Result Args Fail) → k.production ≡ p.Arguments blocks → k.takes_do ≡ d → k.in_rescue ≡ r
      → GivesArgs (read_named table b (part (p.Arguments blocks) d r) ts) res rest → GivesPart k (read_named table b k ts) (of_args res) rest
  arguments_part blocks (Ok x) e f g h = moved (p.Arguments blocks) (Ok (reading.Args x)) e f g (shown_args x, h, refl)
  arguments_part blocks (Err NoMemory) e f g h = moved (p.Arguments blocks) (Err NoMemory) e f g tt
  arguments_part blocks (Err Refused) e f g h = moved (p.Arguments blocks) (Err Refused) e f g h

  pub command_part : (blocks : Bool) (res : Result Args Fail) → k.production ≡ p.CommandArguments blocks → k.takes_do ≡ d → k.in_rescue ≡ r
      → GivesArgs (read_named table b (part (p.CommandArguments blocks) d r) ts) res rest → GivesPart k (read_named table b k ts) (of_args res) rest
  command_part blocks (Ok x) e f g h = moved (p.CommandArguments blocks) (Ok (reading.Args x)) e f g (shown_args x, h, refl)
  command_part blocks (Err NoMemory) e f g h = moved (p.CommandArguments blocks) (Err NoMemory) e f g tt
  command_part blocks (Err Refused) e f g h = moved (p.CommandArguments blocks) (Err Refused) e f g h

  pub pairs_part : (blocks : Bool) (res : Result Args Fail) → k.production ≡ p.MorePairs blocks → k.takes_do ≡ d → k.in_rescue ≡ r
      → GivesArgs (read_named table b (part (p.MorePairs blocks) d r) ts) res rest → GivesPart k (read_named table b k ts) (of_args res) rest
  pairs_part blocks (Ok x) e f g h = moved (p.MorePairs blocks) (Ok (reading.Args x)) e f g (shown_args x, h, refl)
  pairs_part blocks (Err NoMemory) e f g h = moved (p.MorePairs blocks) (Err NoMemory) e f g tt
  pairs_part blocks (Err Refused) e f g h = moved (p.MorePairs blocks) (Err Refused) e f g h

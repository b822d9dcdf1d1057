-- From what names give to what the parser's functions give.
use Rattle.std.proofs.Common.{◌≡◌, ℕ, true, ◌+◌, ◌-◌, ◌<◌, ◌≤◌, arith, Bool, List, Result, Ok, Err, refl, sym, ap, ◌∙◌, subst}
use Rattle.grammar.specs.Readers.{read_named}
use Rattle.ruby_meaning.specs.declared.production.Production.{Production}
use Rattle.ruby_meaning.specs.declared.production.Production.TheVariants as p
use Rattle.ruby_meaning.specs.declared.tree.Node.{Node}
use Rattle.ruby_meaning.specs.Grammar.Names.{part}
use Rattle.ruby_meaning.specs.Grammar.Seen.{Seen}
use Rattle.ruby_meaning.specs.Grammar.Table.{table}
use Rattle.descent.specs.declared.fail.Fail.{Fail}
use Rattle.descent.specs.declared.fail.Fail.TheVariants.{NoMemory, Refused}
use Rattle.ruby_reading.specs.declared.names.Tree.{Tree}
use Rattle.ruby_reading.specs.declared.names.Tree.TheVariants as tree
use Rattle.ruby_reading.specs.declared.value.Reading.{Reading}
use Rattle.ruby_reading.specs.declared.value.Reading.TheVariants as reading
use Rattle.ruby_reading.specs.Ahead.{GivesNode}
use Rattle.ruby_reading.specs.Named.{GivesPart, Nests, is_read, Pre, Post, production_of, read_tree}

module _ (d r : Bool) (b : ℕ) (ts rest : List Seen) where
  tree_ok : (t : Tree) (n : Node) → GivesPart (part (production_of t) d r) (read_named table b (part (production_of t) d r) ts) (Ok (reading.Tree n)) rest → read_tree t d r b ts ≡ Ok (n, rest)
  tree_ok tree.Statement n h = h.1 ∙ ap (λ x. Ok (x, rest)) h.2
  tree_ok tree.Expression n h = h.1 ∙ ap (λ x. Ok (x, rest)) h.2
  tree_ok tree.NotExpression n h = h.1 ∙ ap (λ x. Ok (x, rest)) h.2
  tree_ok tree.RightSide n h = h.1 ∙ ap (λ x. Ok (x, rest)) h.2
  tree_ok tree.Argument n h = h.1 ∙ ap (λ x. Ok (x, rest)) h.2
  tree_ok tree.Ternary n h = h.1 ∙ ap (λ x. Ok (x, rest)) h.2
  tree_ok tree.RangeOperand n h = h.1 ∙ ap (λ x. Ok (x, rest)) h.2
  tree_ok tree.OrOperand n h = h.1 ∙ ap (λ x. Ok (x, rest)) h.2
  tree_ok tree.AndOperand n h = h.1 ∙ ap (λ x. Ok (x, rest)) h.2
  tree_ok tree.EqualityOperand n h = h.1 ∙ ap (λ x. Ok (x, rest)) h.2
  tree_ok tree.ComparisonOperand n h = h.1 ∙ ap (λ x. Ok (x, rest)) h.2
  tree_ok tree.ShiftOperand n h = h.1 ∙ ap (λ x. Ok (x, rest)) h.2
  tree_ok tree.SumOperand n h = h.1 ∙ ap (λ x. Ok (x, rest)) h.2
  tree_ok tree.ProductOperand n h = h.1 ∙ ap (λ x. Ok (x, rest)) h.2
  tree_ok tree.PowerOperand n h = h.1 ∙ ap (λ x. Ok (x, rest)) h.2
  tree_ok tree.NotOperand n h = h.1 ∙ ap (λ x. Ok (x, rest)) h.2

  tree_err : (t : Tree) → GivesPart (part (production_of t) d r) (read_named table b (part (production_of t) d r) ts) (Err Refused) rest → read_tree t d r b ts ≡ Err rest
  tree_err tree.Statement h = h
  tree_err tree.Expression h = h
  tree_err tree.NotExpression h = h
  tree_err tree.RightSide h = h
  tree_err tree.Argument h = h
  tree_err tree.Ternary h = h
  tree_err tree.RangeOperand h = h
  tree_err tree.OrOperand h = h
  tree_err tree.AndOperand h = h
  tree_err tree.EqualityOperand h = h
  tree_err tree.ComparisonOperand h = h
  tree_err tree.ShiftOperand h = h
  tree_err tree.SumOperand h = h
  tree_err tree.ProductOperand h = h
  tree_err tree.PowerOperand h = h
  tree_err tree.NotOperand h = h

  pub tree_read : (t : Tree) (q : Production) (n : Node) → q ≡ production_of t → GivesPart (part q d r) (read_named table b (part q d r) ts) (Ok (reading.Tree n)) rest → read_tree t d r b ts ≡ Ok (n, rest)
  tree_read t q n e h = tree_ok t n (subst (λ k. GivesPart (part k d r) (read_named table b (part k d r) ts) (Ok (reading.Tree n)) rest) e h)

  pub tree_refused : (t : Tree) (q : Production) → q ≡ production_of t → GivesPart (part q d r) (read_named table b (part q d r) ts) (Err Refused) rest → read_tree t d r b ts ≡ Err rest
  tree_refused t q e h = tree_err t (subst (λ k. GivesPart (part k d r) (read_named table b (part k d r) ts) (Err Refused) rest) e h)

  pub tree_failed : (t : Tree) (q : Production) (f : Fail) → q ≡ production_of t → GivesPart (part q d r) (read_named table b (part q d r) ts) (Err f) rest → GivesNode (read_tree t d r b ts) (Err f) rest
  tree_failed t q NoMemory e h = tt
  tree_failed t q Refused e h = tree_refused t q e h

pub nests_below : (d : ℕ) (pre : Pre) (post : Post) → 0 < d → Nests d pre post → Nests (d - 1) pre post
nests_below d pre post h n = record {
  small = omega (arith, n.small);
  callable = λ alloc old k levels le is. n.callable alloc old k levels (omega (arith, le)) is;
  callable_here = λ alloc old takes rescue. n.callable alloc old (part p.Statements takes rescue) (d - 1 + 1) (omega (arith, h)) refl;
  reads = n.reads;
}

pub tree_is_read : (t : Tree) (q : Production) → q ≡ production_of t → is_read q ≡ true
tree_is_read t q e = ap is_read e ∙ by t
  where
    by : (t : Tree) → is_read (production_of t) ≡ true
    by tree.Statement = refl
    by tree.Expression = refl
    by tree.NotExpression = refl
    by tree.RightSide = refl
    by tree.Argument = refl
    by tree.Ternary = refl
    by tree.RangeOperand = refl
    by tree.OrOperand = refl
    by tree.AndOperand = refl
    by tree.EqualityOperand = refl
    by tree.ComparisonOperand = refl
    by tree.ShiftOperand = refl
    by tree.SumOperand = refl
    by tree.ProductOperand = refl
    by tree.PowerOperand = refl
    by tree.NotOperand = refl

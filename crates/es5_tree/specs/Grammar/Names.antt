-- The names of productions, and what each gives.
use Rattle.std.specs.Prelude.{ℕ, Bool, List}
use Rattle.grammar.specs.Rules.{Sort, leaf, tree, marked, pair, list, Rule}
use Rattle.es5_tree.specs.declared.terminal.Level.{Level}
use Rattle.es5_tree.specs.declared.token.EsToken.{EsToken}
use Rattle.es5_tree.specs.Grammar.Nodes.{Node}

pub data Name : Type 0 where
  script : Name
  -- in a function or outside, and in a loop of that function or outside
  statement : Bool → Bool → Name
  expr : Level → Name
  -- items of an array behind an item
  items : Name
  -- pairs of an object behind those with these keys
  pairs : List (List ℕ) → Name
  -- parameters behind those of these names
  params : List (List ℕ) → Name

abbrev pub sorts : Name → Sort
sorts script = list tree
sorts (statement in_function in_loop) = marked tree
sorts (expr level) = tree
sorts items = list tree
sorts (pairs seen) = list (pair leaf tree)
sorts (params seen) = list leaf

abbrev pub R : Sort → Type 0
R = Rule EsToken Node Name sorts

-- an expression with its first token
abbrev pub expr_sort : Sort
expr_sort = pair leaf tree

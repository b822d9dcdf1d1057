-- What a parser's function for names does.
use Rattle.std.specs.Prelude.{◌≡◌, ℕ, suc, ◌+◌, ◌-◌, ◌^◌, ◌<◌, ◌≤◌, Bool, true, false, List, Result, Ok, Err}
use Rattle.std.specs.declared.alloc.Global.{Global}
use denote.Ref.{MutBor}
use Rattle.grammar.specs.Rules.{El, Sort, leaf, tree, marked}
use Rattle.grammar.specs.Checks.{first}
use Rattle.grammar.specs.FormReaders.{read_many_from, read_view}
use Rattle.grammar.specs.Readers.{read_named, read_rule}
use Rattle.ruby_meaning.specs.declared.production.Part.{Part}
use Rattle.ruby_meaning.specs.declared.production.Production.{Production}
use Rattle.ruby_meaning.specs.declared.production.Production.TheVariants as p
use Rattle.ruby_meaning.specs.declared.tree.Node.{Node}
use Rattle.ruby_meaning.specs.Grammar.Actions as act
use Rattle.ruby_meaning.specs.Grammar.Names.{R, sorts, part}
use Rattle.ruby_meaning.specs.Grammar.Seen.{Seen}
use Rattle.ruby_meaning.specs.Grammar.Table.{table}
use Rattle.ruby_reading.specs.declared.cursor.Cursor.{Cursor}
use Rattle.descent.specs.declared.fail.Fail.{Fail}
use Rattle.descent.specs.declared.fail.Fail.TheVariants.{NoMemory, Refused}
use Rattle.ruby_reading.specs.declared.names.Tree.{Tree}
use Rattle.ruby_reading.specs.declared.names.Tree.TheVariants as of_tree
use Rattle.ruby_reading.specs.declared.value.Value.{Value}
use Rattle.ruby_reading.specs.declared.value.Body.{Body}
use Rattle.ruby_reading.specs.declared.args.Args.{Args}
use Rattle.ruby_reading.specs.declared.value.Reading.{Reading}
use Rattle.ruby_reading.specs.declared.cursor.Sight.{Sight}
use Rattle.descent.specs.Gives.{Gives}
use Rattle.ruby_reading.specs.Ahead.{ahead, GivesNode, GivesToken}
use Rattle.ruby_reading.specs.Shown.{Shows, shown_value, shown_body, shown_args}

abbrev pub GivesValue : Result ((Node × ℕ) × List Seen) (List Seen) → Result Value Fail → List Seen → Type 0
GivesValue = Gives shown_value

abbrev pub GivesBody : Result ((Node × ℕ) × List Seen) (List Seen) → Result Body Fail → List Seen → Type 0
GivesBody = Gives shown_body

abbrev pub GivesArgs : Result (act.Args × List Seen) (List Seen) → Result Args Fail → List Seen → Type 0
GivesArgs = Gives shown_args

-- It makes the value, unless no memory is found.
abbrev pub MakesValue : Node × ℕ → Result Value Fail → Type 0
MakesValue value (Ok v) = shown_value v ≡ value
MakesValue value (Err f) = f ≡ NoMemory

-- A function for a rule reads it with so many levels.
abbrev pub ReadsValue : R (marked tree) → ℕ → Cursor → Result Value Fail → Cursor → Type 0
ReadsValue rule levels old result new = GivesValue (read_rule table (read_named table) rule levels (ahead old)) result (ahead new)

abbrev pub ReadsBody : R (marked tree) → ℕ → Cursor → Result Body Fail → Cursor → Type 0
ReadsBody rule levels old result new = GivesBody (read_rule table (read_named table) rule levels (ahead old)) result (ahead new)

abbrev pub ReadsNode : R tree → ℕ → Cursor → Result Node Fail → Cursor → Type 0
ReadsNode rule levels old result new = GivesNode (read_rule table (read_named table) rule levels (ahead old)) result (ahead new)

abbrev pub ReadsToken : R leaf → ℕ → Cursor → Result Sight Fail → Cursor → Type 0
ReadsToken rule levels old result new = GivesToken (read_rule table (read_named table) rule levels (ahead old)) result (ahead new)

-- The value is shown as the grammar has it.
abbrev pub Reads : {s : Sort} {B : Type 0} → (B → El Seen Node s) → R s → ℕ → Cursor → Result B Fail → Cursor → Type 0
Reads shown rule levels old result new = Gives shown (read_rule table (read_named table) rule levels (ahead old)) result (ahead new)

-- the rest of a list of such parts, behind those found
abbrev pub many_from : {s : Sort} → R s → ℕ → ℕ → List (El Seen Node s) → List Seen → Result (List (El Seen Node s) × List Seen) (List Seen)
many_from rule levels n found ts = read_many_from (λ t. first table rule (table.code t)) (read_rule table (read_named table) rule levels) n found ts

abbrev pub GivesPart : (k : Part) → Result (El Seen Node (sorts k) × List Seen) (List Seen) → Result Reading Fail → List Seen → Type 0
GivesPart k outcome (Ok r) rest = (x : El Seen Node (sorts k)) × (outcome ≡ Ok (x, rest)) × Shows k.production x r
GivesPart k outcome (Err NoMemory) rest = Unit {0}
GivesPart k outcome (Err Refused) rest = outcome ≡ Err rest

abbrev pub Pre : Type 1
Pre = Global → MutBor Cursor → Part → ℕ → Type 0

abbrev pub Post : Type 1
Post = Global → MutBor Cursor → Part → ℕ → Result Reading Fail → MutBor Cursor → Type 0

-- Parameters and targets are read in a loop.
abbrev pub is_read : Production → Bool
is_read (p.MoreTargets starred) = false
is_read (p.Parameters stage brackets) = false
is_read k = true

-- A function that reads each name with so many levels at most, and statements with one more.
pub record Nests (depth : ℕ) (pre : Pre) (post : Post) : Type 0 where
  pub small : depth + 1 < 2 ^ 32 - 1
  pub callable : (alloc : Global) (old : MutBor Cursor) (k : Part) (levels : ℕ) → levels ≤ depth → is_read k.production ≡ true → pre alloc old k levels
  pub callable_here : (alloc : Global) (old : MutBor Cursor) (d r : Bool) → pre alloc old (part p.Statements d r) (depth + 1)
  pub reads : (alloc : Global) (old new : MutBor Cursor) (k : Part) (levels : ℕ) (r : Result Reading Fail) → post alloc old k levels r new
      → GivesPart k (read_named table levels k (ahead old.now)) r (ahead new.now)

-- The same of names one level below or deeper alone.
pub record NestsBelow (depth : ℕ) (pre : Pre) (post : Post) : Type 0 where
  pub callable : (alloc : Global) (old : MutBor Cursor) (k : Part) (levels : ℕ) → levels ≤ depth → is_read k.production ≡ true → pre alloc old k levels
  pub reads : (alloc : Global) (old new : MutBor Cursor) (k : Part) (levels : ℕ) (r : Result Reading Fail) → post alloc old k levels r new
      → GivesPart k (read_named table levels k (ahead old.now)) r (ahead new.now)

abbrev pub production_of : Tree → Production
production_of of_tree.Statement = p.Statement
production_of of_tree.Expression = p.Expression
production_of of_tree.NotExpression = p.NotExpression
production_of of_tree.RightSide = p.RightSide
production_of of_tree.Argument = p.Argument
production_of of_tree.Ternary = p.Ternary
production_of of_tree.RangeOperand = p.RangeOperand
production_of of_tree.OrOperand = p.OrOperand
production_of of_tree.AndOperand = p.AndOperand
production_of of_tree.EqualityOperand = p.EqualityOperand
production_of of_tree.ComparisonOperand = p.ComparisonOperand
production_of of_tree.ShiftOperand = p.ShiftOperand
production_of of_tree.SumOperand = p.SumOperand
production_of of_tree.ProductOperand = p.ProductOperand
production_of of_tree.PowerOperand = p.PowerOperand
production_of of_tree.NotOperand = p.NotOperand

abbrev pub read_tree : Tree → Bool → Bool → ℕ → List Seen → Result (Node × List Seen) (List Seen)
read_tree of_tree.Statement d r b ts = read_named table b (part p.Statement d r) ts
read_tree of_tree.Expression d r b ts = read_named table b (part p.Expression d r) ts
read_tree of_tree.NotExpression d r b ts = read_named table b (part p.NotExpression d r) ts
read_tree of_tree.RightSide d r b ts = read_named table b (part p.RightSide d r) ts
read_tree of_tree.Argument d r b ts = read_named table b (part p.Argument d r) ts
read_tree of_tree.Ternary d r b ts = read_named table b (part p.Ternary d r) ts
read_tree of_tree.RangeOperand d r b ts = read_named table b (part p.RangeOperand d r) ts
read_tree of_tree.OrOperand d r b ts = read_named table b (part p.OrOperand d r) ts
read_tree of_tree.AndOperand d r b ts = read_named table b (part p.AndOperand d r) ts
read_tree of_tree.EqualityOperand d r b ts = read_named table b (part p.EqualityOperand d r) ts
read_tree of_tree.ComparisonOperand d r b ts = read_named table b (part p.ComparisonOperand d r) ts
read_tree of_tree.ShiftOperand d r b ts = read_named table b (part p.ShiftOperand d r) ts
read_tree of_tree.SumOperand d r b ts = read_named table b (part p.SumOperand d r) ts
read_tree of_tree.ProductOperand d r b ts = read_named table b (part p.ProductOperand d r) ts
read_tree of_tree.PowerOperand d r b ts = read_named table b (part p.PowerOperand d r) ts
read_tree of_tree.NotOperand d r b ts = read_named table b (part p.NotOperand d r) ts

-- as a value that nothing tells of
abbrev pub read_plain : Tree → Bool → Bool → ℕ → List Seen → Result ((Node × ℕ) × List Seen) (List Seen)
read_plain t d r b ts = read_view {B = Node × ℕ} (λ n. (n, act.other)) (read_tree t d r b) ts

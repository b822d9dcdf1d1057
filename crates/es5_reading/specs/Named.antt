-- What a parser's function for the parts does that hold one another.
use Rattle.std.specs.Prelude.{◌≡◌, ℕ, Bool, true, false, List, [], ◌∷◌, map, Option, None, Result, Ok, Err}
use Rattle.std.specs.Option.{option_map}
use Rattle.std.specs.declared.alloc.Global.{Global}
use denote.Ref.{MutBor}
use Rattle.grammar.specs.Readers.{read_named}
use Rattle.es5_tree.specs.declared.token.EsToken.{EsToken}
use Rattle.es5_tree.specs.declared.tree.EsExpr.{EsExpr}
use Rattle.es5_tree.specs.declared.tree.EsStmt.{EsStmt}
use Rattle.es5_tree.specs.Grammar.Nodes.{Node, statement, expression, by_name, by_key, by_arguments}
use Rattle.es5_tree.specs.Grammar.Names as name
use Rattle.es5_tree.specs.Grammar.Table.{table}
use Rattle.es5_reading.specs.declared.tokens.Tokens.{Tokens}
use Rattle.descent.specs.declared.fail.Fail.{Fail}
use Rattle.descent.specs.declared.fail.Fail.TheVariants.{NoMemory, Refused}
use Rattle.es5_reading.specs.declared.parts.Part.{Part}
use Rattle.es5_reading.specs.declared.parts.Part.TheVariants as part
use Rattle.es5_reading.specs.declared.parts.Statement.{Statement}
use Rattle.es5_reading.specs.declared.parts.Operand.{Operand}
use Rattle.es5_reading.specs.declared.parts.Access.{Access}
use Rattle.es5_reading.specs.declared.parts.Access.TheVariants as access
use Rattle.es5_reading.specs.declared.parts.Branch.{Branch}
use Rattle.es5_reading.specs.declared.parts.Caught.{Caught}
use Rattle.es5_reading.specs.declared.parts.Choices.{Choices}
use Rattle.es5_reading.specs.declared.parts.Handlers.{Handlers}
use Rattle.es5_reading.specs.declared.parts.Reading.{Reading}
use Rattle.es5_reading.specs.declared.parts.Reading.TheVariants as reading
use Rattle.descent.specs.Gives.{Gives}
use Rattle.es5_reading.specs.Gives.{ahead}

abbrev pub else_code : Bool → ℕ
else_code true = 1
else_code false = 0

abbrev pub shown_stmt : Statement → Node × ℕ
shown_stmt s = (statement s.stmt, else_code s.takes_else)

abbrev pub shown_operand : Operand → EsToken × Node
shown_operand x = (x.first.now, expression x.expr)

abbrev pub shown_choices : Choices → Node × Node
shown_choices x = (expression x.first, expression x.second)

abbrev pub GivesChoices : Result ((Node × Node) × List EsToken) (List EsToken) → Result Choices Fail → List EsToken → Type 0
GivesChoices = Gives shown_choices

abbrev pub shown_access : Access → (EsToken × List Node) × ℕ
shown_access (access.Member t) = ((t.now, []), by_name)
shown_access (access.Index t key) = ((t.now, expression key ∷ []), by_key)
shown_access (access.Call t args) = ((t.now, map expression args), by_arguments)

abbrev pub GivesAccess : Result (((EsToken × List Node) × ℕ) × List EsToken) (List EsToken) → Result Access Fail → List EsToken → Type 0
GivesAccess = Gives shown_access

abbrev pub shown_caught : Caught → EsToken × List Node
shown_caught x = (x.name.now, map statement x.body)

abbrev pub GivesCaught : Result ((EsToken × List Node) × List EsToken) (List EsToken) → Result Caught Fail → List EsToken → Type 0
GivesCaught = Gives shown_caught

abbrev pub shown_handlers : Handlers → Option (EsToken × List Node) × Option (List Node)
shown_handlers x = (option_map shown_caught x.catch, option_map (map statement) x.finally)

abbrev pub GivesHandlers : Result ((Option (EsToken × List Node) × Option (List Node)) × List EsToken) (List EsToken) → Result Handlers Fail → List EsToken → Type 0
GivesHandlers = Gives shown_handlers

abbrev pub GivesStmtAlone : Result (Node × List EsToken) (List EsToken) → Result EsStmt Fail → List EsToken → Type 0
GivesStmtAlone = Gives statement

abbrev pub GivesStmts : Result (List Node × List EsToken) (List EsToken) → Result (List EsStmt) Fail → List EsToken → Type 0
GivesStmts = Gives (map statement)

abbrev pub shown_branch : Branch → (Node × (Node × ℕ)) × Option (Node × ℕ)
shown_branch x = ((expression x.test, shown_stmt x.first), None)

abbrev pub GivesBranch : Result (((Node × (Node × ℕ)) × Option (Node × ℕ)) × List EsToken) (List EsToken) → Result Branch Fail → List EsToken → Type 0
GivesBranch = Gives shown_branch

abbrev pub GivesExpr : Result (Node × List EsToken) (List EsToken) → Result EsExpr Fail → List EsToken → Type 0
GivesExpr = Gives expression

abbrev pub GivesExprs : Result (List Node × List EsToken) (List EsToken) → Result (List EsExpr) Fail → List EsToken → Type 0
GivesExprs = Gives (map expression)

abbrev pub GivesOptional : Result (Option Node × List EsToken) (List EsToken) → Result (Option EsExpr) Fail → List EsToken → Type 0
GivesOptional = Gives (option_map expression)

abbrev pub GivesStmt : Result ((Node × ℕ) × List EsToken) (List EsToken) → Result Statement Fail → List EsToken → Type 0
GivesStmt = Gives shown_stmt

abbrev pub GivesOperand : Result ((EsToken × Node) × List EsToken) (List EsToken) → Result Operand Fail → List EsToken → Type 0
GivesOperand = Gives shown_operand

abbrev pub GivesPart : Part → ℕ → List EsToken → Result Reading Fail → List EsToken → Type 0
GivesPart (part.Expr level) b ts (Ok (reading.Expr e)) rest = read_named table b (name.expr level) ts ≡ Ok (expression e, rest)
GivesPart (part.Expr level) b ts (Ok (reading.Stmt s)) rest = ⊥
GivesPart (part.Expr level) b ts (Err NoMemory) rest = Unit {0}
GivesPart (part.Expr level) b ts (Err Refused) rest = read_named table b (name.expr level) ts ≡ Err rest
GivesPart (part.Stmt f l) b ts (Ok (reading.Stmt s)) rest = read_named table b (name.statement f l) ts ≡ Ok (shown_stmt s, rest)
GivesPart (part.Stmt f l) b ts (Ok (reading.Expr e)) rest = ⊥
GivesPart (part.Stmt f l) b ts (Err NoMemory) rest = Unit {0}
GivesPart (part.Stmt f l) b ts (Err Refused) rest = read_named table b (name.statement f l) ts ≡ Err rest

-- A function that reads each part with so many levels.
pub record Nests (depth : ℕ) (pre : Global → MutBor Tokens → Part → ℕ → Type 0) (post : Global → MutBor Tokens → Part → ℕ → Result Reading Fail → MutBor Tokens → Type 0) : Type 0 where
  pub callable : (alloc : Global) (old : MutBor Tokens) (k : Part) → pre alloc old k depth
  pub reads : (alloc : Global) (old new : MutBor Tokens) (k : Part) (r : Result Reading Fail) → post alloc old k depth r new → GivesPart k depth (ahead old.now) r (ahead new.now)

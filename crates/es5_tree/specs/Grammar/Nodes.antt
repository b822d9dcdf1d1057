-- The statements and expressions that the productions spell, with their places.
use Rattle.std.specs.Prelude.{ℕ, zero, suc, ◌-◌, Bool, true, false, not, ◌&&◌, nat_eq, List, [], ◌∷◌, map, Option, Some, None, codes, bytes_eq}
use Rattle.std.specs.Option.{option_map}
use Rattle.opal_base.specs.declared.place.Pos.{Pos}
use Rattle.es5_tree.specs.declared.terminal.Keyword.TheVariants as keyword
use Rattle.es5_tree.specs.declared.terminal.Terminal.{Terminal}
use Rattle.es5_tree.specs.declared.terminal.Terminal.TheVariants as terminal
use Rattle.es5_tree.specs.declared.token.EsMark.{EsMark}
use Rattle.es5_tree.specs.declared.token.EsMark.TheVariants as mark
use Rattle.es5_tree.specs.declared.token.EsToken.{EsToken}
use Rattle.es5_tree.specs.declared.token.EsTokenKind.{EsTokenKind}
use Rattle.es5_tree.specs.declared.token.EsTokenKind.TheVariants as token
use Rattle.es5_tree.specs.declared.tree.Catch.{Catch, roll-Catch}
use Rattle.es5_tree.specs.declared.tree.EsExpr.{EsExpr}
use Rattle.es5_tree.specs.declared.tree.EsKind.{EsKind, out-EsKind}
use Rattle.es5_tree.specs.declared.tree.EsKind.TheOpen.{EsKind-F}
use Rattle.es5_tree.specs.declared.tree.EsKind.TheVariants as kind
use Rattle.es5_tree.specs.declared.tree.EsStmt.{EsStmt}
use Rattle.es5_tree.specs.declared.tree.EsStmt.TheVariants as stmt
use Rattle.es5_tree.specs.declared.tree.Operator.{Operator}
use Rattle.es5_tree.specs.declared.tree.Operator.TheVariants as operator
use Rattle.es5_tree.specs.Depth.{expr_depth, stmt_depth}
use Rattle.es5_tree.specs.Grammar.Terminals.{terminal_of_word}

pub data Node : Type 0 where
  statement : EsStmt → Node
  expression : EsExpr → Node

abbrev pub depth : Node → ℕ
depth (statement s) = stmt_depth s
depth (expression e) = expr_depth e

-- ---- expressions

abbrev pub place : EsToken → Pos
place t = t.pos

-- an expression that no site has made
abbrev pub expr_at : Pos → EsKind → EsExpr
expr_at at form = record { kind = form; origin = None; pos = at }

abbrev pub made : EsToken → EsKind → Node
made t form = expression (expr_at (place t) form)

-- The rules' functions are total: a statement where only expressions stand, which no production spells, is taken for an
-- expression as deep, and the other way round.
abbrev pub nots : ℕ → EsExpr
nots zero = expr_at (record { line = 0; col = 0 }) kind.This
nots (suc n) = expr_at (record { line = 0; col = 0 }) (kind.Not (nots n))

abbrev pub blocks : ℕ → EsStmt
blocks zero = stmt.Empty
blocks (suc n) = stmt.Block (blocks n ∷ [])

unfoldable pub expr_of : Node → EsExpr
expr_of (expression e) = e
expr_of (statement s) = nots (stmt_depth s - 1)

unfoldable pub stmt_of : Node → EsStmt
stmt_of (statement s) = s
stmt_of (expression e) = blocks (expr_depth e - 1)

abbrev pub exprs : List Node → List EsExpr
exprs ns = map expr_of ns

abbrev pub stmts : List Node → List EsStmt
stmts ns = map stmt_of ns

abbrev pub expr_if : Option Node → Option EsExpr
expr_if o = option_map expr_of o

-- ---- what tokens carry

abbrev pub name_in : EsTokenKind → List ℕ
name_in (token.Word name) = name
name_in _ = []

abbrev pub name_of : EsToken → List ℕ
name_of t = name_in t.kind

abbrev pub names_of : List EsToken → List (List ℕ)
names_of ts = map name_of ts

-- the name isn't one of those
abbrev pub is_new : List (List ℕ) → EsToken → Bool
is_new [] t = true
is_new (name ∷ names) t = not (bytes_eq name (name_of t)) && is_new names t

-- ---- primary expressions (11.1)

abbrev pub word_kind : Terminal → List ℕ → EsKind
word_kind (terminal.Keyword keyword.This) name = kind.This
word_kind (terminal.Keyword keyword.Null) name = kind.Null
word_kind (terminal.Keyword keyword.True) name = kind.True
word_kind (terminal.Keyword keyword.False) name = kind.False
word_kind _ name = kind.Name name

-- an expression of one token
unfoldable pub token_kind : EsTokenKind → EsKind
token_kind (token.Word name) = word_kind (terminal_of_word name) name
token_kind (token.Num value) = kind.Num value
token_kind (token.Str text) = kind.Str text
token_kind _ = kind.Null

abbrev pub object : List (EsToken × Node) → EsKind
object pairs = kind.Object (map (λ p. name_of p.0) pairs) (map (λ p. expr_of p.1) pairs)

abbrev pub function : Option EsToken → List EsToken → List Node → EsKind
function name params body = kind.Function (option_map name_of name) (names_of params) (stmts body)

-- ---- members, indices and calls (11.2)

abbrev pub is_member_form : EsKind-F EsKind EsStmt Catch EsExpr → Bool
is_member_form (EsKind-F.Member base name mark) = true
is_member_form (EsKind-F.Index base key mark) = true
is_member_form _ = false

-- it can stand before a `=`
abbrev pub is_target_form : EsKind-F EsKind EsStmt Catch EsExpr → Bool
is_target_form (EsKind-F.Name name) = not (bytes_eq (codes "arguments") name)
is_target_form form = is_member_form form

unfoldable pub is_member : Node → Bool
is_member n = is_member_form (out-EsKind (expr_of n).kind)

unfoldable pub is_target : Node → Bool
is_target n = is_target_form (out-EsKind (expr_of n).kind)

-- the part behind a value is a name, a key or arguments, by its number
abbrev pub by_name : ℕ
by_name = 0

abbrev pub by_key : ℕ
by_key = 1

abbrev pub by_arguments : ℕ
by_arguments = 2

unfoldable pub access : EsExpr → EsToken → List EsExpr → ℕ → EsKind
access e t [] zero = kind.Member e (name_of t) (place t)
access e t (key ∷ []) (suc zero) = kind.Index e key key.pos
access e t args _ = kind.Call e args

-- A value has its first token with it, which may be an opening bracket, at whose place a node over it stands.
abbrev pub accessed : EsToken × Node → (EsToken × List Node) × ℕ → EsToken × Node
accessed l x = (l.0, made l.0 (access (expr_of l.1) x.0.0 (exprs x.0.1) x.1))

-- ---- operators (11.4 to 11.13)

abbrev pub unary_kind : EsTokenKind → EsExpr → EsKind
unary_kind (token.Mark mark.Not) e = kind.Not e
unary_kind (token.Mark mark.Minus) e = kind.Neg e
unary_kind _ e = kind.Typeof e

abbrev pub operator_of_mark : EsMark → Operator
operator_of_mark mark.Same = operator.Same
operator_of_mark mark.Different = operator.Different
operator_of_mark mark.Less = operator.Less
operator_of_mark mark.Greater = operator.Greater
operator_of_mark mark.LessOrEqual = operator.LessOrEqual
operator_of_mark mark.GreaterOrEqual = operator.GreaterOrEqual
operator_of_mark mark.Plus = operator.Add
operator_of_mark mark.Minus = operator.Subtract
operator_of_mark mark.Times = operator.Multiply
operator_of_mark mark.Divide = operator.Divide
operator_of_mark _ = operator.Remainder

abbrev pub operator_of : EsTokenKind → Operator
operator_of (token.Mark m) = operator_of_mark m
operator_of _ = operator.Remainder

abbrev pub negated : EsToken × Node → EsToken × Node
negated x = (x.0, made x.0 (unary_kind x.0.kind (expr_of x.1)))

abbrev pub binary : EsToken × Node → EsToken × Node → EsToken × Node
binary l x = (l.0, made l.0 (kind.Binary (operator_of x.0.kind) (expr_of l.1) (expr_of x.1)))

abbrev pub conjunction : EsToken × Node → Node → EsToken × Node
conjunction l r = (l.0, made l.0 (kind.And (expr_of l.1) (expr_of r)))

abbrev pub disjunction : EsToken × Node → Node → EsToken × Node
disjunction l r = (l.0, made l.0 (kind.Or (expr_of l.1) (expr_of r)))

abbrev pub conditional : EsToken × Node → Node × Node → EsToken × Node
conditional l x = (l.0, made l.0 (kind.Cond (expr_of l.1) (expr_of x.0) (expr_of x.1)))

abbrev pub assigned : EsToken × Node → Node → EsToken × Node
assigned l r = (l.0, made l.0 (kind.Assign (expr_of l.1) (expr_of r)))

-- ---- statements, with 1 where an `else` may go on with it

abbrev pub closed : EsStmt → Node × ℕ
closed s = (statement s, 0)

-- the `if` takes an `else`, since the statement in it takes none and there is none yet
abbrev pub takes_else : (Node × (Node × ℕ)) × Option (Node × ℕ) → Bool
takes_else (x, Some y) = false
takes_else (x, None) = nat_eq 0 (x.1.1)

abbrev pub branched : (Node × (Node × ℕ)) × Option (Node × ℕ) → Node × ℕ
branched (x, None) = (statement (stmt.If (expr_of x.0) (stmt_of (x.1.0)) None), 1)
branched (x, Some y) = (statement (stmt.If (expr_of x.0) (stmt_of (x.1.0)) (Some (stmt_of y.0))), y.1)

abbrev pub looped : Node × (Node × ℕ) → Node × ℕ
looped x = (statement (stmt.While (expr_of x.0) (stmt_of (x.1.0))), x.1.1)

abbrev pub caught : EsToken × List Node → Catch
caught x = roll-Catch (record { name = name_of x.0; body = stmts x.1 })

abbrev pub tried : List Node × (Option (EsToken × List Node) × Option (List Node)) → EsStmt
tried x = stmt.Try (stmts x.0) (option_map caught (x.1.0)) (option_map stmts (x.1.1))

-- An expression from its first operand on, and the brackets around its beginning.
use Rattle.std.specs.Prelude.{ℕ, suc, Bool, true, false, List, [], ◌∷◌, length, Result, Ok, if◌then◌else◌}
use Rattle.descent.specs.declared.fail.Fail.{Fail}
use Rattle.descent.specs.Gives.{Gives}
use Rattle.grammar.specs.CommonRules.{◌or◌}
use Rattle.grammar.specs.FormReaders.{and_then, next_in, read_token}
use Rattle.grammar.specs.Readers.{read_named, read_rule}
use Rattle.grammar.specs.Rules.{choice}
use Rattle.grammar.specs.Spelling.{token_in}
use Rattle.es5_tree.specs.declared.terminal.Keyword.TheVariants as keyword
use Rattle.es5_tree.specs.declared.terminal.Level.{Level}
use Rattle.es5_tree.specs.declared.terminal.Level.TheVariants as level
use Rattle.es5_tree.specs.declared.token.EsMark.TheVariants as mark
use Rattle.es5_tree.specs.declared.token.EsToken.{EsToken}
use Rattle.es5_tree.specs.Grammar.Expressions as g
use Rattle.es5_tree.specs.Grammar.Names.{R, expr_sort}
use Rattle.es5_tree.specs.Grammar.Nodes.{Node}
use Rattle.es5_tree.specs.Grammar.Table.{table}
use Rattle.es5_tree.specs.Grammar.Terminals.{op, key, token_code}
use Rattle.es5_reading.specs.Loops.{Outcome, accesses, binaries, logicals, conditional_behind, assigned_behind}
use Rattle.es5_reading.specs.Named.{shown_operand}
use Rattle.es5_reading.specs.declared.parts.Binary.TheVariants as of_two
use Rattle.es5_reading.specs.declared.parts.Logical.TheVariants as logical
use Rattle.es5_parser.specs.declared.levels.Start.{Start}

-- ---- the levels, from the tightest on

-- an operand, and whether a member, an index or a call can stand behind it
abbrev pub Begun : Type 0
Begun = (EsToken × Node) × Bool

unfoldable pub behind_unary : ℕ → Begun → List EsToken → Outcome (EsToken × Node)
behind_unary b (x, true) ts = accesses (length ts) b x ts
behind_unary b (x, false) ts = Ok (x, ts)

unfoldable pub behind_product : ℕ → Begun → List EsToken → Outcome (EsToken × Node)
behind_product b s ts = and_then (behind_unary b s ts) (λ l rest. binaries of_two.Product (length rest) b l rest)

unfoldable pub behind_sum : ℕ → Begun → List EsToken → Outcome (EsToken × Node)
behind_sum b s ts = and_then (behind_product b s ts) (λ l rest. binaries of_two.Sum (length rest) b l rest)

unfoldable pub behind_relation : ℕ → Begun → List EsToken → Outcome (EsToken × Node)
behind_relation b s ts = and_then (behind_sum b s ts) (λ l rest. binaries of_two.Relation (length rest) b l rest)

unfoldable pub behind_equality : ℕ → Begun → List EsToken → Outcome (EsToken × Node)
behind_equality b s ts = and_then (behind_relation b s ts) (λ l rest. binaries of_two.Equality (length rest) b l rest)

unfoldable pub behind_and : ℕ → Begun → List EsToken → Outcome (EsToken × Node)
behind_and b s ts = and_then (behind_equality b s ts) (λ l rest. logicals logical.And (length rest) b l rest)

unfoldable pub behind_or : ℕ → Begun → List EsToken → Outcome (EsToken × Node)
behind_or b s ts = and_then (behind_and b s ts) (λ l rest. logicals logical.Or (length rest) b l rest)

unfoldable pub behind_test : ℕ → Begun → List EsToken → Outcome (EsToken × Node)
behind_test b s ts = and_then (behind_or b s ts) (λ l rest. conditional_behind b l rest)

unfoldable pub behind_target : ℕ → Begun → List EsToken → Outcome (EsToken × Node)
behind_target b s ts = and_then (behind_test b s ts) (λ l rest. assigned_behind b l rest)

abbrev pub behind : Level → ℕ → Begun → List EsToken → Outcome (EsToken × Node)
behind level.Assignment = behind_target
behind level.And = behind_and
behind level.Equality = behind_equality
behind level.Relational = behind_relation
behind level.Additive = behind_sum
behind level.Multiplicative = behind_product
behind level.Unary = behind_unary
behind level.Call = behind_unary

-- ---- the first operand

abbrev pub begun : Bool → Outcome (EsToken × Node) → Outcome Begun
begun plain o = and_then o (λ x r. Ok ((x, plain), r))

-- a primary expression without brackets around it
abbrev pub unbracketed : R expr_sort
unbracketed = choice g.simple (choice g.array (choice g.object_literal g.function_expression))

abbrev pub is_operation : EsToken → Bool
is_operation t = (op mark.Not or op mark.Minus or key keyword.Typeof) (token_code t)

abbrev pub is_deletion : EsToken → Bool
is_deletion t = key keyword.Delete (token_code t)

-- an operator and its value, or else a primary expression, which these rules read
abbrev pub first_operand : R expr_sort → ℕ → List EsToken → Outcome Begun
first_operand primary b ts =
    if next_in is_operation ts then begun false (read_rule table (read_named table) g.operation (suc b) ts)
    else (if next_in is_deletion ts then begun false (read_rule table (read_named table) g.deletion (suc b) ts)
    else begun true (read_rule table (read_named table) primary (suc b) ts))

abbrev pub first_of : R expr_sort → Level → ℕ → List EsToken → Outcome Begun
first_of primary level.Call b ts = begun true (read_rule table (read_named table) primary (suc b) ts)
first_of primary l b ts = first_operand primary b ts

-- ---- brackets

abbrev pub opens : EsToken → Bool
opens t = op mark.OpenParen (token_code t)

-- the openings that come next
abbrev pub openings_ahead : List EsToken → List EsToken
openings_ahead [] = []
openings_ahead (t ∷ ts) = if opens t then t ∷ openings_ahead ts else []

-- the rest of an expression and its closing bracket, behind an operand in the brackets that this token opens
unfoldable pub closed_once : ℕ → EsToken → Begun → List EsToken → Outcome Begun
closed_once b t s ts = and_then (behind_target b s ts) (λ l rest. and_then (read_token (token_in token_code (op mark.CloseParen)) rest) (λ c after. Ok (((t, l.1), true), after)))

-- the same behind an operand in the brackets that these open, the innermost first
unfoldable pub closed : ℕ → List EsToken → Begun → List EsToken → Outcome Begun
closed b [] s ts = Ok (s, ts)
closed b (t ∷ opened) s ts = and_then (closed_once b t s ts) (λ x after. closed b opened x after)

-- ---- what the parser's functions give

abbrev pub shown_start : Start → Begun
shown_start s = (shown_operand s.operand, s.plain)

abbrev pub GivesStart : Result (Begun × List EsToken) (List EsToken) → Result Start Fail → List EsToken → Type 0
GivesStart = Gives shown_start

-- With no level left an expression stops behind the opening brackets, and a statement at once.
use Rattle.std.proofs.Common.{◌≡◌, ℕ, Bool, true, false, List, [], ◌∷◌, Ok, Err, refl, ap, ◌∙◌}
use Rattle.std.specs.Prelude.{if◌then◌else◌}
use Rattle.descent.proofs.NoLevels.{Stops, stops}
use Rattle.grammar.specs.FormReaders.{and_then, next_in, behind_openings}
use Rattle.grammar.specs.Readers.{read_named, read_rule}
use Rattle.grammar.specs.Rules.{Sort, El}
use Rattle.grammar.proofs.Stability.{read_named_is}
use Rattle.es5_tree.specs.declared.terminal.Level.{Level}
use Rattle.es5_tree.specs.declared.terminal.Level.TheVariants as level
use Rattle.es5_tree.specs.declared.token.EsMark.TheVariants as mark
use Rattle.es5_tree.specs.declared.token.EsToken.{EsToken}
use Rattle.es5_tree.specs.Grammar.Expressions as g
use Rattle.es5_tree.specs.Grammar.Names.{R, expr_sort, expr, statement}
use Rattle.es5_tree.specs.Grammar.Nodes.{Node}
use Rattle.es5_tree.specs.Grammar.Statements as s
use Rattle.es5_tree.specs.Grammar.Table.{table, level_rule}
use Rattle.es5_tree.specs.Grammar.Terminals.{op}
use Rattle.es5_tree.proofs.Grammar.TableMeets.{predictive}
use Rattle.es5_reading.specs.Loops.{Outcome}
use Rattle.es5_parser.specs.Levels.{opens}
use Rattle.es5_parser.proofs.BracketsRead.{else_of, if_of, no_operation, no_deletion, no_simple}

abbrev zero_read : {r : Sort} → R r → List EsToken → Outcome (El EsToken Node r)
zero_read rule ts = read_rule table (read_named table) rule 0 ts

primary_stops : Stops table (read_named table) (op mark.OpenParen) g.primary
unfolding table g.primary g.simple g.parenthesized g.array g.object_literal g.function_expression
primary_stops = (tt, ((λ n h. h), (tt, (tt, tt))))

unary_stops : Stops table (read_named table) (op mark.OpenParen) g.unary_level
unfolding table g.unary_level g.operation g.deletion g.call_level
unary_stops = (tt, (tt, primary_stops))

-- the levels that stand with no level left
abbrev tightest : Level → R expr_sort
tightest level.Call = g.primary
tightest l = g.unary_level

level_zero : (l : Level) (ts : List EsToken) → zero_read (level_rule l) ts ≡ zero_read (tightest l) ts
unfolding table g.call_level g.product_level g.sum_level g.relation_level g.equality_level g.and_level g.or_level g.conditional_level g.assignment_level
level_zero level.Assignment ts = refl
level_zero level.And ts = refl
level_zero level.Equality ts = refl
level_zero level.Relational ts = refl
level_zero level.Additive ts = refl
level_zero level.Multiplicative ts = refl
level_zero level.Unary ts = refl
level_zero level.Call ts = refl

unopened : (l : Level) (ts : List EsToken) → next_in opens ts ≡ false → zero_read (tightest l) ts ≡ Err ts
unfolding table
unopened l ts h = by l
  where
    all : zero_read g.unary_level ts ≡ Err ts
    all = stops table (read_named table) (op mark.OpenParen) g.unary_level unary_stops ts h

    by : (l : Level) → zero_read (tightest l) ts ≡ Err ts
    by level.Call = stops table (read_named table) (op mark.OpenParen) g.primary primary_stops ts h
    by level.Assignment = all
    by level.And = all
    by level.Equality = all
    by level.Relational = all
    by level.Additive = all
    by level.Multiplicative = all
    by level.Unary = all

unary_opened : (t : EsToken) (ts : List EsToken) → opens t ≡ true → zero_read g.unary_level (t ∷ ts) ≡ zero_read g.primary (t ∷ ts)
unfolding table g.unary_level g.operation g.deletion g.call_level
unary_opened t ts h = else_of _ _ _ (no_operation t h) ∙ else_of _ _ _ (no_deletion t h)

primary_opened : (t : EsToken) (ts : List EsToken) → opens t ≡ true → zero_read g.primary (t ∷ ts) ≡ zero_read g.parenthesized (t ∷ ts)
unfolding table g.primary g.simple g.parenthesized
primary_opened t ts h = else_of _ _ _ (no_simple t h) ∙ if_of _ _ _ h

abbrev inside : List EsToken → Outcome Node
inside ts = read_named table 0 (expr level.Assignment) ts

-- what stands in brackets is read with no level either
bracketed : (t : EsToken) (ts : List EsToken) → opens t ≡ true → (rest : List EsToken) → inside ts ≡ Err rest → zero_read g.parenthesized (t ∷ ts) ≡ Err rest
unfolding table g.parenthesized
bracketed t ts h rest e = rw h (rw e refl)

tightest_opened : (l : Level) (t : EsToken) (ts : List EsToken) → opens t ≡ true → zero_read (tightest l) (t ∷ ts) ≡ zero_read g.parenthesized (t ∷ ts)
tightest_opened l t ts h = by l
  where
    all : zero_read g.unary_level (t ∷ ts) ≡ zero_read g.parenthesized (t ∷ ts)
    all = unary_opened t ts h ∙ primary_opened t ts h

    by : (l : Level) → zero_read (tightest l) (t ∷ ts) ≡ zero_read g.parenthesized (t ∷ ts)
    by level.Call = primary_opened t ts h
    by level.Assignment = all
    by level.And = all
    by level.Equality = all
    by level.Relational = all
    by level.Additive = all
    by level.Multiplicative = all
    by level.Unary = all

abbrev without_first : Outcome (EsToken × Node) → Outcome Node
without_first o = and_then {A = EsToken × Node} {B = Node} o (λ x r. Ok (x.1, r))

named_zero : (l : Level) (ts : List EsToken) → read_named table 0 (expr l) ts ≡ without_first (zero_read (tightest l) ts)
unfolding table
named_zero l ts = read_named_is table predictive 0 (expr l) ts ∙ ap without_first (level_zero l ts)

pub no_level : (l : Level) (ts : List EsToken) → read_named table 0 (expr l) ts ≡ Err (behind_openings opens ts)
no_level l [] = named_zero l [] ∙ ap without_first (unopened l [] refl)
no_level l (t ∷ ts) = named_zero l (t ∷ ts) ∙ by (no_level level.Assignment ts) (opens t) refl
  where
    by : inside ts ≡ Err (behind_openings opens ts) → (c : Bool) → opens t ≡ c → without_first (zero_read (tightest l) (t ∷ ts)) ≡ Err (if c then behind_openings opens ts else t ∷ ts)
    by h false e = ap without_first (unopened l (t ∷ ts) e)
    by h true e = ap without_first (tightest_opened l t ts e ∙ bracketed t ts e (behind_openings opens ts) h)

-- ---- statements

abbrev nothing : ℕ → Bool
nothing n = false

none_opens : (ts : List EsToken) → next_in (λ t. nothing (table.code t)) ts ≡ false
none_opens [] = refl
none_opens (t ∷ ts) = refl

abbrev Halts : (f l : Bool) → Type 0
Halts f l = Stops table (read_named table) nothing (s.any_statement f l)

statement_stops : (f l : Bool) → Halts f l
unfolding table s.any_statement s.return_statement s.break_statement s.continue_statement s.block_statement s.variable_statement s.empty_statement s.if_statement s.while_statement s.throw_statement s.try_statement s.expression_statement
statement_stops true true = (tt, (tt, (tt, (tt, (tt, (tt, (tt, (tt, (tt, (tt, tt))))))))))
statement_stops true false = (tt, (tt, (tt, (tt, (tt, (tt, (tt, (tt, tt))))))))
statement_stops false true = (tt, (tt, (tt, (tt, (tt, (tt, (tt, (tt, (tt, tt)))))))))
statement_stops false false = (tt, (tt, (tt, (tt, (tt, (tt, (tt, tt)))))))

pub no_statement : (f l : Bool) (ts : List EsToken) → read_named table 0 (statement f l) ts ≡ Err ts
unfolding table
no_statement f l ts = read_named_is table predictive 0 (statement f l) ts ∙ stops table (read_named table) nothing (s.any_statement f l) (statement_stops f l) ts (none_opens ts)

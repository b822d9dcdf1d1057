-- Brackets around expressions, counted and closed one after the other.
use Rattle.std.proofs.Common.{◌≡◌, ℕ, suc, Bool, true, false, List, [], ◌∷◌, ◌++◌, reverse, Some, None, Ok, Err, refl, sym, ap, ◌∙◌, arith}
use Rattle.std.specs.Prelude.{if◌then◌else◌, nat_eq}
use Rattle.std.proofs.lemmas.Bool.Decides.{nat_tests}
use Rattle.std.proofs.lemmas.List.{reverse-append}
use Rattle.grammar.specs.Checks.{first}
use Rattle.grammar.specs.FormReaders.{and_then, next_in, behind_openings, read_token, read_one_token}
use Rattle.grammar.specs.Rules.{choice}
use Rattle.grammar.specs.Readers.{read_named, read_rule}
use Rattle.grammar.specs.Spelling.{token_in}
use Rattle.grammar.proofs.Loops.{and_then_assoc, and_then_same}
use Rattle.es5_tree.specs.declared.terminal.Level.{Level}
use Rattle.es5_tree.specs.declared.terminal.Level.TheVariants as level
use Rattle.es5_tree.specs.declared.token.EsMark.TheVariants as mark
use Rattle.es5_tree.specs.declared.token.EsToken.{EsToken}
use Rattle.es5_tree.specs.Grammar.Expressions as g
use Rattle.es5_tree.specs.Grammar.Names.{R, expr_sort, expr}
use Rattle.es5_tree.specs.Grammar.Nodes.{Node}
use Rattle.es5_tree.specs.Grammar.Table.{table}
use Rattle.es5_tree.specs.Grammar.Terminals.{op, token_code}
use Rattle.es5_reading.specs.Loops.{Outcome}
use Rattle.es5_reading.proofs.Stopping.{keep}
use Rattle.es5_parser.specs.Levels.{Begun, begun, behind_target, closed, closed_once, first_operand, first_of, is_operation, is_deletion, opens, openings_ahead, unbracketed}
use Rattle.es5_parser.proofs.LevelsRead.{expression_is}

pub else_of : {A : Type 0} (c : Bool) (p q : A) → c ≡ false → (if c then p else q) ≡ q
else_of false p q h = refl
else_of true p q h = let no : ⊥ = cc in absurd no

pub if_of : {A : Type 0} (c : Bool) (p q : A) → c ≡ true → (if c then p else q) ≡ p
if_of true p q h = refl
if_of false p q h = let no : ⊥ = cc in absurd no

equal : (n c : ℕ) → nat_eq n c ≡ true → c ≡ n
equal n c h = grind (arith, nat_tests)

-- an opening bracket is none of these
pub is_code : (t : EsToken) → opens t ≡ true → token_code t ≡ 26
is_code t h = equal 26 (token_code t) h

pub no_operation : (t : EsToken) → opens t ≡ true → first table g.operation (token_code t) ≡ false
unfolding table g.operation
no_operation t h = ap (λ c. first table g.operation c) (is_code t h)

pub no_deletion : (t : EsToken) → opens t ≡ true → first table g.deletion (token_code t) ≡ false
unfolding table g.deletion
no_deletion t h = ap (λ c. first table g.deletion c) (is_code t h)

pub no_simple : (t : EsToken) → opens t ≡ true → first table g.simple (token_code t) ≡ false
unfolding table g.simple
no_simple t h = ap (λ c. first table g.simple c) (is_code t h)

module _ (b : ℕ) (ts : List EsToken) where
  abbrev read : R expr_sort → List EsToken → Outcome (EsToken × Node)
  read r = read_rule table (read_named table) r (suc b)

  -- a primary expression in brackets
  pub primary_opened : (t : EsToken) → opens t ≡ true → read g.primary (t ∷ ts) ≡ read g.parenthesized (t ∷ ts)
  unfolding table g.primary g.simple g.parenthesized
  primary_opened t h = else_of _ _ _ (no_simple t h) ∙ if_of _ _ _ h

  abbrev close : List EsToken → Outcome EsToken
  close rest = read_token (token_in token_code (op mark.CloseParen)) rest

  -- what an expression in brackets gives, by what the expression gives
  abbrev in_brackets : EsToken → Outcome Node → Outcome (EsToken × Node)
  in_brackets t o = and_then {A = EsToken × (Node × EsToken)} {B = EsToken × Node} (and_then {A = Node × EsToken} {B = EsToken × (Node × EsToken)} (and_then {A = Node} {B = Node × EsToken} o (λ e rest. and_then {A = EsToken} {B = Node × EsToken} (close rest) (λ c after. Ok ((e, c), after)))) (λ x after. Ok ((t, x), after))) (λ x after. Ok ((x.0, x.1.0), after))

  read_opened : (t : EsToken) → opens t ≡ true → read g.parenthesized (t ∷ ts) ≡ in_brackets t (read_named table (suc b) (expr level.Assignment) ts)
  unfolding table g.parenthesized
  read_opened t h = by (opens t) h
    where
      by : (c : Bool) → c ≡ true
          → and_then {A = EsToken × (Node × EsToken)} {B = EsToken × Node} (and_then {A = EsToken} {B = EsToken × (Node × EsToken)} (read_one_token (if c then Some t else None) t ts) (λ a rest. and_then {A = Node × EsToken} {B = EsToken × (Node × EsToken)} (and_then {A = Node} {B = Node × EsToken} (read_named table (suc b) (expr level.Assignment) rest) (λ e r. and_then {A = EsToken} {B = Node × EsToken} (close r) (λ c after. Ok ((e, c), after)))) (λ x after. Ok ((a, x), after)))) (λ x after. Ok ((x.0, x.1.0), after))
          ≡ in_brackets t (read_named table (suc b) (expr level.Assignment) ts)
      by true e = refl
      by false e = let no : ⊥ = cc in absurd no

  abbrev shape : EsToken → Outcome (EsToken × Node) → Outcome Begun
  shape t o = and_then {A = EsToken × Node} {B = Begun} o (λ l rest. and_then {A = EsToken} {B = Begun} (close rest) (λ c after. Ok (((t, l.1), true), after)))

  shaped : (t : EsToken) (o : Outcome (EsToken × Node)) → begun true (in_brackets t (and_then {A = EsToken × Node} {B = Node} o (λ x rest. Ok (x.1, rest)))) ≡ shape t o
  shaped t (Err y) = refl
  shaped t (Ok y) = by (close y.1)
    where
      by : (z : Outcome EsToken)
          → begun true (and_then {A = EsToken × (Node × EsToken)} {B = EsToken × Node} (and_then {A = Node × EsToken} {B = EsToken × (Node × EsToken)} (and_then {A = EsToken} {B = Node × EsToken} z (λ c after. Ok ((y.0.1, c), after))) (λ x after. Ok ((t, x), after))) (λ x after. Ok ((x.0, x.1.0), after)))
          ≡ and_then {A = EsToken} {B = Begun} z (λ c after. Ok (((t, y.0.1), true), after))
      by (Ok z) = refl
      by (Err z) = refl

  abbrev operand : Outcome Begun
  operand = first_operand g.primary b ts

  begun_opened : (t : EsToken) → opens t ≡ true → begun true (read g.primary (t ∷ ts)) ≡ and_then operand (λ s rest. closed_once b t s rest)
  unfolding closed_once
  begun_opened t h =
      ap (begun true) (primary_opened t h ∙ read_opened t h ∙ ap (in_brackets t) (expression_is b ts level.Assignment))
      ∙ shaped t (and_then operand (λ s rest. behind_target b s rest))
      ∙ and_then_assoc operand (λ s rest. behind_target b s rest) (λ l rest. and_then {A = EsToken} {B = Begun} (close rest) (λ c after. Ok (((t, l.1), true), after)))

  operand_opened : (t : EsToken) → opens t ≡ true → first_operand g.primary b (t ∷ ts) ≡ begun true (read g.primary (t ∷ ts))
  unfolding table g.operation g.deletion
  operand_opened t h = else_of _ _ _ (no_operation t h) ∙ else_of _ _ _ (no_deletion t h)

-- ---- all of them

module _ (b : ℕ) where
  closed_more : (xs : List EsToken) (t : EsToken) (s : Begun) (ts : List EsToken) → and_then (closed b xs s ts) (λ x rest. closed_once b t x rest) ≡ closed b (xs ++ t ∷ []) s ts
  unfolding closed
  closed_more [] t s ts = sym (keep (closed_once b t s ts))
  closed_more (x ∷ xs) t s ts =
      and_then_assoc (closed_once b x s ts) (λ y after. closed b xs y after) (λ y rest. closed_once b t y rest)
      ∙ and_then_same (closed_once b x s ts) (λ y after. and_then (closed b xs y after) (λ z rest. closed_once b t z rest)) (λ y after. closed b (xs ++ t ∷ []) y after) (λ y after. closed_more xs t y after)

  abbrev not_opened : List EsToken → Type 0
  not_opened ts = next_in opens ts ≡ false

  primary_unopened : (ts : List EsToken) → not_opened ts → read b ts g.primary ts ≡ read b ts unbracketed ts
  unfolding table g.primary g.parenthesized
  primary_unopened ts h =
      ap (λ o. if next_in (λ t. first table g.simple (table.code t)) ts then read b ts g.simple ts else o) (else_of (next_in opens ts) (read b ts g.parenthesized ts) (read b ts (choice g.array (choice g.object_literal g.function_expression)) ts) h)

  pub first_unopened : (l : Level) (ts : List EsToken) → not_opened ts → first_of g.primary l b ts ≡ first_of unbracketed l b ts
  first_unopened l ts h = by l
    where
      others : first_operand g.primary b ts ≡ first_operand unbracketed b ts
      others = ap (λ o. if next_in is_operation ts then begun false (read b ts g.operation ts) else (if next_in is_deletion ts then begun false (read b ts g.deletion ts) else begun true o)) (primary_unopened ts h)

      by : (l : Level) → first_of g.primary l b ts ≡ first_of unbracketed l b ts
      by level.Call = ap (begun true) (primary_unopened ts h)
      by level.Assignment = others
      by level.And = others
      by level.Equality = others
      by level.Relational = others
      by level.Additive = others
      by level.Multiplicative = others
      by level.Unary = others

  abbrev inner : List EsToken → Outcome Begun
  inner ts = first_operand unbracketed b (behind_openings opens ts)

  -- in brackets or not, an operand is the one behind the openings, in those of them that are closed
  operand_is : (ts : List EsToken) → first_operand g.primary b ts ≡ and_then (inner ts) (λ s rest. closed b (reverse (openings_ahead ts)) s rest)
  unfolding closed
  operand_is [] = first_unopened level.Unary [] refl ∙ sym (keep (inner []))
  operand_is (t ∷ ts) = by (operand_is ts) (opens t) refl
    where
      turned : reverse (openings_ahead ts) ++ t ∷ [] ≡ reverse (t ∷ openings_ahead ts)
      turned = sym (reverse-append (t ∷ []) (openings_ahead ts))

      by : first_operand g.primary b ts ≡ and_then (inner ts) (λ s rest. closed b (reverse (openings_ahead ts)) s rest) → (c : Bool) → opens t ≡ c
          → first_operand g.primary b (t ∷ ts) ≡ and_then (first_operand unbracketed b (if c then behind_openings opens ts else t ∷ ts)) (λ s rest. closed b (reverse (if c then t ∷ openings_ahead ts else [])) s rest)
      by h false e = first_unopened level.Unary (t ∷ ts) e ∙ sym (keep (first_operand unbracketed b (t ∷ ts)))
      by h true e =
          operand_opened b ts t e ∙ begun_opened b ts t e
          ∙ ap (λ o. and_then o (λ s rest. closed_once b t s rest)) h
          ∙ and_then_assoc (inner ts) (λ s rest. closed b (reverse (openings_ahead ts)) s rest) (λ s rest. closed_once b t s rest)
          ∙ and_then_same (inner ts) (λ s rest. and_then (closed b (reverse (openings_ahead ts)) s rest) (λ x after. closed_once b t x after)) (λ s rest. closed b (reverse (t ∷ openings_ahead ts)) s rest)
          (λ s rest. closed_more (reverse (openings_ahead ts)) t s rest ∙ ap (λ xs. closed b xs s rest) turned)

  -- with no opening ahead
  pub start_unopened : (l : Level) (ts : List EsToken) → openings_ahead ts ≡ [] → first_of g.primary l b ts ≡ first_of unbracketed l b (behind_openings opens ts)
  start_unopened l [] h = first_unopened l [] refl
  start_unopened l (t ∷ ts) h = by (opens t) refl h
    where
      by : (c : Bool) → opens t ≡ c → (if c then t ∷ openings_ahead ts else []) ≡ [] → first_of g.primary l b (t ∷ ts) ≡ first_of unbracketed l b (if c then behind_openings opens ts else t ∷ ts)
      by false e h = first_unopened l (t ∷ ts) e
      by true e h = let no : ⊥ = cc in absurd no

  -- with some, where the level plays no part
  pub start_opened : (l : Level) (ts : List EsToken) → (openings_ahead ts ≡ [] → ⊥) → first_of g.primary l b ts ≡ and_then (inner ts) (λ s rest. closed b (reverse (openings_ahead ts)) s rest)
  start_opened l [] h = absurd (h refl)
  start_opened l (t ∷ ts) h = by (opens t) refl h
    where
      by : (c : Bool) → opens t ≡ c → ((if c then t ∷ openings_ahead ts else []) ≡ [] → ⊥) → first_of g.primary l b (t ∷ ts) ≡ and_then (inner (t ∷ ts)) (λ s rest. closed b (reverse (openings_ahead (t ∷ ts))) s rest)
      by false e h = absurd (h refl)
      by true e h = of l
        where
          of : (l : Level) → first_of g.primary l b (t ∷ ts) ≡ and_then (inner (t ∷ ts)) (λ s rest. closed b (reverse (openings_ahead (t ∷ ts))) s rest)
          of level.Call = sym (operand_opened b ts t e) ∙ operand_is (t ∷ ts)
          of level.Assignment = operand_is (t ∷ ts)
          of level.And = operand_is (t ∷ ts)
          of level.Equality = operand_is (t ∷ ts)
          of level.Relational = operand_is (t ∷ ts)
          of level.Additive = operand_is (t ∷ ts)
          of level.Multiplicative = operand_is (t ∷ ts)
          of level.Unary = operand_is (t ∷ ts)

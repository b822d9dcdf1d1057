-- Whole lists of tokens.
use Rattle.std.proofs.Common.{◌≡◌, ℕ, suc, ◌-◌, ◌<◌, ◌≤◌, Bool, false, List, [], ◌∷◌, length, map, take, Some, Result, Ok, Err, refl, sym, ap, ◌∙◌, subst, arith}
use Rattle.std.specs.Prelude.{nat_eq, slice_get}
use Rattle.std.proofs.lemmas.Bool.Decides.{nat_tests}
use Rattle.descent.specs.declared.fail.Fail.{Fail}
use Rattle.descent.specs.declared.fail.Fail.TheVariants as fail
use Rattle.grammar.specs.Forms.{deepest}
use Rattle.grammar.specs.Reading.{read_all, whole_list}
use Rattle.grammar.specs.Readers.{read_named, read_rule}
use Rattle.grammar.proofs.Stability.{read_named_is}
use Rattle.grammar.proofs.Theorem.{read_ok, read_refusal}
use Rattle.es5_tree.specs.declared.token.EsToken.{EsToken}
use Rattle.es5_tree.specs.declared.token.EsTokenKind.{EsTokenKind}
use Rattle.es5_tree.specs.declared.token.EsTokenKind.TheVariants as kind
use Rattle.es5_tree.specs.declared.tree.EsStmt.{EsStmt}
use Rattle.es5_tree.specs.Depth.{script_depth, stmt_depth}
use Rattle.es5_tree.specs.Lexed.{IsEnded}
use Rattle.es5_tree.specs.Grammar.Names.{script, statement}
use Rattle.es5_tree.specs.Grammar.Nodes.{Node, depth, stmts}
use Rattle.es5_tree.specs.Grammar.Nodes as node
use Rattle.es5_tree.specs.Grammar.Spelling.{SpellsInLimit, NoFrontPos, before_end, up_to_end}
use Rattle.es5_tree.specs.Grammar.Statements as g
use Rattle.es5_tree.specs.Grammar.Table.{table}
use Rattle.es5_tree.proofs.Grammar.Depths.{highest_of_all, stmts_depth}
use Rattle.es5_tree.proofs.Grammar.TableMeets.{predictive}
use Rattle.es5_reading.specs.Named.{GivesStmts}
use Rattle.es5_reading.proofs.Shown.{stmts_back}
use Rattle.es5_parser.specs.declared.read.Halt.TheVariants as halt
use Rattle.es5_parser.specs.Wholes.{ReadsAll, whole, whole_body}

pub statement_is : (b : ℕ) (f l : Bool) (ts : List EsToken) → read_named table b (statement f l) ts ≡ read_rule table (read_named table) (g.any_statement f l) b ts
unfolding table
statement_is b f l ts = read_named_is table predictive b (statement f l) ts

not_zero : (n : ℕ) → nat_eq (suc n) 0 ≡ false
not_zero n = grind (arith, nat_tests)

named_told : (b : ℕ) (ts rest : List EsToken) (r : Result (List EsStmt) Fail) → GivesStmts (read_named table b script ts) r rest → ReadsAll b ts (whole r (length ts) (length rest))
unfolding read_all
named_told b ts [] (Ok body) h = ap (whole_list table script b (length ts)) h
named_told b ts (t ∷ rest) (Ok body) h =
    subst (λ c. ReadsAll b ts (whole_body c body (length ts) (length (t ∷ rest)))) (sym (not_zero (length rest))) (ap (whole_list table script b (length ts)) h)
named_told b ts rest (Err fail.NoMemory) h = tt
named_told b ts rest (Err fail.Refused) h = ap (whole_list table script b (length ts)) h

pub whole_told : (b : ℕ) (ts rest : List EsToken) (r : Result (List EsStmt) Fail) → GivesStmts (read_rule table (read_named table) g.whole_script b ts) r rest → ReadsAll b ts (whole r (length ts) (length rest))
unfolding table
whole_told b ts rest r h = named_told b ts rest r (subst (λ o. GivesStmts o r rest) (sym (read_named_is table predictive b script ts)) h)

-- ---- the end token

up_to : (k : EsTokenKind) (tokens : List EsToken) (t : EsToken) → (k ≡ kind.End → ⊥) → up_to_end k tokens t ≡ t ∷ tokens
up_to kind.End tokens t h = absurd (h refl)
up_to (kind.Word name) tokens t h = refl
up_to (kind.Num value) tokens t h = refl
up_to (kind.Str text) tokens t h = refl
up_to (kind.Mark mark) tokens t h = refl

pub before : (tokens : List EsToken) → IsEnded tokens → take (length tokens - 1) tokens ≡ before_end tokens
before [] h = absurd h
before (t ∷ []) h = sym (ap (λ k. up_to_end k [] t) h)
before (t ∷ next ∷ tokens) h =
    let one_less : suc (suc (length tokens)) - 1 ≡ suc (suc (length tokens) - 1) = omega arith in
    ap (λ n. take n (t ∷ next ∷ tokens)) one_less ∙ ap (λ l. t ∷ l) (before (next ∷ tokens) h.1) ∙ sym (up_to t.kind (before_end (next ∷ tokens)) t h.0)

pub some_token : (tokens : List EsToken) → IsEnded tokens → 1 ≤ length tokens
some_token [] h = absurd h
some_token (t ∷ tokens) h = omega arith

-- ---- scripts

deep_body : (body : List Node) → script_depth (record { body = stmts body }) ≡ deepest depth body
deep_body body = highest_of_all stmt_depth (stmts body) ∙ stmts_depth body

pub script_told : (tokens : List EsToken) (body : List EsStmt) → ReadsAll 1200 (before_end tokens) (Ok body) → SpellsInLimit (record { body = body }) tokens
unfolding table
script_told tokens body h =
    let s = read_ok table predictive script 1200 (before_end tokens) (map node.statement body) h in
    subst (λ l. SpellsInLimit (record { body = l }) tokens) (stmts_back body)
    (record { spelled = record { body = map node.statement body; spells = s.spells; tree = refl }; shallow = subst (λ n. n ≤ 1200) (sym (deep_body (map node.statement body))) s.shallow })

pub stop_before : (tokens : List EsToken) (at : ℕ) → length (before_end tokens) < length tokens → ReadsAll 1200 (before_end tokens) (Err (halt.At at)) → at < length tokens
stop_before tokens at less h = omega (arith, less, (read_refusal table predictive script 1200 (before_end tokens) at h).within)

pub stop_told : (tokens : List EsToken) (at : ℕ) (token : EsToken) → ReadsAll 1200 (before_end tokens) (Err (halt.At at)) → slice_get tokens at ≡ Some token → NoFrontPos tokens token.pos
stop_told tokens at token h there = record {
  at = at;
  token = token;
  none = read_refusal table predictive script 1200 (before_end tokens) at h;
  there = there;
  place = refl;
}

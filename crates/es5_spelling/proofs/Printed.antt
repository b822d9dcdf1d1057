-- The printed text of a spellable script spells it.
use Rattle.std.proofs.Common.{◌≡◌, ℕ, ◌+◌, Bool, true, false, ◌&&◌, nat_eq, List, [], ◌∷◌, ◌++◌, length, map, pos, Some, None, codes, refl, sym, ap, ◌∙◌, subst, append-nil, arith, eq-eqb}
use Rattle.std.specs.Prelude.{if◌then◌else◌}
use Rattle.grammar.specs.Spelling.{Spells, token_such}
use Rattle.es5_tree.specs.declared.lexing.Restriction.TheVariants.{Free}
use Rattle.es5_tree.specs.declared.terminal.Terminal.TheVariants as terminal
use Rattle.es5_tree.specs.declared.token.EsMark.TheVariants as mark
use Rattle.es5_tree.specs.declared.token.EsToken.{EsToken}
use Rattle.es5_tree.specs.declared.token.EsTokenKind.TheVariants as token
use Rattle.es5_tree.specs.declared.tree.EsExpr.{EsExpr}
use Rattle.es5_tree.specs.declared.tree.EsKind.{EsKind}
use Rattle.es5_tree.specs.declared.tree.EsStmt.{EsStmt}
use Rattle.es5_tree.specs.declared.tree.Script.{Script}
use Rattle.es5_tree.specs.Grammar.Expressions.{statement_list}
use Rattle.es5_tree.specs.Grammar.Names as rule
use Rattle.es5_tree.specs.Grammar.Nodes.{Node, stmts}
use Rattle.es5_tree.specs.Grammar.Spelling.{bare_stmt, before_end, up_to_end}
use Rattle.es5_tree.specs.Grammar.Statements.{whole_script}
use Rattle.es5_tree.specs.Grammar.Table.{table}
use Rattle.es5_tree.specs.Grammar.Terminals.{a, code_of, op, terminal_of, token_code}
use Rattle.es5_tree.specs.Lexed.{token_at, token_if, tokens_from, is_directive}
use Rattle.es5_tree.specs.Tokens.{Comment, Form, kind_of, Mark, Num, Piece, Reaches, Space, Str, Word}
use Rattle.es5_tree.proofs.Written.{text_stands_is}
use Rattle.es5_printer.specs.Forms.{lines}
use Rattle.es5_printer.specs.Pieces.{bytes_of}
use Rattle.es5_printer.specs.Text.{kind_form, stmt_pieces, text_of}
use Rattle.es5_spelling.specs.Laws.{PrintedIsSpelled}
use Rattle.es5_spelling.specs.Spellable.{and, AreExprs, AreStatements, array, assign, binary, block, break, call, cond, continue, delete, empty, expr, false_, function, if_, if_else, index, IsForm, IsStatement, IsText, member, more, name, neg, no_statement, none, not_, null, num, object, or, return, return_value, Spellable, statement, str, this, throw, true_, try_both, try_catch, try_finally, typeof, var, var_set, while}
use Rattle.es5_spelling.proofs.Bodies.{BodySpelled}
use Rattle.es5_spelling.proofs.Cuts.{AreTokens, both, Cut, end, join, next, Then}
use Rattle.es5_spelling.proofs.Expressions.{Lines, own_and, own_array, own_assign, own_binary, own_call, own_cond, own_delete, own_false, own_function, own_index, own_member, own_name, own_neg, own_not, own_null, own_num, own_object, own_or, own_str, own_this, own_true, own_typeof, Owns}
use Rattle.es5_spelling.proofs.Heads.{heads, negated_head, unary_head}
use Rattle.es5_spelling.proofs.Levels.{Own}
use Rattle.es5_spelling.proofs.Rules.{by_production, token_is}
use Rattle.es5_spelling.proofs.Statements.{more_lines, no_lines, Says, says_block, says_break, says_continue, says_empty, says_expr, says_if, says_if_else, says_return, says_return_value, says_throw, says_try_both, says_try_catch, says_try_finally, says_var, says_var_set, says_while}
use Rattle.es5_spelling.proofs.Texts.{semicolon_line}
use Rattle.es5_printer.proofs.Equations.{expr_layer}
use Rattle.es5_printer.specs.Levels.{tightness}

mutual
  forms : (k : EsKind) → IsForm k → Own (kind_form k) k
  forms _ (num v h) = own_num v h
  forms _ (str u h) = own_str u h
  forms _ true_ = own_true
  forms _ false_ = own_false
  forms _ null = own_null
  forms _ this = own_this
  forms _ (name u h) = own_name u h
  forms _ (array es h) = own_array es (exprs es h)
  forms _ (object ks es i n l h) = own_object ks es i n l (exprs es h)
  forms _ (function n ps b i j t h) = own_function n ps b i j t (bodies true false b h)
  forms _ (member e u m h i) = own_member e u m (forms e.kind h) i
  forms _ (index e k m h i) = own_index e k m (forms e.kind h) (forms k.kind i)
  forms _ (call e es h i) = own_call e es (forms e.kind h) (exprs es i)
  forms _ (not_ e h) = own_not e (forms e.kind h) (unary_head e (heads e.kind h))
  forms _ (neg e h) = own_neg e (forms e.kind h) (λ n. negated_head e (ap (λ p. nat_eq (tightness p.0) 9) (sym (expr_layer e)) ∙ n) (heads e.kind h))
  forms _ (typeof e h) = own_typeof e (forms e.kind h)
  forms _ (delete e m h) = own_delete e m (forms e.kind h)
  forms _ (binary p l r h i) = own_binary p l r (forms l.kind h) (forms r.kind i)
  forms _ (and l r h i) = own_and l r (forms l.kind h) (forms r.kind i)
  forms _ (or l r h i) = own_or l r (forms l.kind h) (forms r.kind i)
  forms _ (cond t l r h i j) = own_cond t l r (forms t.kind h) (forms l.kind i) (forms r.kind j)
  forms _ (assign l r m h i) = own_assign l r m (forms l.kind h) (forms r.kind i)

  exprs : (es : List EsExpr) → AreExprs es → Owns es
  exprs _ none = tt
  exprs _ (more e es h i) = (forms e.kind h, exprs es i)

  statements : (f l short : Bool) (s : EsStmt) → IsStatement f l short s → Says f l short s
  statements _ _ _ _ (var f l u i) = says_var f l u i
  statements _ _ _ _ (var_set f l u e i h) = says_var_set f l u e i (forms e.kind h)
  statements _ _ _ _ (expr f l e h) = says_expr f l e (forms e.kind h)
  statements _ _ _ _ (block f l b h) = says_block f l b (bodies f l b h)
  statements _ _ _ _ (if_ f l short e a h i) = says_if f l short e a (forms e.kind h) (statements f l short a i)
  statements _ _ _ _ (if_else f l short e a b h i j) = says_if_else f l short e a b (forms e.kind h) (statements f l false a i) (statements f l short b j)
  statements _ _ _ _ (while f l short e a h i) = says_while f l short e a (forms e.kind h) (statements f true short a i)
  statements _ _ _ _ (return l) = says_return l
  statements _ _ _ _ (return_value l e h) = says_return_value l e (forms e.kind h)
  statements _ _ _ _ (break f) = says_break f
  statements _ _ _ _ (continue f) = says_continue f
  statements _ _ _ _ (throw f l e h) = says_throw f l e (forms e.kind h)
  statements _ _ _ _ (try_catch f l b c h i j) = says_try_catch f l b c (bodies f l b h) i (bodies f l c.body j)
  statements _ _ _ _ (try_finally f l b m h i) = says_try_finally f l b m (bodies f l b h) (bodies f l m i)
  statements _ _ _ _ (try_both f l b c m h i j k) = says_try_both f l b c m (bodies f l b h) i (bodies f l c.body j) (bodies f l m k)
  statements _ _ _ _ (empty f l) = says_empty f l

  bodies : (f l : Bool) (ss : List EsStmt) → AreStatements f l ss → Lines f l ss
  bodies _ _ _ (no_statement f l) = no_lines f l
  bodies _ _ _ (statement f l short s ss h i) = more_lines f l short s ss (statements f l short s h) (bodies f l ss i)

-- ---- scripts

data Directive : List EsToken → Type 0 where
  directive : (t : EsToken) → t.kind ≡ token.Str (codes "use strict") → is_directive t ≡ true → Directive (t ∷ [])

use_strict : IsText (codes "use strict")
use_strict = (omega arith, (omega arith, (omega arith, (omega arith, (omega arith, (omega arith, (omega arith, (omega arith, (omega arith, (omega arith, tt))))))))))

directive_at : (all : List ℕ) (from : ℕ) → is_directive (token_at all from 12 (token.Str (codes "use strict"))) ≡ true
directive_at all from = eq-eqb (from + 12) (from + 12) refl

directive_cut : (rest : List ℕ) → Cut Free (codes "\"use strict\"") rest Free Directive
directive_cut rest = record {
  pieces = record { form = Str (codes "use strict"); slice = codes "\"use strict\"" } ∷ [];
  reached = (rest, refl, record { stands = text_stands_is (codes "use strict") rest use_strict; allowed = refl }, refl);
  last = refl;
  spelled = λ all from. directive (token_at all from 12 (token.Str (codes "use strict"))) refl (directive_at all from);
}

abbrev Whole : Script → List EsToken → Type 0
Whole script u = Then (Then Directive (AreTokens (token.Mark mark.Semicolon ∷ []))) (BodySpelled (statement_list false false) script.body) u

script_cut : (script : Script) → Spellable script → Cut Free (text_of script) [] Free (Whole script)
script_cut script h =
    let body : List ℕ = bytes_of (lines (map stmt_pieces script.body)) in
    join (codes "\"use strict\";\n") body [] (join (codes "\"use strict\"") (codes ";\n") (body ++ []) (directive_cut (codes ";\n" ++ (body ++ []))) (semicolon_line (body ++ []))) (bodies false false script.body h [])

record Read (script : Script) (u : List EsToken) : Type 0 where
  nodes : List Node
  spells : Spells table rule.script nodes u
  same : map bare_stmt (stmts nodes) ≡ map bare_stmt script.body

directive_is : (t : EsToken) → t.kind ≡ token.Str (codes "use strict") → is_directive t ≡ true → token_such token_code (a terminal.Str) is_directive t ≡ Some t
directive_is t e d =
    ap (λ b. if b && is_directive t then Some t else None) (ap (λ k. a terminal.Str (code_of (terminal_of k))) e)
    ∙ ap (λ b. if b then Some t else None) d

whole_read : (script : Script) (u : List EsToken) → Whole script u → Read script u
unfolding whole_script table
whole_read script _ (both _ w (both _ _ (directive t e d) (next s f end)) body) = record {
  nodes = body.nodes;
  spells = by_production rule.script body.nodes (t ∷ s ∷ w) (
    (t, body.nodes),
    refl,
    (
      t ∷ [],
      s ∷ w,
      refl,
      (t, refl, directive_is t e d),
      ((s, body.nodes), refl, (s ∷ [], w, refl, (s, refl, token_is (op mark.Semicolon) (token.Mark mark.Semicolon) s f refl), body.spells)),
    ),
  );
  same = body.same;
}

-- no token of a piece is an end token
pub before_is : (all : List ℕ) (last : EsToken) (pieces : List Piece) (from : ℕ) → last.kind ≡ token.End → before_end (tokens_from all from pieces ++ last ∷ []) ≡ tokens_from all from pieces
before_is all last [] from e = ap (λ k. up_to_end k [] last) e
before_is all last (x ∷ pieces) from e = by x.form (before_is all last pieces (from + length x.slice) e)
  where
    ts : List EsToken
    ts = tokens_from all (from + length x.slice) pieces

    by : (form : Form) → before_end (ts ++ last ∷ []) ≡ ts → before_end ((token_if all from (length x.slice) (kind_of form) ++ ts) ++ last ∷ []) ≡ token_if all from (length x.slice) (kind_of form) ++ ts
    by Space h = h
    by Comment h = h
    by (Word n) h = ap (λ l. token_at all from (length x.slice) (token.Word n) ∷ l) h
    by (Num n) h = ap (λ l. token_at all from (length x.slice) (token.Num (pos n)) ∷ l) h
    by (Str n) h = ap (λ l. token_at all from (length x.slice) (token.Str n) ∷ l) h
    by (Mark m) h = ap (λ l. token_at all from (length x.slice) (token.Mark m) ∷ l) h

pub printed_is_spelled_is : PrintedIsSpelled
printed_is_spelled_is script h =
    let bytes : List ℕ = text_of script in
    let c : Cut Free bytes [] Free (Whole script) = script_cut script h in
    let last : EsToken = token_at bytes (length bytes) 0 token.End in
    let r : Read script (tokens_from bytes 0 c.pieces) = whole_read script (tokens_from bytes 0 c.pieces) (c.spelled bytes 0) in
    record {
      read = record { body = stmts r.nodes };
      reads = record {
        tokens = tokens_from bytes 0 c.pieces ++ last ∷ [];
        lexed = record { pieces = c.pieces; lexed = subst (λ b. Reaches Free b c.pieces []) (append-nil bytes) c.reached; same = refl };
        spells = record { body = r.nodes; spells = subst (Spells table rule.script r.nodes) (sym (before_is bytes last c.pieces 0 refl)) r.spells; tree = refl };
      };
      same = ap (λ b. record { body = b }) (sym r.same);
    }

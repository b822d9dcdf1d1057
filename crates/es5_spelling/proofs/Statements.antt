-- The pieces of each form of statement, from those of its parts: what they are cut into, and what that spells.
use Rattle.std.proofs.Common.{◌≡◌, ℕ, Bool, true, false, List, [], ◌∷◌, ◌++◌, map, Some, None, codes, refl, sym, subst, append-nil}
use Rattle.std.specs.Prelude.{if◌then◌else◌}
use Rattle.opal_base.specs.Text.{utf8_of}
use Rattle.es5_tree.specs.declared.lexing.Restriction.TheVariants.{Free, SameLine}
use Rattle.es5_tree.specs.declared.terminal.Keyword.TheVariants as keyword
use Rattle.es5_tree.specs.declared.token.EsMark.TheVariants as mark
use Rattle.es5_tree.specs.declared.token.EsToken.{EsToken}
use Rattle.es5_tree.specs.declared.token.EsTokenKind.{EsTokenKind}
use Rattle.es5_tree.specs.declared.token.EsTokenKind.TheVariants as token
use Rattle.es5_tree.specs.declared.tree.Catch.{Catch}
use Rattle.es5_tree.specs.declared.tree.EsExpr.{EsExpr}
use Rattle.es5_tree.specs.declared.tree.EsStmt.{EsStmt}
use Rattle.es5_tree.specs.declared.tree.EsStmt.TheVariants as stmt
use Rattle.es5_tree.specs.Grammar.Expressions.{block, statement_list}
use Rattle.es5_tree.specs.Grammar.Statements.{finally_part}
use Rattle.es5_tree.specs.Grammar.Terminals.{code_of, key, terminal_of_word}
use Rattle.es5_printer.specs.Forms.{block_behind, bracketed, ended, lines, of_catch_if, of_expression, of_finally, otherwise, pieces, value_behind}
use Rattle.es5_printer.specs.Forms as printed
use Rattle.es5_printer.specs.Pieces.{bytes_of, Piece, plain, text}
use Rattle.es5_printer.specs.Text.{catch_pieces, expr_part, kind_form, stmt_pieces}
use Rattle.es5_printer.proofs.Equations.{catch_is, stmt_block, stmt_break, stmt_continue, stmt_empty, stmt_expr, stmt_if, stmt_return, stmt_throw, stmt_try, stmt_var, stmt_while}
use Rattle.es5_spelling.specs.Spellable.{IsBinding}
use Rattle.es5_spelling.proofs.Bodies.{BodySpelled, more_statements, no_statements, StatementSpelled}
use Rattle.es5_spelling.proofs.Cuts.{AreTokens, both, Cut, cut_as, end, free, same_line, Then}
use Rattle.es5_spelling.proofs.Expressions.{binding_class, binding_name, block_cut, Lines}
use Rattle.es5_spelling.proofs.Levels.{at_all, close_paren, in_all_brackets, Own, semicolon, Spelled, Whole}
use Rattle.es5_spelling.proofs.Sentences.{block_statement_spelled, break_spelled, catch_spelled, CatchSpelled, continue_spelled, empty_spelled, expression_spelled, finally_spelled, if_else_spelled, if_spelled, return_spelled, return_value_spelled, throw_spelled, try_both_spelled, try_catch_spelled, try_finally_spelled, var_set_spelled, var_spelled, while_spelled}
use Rattle.es5_spelling.proofs.Texts.{a_newline, a_space, join_cut, nothing, plain_cut, Said, text_cut}
use Rattle.es5_spelling.proofs.Texts as piece

-- a statement, and the pieces of one
abbrev pub Says : Bool → Bool → Bool → EsStmt → Type 0
Says f l short s = (rest : List ℕ) → Cut Free (bytes_of (stmt_pieces s)) rest Free (StatementSpelled f l short s)

abbrev SaysPieces : Bool → Bool → Bool → EsStmt → List Piece → Type 0
SaysPieces f l short s ps = (rest : List ℕ) → Cut Free (bytes_of ps) rest Free (StatementSpelled f l short s)

abbrev Semicolon : List EsToken → Type 0
Semicolon u = AreTokens (token.Mark mark.Semicolon ∷ []) u

ended_by : (rest : List ℕ) → Cut Free (bytes_of (plain (codes ";"))) rest Free Semicolon
ended_by rest = plain_cut (codes ";") (piece.semicolon Free rest free)

-- an expression before a semicolon
whole_ended : (e : EsExpr) (rest : List ℕ) → Own (kind_form e.kind) e.kind → Cut Free (bytes_of (pieces (expr_part e))) (59 ∷ rest) Free (Spelled 12 (expr_part e).1.0 e.kind)
whole_ended e rest h = at_all e h Free (59 ∷ rest) free (semicolon false rest)

-- ---- keywords

var_class : key keyword.Var (code_of (terminal_of_word (codes "var"))) ≡ true
unfolding terminal_of_word
var_class = refl

return_class : key keyword.Return (code_of (terminal_of_word (codes "return"))) ≡ true
unfolding terminal_of_word
return_class = refl

throw_class : key keyword.Throw (code_of (terminal_of_word (codes "throw"))) ≡ true
unfolding terminal_of_word
throw_class = refl

break_class : key keyword.Break (code_of (terminal_of_word (codes "break"))) ≡ true
unfolding terminal_of_word
break_class = refl

continue_class : key keyword.Continue (code_of (terminal_of_word (codes "continue"))) ≡ true
unfolding terminal_of_word
continue_class = refl

if_class : key keyword.If (code_of (terminal_of_word (codes "if"))) ≡ true
unfolding terminal_of_word
if_class = refl

else_class : key keyword.Else (code_of (terminal_of_word (codes "else"))) ≡ true
unfolding terminal_of_word
else_class = refl

while_class : key keyword.While (code_of (terminal_of_word (codes "while"))) ≡ true
unfolding terminal_of_word
while_class = refl

try_class : key keyword.Try (code_of (terminal_of_word (codes "try"))) ≡ true
unfolding terminal_of_word
try_class = refl

catch_class : key keyword.Catch (code_of (terminal_of_word (codes "catch"))) ≡ true
unfolding terminal_of_word
catch_class = refl

finally_class : key keyword.Finally (code_of (terminal_of_word (codes "finally"))) ≡ true
unfolding terminal_of_word
finally_class = refl

-- ---- statements

pub says_var : (f l : Bool) (name : List ℕ) → IsBinding name → Says f l false (stmt.Var name None)
says_var f l name i =
    subst (SaysPieces f l false (stmt.Var name None)) (sym (stmt_var name None))
    (λ rest. cut_as (λ u x. var_spelled f l (token.Word (codes "var")) name u var_class (binding_class name i) x)
    (text_cut (codes "var ") (text (utf8_of name) ∷ plain (codes ";")) rest (piece.var _)
    (text_cut (utf8_of name) (plain (codes ";")) rest (binding_name Free name _ free i refl) (ended_by rest))))

pub says_var_set : (f l : Bool) (name : List ℕ) (e : EsExpr) → IsBinding name → Own (kind_form e.kind) e.kind → Says f l false (stmt.Var name (Some e))
says_var_set f l name e i h =
    let value : List Piece = value_behind (codes " = ") (expr_part e) in
    subst (SaysPieces f l false (stmt.Var name (Some e))) (sym (stmt_var name (Some e)))
    (λ rest. cut_as (λ u x. var_set_spelled f l (expr_part e).1.0 (token.Word (codes "var")) name e u var_class (binding_class name i) x)
    (text_cut (codes "var ") (text (utf8_of name) ∷ ended value) rest (piece.var _)
    (text_cut (utf8_of name) (ended value) rest (binding_name Free name _ free i refl)
    (join_cut value (plain (codes ";")) rest (text_cut (codes " = ") (pieces (expr_part e)) (59 ∷ rest) (piece.assign _) (whole_ended e rest h)) (ended_by rest)))))

-- its pieces, in brackets where it would begin with `{` or `function`
expression_cut : (e : EsExpr) (rest : List ℕ) (c : Bool) → (expr_part e).1.0 ≡ c → Whole e → Cut Free (bytes_of (if c then bracketed (pieces (expr_part e)) else pieces (expr_part e))) (59 ∷ rest) Free (Spelled 12 false e.kind)
expression_cut e rest true b h = in_all_brackets e Free (59 ∷ rest) free h
expression_cut e rest false b h = subst (λ c. Cut Free (bytes_of (pieces (expr_part e))) (59 ∷ rest) Free (Spelled 12 c e.kind)) b (h Free (59 ∷ rest) free (semicolon false rest))

pub says_expr : (f l : Bool) (e : EsExpr) → Own (kind_form e.kind) e.kind → Says f l false (stmt.Expr e)
says_expr f l e h =
    subst (SaysPieces f l false (stmt.Expr e)) (sym (stmt_expr e))
    (λ rest. cut_as (expression_spelled f l e)
    (join_cut (of_expression (expr_part e)) (plain (codes ";")) rest (expression_cut e rest (expr_part e).1.0 refl (at_all e h)) (ended_by rest)))

pub says_block : (f l : Bool) (ss : List EsStmt) → Lines f l ss → Says f l false (stmt.Block ss)
says_block f l ss h = subst (SaysPieces f l false (stmt.Block ss)) (sym (stmt_block ss)) (λ rest. cut_as (block_statement_spelled f l ss) (block_cut f l ss rest h))

-- a keyword with its bracket, and what is tested
abbrev Tested : EsTokenKind → Bool → EsExpr → List EsToken → Type 0
Tested k opens test u = Then (AreTokens (k ∷ token.Mark mark.OpenParen ∷ [])) (Then (Spelled 12 opens test.kind) (AreTokens (token.Mark mark.CloseParen ∷ []))) u

test_cut : (word : List ℕ) (k : EsTokenKind) (e : EsExpr) (rest : List ℕ) → Said word (k ∷ token.Mark mark.OpenParen ∷ []) → Own (kind_form e.kind) e.kind → Cut Free (bytes_of (printed.test word (expr_part e))) rest Free (Tested k (expr_part e).1.0 e)
test_cut word k e rest said h =
    text_cut word (pieces (expr_part e) ++ plain (codes ") ")) rest (said _)
    (join_cut (pieces (expr_part e)) (plain (codes ") ")) rest (at_all e h Free (41 ∷ 32 ∷ rest) free (close_paren false (32 ∷ rest))) (plain_cut (codes ") ") (piece.close_paren_space rest)))

pub says_if : (f l short : Bool) (e : EsExpr) (a : EsStmt) → Own (kind_form e.kind) e.kind → Says f l short a → Says f l true (stmt.If e a None)
says_if f l short e a h i =
    subst (SaysPieces f l true (stmt.If e a None)) (sym (stmt_if e a None))
    (λ rest. cut_as (λ u x. if_spelled f l (token.Word (codes "if")) (expr_part e).1.0 short e a u if_class x)
    (join_cut (printed.test (codes "if (") (expr_part e)) (stmt_pieces a ++ []) rest (test_cut (codes "if (") (token.Word (codes "if")) e _ piece.if_ h)
    (join_cut (stmt_pieces a) [] rest (i rest) (nothing Free rest))))

pub says_if_else : (f l short : Bool) (e : EsExpr) (a b : EsStmt) → Own (kind_form e.kind) e.kind → Says f l false a → Says f l short b → Says f l short (stmt.If e a (Some b))
says_if_else f l short e a b h i j =
    let second : List Piece = text (codes " else ") ∷ stmt_pieces b in
    subst (SaysPieces f l short (stmt.If e a (Some b))) (sym (stmt_if e a (Some b)))
    (λ rest. cut_as (λ u x. if_else_spelled f l (token.Word (codes "if")) (token.Word (codes "else")) (expr_part e).1.0 short e a b u if_class else_class x)
    (join_cut (printed.test (codes "if (") (expr_part e)) (stmt_pieces a ++ second) rest (test_cut (codes "if (") (token.Word (codes "if")) e _ piece.if_ h)
    (join_cut (stmt_pieces a) second rest (i (bytes_of second ++ rest)) (text_cut (codes " else ") (stmt_pieces b) rest (piece.else _) (j rest)))))

pub says_while : (f l short : Bool) (e : EsExpr) (a : EsStmt) → Own (kind_form e.kind) e.kind → Says f true short a → Says f l short (stmt.While e a)
says_while f l short e a h i =
    subst (SaysPieces f l short (stmt.While e a)) (sym (stmt_while e a))
    (λ rest. cut_as (λ u x. while_spelled f l (token.Word (codes "while")) (expr_part e).1.0 short e a u while_class x)
    (join_cut (printed.test (codes "while (") (expr_part e)) (stmt_pieces a) rest (test_cut (codes "while (") (token.Word (codes "while")) e _ piece.while h) (i rest)))

pub says_return : (l : Bool) → Says true l false (stmt.Return None)
says_return l =
    subst (SaysPieces true l false (stmt.Return None)) (sym (stmt_return None))
    (λ rest. cut_as (λ u x. return_spelled l (token.Word (codes "return")) u return_class x)
    (text_cut (codes "return") (plain (codes ";")) rest (piece.return _ refl) (plain_cut (codes ";") (piece.semicolon SameLine rest same_line))))

pub says_return_value : (l : Bool) (e : EsExpr) → Own (kind_form e.kind) e.kind → Says true l false (stmt.Return (Some e))
says_return_value l e h =
    let value : List Piece = value_behind (codes " ") (expr_part e) in
    subst (SaysPieces true l false (stmt.Return (Some e))) (sym (stmt_return (Some e)))
    (λ rest. cut_as (λ u x. return_value_spelled l (expr_part e).1.0 (token.Word (codes "return")) e u return_class x)
    (text_cut (codes "return") (ended value) rest (piece.return _ refl)
    (join_cut value (plain (codes ";")) rest
    (text_cut (codes " ") (pieces (expr_part e)) (59 ∷ rest) (a_space SameLine _ same_line) (at_all e h SameLine (59 ∷ rest) same_line (semicolon false rest))) (ended_by rest))))

pub says_throw : (f l : Bool) (e : EsExpr) → Own (kind_form e.kind) e.kind → Says f l false (stmt.Throw e)
says_throw f l e h =
    let value : List Piece = value_behind (codes "throw ") (expr_part e) in
    subst (SaysPieces f l false (stmt.Throw e)) (sym (stmt_throw e))
    (λ rest. cut_as (λ u x. throw_spelled f l (expr_part e).1.0 (token.Word (codes "throw")) e u throw_class x)
    (join_cut value (plain (codes ";")) rest
    (text_cut (codes "throw ") (pieces (expr_part e)) (59 ∷ rest) (piece.throw _) (at_all e h SameLine (59 ∷ rest) same_line (semicolon false rest))) (ended_by rest)))

pub says_break : (f : Bool) → Says f true false stmt.Break
says_break f = subst (SaysPieces f true false stmt.Break) (sym stmt_break) (λ rest. cut_as (λ u x. break_spelled f (token.Word (codes "break")) u break_class x) (plain_cut (codes "break;") (piece.break rest)))

pub says_continue : (f : Bool) → Says f true false stmt.Continue
says_continue f = subst (SaysPieces f true false stmt.Continue) (sym stmt_continue) (λ rest. cut_as (λ u x. continue_spelled f (token.Word (codes "continue")) u continue_class x) (plain_cut (codes "continue;") (piece.continue rest)))

pub says_empty : (f l : Bool) → Says f l false stmt.Empty
says_empty f l = subst (SaysPieces f l false stmt.Empty) (sym stmt_empty) (λ rest. cut_as (empty_spelled f l) (ended_by rest))

-- ---- `try` and its parts

catch_cut : (f l : Bool) (c : Catch) (rest : List ℕ) → IsBinding c.name → Lines f l c.body → Cut Free (bytes_of (catch_pieces c)) rest Free (CatchSpelled f l c)
catch_cut f l c rest i h =
    let body : List Piece = printed.block (map stmt_pieces c.body) in
    subst (λ ps. Cut Free (bytes_of ps) rest Free (CatchSpelled f l c)) (sym (catch_is c))
    (cut_as (λ u x. catch_spelled f l (token.Word (codes "catch")) c u catch_class (binding_class c.name i) x)
    (text_cut (codes " catch (") (text (utf8_of c.name) ∷ text (codes ") ") ∷ body) rest (piece.catch _)
    (text_cut (utf8_of c.name) (text (codes ") ") ∷ body) rest (binding_name Free c.name _ free i refl)
    (text_cut (codes ") ") body rest (piece.close_paren_space _) (block_cut f l c.body rest h)))))

finally_cut : (f l : Bool) (ss : List EsStmt) (rest : List ℕ) → Lines f l ss → Cut Free (bytes_of (block_behind (codes " finally ") (map stmt_pieces ss))) rest Free (BodySpelled (finally_part f l) ss)
finally_cut f l ss rest h =
    cut_as (λ u x. finally_spelled f l (token.Word (codes "finally")) ss u finally_class x) (text_cut (codes " finally ") (printed.block (map stmt_pieces ss)) rest (piece.finally _) (block_cut f l ss rest h))

try_cut : (f l : Bool) (ss : List EsStmt) (rest : List ℕ) → Lines f l ss → Cut Free (bytes_of (block_behind (codes "try ") (map stmt_pieces ss))) rest Free (Then (AreTokens (token.Word (codes "try") ∷ [])) (BodySpelled (block f l) ss))
try_cut f l ss rest h = text_cut (codes "try ") (printed.block (map stmt_pieces ss)) rest (piece.try _) (block_cut f l ss rest h)

pub says_try_catch : (f l : Bool) (ss : List EsStmt) (c : Catch) → Lines f l ss → IsBinding c.name → Lines f l c.body → Says f l false (stmt.Try ss (Some c) None)
says_try_catch f l ss c h i j =
    subst (SaysPieces f l false (stmt.Try ss (Some c) None)) (sym (stmt_try ss (Some c) None))
    (λ rest. cut_as (λ u x. try_catch_spelled f l (token.Word (codes "try")) ss c u try_class x)
    (join_cut (block_behind (codes "try ") (map stmt_pieces ss)) (catch_pieces c ++ []) rest (try_cut f l ss _ h)
    (join_cut (catch_pieces c) [] rest (catch_cut f l c rest i j) (nothing Free rest))))

pub says_try_finally : (f l : Bool) (ss last : List EsStmt) → Lines f l ss → Lines f l last → Says f l false (stmt.Try ss None (Some last))
says_try_finally f l ss last h k =
    let behind_it : List Piece = block_behind (codes " finally ") (map stmt_pieces last) in
    subst (SaysPieces f l false (stmt.Try ss None (Some last))) (sym (stmt_try ss None (Some last)))
    (λ rest. cut_as (λ u x. try_finally_spelled f l (token.Word (codes "try")) ss last u try_class x)
    (join_cut (block_behind (codes "try ") (map stmt_pieces ss)) ([] ++ behind_it) rest (try_cut f l ss _ h)
    (join_cut [] behind_it rest (nothing Free (bytes_of behind_it ++ rest)) (finally_cut f l last rest k))))

pub says_try_both : (f l : Bool) (ss : List EsStmt) (c : Catch) (last : List EsStmt) → Lines f l ss → IsBinding c.name → Lines f l c.body → Lines f l last → Says f l false (stmt.Try ss (Some c) (Some last))
says_try_both f l ss c last h i j k =
    let behind_it : List Piece = block_behind (codes " finally ") (map stmt_pieces last) in
    subst (SaysPieces f l false (stmt.Try ss (Some c) (Some last))) (sym (stmt_try ss (Some c) (Some last)))
    (λ rest. cut_as (λ u x. try_both_spelled f l (token.Word (codes "try")) ss c last u try_class x)
    (join_cut (block_behind (codes "try ") (map stmt_pieces ss)) (catch_pieces c ++ behind_it) rest (try_cut f l ss _ h)
    (join_cut (catch_pieces c) behind_it rest (catch_cut f l c (bytes_of behind_it ++ rest) i j) (finally_cut f l last rest k))))

-- ---- lines

to_line : (f l short : Bool) (s : EsStmt) (u : List EsToken) → Then (StatementSpelled f l short s) (AreTokens []) u → StatementSpelled f l short s u
to_line f l short s _ (both v _ x end) = subst (StatementSpelled f l short s) (sym (append-nil v)) x

to_no_lines : (f l : Bool) (u : List EsToken) → AreTokens [] u → BodySpelled (statement_list f l) [] u
to_no_lines f l _ end = no_statements f l

pub no_lines : (f l : Bool) → Lines f l []
no_lines f l rest = cut_as (to_no_lines f l) (nothing Free rest)

pub more_lines : (f l short : Bool) (s : EsStmt) (ss : List EsStmt) → Says f l short s → Lines f l ss → Lines f l (s ∷ ss)
more_lines f l short s ss h i rest =
    let behind_it : List Piece = lines (map stmt_pieces ss) in
    cut_as (more_statements f l short s ss)
    (join_cut (stmt_pieces s ++ plain (codes "\n")) behind_it rest
    (cut_as (to_line f l short s)
    (join_cut (stmt_pieces s) (plain (codes "\n")) (bytes_of behind_it ++ rest) (h (10 ∷ (bytes_of behind_it ++ rest))) (plain_cut (codes "\n") (a_newline (bytes_of behind_it ++ rest))))) (i rest))

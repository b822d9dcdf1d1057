-- What the tokens of statements and scripts spell, from what those of their parts do.
use Rattle.std.proofs.Common.{◌≡◌, ℕ, Bool, true, false, List, [], ◌∷◌, ◌++◌, Option, Some, None, refl, sym, ap, subst, append_assoc, append-nil, inl, inr}
use Rattle.grammar.specs.Rules.{choice, marked, token, tree}
use Rattle.grammar.specs.Spelling.{Spells}
use Rattle.es5_tree.specs.declared.terminal.Keyword.TheVariants as keyword
use Rattle.es5_tree.specs.declared.terminal.Level.TheVariants as level
use Rattle.es5_tree.specs.declared.terminal.Terminal.TheVariants as terminal
use Rattle.es5_tree.specs.declared.token.EsMark.TheVariants as mark
use Rattle.es5_tree.specs.declared.token.EsToken.{EsToken}
use Rattle.es5_tree.specs.declared.token.EsTokenKind.{EsTokenKind}
use Rattle.es5_tree.specs.declared.token.EsTokenKind.TheVariants as kind_of
use Rattle.es5_tree.specs.declared.tree.Catch.{Catch}
use Rattle.es5_tree.specs.declared.tree.EsExpr.{EsExpr}
use Rattle.es5_tree.specs.declared.tree.EsStmt.{EsStmt}
use Rattle.es5_tree.specs.declared.tree.EsStmt.TheVariants as stmt
use Rattle.es5_tree.specs.Grammar.Expressions.{block}
use Rattle.es5_tree.specs.Grammar.Names.{R, statement}
use Rattle.es5_tree.specs.Grammar.Nodes.{branched, caught, closed, expr_of, looped, name_in, name_of, Node, stmt_of, stmts, tried}
use Rattle.es5_tree.specs.Grammar.Statements.{any_statement, block_statement, both_branches, break_statement, catch_part, condition, continue_statement, empty_statement, ended, expression_statement, finally_part, first_branch, handlers, if_statement, return_statement, throw_statement, try_statement, variable_statement, while_statement}
use Rattle.es5_tree.specs.Grammar.Table.{table}
use Rattle.es5_tree.specs.Grammar.Terminals.{a, code_of, key, op, terminal_of, terminal_of_word}
use Rattle.es5_tree.proofs.Bare.{bare_catch}
use Rattle.es5_spelling.proofs.Bare.{same_block, same_catch, same_if, same_if_else, same_return, same_statement, same_throw, same_try_both, same_try_catch, same_try_finally, same_var, same_while, SameStmt, stmt_refl}
use Rattle.es5_spelling.proofs.Bodies.{BodySpelled, number_of, StatementSpelled}
use Rattle.es5_spelling.proofs.Cuts.{AreTokens, both, end, next, Then}
use Rattle.es5_spelling.proofs.Levels.{Spelled, starts_more}
use Rattle.es5_spelling.proofs.Rules.{as_expr, by_production, Rules, token_is}

-- ---- the statements that may stand everywhere, and the others

abbrev pub anywhere : Bool → Bool → R (marked tree)
anywhere f l = choice (block_statement f l) (choice variable_statement (choice empty_statement (choice (if_statement f l) (choice (while_statement f l) (choice throw_statement (choice (try_statement f l) expression_statement))))))

in_place : (f l : Bool) (x : Node × ℕ) (u : List EsToken) → Rules (anywhere f l) x u → Spells table (statement f l) x u
unfolding any_statement table
in_place true true x u h = by_production (statement true true) x u (inr (inr (inr h)))
in_place true false x u h = by_production (statement true false) x u (inr h)
in_place false true x u h = by_production (statement false true) x u (inr (inr h))
in_place false false x u h = by_production (statement false false) x u h

in_loop : (f : Bool) (x : Node × ℕ) (u : List EsToken) → Rules (choice break_statement continue_statement) x u → Spells table (statement f true) x u
unfolding any_statement table
in_loop true x u (inl h) = by_production (statement true true) x u (inr (inl h))
in_loop true x u (inr h) = by_production (statement true true) x u (inr (inr (inl h)))
in_loop false x u (inl h) = by_production (statement false true) x u (inl h)
in_loop false x u (inr h) = by_production (statement false true) x u (inr (inl h))

in_function : (l : Bool) (x : Node × ℕ) (u : List EsToken) → Rules return_statement x u → Spells table (statement true l) x u
unfolding any_statement table
in_function l x u h = by_production (statement true l) x u (inl h)

-- ---- each statement

abbrev Semicolon : List EsToken → Type 0
Semicolon u = AreTokens (kind_of.Mark mark.Semicolon ∷ []) u

semicolon_is : (c : EsToken) → c.kind ≡ kind_of.Mark mark.Semicolon → Rules (token (op mark.Semicolon)) c (c ∷ [])
unfolding table
semicolon_is c e = (c, refl, token_is (op mark.Semicolon) (kind_of.Mark mark.Semicolon) c e refl)

pub block_statement_spelled : (f l : Bool) (ss : List EsStmt) (u : List EsToken) → BodySpelled (block f l) ss u → StatementSpelled f l false (stmt.Block ss) u
unfolding block_statement stmt_of
block_statement_spelled f l ss u b = record { node = (closed (stmt.Block (stmts b.nodes))).0; spells = in_place f l (closed (stmt.Block (stmts b.nodes))) u (inl (b.nodes, refl, b.spells)); same = same_block (stmts b.nodes) ss b.same }

pub var_spelled : (f l : Bool) (k : EsTokenKind) (name : List ℕ) (u : List EsToken) → key keyword.Var (code_of (terminal_of k)) ≡ true → a terminal.Name (code_of (terminal_of_word name)) ≡ true
    → Then (AreTokens (k ∷ [])) (Then (AreTokens (kind_of.Word name ∷ [])) Semicolon) u → StatementSpelled f l false (stmt.Var name None) u
unfolding variable_statement stmt_of table
var_spelled f l k name _ c i (both _ _ (next t e end) (both _ _ (next n g end) (next s h end))) = record {
  node = (closed (stmt.Var (name_of n) None)).0;
  spells = in_place f l (closed (stmt.Var (name_of n) None)) (t ∷ n ∷ s ∷ []) (inr (inl (
    (n, None),
    refl,
    (
      (t, (n, None)),
      refl,
      (
        t ∷ [],
        n ∷ s ∷ [],
        refl,
        (t, refl, token_is (key keyword.Var) k t e c),
        (n ∷ [], s ∷ [], refl, (n, refl, token_is (a terminal.Name) (kind_of.Word name) n g i), ((None, s), refl, ([], s ∷ [], refl, inr (refl, refl), semicolon_is s h))),
      ),
    ),
  )));
  same = subst (λ m. SameStmt (stmt.Var m None) (stmt.Var name None)) (sym (ap name_in g)) (stmt_refl (stmt.Var name None));
}

pub var_set_spelled : (f l opens : Bool) (k : EsTokenKind) (name : List ℕ) (value : EsExpr) (u : List EsToken) → key keyword.Var (code_of (terminal_of k)) ≡ true → a terminal.Name (code_of (terminal_of_word name)) ≡ true
    → Then (AreTokens (k ∷ [])) (Then (AreTokens (kind_of.Word name ∷ [])) (Then (Then (AreTokens (kind_of.Mark mark.Assign ∷ [])) (Spelled 12 opens value.kind)) Semicolon)) u → StatementSpelled f l false (stmt.Var name (Some value)) u
unfolding variable_statement stmt_of expr_of table
var_set_spelled f l opens k name value _ c i (both _ _ (next t e end) (both _ _ (next n g end) (both _ _ (both _ v (next q j end) x) (next s h end)))) = record {
  node = (closed (stmt.Var (name_of n) (Some (expr_of x.x.1)))).0;
  spells = in_place f l (closed (stmt.Var (name_of n) (Some (expr_of x.x.1)))) (t ∷ n ∷ q ∷ (v ++ s ∷ [])) (inr (inl (
    (n, Some x.x.1),
    refl,
    (
      (t, (n, Some x.x.1)),
      refl,
      (
        t ∷ [],
        n ∷ q ∷ (v ++ s ∷ []),
        refl,
        (t, refl, token_is (key keyword.Var) k t e c),
        (
          n ∷ [],
          q ∷ (v ++ s ∷ []),
          refl,
          (n, refl, token_is (a terminal.Name) (kind_of.Word name) n g i),
          (
            (Some x.x.1, s),
            refl,
            (q ∷ v, s ∷ [], refl, inl (x.x.1, refl, ((q, x.x.1), refl, (q ∷ [], v, refl, (q, refl, token_is (op mark.Assign) (kind_of.Mark mark.Assign) q j refl), as_expr level.Assignment x.x v x.spells))), semicolon_is s h),
          ),
        ),
      ),
    ),
  )));
  same = subst (λ m. SameStmt (stmt.Var m (Some (expr_of x.x.1))) (stmt.Var name (Some value))) (sym (ap name_in g)) (same_var name (expr_of x.x.1) value x.same);
}

pub expression_spelled : (f l : Bool) (value : EsExpr) (u : List EsToken) → Then (Spelled 12 false value.kind) Semicolon u → StatementSpelled f l false (stmt.Expr value) u
unfolding expression_statement ended stmt_of expr_of table
expression_spelled f l value _ (both v _ x (next s h end)) = record {
  node = (closed (stmt.Expr (expr_of x.x.1))).0;
  spells = in_place f l (closed (stmt.Expr (expr_of x.x.1))) (v ++ s ∷ []) (inr (inr (inr (inr (inr (inr (inr (
    x.x.1,
    refl,
    (starts_more v (s ∷ []) (x.starts refl), ((x.x.1, s), refl, (v, s ∷ [], refl, as_expr level.Assignment x.x v x.spells, semicolon_is s h))),
  ))))))));
  same = same_statement (expr_of x.x.1) value x.same;
}

pub empty_spelled : (f l : Bool) (u : List EsToken) → Semicolon u → StatementSpelled f l false stmt.Empty u
unfolding empty_statement stmt_of table
empty_spelled f l _ (next s h end) = record {
  node = (closed stmt.Empty).0;
  spells = in_place f l (closed stmt.Empty) (s ∷ []) (inr (inr (inl (s, refl, (s, refl, token_is (op mark.Semicolon) (kind_of.Mark mark.Semicolon) s h refl)))));
  same = stmt_refl stmt.Empty;
}

-- a condition in its brackets
condition_spelled : (b c : EsToken) (opens : Bool) (test : EsExpr) (v : List EsToken) (x : Spelled 12 opens test.kind v) → b.kind ≡ kind_of.Mark mark.OpenParen → c.kind ≡ kind_of.Mark mark.CloseParen → Rules condition x.x.1 (b ∷ (v ++ c ∷ []))
unfolding condition table
condition_spelled b c opens test v x e f = (
  (b, x.x.1),
  refl,
  (
    b ∷ [],
    v ++ c ∷ [],
    refl,
    (b, refl, token_is (op mark.OpenParen) (kind_of.Mark mark.OpenParen) b e refl),
    ((x.x.1, c), refl, (v, c ∷ [], refl, as_expr level.Assignment x.x v x.spells, (c, refl, token_is (op mark.CloseParen) (kind_of.Mark mark.CloseParen) c f refl))),
  ),
)

-- a keyword, a condition and a statement
abbrev Tested : EsTokenKind → Bool → EsExpr → List EsToken → Type 0
Tested k opens test u = Then (AreTokens (k ∷ kind_of.Mark mark.OpenParen ∷ [])) (Then (Spelled 12 opens test.kind) (AreTokens (kind_of.Mark mark.CloseParen ∷ []))) u

branch_spelled : (f l : Bool) (k : EsTokenKind) (i b c : EsToken) (opens short : Bool) (test : EsExpr) (first : EsStmt) (v w : List EsToken) (x : Spelled 12 opens test.kind v) (y : StatementSpelled f l short first w)
    → key keyword.If (code_of (terminal_of k)) ≡ true → i.kind ≡ k → b.kind ≡ kind_of.Mark mark.OpenParen → c.kind ≡ kind_of.Mark mark.CloseParen → Rules (first_branch f l) ((x.x.1, (y.node, number_of short)), None) (i ∷ b ∷ ((v ++ c ∷ []) ++ w))
unfolding first_branch table
branch_spelled f l k i b c opens short test first v w x y h e g j = (
  (x.x.1, (y.node, number_of short)),
  refl,
  (
    (i, (x.x.1, (y.node, number_of short))),
    refl,
    (
      i ∷ [],
      b ∷ ((v ++ c ∷ []) ++ w),
      refl,
      (i, refl, token_is (key keyword.If) k i e h),
      (b ∷ (v ++ c ∷ []), w, refl, condition_spelled b c opens test v x g j, y.spells),
    ),
  ),
)

pub if_spelled : (f l : Bool) (k : EsTokenKind) (opens short : Bool) (test : EsExpr) (first : EsStmt) (u : List EsToken) → key keyword.If (code_of (terminal_of k)) ≡ true
    → Then (Tested k opens test) (Then (StatementSpelled f l short first) (AreTokens [])) u → StatementSpelled f l true (stmt.If test first None) u
unfolding if_statement both_branches stmt_of expr_of table
if_spelled f l k opens short test first _ h (both _ _ (both _ _ (next i e (next b g end)) (both v _ x (next c j end))) (both w _ y end)) = record {
  node = (branched ((x.x.1, (y.node, number_of short)), None)).0;
  spells =
      subst (λ z. Spells table (statement f l) (branched ((x.x.1, (y.node, number_of short)), None)) (i ∷ b ∷ ((v ++ c ∷ []) ++ z))) (sym (append-nil w))
      (in_place f l (branched ((x.x.1, (y.node, number_of short)), None)) (i ∷ b ∷ ((v ++ c ∷ []) ++ w)) (inr (inr (inr (inl (((x.x.1, (y.node, number_of short)), None), refl, inl (branch_spelled f l k i b c opens short test first v w x y h e g j)))))));
  same = same_if (expr_of x.x.1) test (stmt_of y.node) first x.same y.same;
}

pub if_else_spelled : (f l : Bool) (k m : EsTokenKind) (opens short : Bool) (test : EsExpr) (first second : EsStmt) (u : List EsToken) → key keyword.If (code_of (terminal_of k)) ≡ true → key keyword.Else (code_of (terminal_of m)) ≡ true
    → Then (Tested k opens test) (Then (StatementSpelled f l false first) (Then (AreTokens (m ∷ [])) (StatementSpelled f l short second))) u → StatementSpelled f l short (stmt.If test first (Some second)) u
unfolding if_statement both_branches stmt_of expr_of table
if_else_spelled f l k m opens short test first second _ h o (both _ _ (both _ _ (next i e (next b g end)) (both v _ x (next c j end))) (both w _ y (both _ z (next n p end) q))) =
    let parts : (Node × (Node × ℕ)) × Option (Node × ℕ) = ((x.x.1, (y.node, 0)), Some (q.node, number_of short)) in
    record {
      node = (branched parts).0;
      spells = in_place f l (branched parts) (i ∷ b ∷ ((v ++ c ∷ []) ++ (w ++ n ∷ z))) (inr (inr (inr (inl (
        parts,
        refl,
        inr (
          ((x.x.1, (y.node, 0)), None),
          (q.node, number_of short),
          i ∷ b ∷ ((v ++ c ∷ []) ++ w),
          n ∷ z,
          refl,
          ap (λ t. i ∷ b ∷ t) (sym (append_assoc (v ++ c ∷ []) w (n ∷ z))),
          refl,
          branch_spelled f l k i b c opens false test first v w x y h e g j,
          ((n, (q.node, number_of short)), refl, (n ∷ [], z, refl, (n, refl, token_is (key keyword.Else) m n p o), q.spells)),
        ),
      )))));
      same = same_if_else (expr_of x.x.1) test (stmt_of y.node) first (stmt_of q.node) second x.same y.same q.same;
    }

pub while_spelled : (f l : Bool) (k : EsTokenKind) (opens short : Bool) (test : EsExpr) (body : EsStmt) (u : List EsToken) → key keyword.While (code_of (terminal_of k)) ≡ true
    → Then (Tested k opens test) (StatementSpelled f true short body) u → StatementSpelled f l short (stmt.While test body) u
unfolding while_statement stmt_of expr_of table
while_spelled f l k opens short test body _ h (both _ w (both _ _ (next i e (next b g end)) (both v _ x (next c j end))) y) = record {
  node = (looped (x.x.1, (y.node, number_of short))).0;
  spells = in_place f l (looped (x.x.1, (y.node, number_of short))) (i ∷ b ∷ ((v ++ c ∷ []) ++ w)) (inr (inr (inr (inr (inl (
    (x.x.1, (y.node, number_of short)),
    refl,
    (
      (i, (x.x.1, (y.node, number_of short))),
      refl,
      (
        i ∷ [],
        b ∷ ((v ++ c ∷ []) ++ w),
        refl,
        (i, refl, token_is (key keyword.While) k i e h),
        (b ∷ (v ++ c ∷ []), w, refl, condition_spelled b c opens test v x g j, y.spells),
      ),
    ),
  ))))));
  same = same_while (expr_of x.x.1) test (stmt_of y.node) body x.same y.same;
}

pub return_spelled : (l : Bool) (k : EsTokenKind) (u : List EsToken) → key keyword.Return (code_of (terminal_of k)) ≡ true → Then (AreTokens (k ∷ [])) Semicolon u → StatementSpelled true l false (stmt.Return None) u
unfolding return_statement stmt_of table
return_spelled l k _ c (both _ _ (next t e end) (next s h end)) = record {
  node = (closed (stmt.Return None)).0;
  spells = in_function l (closed (stmt.Return None)) (t ∷ s ∷ []) (
    None,
    refl,
    ((t, None), refl, (t ∷ [], s ∷ [], refl, (t, refl, token_is (key keyword.Return) k t e c), ((None, s), refl, ([], s ∷ [], refl, inr (refl, refl), semicolon_is s h)))),
  );
  same = stmt_refl (stmt.Return None);
}

pub return_value_spelled : (l opens : Bool) (k : EsTokenKind) (value : EsExpr) (u : List EsToken) → key keyword.Return (code_of (terminal_of k)) ≡ true
    → Then (AreTokens (k ∷ [])) (Then (Then (AreTokens []) (Spelled 12 opens value.kind)) Semicolon) u → StatementSpelled true l false (stmt.Return (Some value)) u
unfolding return_statement stmt_of expr_of table
return_value_spelled l opens k value _ c (both _ _ (next t e end) (both _ _ (both _ v end x) (next s h end))) = record {
  node = (closed (stmt.Return (Some (expr_of x.x.1)))).0;
  spells = in_function l (closed (stmt.Return (Some (expr_of x.x.1)))) (t ∷ (v ++ s ∷ [])) (
    Some x.x.1,
    refl,
    (
      (t, Some x.x.1),
      refl,
      (t ∷ [], v ++ s ∷ [], refl, (t, refl, token_is (key keyword.Return) k t e c), ((Some x.x.1, s), refl, (v, s ∷ [], refl, inl (x.x.1, refl, as_expr level.Assignment x.x v x.spells), semicolon_is s h))),
    ),
  );
  same = same_return (expr_of x.x.1) value x.same;
}

pub throw_spelled : (f l opens : Bool) (k : EsTokenKind) (value : EsExpr) (u : List EsToken) → key keyword.Throw (code_of (terminal_of k)) ≡ true
    → Then (Then (AreTokens (k ∷ [])) (Spelled 12 opens value.kind)) Semicolon u → StatementSpelled f l false (stmt.Throw value) u
unfolding throw_statement ended stmt_of expr_of table
throw_spelled f l opens k value _ c (both _ _ (both _ v (next t e end) x) (next s h end)) = record {
  node = (closed (stmt.Throw (expr_of x.x.1))).0;
  spells = in_place f l (closed (stmt.Throw (expr_of x.x.1))) (t ∷ (v ++ s ∷ [])) (inr (inr (inr (inr (inr (inl (
    x.x.1,
    refl,
    ((t, x.x.1), refl, (t ∷ [], v ++ s ∷ [], refl, (t, refl, token_is (key keyword.Throw) k t e c), ((x.x.1, s), refl, (v, s ∷ [], refl, as_expr level.Assignment x.x v x.spells, semicolon_is s h)))),
  )))))));
  same = same_throw (expr_of x.x.1) value x.same;
}

pub break_spelled : (f : Bool) (k : EsTokenKind) (u : List EsToken) → key keyword.Break (code_of (terminal_of k)) ≡ true → AreTokens (k ∷ kind_of.Mark mark.Semicolon ∷ []) u → StatementSpelled f true false stmt.Break u
unfolding break_statement stmt_of table
break_spelled f k _ c (next t e (next s h end)) = record {
  node = (closed stmt.Break).0;
  spells = in_loop f (closed stmt.Break) (t ∷ s ∷ []) (inl (t, refl, ((t, s), refl, (t ∷ [], s ∷ [], refl, (t, refl, token_is (key keyword.Break) k t e c), semicolon_is s h))));
  same = stmt_refl stmt.Break;
}

pub continue_spelled : (f : Bool) (k : EsTokenKind) (u : List EsToken) → key keyword.Continue (code_of (terminal_of k)) ≡ true → AreTokens (k ∷ kind_of.Mark mark.Semicolon ∷ []) u → StatementSpelled f true false stmt.Continue u
unfolding continue_statement stmt_of table
continue_spelled f k _ c (next t e (next s h end)) = record {
  node = (closed stmt.Continue).0;
  spells = in_loop f (closed stmt.Continue) (t ∷ s ∷ []) (inr (t, refl, ((t, s), refl, (t ∷ [], s ∷ [], refl, (t, refl, token_is (key keyword.Continue) k t e c), semicolon_is s h))));
  same = stmt_refl stmt.Continue;
}

-- ---- `try` and its parts

pub record CatchSpelled (f l : Bool) (c : Catch) (u : List EsToken) : Type 0 where
  pub parts : EsToken × List Node
  pub spells : Rules (catch_part f l) parts u
  pub same : bare_catch (caught parts) ≡ bare_catch c

pub catch_spelled : (f l : Bool) (k : EsTokenKind) (c : Catch) (u : List EsToken) → key keyword.Catch (code_of (terminal_of k)) ≡ true → a terminal.Name (code_of (terminal_of_word c.name)) ≡ true
    → Then (AreTokens (k ∷ kind_of.Mark mark.OpenParen ∷ [])) (Then (AreTokens (kind_of.Word c.name ∷ [])) (Then (AreTokens (kind_of.Mark mark.CloseParen ∷ [])) (BodySpelled (block f l) c.body))) u → CatchSpelled f l c u
unfolding catch_part table
catch_spelled f l k c _ h i (both _ _ (next t e (next b g end)) (both _ _ (next n j end) (both _ w (next d m end) body))) = record {
  parts = (n, body.nodes);
  spells = (
    (t, (n, body.nodes)),
    refl,
    (
      t ∷ [],
      b ∷ n ∷ d ∷ w,
      refl,
      (t, refl, token_is (key keyword.Catch) k t e h),
      (
        b ∷ n ∷ d ∷ [],
        w,
        refl,
        (
          (b, n),
          refl,
          (
            b ∷ [],
            n ∷ d ∷ [],
            refl,
            (b, refl, token_is (op mark.OpenParen) (kind_of.Mark mark.OpenParen) b g refl),
            ((n, d), refl, (n ∷ [], d ∷ [], refl, (n, refl, token_is (a terminal.Name) (kind_of.Word c.name) n j i), (d, refl, token_is (op mark.CloseParen) (kind_of.Mark mark.CloseParen) d m refl))),
          ),
        ),
        body.spells,
      ),
    ),
  );
  same = same_catch (caught (n, body.nodes)) c (ap name_in j) body.same;
}

pub finally_spelled : (f l : Bool) (k : EsTokenKind) (ss : List EsStmt) (u : List EsToken) → key keyword.Finally (code_of (terminal_of k)) ≡ true → Then (AreTokens (k ∷ [])) (BodySpelled (block f l) ss) u → BodySpelled (finally_part f l) ss u
unfolding finally_part table
finally_spelled f l k ss _ h (both _ w (next t e end) b) = record { nodes = b.nodes; spells = ((t, b.nodes), refl, (t ∷ [], w, refl, (t, refl, token_is (key keyword.Finally) k t e h), b.spells)); same = b.same }

abbrev Tries : Bool → Bool → EsTokenKind → List EsStmt → List EsToken → Type 0
Tries f l k ss u = Then (AreTokens (k ∷ [])) (BodySpelled (block f l) ss) u

-- the keyword, the block and what stands behind it
try_rule : (f l : Bool) (k : EsTokenKind) (t : EsToken) (ns : List Node) (hs : Option (EsToken × List Node) × Option (List Node)) (v w : List EsToken) → key keyword.Try (code_of (terminal_of k)) ≡ true → t.kind ≡ k
    → Rules (block f l) ns v → Rules (handlers f l) hs w → Spells table (statement f l) (closed (tried (ns, hs))) ((t ∷ v) ++ w)
unfolding try_statement table
try_rule f l k t ns hs v w h e b p =
    in_place f l (closed (tried (ns, hs))) (t ∷ (v ++ w)) (inr (inr (inr (inr (inr (inr (inl (
      (ns, hs),
      refl,
      ((t, (ns, hs)), refl, (t ∷ [], v ++ w, refl, (t, refl, token_is (key keyword.Try) k t e h), (v, w, refl, b, p))),
    ))))))))

pub try_catch_spelled : (f l : Bool) (k : EsTokenKind) (ss : List EsStmt) (c : Catch) (u : List EsToken) → key keyword.Try (code_of (terminal_of k)) ≡ true
    → Then (Tries f l k ss) (Then (CatchSpelled f l c) (AreTokens [])) u → StatementSpelled f l false (stmt.Try ss (Some c) None) u
unfolding handlers stmt_of
try_catch_spelled f l k ss c _ h (both _ _ (both _ v (next t e end) b) (both w _ p end)) = record {
  node = (closed (tried (b.nodes, (Some p.parts, None)))).0;
  spells = try_rule f l k t b.nodes (Some p.parts, None) v (w ++ []) h e b.spells (inl (w, [], refl, (p.parts, refl, p.spells), inr (refl, refl)));
  same = same_try_catch (stmts b.nodes) ss (caught p.parts) c b.same p.same;
}

pub try_finally_spelled : (f l : Bool) (k : EsTokenKind) (ss last : List EsStmt) (u : List EsToken) → key keyword.Try (code_of (terminal_of k)) ≡ true
    → Then (Tries f l k ss) (Then (AreTokens []) (BodySpelled (finally_part f l) last)) u → StatementSpelled f l false (stmt.Try ss None (Some last)) u
unfolding handlers stmt_of
try_finally_spelled f l k ss last _ h (both _ _ (both _ v (next t e end) b) (both _ w end p)) = record {
  node = (closed (tried (b.nodes, (None, Some p.nodes)))).0;
  spells = try_rule f l k t b.nodes (None, Some p.nodes) v w h e b.spells (inr (p.nodes, refl, p.spells));
  same = same_try_finally (stmts b.nodes) ss (stmts p.nodes) last b.same p.same;
}

pub try_both_spelled : (f l : Bool) (k : EsTokenKind) (ss : List EsStmt) (c : Catch) (last : List EsStmt) (u : List EsToken) → key keyword.Try (code_of (terminal_of k)) ≡ true
    → Then (Tries f l k ss) (Then (CatchSpelled f l c) (BodySpelled (finally_part f l) last)) u → StatementSpelled f l false (stmt.Try ss (Some c) (Some last)) u
unfolding handlers stmt_of
try_both_spelled f l k ss c last _ h (both _ _ (both _ v (next t e end) b) (both w z p q)) = record {
  node = (closed (tried (b.nodes, (Some p.parts, Some q.nodes)))).0;
  spells = try_rule f l k t b.nodes (Some p.parts, Some q.nodes) v (w ++ z) h e b.spells (inl (w, z, refl, (p.parts, refl, p.spells), inl (q.nodes, refl, q.spells)));
  same = same_try_both (stmts b.nodes) ss (caught p.parts) c (stmts q.nodes) last b.same p.same q.same;
}

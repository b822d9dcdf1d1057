-- What the tokens of objects, functions and lists of statements spell, from what those of their parts do.
use Rattle.std.proofs.Common.{◌≡◌, ℕ, Bool, true, false, not, ◌||◌, List, [], ◌∷◌, ◌++◌, map, Option, Some, None, refl, sym, ap, ◌∙◌, subst, append_assoc, inl, inr, true≢false}
use Rattle.std.specs.Prelude.{bytes_eq}
use Rattle.std.specs.Option.{option_map}
use Rattle.std.specs.List.{list_any}
use Rattle.std.proofs.lemmas.Bool.{and_parts}
use Rattle.grammar.specs.Rules.{absent, choice, leaf, list, named, optional, pair, token, tree}
use Rattle.grammar.specs.Spelling.{Spells}
use Rattle.grammar.specs.CommonRules.{maybe}
use Rattle.es5_tree.specs.declared.terminal.Keyword.TheVariants as keyword
use Rattle.es5_tree.specs.declared.terminal.Level.TheVariants as level
use Rattle.es5_tree.specs.declared.terminal.Terminal.TheVariants as terminal
use Rattle.es5_tree.specs.declared.token.EsMark.TheVariants as mark
use Rattle.es5_tree.specs.declared.token.EsToken.{EsToken}
use Rattle.es5_tree.specs.declared.token.EsTokenKind.{EsTokenKind}
use Rattle.es5_tree.specs.declared.token.EsTokenKind.TheVariants as kind_of
use Rattle.es5_tree.specs.declared.tree.EsExpr.{EsExpr}
use Rattle.es5_tree.specs.declared.tree.EsKind.TheVariants as kind
use Rattle.es5_tree.specs.declared.tree.EsStmt.{EsStmt}
use Rattle.es5_tree.specs.Grammar.Expressions.{block, function_expression, more_pairs, more_params, object_literal, pair_list, param_list, parameters, primary, statement_list, value_and_more}
use Rattle.es5_tree.specs.Grammar.Names.{pairs, params, R, statement}
use Rattle.es5_tree.specs.Grammar.Nodes.{expr_of, function, made, name_in, name_of, names_of, Node, object, stmt_of, stmts}
use Rattle.es5_tree.specs.Grammar.Spelling.{bare_stmt}
use Rattle.es5_tree.specs.Grammar.Table.{table}
use Rattle.es5_tree.specs.Grammar.Terminals.{a, code_of, identifier, key, op, terminal_of, terminal_of_word}
use Rattle.es5_tree.proofs.Bare.{bare_expr}
use Rattle.es5_spelling.specs.Spellable.{none_twice}
use Rattle.es5_spelling.proofs.Names.{not_true}
use Rattle.es5_spelling.proofs.Bare.{Same, same_expr, same_function, same_object, SameStmt}
use Rattle.es5_spelling.proofs.Cuts.{AreTokens, both, end, next, Then}
use Rattle.es5_spelling.proofs.Levels.{Spelled}
use Rattle.es5_spelling.proofs.Primaries.{Fresh, or_none, such_token}
use Rattle.es5_spelling.proofs.Rules.{as_expr, by_production, Rules, token_is}

-- ---- names of which none stands twice

fresh_more : (name : List ℕ) (seen names : List (List ℕ)) → list_any (λ other. bytes_eq name other) names ≡ false → Fresh seen names → Fresh (name ∷ seen) names
fresh_more name seen [] e h = tt
fresh_more name seen (other ∷ names) e h =
    let none = or_none (bytes_eq name other) (list_any (λ other. bytes_eq name other) names) e in
    (ap (λ b. b || list_any (λ o. bytes_eq o other) seen) none.0 ∙ h.0, fresh_more name seen names none.1 h.1)

pub fresh_start : (names : List (List ℕ)) → Fresh [] names
fresh_start [] = tt
fresh_start (name ∷ names) = (refl, fresh_start names)

-- behind the first name
pub fresh_next : (name : List ℕ) (seen names : List (List ℕ)) → none_twice (name ∷ names) ≡ true → Fresh seen (name ∷ names) → (none_twice names ≡ true) × Fresh (name ∷ seen) names
fresh_next name seen names e h =
    let parts = and_parts (not (list_any (λ other. bytes_eq name other) names)) (none_twice names) e in
    (parts.1, fresh_more name seen names (not_true (list_any (λ other. bytes_eq name other) names) parts.0) h.1)

-- ---- objects

-- pairs behind commas
pub data Pairs : List (List ℕ) → List EsExpr → List EsToken → Type 0 where
  no_pair : Pairs [] [] []
  one_pair : (t k d : EsToken) (opens : Bool) (name : List ℕ) (names : List (List ℕ)) (e : EsExpr) (es : List EsExpr) (v w : List EsToken)
      → t.kind ≡ kind_of.Mark mark.Comma → k.kind ≡ kind_of.Word name → d.kind ≡ kind_of.Mark mark.Colon → identifier (code_of (terminal_of_word name)) ≡ true → Spelled 12 opens e.kind v → Pairs names es w
      → Pairs (name ∷ names) (e ∷ es) (t ∷ k ∷ d ∷ (v ++ w))

pub record PairsSpelled (r : R (list (pair leaf tree))) (names : List (List ℕ)) (es : List EsExpr) (u : List EsToken) : Type 0 where
  pub nodes : List (EsToken × Node)
  pub spells : Rules r nodes u
  pub keys : map (λ p. name_of p.0) nodes ≡ names
  pub same : map bare_expr (map (λ p. expr_of p.1) nodes) ≡ map bare_expr es

-- a pair and those behind it
first_pair : (seen : List (List ℕ)) (k d : EsToken) (opens : Bool) (name : List ℕ) (names : List (List ℕ)) (e : EsExpr) (es : List EsExpr) (v w : List EsToken)
    → k.kind ≡ kind_of.Word name → d.kind ≡ kind_of.Mark mark.Colon → identifier (code_of (terminal_of_word name)) ≡ true → list_any (λ other. bytes_eq other name) seen ≡ false
    → Spelled 12 opens e.kind v → PairsSpelled (more_pairs (name ∷ seen)) names es w → PairsSpelled (named (pairs seen)) (name ∷ names) (e ∷ es) (k ∷ d ∷ (v ++ w))
unfolding pair_list value_and_more table
first_pair seen k d opens name names e es v w i c f n s rest = record {
  nodes = (k, s.x.1) ∷ rest.nodes;
  spells = by_production (pairs seen) ((k, s.x.1) ∷ rest.nodes) (k ∷ d ∷ (v ++ w)) (
    (k, (s.x.1, rest.nodes)),
    refl,
    (
      k ∷ [],
      d ∷ (v ++ w),
      refl,
      (k, refl, such_token identifier seen k name i f n),
      subst (λ n. Rules (value_and_more (n ∷ seen)) (s.x.1, rest.nodes) (d ∷ (v ++ w))) (sym (ap name_in i)) (
        (d, (s.x.1, rest.nodes)),
        refl,
        (d ∷ [], v ++ w, refl, (d, refl, token_is (op mark.Colon) (kind_of.Mark mark.Colon) d c refl), (v, w, refl, as_expr level.Assignment s.x v s.spells, rest.spells)),
      ),
    ),
  );
  keys = ap (λ n. n ∷ map (λ p. name_of p.0) rest.nodes) (ap name_in i) ∙ ap (λ l. name ∷ l) rest.keys;
  same = ap (λ x. x ∷ map bare_expr (map (λ p. expr_of p.1) rest.nodes)) (same_expr (expr_of s.x.1) e s.same) ∙ ap (λ l. bare_expr e ∷ l) rest.same;
}

more_spelled : (seen names : List (List ℕ)) (es : List EsExpr) (u : List EsToken) → none_twice names ≡ true → Fresh seen names → Pairs names es u → PairsSpelled (more_pairs seen) names es u
unfolding more_pairs table
more_spelled seen _ _ _ n h no_pair = record { nodes = []; spells = inr (refl, refl); keys = refl; same = refl }
more_spelled seen _ _ _ n h (one_pair t k d opens name names e es v w c i j f s more) =
    let after = fresh_next name seen names n h in
    let whole = first_pair seen k d opens name names e es v w i j f h.0 s (more_spelled (name ∷ seen) names es w after.0 after.1 more) in
    record {
      nodes = whole.nodes;
      spells = inl ((t, whole.nodes), refl, (t ∷ [], k ∷ d ∷ (v ++ w), refl, (t, refl, token_is (op mark.Comma) (kind_of.Mark mark.Comma) t c refl), inl whole.spells));
      keys = whole.keys;
      same = whole.same;
    }

-- what stands between the braces
abbrev pub all_pairs : R (list (pair leaf tree))
all_pairs = choice (named (pairs [])) (absent [])

pub no_pairs : PairsSpelled all_pairs [] [] []
no_pairs = record { nodes = []; spells = inr (refl, refl); keys = refl; same = refl }

pub some_pairs : (opens : Bool) (name : List ℕ) (names : List (List ℕ)) (e : EsExpr) (es : List EsExpr) (u : List EsToken) → identifier (code_of (terminal_of_word name)) ≡ true → none_twice (name ∷ names) ≡ true
    → Then (Then (AreTokens (kind_of.Word name ∷ [])) (Then (AreTokens (kind_of.Mark mark.Colon ∷ [])) (Spelled 12 opens e.kind))) (Pairs names es) u → PairsSpelled all_pairs (name ∷ names) (e ∷ es) u
some_pairs opens name names e es _ f n (both _ w (both _ _ (next k i end) (both _ v (next d j end) s)) more) =
    let after = fresh_next name [] names n (fresh_start (name ∷ names)) in
    let whole = first_pair [] k d opens name names e es v w i j f refl s (more_spelled (name ∷ []) names es w after.0 after.1 more) in
    record { nodes = whole.nodes; spells = inl whole.spells; keys = whole.keys; same = whole.same }

pub object_spelled : (names : List (List ℕ)) (es : List EsExpr) (u : List EsToken) → Then (AreTokens (kind_of.Mark mark.OpenBrace ∷ [])) (Then (PairsSpelled all_pairs names es) (AreTokens (kind_of.Mark mark.CloseBrace ∷ []))) u → Spelled 0 true (kind.Object names es) u
unfolding primary object_literal table expr_of
object_spelled names es _ (both _ _ (next t e end) (both v _ l (next c f end))) = record {
  x = (t, made t (object l.nodes));
  spells = inr (inr (inr (inl (
    (t, l.nodes),
    refl,
    (
      t ∷ [],
      v ++ c ∷ [],
      refl,
      (t, refl, token_is (op mark.OpenBrace) (kind_of.Mark mark.OpenBrace) t e refl),
      ((l.nodes, c), refl, (v, c ∷ [], refl, l.spells, (c, refl, token_is (op mark.CloseBrace) (kind_of.Mark mark.CloseBrace) c f refl))),
    ),
  ))));
  same =
      subst (λ ks. Same (kind.Object ks (map (λ p. expr_of p.1) l.nodes)) (kind.Object names es)) (sym l.keys)
      (same_object names (map (λ p. expr_of p.1) l.nodes) es l.same);
  starts = λ h. absurd (true≢false h);
}

-- ---- parameters

pub data Params : List (List ℕ) → List EsToken → Type 0 where
  no_param : Params [] []
  one_param : (t k : EsToken) (name : List ℕ) (names : List (List ℕ)) (w : List EsToken) → t.kind ≡ kind_of.Mark mark.Comma → k.kind ≡ kind_of.Word name → a terminal.Name (code_of (terminal_of_word name)) ≡ true → Params names w → Params (name ∷ names) (t ∷ k ∷ w)

pub record ParamsSpelled (r : R (list leaf)) (names : List (List ℕ)) (u : List EsToken) : Type 0 where
  pub tokens : List EsToken
  pub spells : Rules r tokens u
  pub are : names_of tokens ≡ names

first_param : (seen : List (List ℕ)) (k : EsToken) (name : List ℕ) (names : List (List ℕ)) (w : List EsToken) → k.kind ≡ kind_of.Word name → a terminal.Name (code_of (terminal_of_word name)) ≡ true
    → list_any (λ other. bytes_eq other name) seen ≡ false → ParamsSpelled (more_params (name ∷ seen)) names w → ParamsSpelled (named (params seen)) (name ∷ names) (k ∷ w)
unfolding param_list table
first_param seen k name names w i f n rest = record {
  tokens = k ∷ rest.tokens;
  spells = by_production (params seen) (k ∷ rest.tokens) (k ∷ w) (
    (k, rest.tokens),
    refl,
    (k ∷ [], w, refl, (k, refl, such_token (a terminal.Name) seen k name i f n), subst (λ n. Rules (more_params (n ∷ seen)) rest.tokens w) (sym (ap name_in i)) rest.spells),
  );
  are = ap (λ n. n ∷ names_of rest.tokens) (ap name_in i) ∙ ap (λ l. name ∷ l) rest.are;
}

more_params_spelled : (seen names : List (List ℕ)) (u : List EsToken) → none_twice names ≡ true → Fresh seen names → Params names u → ParamsSpelled (more_params seen) names u
unfolding more_params table
more_params_spelled seen _ _ n h no_param = record { tokens = []; spells = inr (refl, refl); are = refl }
more_params_spelled seen _ _ n h (one_param t k name names w c i f more) =
    let after = fresh_next name seen names n h in
    let whole = first_param seen k name names w i f h.0 (more_params_spelled (name ∷ seen) names w after.0 after.1 more) in
    record {
      tokens = whole.tokens;
      spells = inl ((t, whole.tokens), refl, (t ∷ [], k ∷ w, refl, (t, refl, token_is (op mark.Comma) (kind_of.Mark mark.Comma) t c refl), whole.spells));
      are = whole.are;
    }

abbrev pub all_params : R (list leaf)
all_params = choice (named (params [])) (absent [])

pub no_params : ParamsSpelled all_params [] []
no_params = record { tokens = []; spells = inr (refl, refl); are = refl }

pub some_params : (name : List ℕ) (names : List (List ℕ)) (u : List EsToken) → a terminal.Name (code_of (terminal_of_word name)) ≡ true → none_twice (name ∷ names) ≡ true
    → Then (AreTokens (kind_of.Word name ∷ [])) (Params names) u → ParamsSpelled all_params (name ∷ names) u
some_params name names _ f n (both _ w (next k i end) more) =
    let after = fresh_next name [] names n (fresh_start (name ∷ names)) in
    let whole = first_param [] k name names w i f refl (more_params_spelled (name ∷ []) names w after.0 after.1 more) in
    record { tokens = whole.tokens; spells = inl whole.spells; are = whole.are }

-- ---- statements one after the other

abbrev pub number_of : Bool → ℕ
number_of true = 1
number_of false = 0

pub record StatementSpelled (f l short : Bool) (s : EsStmt) (u : List EsToken) : Type 0 where
  pub node : Node
  pub spells : Spells table (statement f l) (node, number_of short) u
  pub same : SameStmt (stmt_of node) s

pub record BodySpelled (r : R (list tree)) (ss : List EsStmt) (u : List EsToken) : Type 0 where
  pub nodes : List Node
  pub spells : Rules r nodes u
  pub same : map bare_stmt (stmts nodes) ≡ map bare_stmt ss

pub no_statements : (f l : Bool) → BodySpelled (statement_list f l) [] []
unfolding statement_list
no_statements f l = record { nodes = []; spells = refl; same = refl }

pub more_statements : (f l short : Bool) (s : EsStmt) (ss : List EsStmt) (u : List EsToken) → Then (StatementSpelled f l short s) (BodySpelled (statement_list f l) ss) u → BodySpelled (statement_list f l) (s ∷ ss) u
unfolding statement_list
more_statements f l short s ss _ (both v w x more) = record {
  nodes = x.node ∷ more.nodes;
  spells = (v, w, refl, ((x.node, number_of short), refl, x.spells), more.spells);
  same = ap (λ y. y ∷ map bare_stmt (stmts more.nodes)) x.same.is ∙ ap (λ l. bare_stmt s ∷ l) more.same;
}

pub block_spelled : (f l : Bool) (ss : List EsStmt) (u : List EsToken) → Then (AreTokens (kind_of.Mark mark.OpenBrace ∷ [])) (Then (BodySpelled (statement_list f l) ss) (AreTokens (kind_of.Mark mark.CloseBrace ∷ []))) u → BodySpelled (block f l) ss u
unfolding block table
block_spelled f l ss _ (both _ _ (next t e end) (both v _ b (next c g end))) = record {
  nodes = b.nodes;
  spells = (
    (t, b.nodes),
    refl,
    (
      t ∷ [],
      v ++ c ∷ [],
      refl,
      (t, refl, token_is (op mark.OpenBrace) (kind_of.Mark mark.OpenBrace) t e refl),
      ((b.nodes, c), refl, (v, c ∷ [], refl, b.spells, (c, refl, token_is (op mark.CloseBrace) (kind_of.Mark mark.CloseBrace) c g refl))),
    ),
  );
  same = b.same;
}

-- ---- functions

abbrev pub name_rule : R (optional leaf)
name_rule = maybe (token (a terminal.Name))

pub record NameIf (name : Option (List ℕ)) (u : List EsToken) : Type 0 where
  pub named_by : Option EsToken
  pub spells : Rules name_rule named_by u
  pub is : option_map name_of named_by ≡ name

pub no_name : NameIf None []
no_name = record { named_by = None; spells = inr (refl, refl); is = refl }

pub some_name : (name : List ℕ) (u : List EsToken) → a terminal.Name (code_of (terminal_of_word name)) ≡ true → AreTokens (kind_of.Word name ∷ []) u → NameIf (Some name) u
unfolding table
some_name name _ f (next t e end) = record { named_by = Some t; spells = inl (t, refl, (t, refl, token_is (a terminal.Name) (kind_of.Word name) t e f)); is = ap (λ k. Some (name_in k)) e }

pub function_spelled : (k : EsTokenKind) (name : Option (List ℕ)) (names : List (List ℕ)) (ss : List EsStmt) (u : List EsToken) → key keyword.Function (code_of (terminal_of k)) ≡ true
    → Then (AreTokens (k ∷ [])) (Then (NameIf name) (Then (AreTokens (kind_of.Mark mark.OpenParen ∷ [])) (Then (ParamsSpelled all_params names) (Then (AreTokens (kind_of.Mark mark.CloseParen ∷ [])) (BodySpelled (block true false) ss))))) u → Spelled 0 true (kind.Function name names ss) u
unfolding primary function_expression parameters table expr_of
function_spelled k name names ss _ c (both _ _ (next t e end) (both w _ n (both _ _ (next b f end) (both v _ p (both _ z (next d g end) body))))) = record {
  x = (t, made t (function n.named_by p.tokens body.nodes));
  spells = inr (inr (inr (inr (
    (t, (n.named_by, (p.tokens, body.nodes))),
    refl,
    (
      t ∷ [],
      w ++ b ∷ (v ++ d ∷ z),
      refl,
      (t, refl, token_is (key keyword.Function) k t e c),
      (
        w,
        b ∷ (v ++ d ∷ z),
        refl,
        n.spells,
        (
          b ∷ (v ++ d ∷ []),
          z,
          ap (λ l. b ∷ l) (sym (append_assoc v (d ∷ []) z)),
          (
            (b, p.tokens),
            refl,
            (
              b ∷ [],
              v ++ d ∷ [],
              refl,
              (b, refl, token_is (op mark.OpenParen) (kind_of.Mark mark.OpenParen) b f refl),
              ((p.tokens, d), refl, (v, d ∷ [], refl, p.spells, (d, refl, token_is (op mark.CloseParen) (kind_of.Mark mark.CloseParen) d g refl))),
            ),
          ),
          body.spells,
        ),
      ),
    ),
  ))));
  same =
      subst (λ m. Same (kind.Function m (names_of p.tokens) (stmts body.nodes)) (kind.Function name names ss)) (sym n.is)
      (subst (λ ms. Same (kind.Function name ms (stmts body.nodes)) (kind.Function name names ss)) (sym p.are) (same_function name names (stmts body.nodes) ss body.same));
  starts = λ h. absurd (true≢false h);
}

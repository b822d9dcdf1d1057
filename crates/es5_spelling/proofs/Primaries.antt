-- What the tokens of primary expressions spell, from what those of their parts do.
use Rattle.std.proofs.Common.{◌≡◌, ℕ, Bool, true, false, not, ◌&&◌, ◌||◌, List, [], ◌∷◌, ◌++◌, map, Some, None, refl, ap, ◌∙◌, inl, inr, true≢false}
use Rattle.std.specs.Prelude.{if◌then◌else◌, bytes_eq}
use Rattle.std.specs.List.{list_any, AllByRecursion}
use Rattle.grammar.specs.Forms.{ManySpells}
use Rattle.grammar.specs.Rules.{named}
use Rattle.grammar.specs.Spelling.{Spells, token_such}
use Rattle.grammar.specs.CommonRules.{◌or◌, behind}
use Rattle.es5_tree.specs.declared.terminal.Keyword.TheVariants as keyword
use Rattle.es5_tree.specs.declared.terminal.Level.TheVariants as level
use Rattle.es5_tree.specs.declared.terminal.Terminal.TheVariants as terminal
use Rattle.es5_tree.specs.declared.token.EsMark.TheVariants as mark
use Rattle.es5_tree.specs.declared.token.EsToken.{EsToken}
use Rattle.es5_tree.specs.declared.token.EsTokenKind.{EsTokenKind}
use Rattle.es5_tree.specs.declared.token.EsTokenKind.TheVariants as kind_of
use Rattle.es5_tree.specs.declared.tree.EsExpr.{EsExpr}
use Rattle.es5_tree.specs.declared.tree.EsKind.{EsKind}
use Rattle.es5_tree.specs.declared.tree.EsKind.TheVariants as kind
use Rattle.es5_tree.specs.Grammar.Expressions.{arguments, array, item_list, more_items, primary, simple}
use Rattle.es5_tree.specs.Grammar.Names.{expr, items}
use Rattle.es5_tree.specs.Grammar.Nodes.{expr_of, exprs, is_new, made, name_in, name_of, Node, token_kind}
use Rattle.es5_tree.specs.Grammar.Statements.{begins_no_other}
use Rattle.es5_tree.specs.Grammar.Table.{table}
use Rattle.es5_tree.specs.Grammar.Terminals.{a, code_of, identifier, key, op, terminal_of, terminal_of_word, token_code}
use Rattle.es5_tree.proofs.Bare.{bare_expr}
use Rattle.es5_spelling.proofs.Bare.{same_array, same_expr, same_is}
use Rattle.es5_spelling.proofs.Cuts.{AreTokens, both, end, next, Then}
use Rattle.es5_spelling.proofs.Levels.{Spelled, starts_token}
use Rattle.es5_spelling.proofs.Operators.{Arguments}
use Rattle.es5_spelling.proofs.Rules.{as_expr, by_production, Rules, token_is}

-- ---- one token

abbrev pub simple_class : ℕ → Bool
simple_class = identifier or a terminal.Num or a terminal.Str or key keyword.This or key keyword.Null or key keyword.True or key keyword.False

pub one_spelled : (k : EsTokenKind) (form : EsKind) (u : List EsToken) → simple_class (code_of (terminal_of k)) ≡ true → begins_no_other (code_of (terminal_of k)) ≡ true → token_kind k ≡ form → AreTokens (k ∷ []) u → Spelled 0 false form u
unfolding primary simple table expr_of
one_spelled k form _ c b is (next t e end) = record {
  x = (t, made t (token_kind t.kind));
  spells = inl (t, refl, (t, refl, token_is simple_class k t e c));
  same = same_is (ap token_kind e ∙ is);
  starts = λ h. starts_token t k [] e b;
}

-- ---- expressions behind commas

pub data Items : List EsExpr → List EsToken → Type 0 where
  no_item : Items [] []
  item : (t : EsToken) (opens : Bool) (e : EsExpr) (es : List EsExpr) (v w : List EsToken) → t.kind ≡ kind_of.Mark mark.Comma → Spelled 12 opens e.kind v → Items es w → Items (e ∷ es) (t ∷ (v ++ w))

one_same : (opens : Bool) (e : EsExpr) (v : List EsToken) (s : Spelled 12 opens e.kind v) → bare_expr (expr_of s.x.1) ≡ bare_expr e
one_same opens e v s = same_expr (expr_of s.x.1) e s.same

both_same : (n : Node) (ns : List Node) (e : EsExpr) (es : List EsExpr) → bare_expr (expr_of n) ≡ bare_expr e → map bare_expr (exprs ns) ≡ map bare_expr es → map bare_expr (exprs (n ∷ ns)) ≡ map bare_expr (e ∷ es)
both_same n ns e es h i = ap (λ x. x ∷ map bare_expr (exprs ns)) h ∙ ap (λ l. bare_expr e ∷ l) i

pub record ItemsSpelled (es : List EsExpr) (u : List EsToken) : Type 0 where
  pub nodes : List Node
  pub spells : Spells table items nodes u
  pub same : map bare_expr (exprs nodes) ≡ map bare_expr es

pub items_spelled : (es : List EsExpr) (u : List EsToken) → Items es u → ItemsSpelled es u
unfolding more_items item_list table
items_spelled _ _ no_item = record { nodes = []; spells = by_production items [] [] (inr (refl, refl)); same = refl }
items_spelled _ _ (item t opens e es v w k s more) =
    let rest = items_spelled es w more in
    record {
      nodes = s.x.1 ∷ rest.nodes;
      spells = by_production items (s.x.1 ∷ rest.nodes) (t ∷ (v ++ w)) (inl (
        (t, s.x.1 ∷ rest.nodes),
        refl,
        (t ∷ [], v ++ w, refl, (t, refl, token_is (op mark.Comma) (kind_of.Mark mark.Comma) t k refl), inl ((s.x.1, rest.nodes), refl, (v, w, refl, as_expr level.Assignment s.x v s.spells, rest.spells))),
      ));
      same = both_same s.x.1 rest.nodes e es (one_same opens e v s) rest.same;
    }

record ManySpelled (es : List EsExpr) (u : List EsToken) : Type 0 where
  nodes : List Node
  spells : ManySpells (Rules (behind (op mark.Comma) (named (expr level.Assignment)))) nodes u
  same : map bare_expr (exprs nodes) ≡ map bare_expr es

many_spelled : (es : List EsExpr) (u : List EsToken) → Items es u → ManySpelled es u
unfolding table
many_spelled _ _ no_item = record { nodes = []; spells = refl; same = refl }
many_spelled _ _ (item t opens e es v w k s more) =
    let rest = many_spelled es w more in
    record {
      nodes = s.x.1 ∷ rest.nodes;
      spells = (t ∷ v, w, refl, ((t, s.x.1), refl, (t ∷ [], v, refl, (t, refl, token_is (op mark.Comma) (kind_of.Mark mark.Comma) t k refl), as_expr level.Assignment s.x v s.spells)), rest.spells);
      same = both_same s.x.1 rest.nodes e es (one_same opens e v s) rest.same;
    }

pub no_arguments : Arguments [] []
unfolding arguments
no_arguments = record { nodes = []; spells = inr (refl, refl); same = refl }

pub some_arguments : (opens : Bool) (e : EsExpr) (es : List EsExpr) (u : List EsToken) → Then (Spelled 12 opens e.kind) (Items es) u → Arguments (e ∷ es) u
unfolding arguments
some_arguments opens e es _ (both v w s more) =
    let rest = many_spelled es w more in
    record {
      nodes = s.x.1 ∷ rest.nodes;
      spells = inl ((s.x.1, rest.nodes), refl, (v, w, refl, as_expr level.Assignment s.x v s.spells, rest.spells));
      same = both_same s.x.1 rest.nodes e es (one_same opens e v s) rest.same;
    }

-- ---- arrays

pub record ListSpelled (es : List EsExpr) (u : List EsToken) : Type 0 where
  pub nodes : List Node
  pub spells : Rules item_list nodes u
  pub same : map bare_expr (exprs nodes) ≡ map bare_expr es

pub no_items : ListSpelled [] []
unfolding item_list
no_items = record { nodes = []; spells = inr (refl, refl); same = refl }

pub some_items : (opens : Bool) (e : EsExpr) (es : List EsExpr) (u : List EsToken) → Then (Spelled 12 opens e.kind) (Items es) u → ListSpelled (e ∷ es) u
unfolding item_list
some_items opens e es _ (both v w s more) =
    let rest = items_spelled es w more in
    record {
      nodes = s.x.1 ∷ rest.nodes;
      spells = inl ((s.x.1, rest.nodes), refl, (v, w, refl, as_expr level.Assignment s.x v s.spells, rest.spells));
      same = both_same s.x.1 rest.nodes e es (one_same opens e v s) rest.same;
    }

pub array_spelled : (es : List EsExpr) (u : List EsToken) → Then (AreTokens (kind_of.Mark mark.OpenBracket ∷ [])) (Then (ListSpelled es) (AreTokens (kind_of.Mark mark.CloseBracket ∷ []))) u → Spelled 0 false (kind.Array es) u
unfolding primary array table expr_of
array_spelled es _ (both _ _ (next t e end) (both v _ l (next c f end))) = record {
  x = (t, made t (kind.Array (exprs l.nodes)));
  spells = inr (inr (inl (
    (t, l.nodes),
    refl,
    (
      t ∷ [],
      v ++ c ∷ [],
      refl,
      (t, refl, token_is (op mark.OpenBracket) (kind_of.Mark mark.OpenBracket) t e refl),
      ((l.nodes, c), refl, (v, c ∷ [], refl, l.spells, (c, refl, token_is (op mark.CloseBracket) (kind_of.Mark mark.CloseBracket) c f refl))),
    ),
  )));
  same = same_array (exprs l.nodes) es l.same;
  starts = λ h. starts_token t (kind_of.Mark mark.OpenBracket) (v ++ c ∷ []) e refl;
}

-- ---- names of which none stands twice

-- none of the names is one of those seen
abbrev pub Fresh : List (List ℕ) → List (List ℕ) → Type 0
Fresh seen names = AllByRecursion (λ name. list_any (λ other. bytes_eq other name) seen ≡ false) names

abbrev pub is_new_kind : List (List ℕ) → EsTokenKind → Bool
is_new_kind [] k = true
is_new_kind (name ∷ names) k = not (bytes_eq name (name_in k)) && is_new_kind names k

pub or_none : (b c : Bool) → (b || c) ≡ false → (b ≡ false) × (c ≡ false)
or_none true c e = absurd (true≢false e)
or_none false c e = (refl, e)

pub new_is : (seen : List (List ℕ)) (t : EsToken) → is_new seen t ≡ is_new_kind seen t.kind
new_is [] t = refl
new_is (name ∷ seen) t = ap (λ b. not (bytes_eq name (name_of t)) && b) (new_is seen t)

new_token : (seen : List (List ℕ)) (t : EsToken) (name : List ℕ) → t.kind ≡ kind_of.Word name → list_any (λ other. bytes_eq other name) seen ≡ false → is_new seen t ≡ true
new_token seen t name e h = new_is seen t ∙ (ap (λ k. is_new_kind seen k) e ∙ by seen h)
  where
    by : (seen : List (List ℕ)) → list_any (λ other. bytes_eq other name) seen ≡ false → is_new_kind seen (kind_of.Word name) ≡ true
    by [] h = refl
    by (other ∷ seen) h = let none = or_none (bytes_eq other name) (list_any (λ other. bytes_eq other name) seen) h in ap (λ b. not b && is_new_kind seen (kind_of.Word name)) none.0 ∙ by seen none.1

pub such_token : (f : ℕ → Bool) (seen : List (List ℕ)) (t : EsToken) (name : List ℕ) → t.kind ≡ kind_of.Word name → f (code_of (terminal_of_word name)) ≡ true → list_any (λ other. bytes_eq other name) seen ≡ false → token_such token_code f (is_new seen) t ≡ Some t
such_token f seen t name e c h =
    ap (λ b. if b && is_new seen t then Some t else None) (ap (λ k. f (code_of (terminal_of k))) e ∙ c)
    ∙ ap (λ b. if b then Some t else None) (new_token seen t name e h)

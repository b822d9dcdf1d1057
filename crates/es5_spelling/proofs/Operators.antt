-- What the tokens of members, calls, operators and assignments spell, from what those of their parts do.
use Rattle.std.proofs.Common.{◌≡◌, ℕ, Bool, true, false, List, [], ◌∷◌, ◌++◌, map, Some, refl, sym, ap, ◌∙◌, subst, append-nil, arith, inl, inr}
use Rattle.opal_base.specs.declared.place.Pos.{Pos}
use Rattle.grammar.specs.Rules.{named, sequence, suffixes, token}
use Rattle.grammar.specs.Spelling.{Spells, token_in}
use Rattle.grammar.specs.CommonRules.{◌or◌}
use Rattle.es5_tree.specs.declared.terminal.Keyword.TheVariants as keyword
use Rattle.es5_tree.specs.declared.terminal.Level.{Level}
use Rattle.es5_tree.specs.declared.terminal.Level.TheVariants as level
use Rattle.es5_tree.specs.declared.token.EsMark.{EsMark}
use Rattle.es5_tree.specs.declared.token.EsMark.TheVariants as mark
use Rattle.es5_tree.specs.declared.token.EsToken.{EsToken}
use Rattle.es5_tree.specs.declared.token.EsTokenKind.{EsTokenKind}
use Rattle.es5_tree.specs.declared.token.EsTokenKind.TheVariants as kind_of
use Rattle.es5_tree.specs.declared.tree.EsExpr.{EsExpr}
use Rattle.es5_tree.specs.declared.tree.EsKind.{EsKind, out-EsKind}
use Rattle.es5_tree.specs.declared.tree.EsKind.TheVariants as kind
use Rattle.es5_tree.specs.declared.tree.Operator.{Operator}
use Rattle.es5_tree.specs.Grammar.Expressions.{access_part, and_level, and_part, arguments, assigned_part, assignment_level, call_level, call_part, choices, conditional_level, deletion, ends_where, equality_level, equality_part, index_part, member_part, operation, or_level, or_part, primary, product_level, product_part, relation_level, relation_part, sum_level, sum_part, unary_level}
use Rattle.es5_tree.specs.Grammar.Names.{expr, expr_sort, R}
use Rattle.es5_tree.specs.Grammar.Nodes.{access, accessed, assigned, binary, by_arguments, by_key, by_name, conditional, conjunction, disjunction, expr_of, exprs, is_member, is_member_form, is_target, is_target_form, made, name_in, negated, Node, operator_of, operator_of_mark, place, unary_kind}
use Rattle.es5_tree.specs.Grammar.Statements.{begins_no_other}
use Rattle.es5_tree.specs.Grammar.Table.{table}
use Rattle.es5_tree.specs.Grammar.Terminals.{code_of, identifier, key, mark_code, op, terminal_of, terminal_of_word, token_code}
use Rattle.es5_tree.proofs.Bare.{bare_expr}
use Rattle.es5_spelling.proofs.Bare.{Same, same_and, same_assign, same_binary, same_call, same_cond, same_delete, same_index, same_member, same_members, same_or, same_targets}
use Rattle.es5_spelling.proofs.Cuts.{AreTokens, both, end, next, Then}
use Rattle.es5_spelling.proofs.Levels.{Spelled, starts_more, starts_token}
use Rattle.es5_spelling.proofs.Rules.{as_expr, climbs, one_more, rule_at, Rules, token_is}

-- ---- members, indices and calls

member_part_spelled : (d t : EsToken) (name : List ℕ) → d.kind ≡ kind_of.Mark mark.Dot → t.kind ≡ kind_of.Word name → identifier (code_of (terminal_of_word name)) ≡ true → Rules access_part ((t, []), by_name) (d ∷ t ∷ [])
unfolding access_part member_part table
member_part_spelled d t name e f i =
    inl (t, refl, ((d, t), refl, (d ∷ [], t ∷ [], refl, (d, refl, token_is (op mark.Dot) (kind_of.Mark mark.Dot) d e refl), (t, refl, token_is identifier (kind_of.Word name) t f i))))

pub member_spelled : (opens : Bool) (base : EsExpr) (name : List ℕ) (m : Pos) (u : List EsToken) → identifier (code_of (terminal_of_word name)) ≡ true
    → Then (Spelled 1 opens base.kind) (Then (AreTokens (kind_of.Mark mark.Dot ∷ [])) (AreTokens (kind_of.Word name ∷ []))) u → Spelled 1 opens (kind.Member base name m) u
unfolding call_level access expr_of
member_spelled opens base name m _ i (both v _ s (both _ _ (next d e end) (next t f end))) = record {
  x = accessed s.x ((t, []), by_name);
  spells = one_more 1 primary access_part accessed s.x ((t, []), by_name) v (d ∷ t ∷ []) s.spells (member_part_spelled d t name e f i);
  same = subst (λ n. Same (kind.Member (expr_of s.x.1) n (place t)) (kind.Member base name m)) (sym (ap name_in f)) (same_member (expr_of s.x.1) base name (place t) m s.same);
  starts = λ h. starts_more v (d ∷ t ∷ []) (s.starts h);
}

index_part_spelled : (b c : EsToken) (x : EsToken × Node) (v : List EsToken) → b.kind ≡ kind_of.Mark mark.OpenBracket → c.kind ≡ kind_of.Mark mark.CloseBracket → Rules (rule_at 12) x v → Rules access_part ((b, x.1 ∷ []), by_key) (b ∷ (v ++ c ∷ []))
unfolding access_part index_part table
index_part_spelled b c x v e f h =
    inr (inl (
      (b, x.1),
      refl,
      (
        b ∷ [],
        v ++ c ∷ [],
        refl,
        (b, refl, token_is (op mark.OpenBracket) (kind_of.Mark mark.OpenBracket) b e refl),
        ((x.1, c), refl, (v, c ∷ [], refl, as_expr level.Assignment x v h, (c, refl, token_is (op mark.CloseBracket) (kind_of.Mark mark.CloseBracket) c f refl))),
      ),
    ))

pub index_spelled : (opens inner : Bool) (base key : EsExpr) (m : Pos) (u : List EsToken)
    → Then (Spelled 2 opens base.kind) (Then (AreTokens (kind_of.Mark mark.OpenBracket ∷ [])) (Then (Spelled 12 inner key.kind) (AreTokens (kind_of.Mark mark.CloseBracket ∷ [])))) u → Spelled 1 opens (kind.Index base key m) u
unfolding call_level access expr_of
index_spelled opens inner base key m _ (both v _ s (both _ _ (next b e end) (both w _ k (next c f end)))) = record {
  x = accessed s.x ((b, k.x.1 ∷ []), by_key);
  spells = one_more 1 primary access_part accessed s.x ((b, k.x.1 ∷ []), by_key) v (b ∷ (w ++ c ∷ [])) s.spells (index_part_spelled b c k.x w e f k.spells);
  same = same_index (expr_of s.x.1) base (expr_of k.x.1) key (expr_of k.x.1).pos m s.same k.same;
  starts = λ h. starts_more v (b ∷ (w ++ c ∷ [])) (s.starts h);
}

-- what arguments spell
pub record Arguments (es : List EsExpr) (u : List EsToken) : Type 0 where
  pub nodes : List Node
  pub spells : Rules arguments nodes u
  pub same : map bare_expr (exprs nodes) ≡ map bare_expr es

pub access_call : (e : EsExpr) (t : EsToken) (args : List EsExpr) → access e t args 2 ≡ kind.Call e args
unfolding access
access_call e t [] = refl
access_call e t (a ∷ []) = refl
access_call e t (a ∷ b ∷ args) = refl

call_part_spelled : (b c : EsToken) (ns : List Node) (v : List EsToken) → b.kind ≡ kind_of.Mark mark.OpenParen → c.kind ≡ kind_of.Mark mark.CloseParen → Rules arguments ns v → Rules access_part ((b, ns), by_arguments) (b ∷ (v ++ c ∷ []))
unfolding access_part call_part table
call_part_spelled b c ns v e f h =
    inr (inr (
      (b, ns),
      refl,
      (
        b ∷ [],
        v ++ c ∷ [],
        refl,
        (b, refl, token_is (op mark.OpenParen) (kind_of.Mark mark.OpenParen) b e refl),
        ((ns, c), refl, (v, c ∷ [], refl, h, (c, refl, token_is (op mark.CloseParen) (kind_of.Mark mark.CloseParen) c f refl))),
      ),
    ))

pub call_spelled : (opens : Bool) (callee : EsExpr) (es : List EsExpr) (u : List EsToken)
    → Then (Spelled 2 opens callee.kind) (Then (AreTokens (kind_of.Mark mark.OpenParen ∷ [])) (Then (Arguments es) (AreTokens (kind_of.Mark mark.CloseParen ∷ [])))) u → Spelled 1 opens (kind.Call callee es) u
unfolding call_level expr_of
call_spelled opens callee es _ (both v _ s (both _ _ (next b e end) (both w _ a (next c f end)))) = record {
  x = accessed s.x ((b, a.nodes), by_arguments);
  spells = one_more 1 primary access_part accessed s.x ((b, a.nodes), by_arguments) v (b ∷ (w ++ c ∷ [])) s.spells (call_part_spelled b c a.nodes w e f a.spells);
  same = subst (λ k. Same k (kind.Call callee es)) (sym (access_call (expr_of s.x.1) b (exprs a.nodes))) (same_call (expr_of s.x.1) callee (exprs a.nodes) es s.same a.same);
  starts = λ h. starts_more v (b ∷ (w ++ c ∷ [])) (s.starts h);
}

-- ---- operators with one operand

abbrev pub unary_class : ℕ → Bool
unary_class = op mark.Not or op mark.Minus or key keyword.Typeof

pub unary_spelled : (k : EsTokenKind) (build : EsExpr → EsKind) (opens : Bool) (value : EsExpr) (u : List EsToken) → unary_class (code_of (terminal_of k)) ≡ true → begins_no_other (code_of (terminal_of k)) ≡ true
    → ((e : EsExpr) → unary_kind k e ≡ build e) → ((e f : EsExpr) → Same e.kind f.kind → Same (build e) (build f)) → Then (AreTokens (k ∷ [])) (Spelled 4 opens value.kind) u → Spelled 3 false (build value) u
unfolding unary_level operation table expr_of
unary_spelled k build opens value _ c b is alike (both _ v (next t e end) s) = record {
  x = negated (t, s.x.1);
  spells = inl ((t, s.x.1), refl, (t ∷ [], v, refl, (t, refl, token_is unary_class k t e c), as_expr level.Unary s.x v s.spells));
  same = subst (λ m. Same m (build value)) (sym (ap (λ k. unary_kind k (expr_of s.x.1)) e ∙ is (expr_of s.x.1))) (alike (expr_of s.x.1) value s.same);
  starts = λ h. starts_token t k v e b;
}

pub delete_spelled : (k : EsTokenKind) (opens : Bool) (value : EsExpr) (u : List EsToken) → key keyword.Delete (code_of (terminal_of k)) ≡ true → begins_no_other (code_of (terminal_of k)) ≡ true
    → is_member_form (out-EsKind value.kind) ≡ true → Then (AreTokens (k ∷ [])) (Spelled 1 opens value.kind) u → Spelled 4 false (kind.Delete value) u
unfolding unary_level deletion table expr_of is_member
delete_spelled k opens value _ c b m (both _ v (next t e end) s) =
    let whole : is_member s.x.1 ≡ true = same_members (expr_of s.x.1).kind value.kind s.same ∙ m in
    record {
      x = (t, made t (kind.Delete (expr_of s.x.1)));
      spells = inr (inl (
        (t, (s.x.1, 0)),
        refl,
        (
          t ∷ [],
          v,
          refl,
          (t, refl, token_is (key keyword.Delete) k t e c),
          (v, [], sym (append-nil v), as_expr level.Call s.x v s.spells, subst (λ b. Rules (ends_where b) 0 []) (sym whole) (refl, refl)),
        ),
      ));
      same = same_delete (expr_of s.x.1) value s.same;
      starts = λ h. starts_token t k v e b;
    }

-- ---- operators between two operands

infix_spelled : (base : R expr_sort) (f : ℕ → Bool) (l : Level) (x y : EsToken × Node) (t : EsToken) (v w : List EsToken) → Rules (suffixes 1 base (sequence (token f) (named (expr l))) binary) x v
    → token_in token_code f t ≡ Some t → Spells table (expr l) y.1 w → Rules (suffixes 1 base (sequence (token f) (named (expr l))) binary) (binary x (t, y.1)) (v ++ t ∷ w)
unfolding table
infix_spelled base f l x y t v w h e s = one_more 1 base (sequence (token f) (named (expr l))) binary x (t, y.1) v (t ∷ w) h (t ∷ [], w, refl, (t, refl, e), s)

same_operator : (m : EsMark) (o : Operator) (t : EsToken) (l r e f : EsExpr) → t.kind ≡ kind_of.Mark m → operator_of_mark m ≡ o → Same l.kind e.kind → Same r.kind f.kind → Same (kind.Binary (operator_of t.kind) l r) (kind.Binary o e f)
same_operator m o t l r e f k i h j = subst (λ p. Same (kind.Binary p l r) (kind.Binary o e f)) (sym (ap operator_of k ∙ i)) (same_binary o l e r f h j)

module _ (m : EsMark) (o : Operator) (is : operator_of_mark m ≡ o) (opens inner : Bool) (left right : EsExpr) where
  pub product_spelled : (u : List EsToken) → (op mark.Times or op mark.Divide or op mark.Remainder) (mark_code m) ≡ true
      → Then (Spelled 5 opens left.kind) (Then (AreTokens (kind_of.Mark m ∷ [])) (Spelled 4 inner right.kind)) u → Spelled 5 opens (kind.Binary o left right) u
  unfolding product_level product_part expr_of
  product_spelled _ c (both v _ s (both _ w (next t e end) r)) = record {
    x = binary s.x (t, r.x.1);
    spells = infix_spelled unary_level (op mark.Times or op mark.Divide or op mark.Remainder) level.Unary s.x r.x t v w s.spells (token_is (op mark.Times or op mark.Divide or op mark.Remainder) (kind_of.Mark m) t e c) (as_expr level.Unary r.x w r.spells);
    same = same_operator m o t (expr_of s.x.1) (expr_of r.x.1) left right e is s.same r.same;
    starts = λ h. starts_more v (t ∷ w) (s.starts h);
  }

  pub sum_spelled : (u : List EsToken) → (op mark.Plus or op mark.Minus) (mark_code m) ≡ true
      → Then (Spelled 6 opens left.kind) (Then (AreTokens (kind_of.Mark m ∷ [])) (Spelled 5 inner right.kind)) u → Spelled 6 opens (kind.Binary o left right) u
  unfolding sum_level sum_part expr_of
  sum_spelled _ c (both v _ s (both _ w (next t e end) r)) = record {
    x = binary s.x (t, r.x.1);
    spells = infix_spelled product_level (op mark.Plus or op mark.Minus) level.Multiplicative s.x r.x t v w s.spells (token_is (op mark.Plus or op mark.Minus) (kind_of.Mark m) t e c) (as_expr level.Multiplicative r.x w r.spells);
    same = same_operator m o t (expr_of s.x.1) (expr_of r.x.1) left right e is s.same r.same;
    starts = λ h. starts_more v (t ∷ w) (s.starts h);
  }

  pub relation_spelled : (u : List EsToken) → (op mark.Less or op mark.Greater or op mark.LessOrEqual or op mark.GreaterOrEqual) (mark_code m) ≡ true
      → Then (Spelled 7 opens left.kind) (Then (AreTokens (kind_of.Mark m ∷ [])) (Spelled 6 inner right.kind)) u → Spelled 7 opens (kind.Binary o left right) u
  unfolding relation_level relation_part expr_of
  relation_spelled _ c (both v _ s (both _ w (next t e end) r)) = record {
    x = binary s.x (t, r.x.1);
    spells = infix_spelled sum_level (op mark.Less or op mark.Greater or op mark.LessOrEqual or op mark.GreaterOrEqual) level.Additive s.x r.x t v w s.spells (token_is (op mark.Less or op mark.Greater or op mark.LessOrEqual or op mark.GreaterOrEqual) (kind_of.Mark m) t e c) (as_expr level.Additive r.x w r.spells);
    same = same_operator m o t (expr_of s.x.1) (expr_of r.x.1) left right e is s.same r.same;
    starts = λ h. starts_more v (t ∷ w) (s.starts h);
  }

  pub equality_spelled : (u : List EsToken) → (op mark.Same or op mark.Different) (mark_code m) ≡ true
      → Then (Spelled 8 opens left.kind) (Then (AreTokens (kind_of.Mark m ∷ [])) (Spelled 7 inner right.kind)) u → Spelled 8 opens (kind.Binary o left right) u
  unfolding equality_level equality_part expr_of
  equality_spelled _ c (both v _ s (both _ w (next t e end) r)) = record {
    x = binary s.x (t, r.x.1);
    spells = infix_spelled relation_level (op mark.Same or op mark.Different) level.Relational s.x r.x t v w s.spells (token_is (op mark.Same or op mark.Different) (kind_of.Mark m) t e c) (as_expr level.Relational r.x w r.spells);
    same = same_operator m o t (expr_of s.x.1) (expr_of r.x.1) left right e is s.same r.same;
    starts = λ h. starts_more v (t ∷ w) (s.starts h);
  }

pub and_spelled : (opens inner : Bool) (left right : EsExpr) (u : List EsToken) → Then (Spelled 9 opens left.kind) (Then (AreTokens (kind_of.Mark mark.And ∷ [])) (Spelled 8 inner right.kind)) u → Spelled 9 opens (kind.And left right) u
unfolding and_level and_part expr_of table
and_spelled opens inner left right _ (both v _ s (both _ w (next t e end) r)) = record {
  x = conjunction s.x r.x.1;
  spells = one_more 1 equality_level and_part conjunction s.x r.x.1 v (t ∷ w) s.spells ((t, r.x.1), refl, (t ∷ [], w, refl, (t, refl, token_is (op mark.And) (kind_of.Mark mark.And) t e refl), as_expr level.Equality r.x w r.spells));
  same = same_and (expr_of s.x.1) left (expr_of r.x.1) right s.same r.same;
  starts = λ h. starts_more v (t ∷ w) (s.starts h);
}

pub or_spelled : (opens inner : Bool) (left right : EsExpr) (u : List EsToken) → Then (Spelled 10 opens left.kind) (Then (AreTokens (kind_of.Mark mark.Or ∷ [])) (Spelled 9 inner right.kind)) u → Spelled 10 opens (kind.Or left right) u
unfolding or_level or_part expr_of table
or_spelled opens inner left right _ (both v _ s (both _ w (next t e end) r)) = record {
  x = disjunction s.x r.x.1;
  spells = one_more 1 and_level or_part disjunction s.x r.x.1 v (t ∷ w) s.spells ((t, r.x.1), refl, (t ∷ [], w, refl, (t, refl, token_is (op mark.Or) (kind_of.Mark mark.Or) t e refl), as_expr level.And r.x w r.spells));
  same = same_or (expr_of s.x.1) left (expr_of r.x.1) right s.same r.same;
  starts = λ h. starts_more v (t ∷ w) (s.starts h);
}

-- ---- the conditional operator and assignments

pub cond_spelled : (opens inner behind : Bool) (test first second : EsExpr) (u : List EsToken)
    → Then (Spelled 10 opens test.kind) (Then (Then (AreTokens (kind_of.Mark mark.Question ∷ [])) (Spelled 12 inner first.kind)) (Then (AreTokens (kind_of.Mark mark.Colon ∷ [])) (Spelled 12 behind second.kind))) u → Spelled 11 opens (kind.Cond test first second) u
unfolding conditional_level choices expr_of table
cond_spelled opens inner behind test first second _ (both v _ s (both _ _ (both _ w (next t e end) a) (both _ z (next c f end) b))) = record {
  x = conditional s.x (a.x.1, b.x.1);
  spells = inr (
    s.x,
    (a.x.1, b.x.1),
    v,
    t ∷ (w ++ c ∷ z),
    refl,
    refl,
    refl,
    s.spells,
    (
      (t, (a.x.1, b.x.1)),
      refl,
      (
        t ∷ [],
        w ++ c ∷ z,
        refl,
        (t, refl, token_is (op mark.Question) (kind_of.Mark mark.Question) t e refl),
        (w, c ∷ z, refl, as_expr level.Assignment a.x w a.spells, ((c, b.x.1), refl, (c ∷ [], z, refl, (c, refl, token_is (op mark.Colon) (kind_of.Mark mark.Colon) c f refl), as_expr level.Assignment b.x z b.spells))),
      ),
    ),
  );
  same = same_cond (expr_of s.x.1) test (expr_of a.x.1) first (expr_of b.x.1) second s.same a.same b.same;
  starts = λ h. starts_more v (t ∷ (w ++ c ∷ z)) (s.starts h);
}

pub assign_spelled : (opens inner : Bool) (target value : EsExpr) (u : List EsToken) → is_target_form (out-EsKind target.kind) ≡ true
    → Then (Spelled 1 opens target.kind) (Then (AreTokens (kind_of.Mark mark.Assign ∷ [])) (Spelled 12 inner value.kind)) u → Spelled 12 opens (kind.Assign target value) u
unfolding assignment_level assigned_part expr_of is_target table
assign_spelled opens inner target value _ m (both v _ s (both _ w (next t e end) r)) = record {
  x = assigned s.x r.x.1;
  spells = inr (
    s.x,
    r.x.1,
    v,
    t ∷ w,
    refl,
    refl,
    same_targets (expr_of s.x.1).kind target.kind s.same ∙ m,
    climbs 1 11 s.x v (omega arith) s.spells,
    ((t, r.x.1), refl, (t ∷ [], w, refl, (t, refl, token_is (op mark.Assign) (kind_of.Mark mark.Assign) t e refl), as_expr level.Assignment r.x w r.spells)),
  );
  same = same_assign (expr_of s.x.1) target (expr_of r.x.1) value s.same r.same;
  starts = λ h. starts_more v (t ∷ w) (s.starts h);
}

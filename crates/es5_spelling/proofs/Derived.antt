-- What productions spell over sound tokens is spellable.
use Rattle.std.proofs.Common.{◌≡◌, ℕ, zero, suc, Bool, true, false, not, ◌&&◌, ◌||◌, nat_eq, List, [], ◌∷◌, length, map, Option, Some, None, refl, sym, ap, ◌∙◌, subst, arith, true≢false}
use Rattle.std.specs.Prelude.{bytes_eq}
use Rattle.std.specs.Option.{option_map}
use Rattle.std.specs.List.{list_any, AllByRecursion}
use Rattle.std.proofs.lemmas.Bool.Decides.{Decides-eqb}
use Rattle.grammar.specs.Rules.{Sort, El, flag, leaf, list, marked, optional, pair, tree, choice, named, view}
use Rattle.grammar.specs.Spelling.{Derives}
use Rattle.grammar.proofs.Lists.{and_split}
use Rattle.es5_tree.specs.declared.terminal.Level.{Level}
use Rattle.es5_tree.specs.declared.terminal.Level.TheVariants as level
use Rattle.es5_tree.specs.declared.terminal.Terminal.TheVariants as terminal
use Rattle.es5_tree.specs.declared.token.EsMark.{EsMark}
use Rattle.es5_tree.specs.declared.token.EsMark.TheVariants as mark
use Rattle.es5_tree.specs.declared.token.EsToken.{EsToken}
use Rattle.es5_tree.specs.declared.token.EsTokenKind.{EsTokenKind}
use Rattle.es5_tree.specs.declared.token.EsTokenKind.TheVariants as token_kind_
use Rattle.es5_tree.specs.declared.tree.EsExpr.{EsExpr}
use Rattle.es5_tree.specs.declared.tree.EsKind.TheVariants as kind
use Rattle.es5_tree.specs.declared.tree.EsStmt.TheVariants as stmt
use Rattle.es5_tree.specs.Grammar.Expressions as e
use Rattle.es5_tree.specs.Grammar.Expressions.{access_part, and_level, and_part, arguments, array, assigned_part, assignment_level, call_level, call_part, choices, conditional_level, deletion, ends_where, equality_level, equality_part, function_expression, index_part, item_list, member_part, more_items, more_pairs, more_params, object_literal, operation, or_level, or_part, pair_list, param_list, parameters, parenthesized, primary, product_level, product_part, relation_level, relation_part, simple, statement_list, sum_level, sum_part, unary_level, value_and_more}
use Rattle.es5_tree.specs.Grammar.Names.{Name, script, statement, expr, items, pairs, params, sorts, R}
use Rattle.es5_tree.specs.Grammar.Nodes.{access, accessed, assigned, binary, branched, by_arguments, by_key, by_name, caught, closed, conditional, conjunction, disjunction, expr_if, expr_of, exprs, function, is_member, is_new, is_target, looped, made, name_of, names_of, negated, Node, object, operator_of, stmt_of, stmts, takes_else, token_kind, tried, unary_kind}
use Rattle.es5_tree.specs.Grammar.Statements.{any_statement, block_statement, both_branches, branches, break_statement, catch_part, condition, continue_statement, empty_statement, ended, expression_statement, finally_part, first_branch, handlers, handlers_sort, if_statement, return_statement, throw_statement, try_statement, variable_statement, while_statement, whole_script}
use Rattle.es5_tree.specs.Grammar.Table.{production, table}
use Rattle.es5_tree.specs.Grammar.Terminals.{a, identifier}
use Rattle.es5_spelling.specs.Spellable as s
use Rattle.es5_spelling.specs.Spellable.{AreExprs, AreStatements, IsBinding, IsBindingIf, IsForm, IsIdentifier, IsStatement, none_twice}
use Rattle.es5_spelling.proofs.Names.{not_true}
use Rattle.es5_spelling.proofs.Bodies.{number_of}
use Rattle.es5_spelling.proofs.Good.{Env, Good, good_absent, good_before, good_behind, good_between, good_bind, good_choice, good_many, good_maybe, good_node, good_separated, good_sequence, good_starting, good_suffix, good_suffixes, good_token, good_token_where, good_view, IfSome, OfClass}
use Rattle.es5_spelling.proofs.Operators.{access_call}
use Rattle.es5_spelling.proofs.Primaries.{Fresh, or_none}
use Rattle.es5_spelling.proofs.Words.{binding_kind, identifier_kind, simple_form}

-- ---- names of which none stands twice

none_false : (b c : Bool) → b ≡ false → c ≡ false → (b || c) ≡ false
none_false false c h i = i
none_false true c h i = h

new_name : (seen : List (List ℕ)) (t : EsToken) → is_new seen t ≡ true → list_any (λ other. bytes_eq other (name_of t)) seen ≡ false
new_name [] t h = refl
new_name (name ∷ seen) t h =
    let both = and_split (not (bytes_eq name (name_of t))) (is_new seen t) h in
    none_false (bytes_eq name (name_of t)) (list_any (λ other. bytes_eq other (name_of t)) seen) (not_true (bytes_eq name (name_of t)) both.0) (new_name seen t both.1)

fresh_back : (name : List ℕ) (seen names : List (List ℕ)) → Fresh (name ∷ seen) names → (list_any (λ other. bytes_eq name other) names ≡ false) × Fresh seen names
fresh_back name seen [] h = (refl, tt)
fresh_back name seen (other ∷ names) h =
    let none = or_none (bytes_eq name other) (list_any (λ o. bytes_eq o other) seen) h.0 in
    let rest = fresh_back name seen names h.1 in
    (none_false (bytes_eq name other) (list_any (λ other. bytes_eq name other) names) none.0 rest.0, (none.1, rest.1))

-- names behind those seen
pub record GoodNames (P : List ℕ → Type 0) (seen names : List (List ℕ)) : Type 0 where
  pub all : AllByRecursion P names
  pub fresh : Fresh seen names
  pub once : none_twice names ≡ true

no_names : (P : List ℕ → Type 0) (seen : List (List ℕ)) → GoodNames P seen []
no_names P seen = record { all = tt; fresh = tt; once = refl }

one_more_name : (P : List ℕ → Type 0) (seen : List (List ℕ)) (t : EsToken) (names : List (List ℕ)) → P (name_of t) → is_new seen t ≡ true → GoodNames P (name_of t ∷ seen) names → GoodNames P seen (name_of t ∷ names)
one_more_name P seen t names p n g =
    let back = fresh_back (name_of t) seen names g.fresh in
    record { all = (p, g.all); fresh = (new_name seen t n, back.1); once = ap (λ b. not b && none_twice names) back.0 ∙ g.once }

-- ---- what is good of each name

abbrev GoodNode : Node → Type 0
GoodNode n = IsForm (expr_of n).kind

abbrev GoodExpr : EsToken × Node → Type 0
GoodExpr x = GoodNode x.1

abbrev GoodList : List Node → Type 0
GoodList ns = AreExprs (exprs ns)

pub record GoodStatement (f l : Bool) (x : Node × ℕ) : Type 0 where
  pub short : Bool
  pub number : x.1 ≡ number_of short
  pub is : IsStatement f l short (stmt_of x.0)

abbrev GoodBody : Bool → Bool → List Node → Type 0
GoodBody f l ns = AreStatements f l (stmts ns)

pub record GoodPairs (seen : List (List ℕ)) (ps : List (EsToken × Node)) : Type 0 where
  pub keys : GoodNames IsIdentifier seen (map (λ p. name_of p.0) ps)
  pub values : AreExprs (map (λ p. expr_of p.1) ps)

abbrev GoodParams : List (List ℕ) → List EsToken → Type 0
GoodParams seen ts = GoodNames IsBinding seen (names_of ts)

abbrev pub GoodName : (k : Name) → El EsToken Node (sorts k) → Type 0
GoodName script ns = GoodBody false false ns
GoodName (statement f l) x = GoodStatement f l x
GoodName (expr l) n = GoodNode n
GoodName items ns = GoodList ns
GoodName (pairs seen) ps = GoodPairs seen ps
GoodName (params seen) ts = GoodParams seen ts

-- a part behind a value
abbrev GoodAccess : (EsToken × List Node) × ℕ → Type 0
GoodAccess y = (e : EsExpr) → IsForm e.kind → IsForm (access e y.0.0 (exprs y.0.1) y.1)

all_exprs : (ns : List Node) → AllByRecursion GoodNode ns → GoodList ns
all_exprs [] h = s.none
all_exprs (n ∷ ns) h = s.more (expr_of n) (exprs ns) h.0 (all_exprs ns h.1)

-- some statement, however it ends
record GoodOne (f l : Bool) (n : Node) : Type 0 where
  pub short : Bool
  pub is : IsStatement f l short (stmt_of n)

all_statements : (f l : Bool) (ns : List Node) → AllByRecursion (GoodOne f l) ns → GoodBody f l ns
all_statements f l [] h = s.no_statement f l
all_statements f l (n ∷ ns) h = s.statement f l (h.0).short (stmt_of n) (stmts ns) (h.0).is (all_statements f l ns h.1)

same_length : (ps : List (EsToken × Node)) → length (map (λ p. name_of p.0) ps) ≡ length (map (λ p. expr_of p.1) ps)
same_length [] = refl
same_length (p ∷ ps) = ap suc (same_length ps)

binding_if : (o : Option EsToken) → IfSome (OfClass (a terminal.Name)) o → IsBindingIf (option_map name_of o)
binding_if None h = tt
binding_if (Some t) h = binding_kind t.kind h.0 h.1

unary_form : (k : EsTokenKind) (e : EsExpr) → IsForm e.kind → IsForm (unary_kind k e)
unary_form (token_kind_.Mark m) e h = by m
  where
    by : (m : EsMark) → IsForm (unary_kind (token_kind_.Mark m) e)
    by mark.Not = s.not_ e h
    by mark.Minus = s.neg e h
    by _ = s.typeof e h
unary_form _ e h = s.typeof e h

module _ (env : Env) (names : (k : Name) → Good env (named k) (GoodName k)) where
  weaker : {t : Sort} {r : R t} (H K : El EsToken Node t → Type 0) → ((x : El EsToken Node t) → H x → K x) → Good env r H → Good env r K
  weaker H K f g = record { good = λ x u h i. f x (g.good x u h i) }

  an_expr : (l : Level) → Good env (named (expr l)) GoodNode
  an_expr l = names (expr l)

  -- ---- primary expressions

  g_simple : Good env simple GoodExpr
  unfolding simple expr_of
  g_simple = good_node env {s = leaf} (λ t. (t, made t (token_kind t.kind))) GoodExpr (λ t h. simple_form t.kind h.0 h.1) (good_token env _)

  g_parenthesized : Good env parenthesized GoodExpr
  unfolding parenthesized
  g_parenthesized = good_view env {s = pair leaf (pair tree leaf)} (λ x. (x.0, x.1.0)) GoodExpr (λ x h. h.1.0) (good_sequence env (good_token env _) (good_sequence env (an_expr level.Assignment) (good_token env _)))

  g_item_list : Good env item_list GoodList
  unfolding item_list
  g_item_list =
      good_choice env (good_view env {s = pair tree (list tree)} (λ x. x.0 ∷ x.1) GoodList (λ x h. s.more (expr_of x.0) (exprs x.1) h.0 h.1) (good_sequence env (an_expr level.Assignment) (names items)))
      (good_absent env [] GoodList s.none)

  g_more_items : Good env more_items GoodList
  unfolding more_items
  g_more_items = good_choice env (good_behind env _ g_item_list) (good_absent env [] GoodList s.none)

  g_array : Good env array GoodExpr
  unfolding array expr_of
  g_array = good_node env {s = pair leaf (list tree)} (λ x. (x.0, made x.0 (kind.Array (exprs x.1)))) GoodExpr (λ x h. s.array (exprs x.1) h.1) (good_sequence env (good_token env _) (good_before env _ g_item_list))

  no_good_pairs : (seen : List (List ℕ)) → GoodPairs seen []
  no_good_pairs seen = record { keys = no_names IsIdentifier seen; values = s.none }

  g_more_pairs : (seen : List (List ℕ)) → Good env (more_pairs seen) (GoodPairs seen)
  unfolding more_pairs
  g_more_pairs seen = good_choice env (good_behind env _ (good_choice env (names (pairs seen)) (good_absent env [] (GoodPairs seen) (no_good_pairs seen)))) (good_absent env [] (GoodPairs seen) (no_good_pairs seen))

  g_value : (seen : List (List ℕ)) → Good env (value_and_more seen) (λ x. GoodNode x.0 × GoodPairs seen x.1)
  unfolding value_and_more
  g_value seen = good_behind env _ (good_sequence env (an_expr level.Assignment) (g_more_pairs seen))

  one_more_pair : (seen : List (List ℕ)) (t : EsToken) (n : Node) (ps : List (EsToken × Node)) → OfClass identifier t → is_new seen t ≡ true → GoodNode n → GoodPairs (name_of t ∷ seen) ps → GoodPairs seen ((t, n) ∷ ps)
  one_more_pair seen t n ps c i h g = record {
    keys = one_more_name IsIdentifier seen t (map (λ p. name_of p.0) ps) (identifier_kind t.kind c.0 c.1) i g.keys;
    values = s.more (expr_of n) (map (λ p. expr_of p.1) ps) h g.values;
  }

  g_pairs : (seen : List (List ℕ)) → Good env (pair_list seen) (GoodPairs seen)
  unfolding pair_list
  g_pairs seen =
      good_view env {s = pair leaf (pair tree (list (pair leaf tree)))} (λ x. (x.0, x.1.0) ∷ x.1.1) (GoodPairs seen) (λ x h. one_more_pair seen x.0 x.1.0 x.1.1 h.0.0 h.0.1 h.1.0 h.1.1)
      (good_bind env false _ _ (λ t. value_and_more (name_of t ∷ seen)) (λ t x. GoodNode x.0 × GoodPairs (name_of t ∷ seen) x.1) (good_token_where env _ _) (λ t h. g_value (name_of t ∷ seen)))

  g_object : Good env object_literal GoodExpr
  unfolding object_literal expr_of
  g_object =
      good_node env {s = pair leaf (list (pair leaf tree))} (λ x. (x.0, made x.0 (object x.1))) GoodExpr
      (λ x h. s.object (map (λ p. name_of p.0) x.1) (map (λ p. expr_of p.1) x.1) (h.1.keys).all (h.1.keys).once (same_length x.1) h.1.values)
      (good_sequence env (good_token env _) (good_before env _ (good_choice env (names (pairs [])) (good_absent env [] (GoodPairs []) (no_good_pairs [])))))

  g_more_params : (seen : List (List ℕ)) → Good env (more_params seen) (GoodParams seen)
  unfolding more_params
  g_more_params seen = good_choice env (good_behind env _ (names (params seen))) (good_absent env [] (GoodParams seen) (no_names IsBinding seen))

  g_params : (seen : List (List ℕ)) → Good env (param_list seen) (GoodParams seen)
  unfolding param_list
  g_params seen =
      good_view env {s = pair leaf (list leaf)} (λ x. x.0 ∷ x.1) (GoodParams seen) (λ x h. one_more_name IsBinding seen x.0 (names_of x.1) (binding_kind (x.0).kind h.0.0.0 h.0.0.1) h.0.1 h.1)
      (good_bind env true _ _ (λ t. more_params (name_of t ∷ seen)) (λ t ts. GoodParams (name_of t ∷ seen) ts) (good_token_where env _ _) (λ t h. g_more_params (name_of t ∷ seen)))

  g_parameters : Good env parameters (GoodParams [])
  unfolding parameters
  g_parameters = good_between env _ _ (good_choice env (names (params [])) (good_absent env [] (GoodParams []) (no_names IsBinding [])))

  g_list : (f l : Bool) → Good env (statement_list f l) (GoodBody f l)
  unfolding statement_list
  g_list f l =
      weaker (λ ns. AllByRecursion (GoodOne f l) ns) (GoodBody f l) (λ ns h. all_statements f l ns h)
      (good_many env (good_view env {s = marked tree} (λ x. x.0) (GoodOne f l) (λ x h. record { short = h.short; is = h.is }) (names (statement f l))))

  g_block : (f l : Bool) → Good env (e.block f l) (GoodBody f l)
  unfolding e.block
  g_block f l = good_between env _ _ (g_list f l)

  g_function : Good env function_expression GoodExpr
  unfolding function_expression expr_of
  g_function =
      good_node env {s = pair leaf (pair (optional leaf) (pair (list leaf) (list tree)))} (λ x. (x.0, made x.0 (function (x.1.0) (x.1.1.0) (x.1.1.1)))) GoodExpr
      (λ x h. s.function (option_map name_of x.1.0) (names_of x.1.1.0) (stmts x.1.1.1) (binding_if x.1.0 h.1.0) (h.1.1.0).all (h.1.1.0).once h.1.1.1)
      (good_sequence env (good_token env _) (good_sequence env (good_maybe env (good_token env _)) (good_sequence env g_parameters (g_block true false))))

  g_primary : Good env primary GoodExpr
  unfolding primary
  g_primary = good_choice env g_simple (good_choice env g_parenthesized (good_choice env g_array (good_choice env g_object g_function)))

  -- ---- members, indices and calls

  g_member : Good env member_part GoodAccess
  unfolding member_part access
  g_member = good_view env {s = leaf} (λ t. ((t, []), by_name)) GoodAccess (λ t h e i. s.member e (name_of t) t.pos i (identifier_kind t.kind h.0 h.1)) (good_behind env _ (good_token env _))

  g_index : Good env index_part GoodAccess
  unfolding index_part access
  g_index = good_view env {s = pair leaf tree} (λ x. ((x.0, x.1 ∷ []), by_key)) GoodAccess (λ x h e i. s.index e (expr_of x.1) (expr_of x.1).pos i h.1) (good_sequence env (good_token env _) (good_before env _ (an_expr level.Assignment)))

  g_arguments : Good env arguments GoodList
  unfolding arguments
  g_arguments = good_choice env (weaker (λ ns. AllByRecursion GoodNode ns) GoodList all_exprs (good_separated env _ (an_expr level.Assignment))) (good_absent env [] GoodList s.none)

  g_call : Good env call_part GoodAccess
  unfolding call_part
  g_call =
      good_view env {s = pair leaf (list tree)} (λ x. (x, by_arguments)) GoodAccess (λ x h e i. subst IsForm (sym (access_call e x.0 (exprs x.1))) (s.call e (exprs x.1) i h.1))
      (good_sequence env (good_token env _) (good_before env _ g_arguments))

  g_access : Good env access_part GoodAccess
  unfolding access_part
  g_access = good_choice env g_member (good_choice env g_index g_call)

  g_call_level : Good env call_level GoodExpr
  unfolding call_level expr_of
  g_call_level = good_suffixes env 1 accessed (λ l x h k. k (expr_of l.1) h) g_primary g_access

  -- ---- operators

  g_ends : (b : Bool) → Good env (ends_where b) (λ n. b ≡ true)
  g_ends true = good_absent env 0 (λ n. true ≡ true) refl
  g_ends false = good_view env {s = leaf} (λ t. 0) (λ n. false ≡ true) (λ t h. h.1) (good_token env _)

  g_deletion : Good env deletion GoodExpr
  unfolding deletion expr_of is_member
  g_deletion =
      good_node env {s = pair leaf (pair tree flag)} (λ x. (x.0, made x.0 (kind.Delete (expr_of (x.1.0))))) GoodExpr (λ x h. s.delete (expr_of x.1.0) h.1.1 h.1.0)
      (good_sequence env (good_token env _) (good_bind env true _ _ (λ e. ends_where (is_member e)) (λ e n. is_member e ≡ true) (an_expr level.Call) (λ e h. g_ends (is_member e))))

  g_operation : Good env operation GoodExpr
  unfolding operation expr_of
  g_operation = good_node env {s = pair leaf tree} negated GoodExpr (λ x h. unary_form (x.0).kind (expr_of x.1) h.1) (good_sequence env (good_token env _) (an_expr level.Unary))

  g_unary : Good env unary_level GoodExpr
  unfolding unary_level
  g_unary = good_choice env g_operation (good_choice env g_deletion g_call_level)

  -- a sign and an operand
  abbrev GoodOperand : EsToken × Node → Type 0
  GoodOperand x = OfClass (λ n. true) x.0 × GoodNode x.1

  over_binary : (l x : EsToken × Node) → GoodExpr l → GoodNode x.1 → GoodExpr (binary l x)
  unfolding expr_of
  over_binary l x h i = s.binary (operator_of (x.0).kind) (expr_of l.1) (expr_of x.1) h i

  g_product : Good env product_level GoodExpr
  unfolding product_level product_part
  g_product = good_suffixes env 1 binary (λ l x h k. over_binary l x h k.1) g_unary (good_sequence env (good_token env _) (an_expr level.Unary))

  g_sum : Good env sum_level GoodExpr
  unfolding sum_level sum_part
  g_sum = good_suffixes env 1 binary (λ l x h k. over_binary l x h k.1) g_product (good_sequence env (good_token env _) (an_expr level.Multiplicative))

  g_relation : Good env relation_level GoodExpr
  unfolding relation_level relation_part
  g_relation = good_suffixes env 1 binary (λ l x h k. over_binary l x h k.1) g_sum (good_sequence env (good_token env _) (an_expr level.Additive))

  g_equality : Good env equality_level GoodExpr
  unfolding equality_level equality_part
  g_equality = good_suffixes env 1 binary (λ l x h k. over_binary l x h k.1) g_relation (good_sequence env (good_token env _) (an_expr level.Relational))

  g_and : Good env and_level GoodExpr
  unfolding and_level and_part expr_of
  g_and = good_suffixes env 1 conjunction (λ l x h k. s.and (expr_of l.1) (expr_of x) h k) g_equality (good_behind env _ (an_expr level.Equality))

  g_or : Good env or_level GoodExpr
  unfolding or_level or_part expr_of
  g_or = good_suffixes env 1 disjunction (λ l x h k. s.or (expr_of l.1) (expr_of x) h k) g_and (good_behind env _ (an_expr level.And))

  g_conditional : Good env conditional_level GoodExpr
  unfolding conditional_level choices expr_of
  g_conditional =
      good_suffix env 1 (λ l. true) conditional (λ l x o h k. s.cond (expr_of l.1) (expr_of x.0) (expr_of x.1) h k.0 k.1) g_or
      (good_behind env _ (good_sequence env (an_expr level.Assignment) (good_behind env _ (an_expr level.Assignment))))

  g_assignment : Good env assignment_level GoodExpr
  unfolding assignment_level assigned_part expr_of is_target
  g_assignment = good_suffix env 1 (λ l. is_target l.1) assigned (λ l x o h k. s.assign (expr_of l.1) (expr_of x) o h k) g_conditional (good_behind env _ (an_expr level.Assignment))

  -- ---- statements

  g_ended : Good env ended GoodNode
  unfolding ended
  g_ended = good_before env _ (an_expr level.Assignment)

  module _ (f l : Bool) where
    abbrev GoodOf : Node × ℕ → Type 0
    GoodOf x = GoodStatement f l x

    g_block_statement : Good env (block_statement f l) GoodOf
    unfolding block_statement stmt_of
    g_block_statement = good_node env {s = list tree} (λ xs. closed (stmt.Block (stmts xs))) GoodOf (λ xs h. record { short = false; number = refl; is = s.block f l (stmts xs) h }) (g_block f l)

    var_by : (t : EsToken) (o : Option Node) → OfClass (a terminal.Name) t → IfSome GoodNode o → GoodOf (closed (stmt.Var (name_of t) (expr_if o)))
    unfolding stmt_of
    var_by t None h i = record { short = false; number = refl; is = s.var f l (name_of t) (binding_kind t.kind h.0 h.1) }
    var_by t (Some n) h i = record { short = false; number = refl; is = s.var_set f l (name_of t) (expr_of n) (binding_kind t.kind h.0 h.1) i }

    g_variable : Good env variable_statement GoodOf
    unfolding variable_statement
    g_variable =
        good_node env {s = pair leaf (optional tree)} (λ x. closed (stmt.Var (name_of x.0) (expr_if x.1))) GoodOf (λ x h. var_by x.0 x.1 h.0 h.1)
        (good_behind env _ (good_sequence env (good_token env _) (good_before env _ (good_maybe env (good_behind env _ (an_expr level.Assignment))))))

    g_empty : Good env empty_statement GoodOf
    unfolding empty_statement stmt_of
    g_empty = good_node env {s = leaf} (λ t. closed stmt.Empty) GoodOf (λ t h. record { short = false; number = refl; is = s.empty f l }) (good_token env _)

    g_expression : Good env expression_statement GoodOf
    unfolding expression_statement stmt_of
    g_expression = good_node env {s = tree} (λ e. closed (stmt.Expr (expr_of e))) GoodOf (λ e h. record { short = false; number = refl; is = s.expr f l (expr_of e) h }) (good_starting env _ g_ended)

    g_throw : Good env throw_statement GoodOf
    unfolding throw_statement stmt_of
    g_throw = good_node env {s = tree} (λ e. closed (stmt.Throw (expr_of e))) GoodOf (λ e h. record { short = false; number = refl; is = s.throw f l (expr_of e) h }) (good_behind env _ g_ended)

    g_condition : Good env condition GoodNode
    unfolding condition
    g_condition = good_between env _ _ (an_expr level.Assignment)

    -- the parts of an `if`; where there is a second one, the first takes no `else`
    abbrev GoodSecond : ℕ → Option (Node × ℕ) → Type 0
    GoodSecond n None = Unit {0}
    GoodSecond n (Some y) = GoodOf y × (n ≡ 0)

    abbrev GoodBranches : (Node × (Node × ℕ)) × Option (Node × ℕ) → Type 0
    GoodBranches x = GoodNode x.0.0 × GoodOf x.0.1 × GoodSecond x.0.1.1 x.1

    g_first : Good env (first_branch f l) GoodBranches
    unfolding first_branch
    g_first = good_view env {s = pair tree (marked tree)} (λ x. (x, None)) GoodBranches (λ x h. (h.0, h.1, tt)) (good_behind env _ (good_sequence env g_condition (names (statement f l))))

    over_else : (x : (Node × (Node × ℕ)) × Option (Node × ℕ)) (y : Node × ℕ) → takes_else x ≡ true → GoodBranches x → GoodOf y → GoodBranches (x.0, Some y)
    over_else (x, None) y o h g = (h.0, h.1, (g, zero_is x.1.1 o))
      where
        zero_is : (n : ℕ) → nat_eq 0 n ≡ true → n ≡ 0
        zero_is n e = sym ((Decides-eqb 0 n).0 e)
    over_else (x, Some z) y o h g = absurd (true≢false (sym o))

    g_both : Good env (both_branches f l) GoodBranches
    unfolding both_branches
    g_both = good_suffix env 0 takes_else (λ x y. (x.0, Some y)) over_else g_first (good_behind env _ (names (statement f l)))

    no_else : (short : Bool) (n : ℕ) → n ≡ number_of short → n ≡ 0 → short ≡ false
    no_else false n e z = refl
    no_else true n e z = absurd (omega (arith, e, z))

    branched_good : (x : (Node × (Node × ℕ)) × Option (Node × ℕ)) → GoodBranches x → GoodOf (branched x)
    unfolding stmt_of
    branched_good (x, None) h = record { short = true; number = refl; is = s.if_ f l (h.1).short (expr_of x.0) (stmt_of x.1.0) h.0 (h.1).is }
    branched_good (x, Some y) h =
        let first : IsStatement f l false (stmt_of x.1.0) = subst (λ b. IsStatement f l b (stmt_of x.1.0)) (no_else (h.1).short x.1.1 (h.1).number h.2.1) (h.1).is in
        record { short = (h.2.0).short; number = (h.2.0).number; is = s.if_else f l (h.2.0).short (expr_of x.0) (stmt_of x.1.0) (stmt_of y.0) h.0 first (h.2.0).is }

    g_if : Good env (if_statement f l) GoodOf
    unfolding if_statement
    g_if = good_node env {s = branches} branched GoodOf branched_good g_both

    looped_good : (x : Node × (Node × ℕ)) → GoodNode x.0 → GoodStatement f true x.1 → GoodOf (looped x)
    unfolding stmt_of
    looped_good x h g = record { short = g.short; number = g.number; is = s.while f l g.short (expr_of x.0) (stmt_of x.1.0) h g.is }

    g_while : Good env (while_statement f l) GoodOf
    unfolding while_statement
    g_while = good_node env {s = pair tree (marked tree)} looped GoodOf (λ x h. looped_good x h.0 h.1) (good_behind env _ (good_sequence env g_condition (names (statement f true))))

    -- what was caught
    abbrev GoodCatch : EsToken × List Node → Type 0
    GoodCatch x = IsBinding (name_of x.0) × GoodBody f l x.1

    g_catch : Good env (catch_part f l) GoodCatch
    unfolding catch_part
    g_catch =
        weaker (λ x. OfClass (a terminal.Name) x.0 × GoodBody f l x.1) GoodCatch (λ x h. (binding_kind (x.0).kind h.0.0 h.0.1, h.1))
        (good_behind env _ (good_sequence env (good_between env _ _ (good_token env _)) (g_block f l)))

    g_finally : Good env (finally_part f l) (GoodBody f l)
    unfolding finally_part
    g_finally = good_behind env _ (g_block f l)

    abbrev GoodHandlers : Option (EsToken × List Node) × Option (List Node) → Type 0
    GoodHandlers (None, None) = ⊥
    GoodHandlers (None, Some last) = GoodBody f l last
    GoodHandlers (Some c, None) = GoodCatch c
    GoodHandlers (Some c, Some last) = GoodCatch c × GoodBody f l last

    abbrev SomeCatch : Option (EsToken × List Node) → Type 0
    SomeCatch None = ⊥
    SomeCatch (Some c) = GoodCatch c

    with_catch : (c : Option (EsToken × List Node)) (o : Option (List Node)) → SomeCatch c → IfSome (GoodBody f l) o → GoodHandlers (c, o)
    with_catch None o h i = absurd h
    with_catch (Some c) None h i = h
    with_catch (Some c) (Some last) h i = (h, i)

    g_handlers : Good env (handlers f l) GoodHandlers
    unfolding handlers
    g_handlers =
        good_choice env
        (weaker (λ x. SomeCatch x.0 × IfSome (GoodBody f l) x.1) GoodHandlers (λ x h. with_catch x.0 x.1 h.0 h.1)
        (good_sequence env (good_view env {s = pair leaf (list tree)} (λ x. Some x) SomeCatch (λ x h. h) g_catch) (good_maybe env g_finally)))
        (good_view env {s = list tree} (λ x. (None, Some x)) GoodHandlers (λ x h. h) g_finally)

    tried_good : (ns : List Node) (h : Option (EsToken × List Node) × Option (List Node)) → GoodBody f l ns → GoodHandlers h → GoodOf (closed (tried (ns, h)))
    unfolding stmt_of
    tried_good ns (None, None) b h = absurd h
    tried_good ns (None, Some last) b h = record { short = false; number = refl; is = s.try_finally f l (stmts ns) (stmts last) b h }
    tried_good ns (Some c, None) b h = record { short = false; number = refl; is = s.try_catch f l (stmts ns) (caught c) b h.0 h.1 }
    tried_good ns (Some c, Some last) b h = record { short = false; number = refl; is = s.try_both f l (stmts ns) (caught c) (stmts last) b h.0.0 h.0.1 h.1 }

    g_try : Good env (try_statement f l) GoodOf
    unfolding try_statement
    g_try = good_node env {s = pair (list tree) handlers_sort} (λ x. closed (tried x)) GoodOf (λ x h. tried_good x.0 x.1 h.0 h.1) (good_behind env _ (good_sequence env (g_block f l) g_handlers))

    g_others : Good env (choice (block_statement f l) (choice variable_statement (choice empty_statement (choice (if_statement f l) (choice (while_statement f l) (choice throw_statement (choice (try_statement f l) expression_statement))))))) GoodOf
    g_others = good_choice env g_block_statement (good_choice env g_variable (good_choice env g_empty (good_choice env g_if (good_choice env g_while (good_choice env g_throw (good_choice env g_try g_expression))))))

  return_by : (l : Bool) (o : Option Node) → IfSome GoodNode o → GoodStatement true l (closed (stmt.Return (expr_if o)))
  unfolding stmt_of
  return_by l None h = record { short = false; number = refl; is = s.return l }
  return_by l (Some n) h = record { short = false; number = refl; is = s.return_value l (expr_of n) h }

  g_return : (l : Bool) → Good env return_statement (GoodStatement true l)
  unfolding return_statement
  g_return l = good_node env {s = optional tree} (λ x. closed (stmt.Return (expr_if x))) (GoodStatement true l) (λ x h. return_by l x h) (good_behind env _ (good_before env _ (good_maybe env (an_expr level.Assignment))))

  g_break : (f : Bool) → Good env break_statement (GoodStatement f true)
  unfolding break_statement stmt_of
  g_break f = good_node env {s = leaf} (λ t. closed stmt.Break) (GoodStatement f true) (λ t h. record { short = false; number = refl; is = s.break f }) (good_before env _ (good_token env _))

  g_continue : (f : Bool) → Good env continue_statement (GoodStatement f true)
  unfolding continue_statement stmt_of
  g_continue f = good_node env {s = leaf} (λ t. closed stmt.Continue) (GoodStatement f true) (λ t h. record { short = false; number = refl; is = s.continue f }) (good_before env _ (good_token env _))

  g_statement : (f l : Bool) → Good env (any_statement f l) (GoodStatement f l)
  unfolding any_statement
  g_statement true true = good_choice env (g_return true) (good_choice env (g_break true) (good_choice env (g_continue true) (g_others true true)))
  g_statement true false = good_choice env (g_return false) (g_others true false)
  g_statement false true = good_choice env (g_break false) (good_choice env (g_continue false) (g_others false true))
  g_statement false false = g_others false false

  g_script : Good env whole_script (GoodBody false false)
  unfolding whole_script
  g_script = good_view env {s = pair leaf (list tree)} (λ x. x.1) (GoodBody false false) (λ x h. h.1) (good_sequence env (good_token_where env _ _) (good_behind env _ (g_list false false)))

  -- ---- all productions

  g_value_of : (r : R (pair leaf tree)) → Good env r GoodExpr → Good env {s = tree} (view {s = pair leaf tree} (λ x. x.1) r) GoodNode
  g_value_of r g = good_view env {s = pair leaf tree} (λ x. x.1) GoodNode (λ x h. h) g

  pub g_production : (k : Name) → Good env (production k) (GoodName k)
  g_production script = g_script
  g_production (statement f l) = g_statement f l
  g_production (expr level.Assignment) = g_value_of assignment_level g_assignment
  g_production (expr level.And) = g_value_of and_level g_and
  g_production (expr level.Equality) = g_value_of equality_level g_equality
  g_production (expr level.Relational) = g_value_of relation_level g_relation
  g_production (expr level.Additive) = g_value_of sum_level g_sum
  g_production (expr level.Multiplicative) = g_value_of product_level g_product
  g_production (expr level.Unary) = g_value_of unary_level g_unary
  g_production (expr level.Call) = g_value_of call_level g_call_level
  g_production items = g_more_items
  g_production (pairs seen) = g_pairs seen
  g_production (params seen) = g_params seen

pub derived : (n : ℕ) (k : Name) → Good (Derives table n) (named k) (GoodName k)
unfolding Derives table
derived zero k = record { good = λ x u h i. absurd h }
derived (suc n) k = record { good = λ x u h i. (g_production (Derives table n) (derived n) k).good x u h i }

-- No production spells more nodes than tokens.
use Rattle.std.proofs.Common.{◌≡◌, ℕ, zero, suc, ◌+◌, ◌≤◌, Bool, true, false, List, [], ◌∷◌, map, Option, Some, None, refl, ap, arith}
use Rattle.grammar.specs.Rules.{Sort, El, flag, leaf, list, marked, optional, pair, tree, choice, named, view}
use Rattle.grammar.specs.Spelling.{Derives}
use Rattle.opal_base.specs.declared.place.Pos.{Pos}
use Rattle.es5_tree.specs.declared.terminal.Keyword.{Keyword}
use Rattle.es5_tree.specs.declared.terminal.Keyword.TheVariants as keyword
use Rattle.es5_tree.specs.declared.terminal.Level.{Level}
use Rattle.es5_tree.specs.declared.terminal.Level.TheVariants as level
use Rattle.es5_tree.specs.declared.terminal.Terminal.{Terminal}
use Rattle.es5_tree.specs.declared.terminal.Terminal.TheVariants as terminal
use Rattle.es5_tree.specs.declared.token.EsMark.{EsMark}
use Rattle.es5_tree.specs.declared.token.EsMark.TheVariants as mark
use Rattle.es5_tree.specs.declared.token.EsToken.{EsToken}
use Rattle.es5_tree.specs.declared.token.EsTokenKind.{EsTokenKind}
use Rattle.es5_tree.specs.declared.token.EsTokenKind.TheVariants as token
use Rattle.es5_tree.specs.declared.tree.EsExpr.{EsExpr}
use Rattle.es5_tree.specs.declared.tree.EsKind.TheVariants as kind
use Rattle.es5_tree.specs.declared.tree.EsStmt.TheVariants as stmt
use Rattle.es5_tree.specs.Grammar.Expressions as e
use Rattle.es5_tree.specs.Grammar.Expressions.{access_part, and_level, and_part, arguments, array, assigned_part, assignment_level, call_level, call_part, choices, conditional_level, deletion, ends_where, equality_level, equality_part, function_expression, index_part, item_list, member_part, more_items, more_pairs, object_literal, operation, or_level, or_part, pair_list, parenthesized, primary, product_level, product_part, relation_level, relation_part, simple, statement_list, sum_level, sum_part, unary_level, value_and_more}
use Rattle.es5_tree.specs.Grammar.Names.{Name, script, statement, expr, items, pairs, params, sorts, R}
use Rattle.es5_tree.specs.Grammar.Nodes.{access, accessed, assigned, binary, branched, by_arguments, by_key, by_name, caught, closed, conditional, conjunction, disjunction, expr_at, expr_if, expr_of, exprs, function, is_member, is_target, looped, made, name_of, names_of, negated, Node, object, operator_of, place, stmt_of, stmts, takes_else, token_kind, tried, unary_kind, word_kind}
use Rattle.es5_tree.specs.Grammar.Statements.{any_statement, block_statement, both_branches, branches, break_statement, catch_part, condition, continue_statement, empty_statement, ended, expression_statement, finally_part, first_branch, handlers, handlers_sort, if_statement, return_statement, throw_statement, try_statement, variable_statement, while_statement, whole_script}
use Rattle.es5_tree.specs.Grammar.Table.{production, table}
use Rattle.es5_tree.specs.Grammar.Terminals.{terminal_of_word}
use Rattle.std.specs.Option.{option_map}
use Rattle.es5_spelling.specs.Nodes.{expr_nodes, stmt_nodes, total}
use Rattle.es5_spelling.proofs.Bounded.{b_absent, b_before, b_behind, b_between, b_bind, b_choice, b_less, b_many, b_maybe, b_node, b_separated, b_sequence, b_starting, b_suffix, b_suffixes, b_token, b_token_where, b_view, Bounded, if_some}
use Rattle.es5_spelling.proofs.Good.{Env}
use Rattle.es5_spelling.proofs.NodeCounts as count

-- ---- what is counted

abbrev InNode : Node → ℕ
InNode n = expr_nodes (expr_of n)

abbrev InExpr : EsToken × Node → ℕ
InExpr x = InNode x.1

abbrev InList : List Node → ℕ
InList ns = total (map expr_nodes (exprs ns))

abbrev InBody : List Node → ℕ
InBody ns = total (map stmt_nodes (stmts ns))

abbrev InStatement : Node × ℕ → ℕ
InStatement x = stmt_nodes (stmt_of x.0)

abbrev InPairs : List (EsToken × Node) → ℕ
InPairs ps = total (map expr_nodes (map (λ p. expr_of p.1) ps))

abbrev InAccess : (EsToken × List Node) × ℕ → ℕ
InAccess y = suc (InList y.0.1)

abbrev pub InName : (k : Name) → El EsToken Node (sorts k) → ℕ
InName script ns = total (map stmt_nodes (stmts ns))
InName (statement f l) x = stmt_nodes (stmt_of x.0)
InName (expr l) n = expr_nodes (expr_of n)
InName items ns = total (map expr_nodes (exprs ns))
InName (pairs seen) ps = total (map expr_nodes (map (λ p. expr_of p.1) ps))
InName (params seen) ts = 0

list_total : (ns : List Node) → InList ns ≡ total (map InNode ns)
list_total [] = refl
list_total (n ∷ ns) = ap (λ k. InNode n + k) (list_total ns)

abbrev InOne : Node → ℕ
InOne n = stmt_nodes (stmt_of n)

body_total : (ns : List Node) → InBody ns ≡ total (map InOne ns)
body_total [] = refl
body_total (n ∷ ns) = ap (λ k. InOne n + k) (body_total ns)

word_count : (t : Terminal) (name : List ℕ) (p : Pos) → expr_nodes (expr_at p (word_kind t name)) ≡ 1
word_count (terminal.Keyword k) name p = by k
  where
    by : (k : Keyword) → expr_nodes (expr_at p (word_kind (terminal.Keyword k) name)) ≡ 1
    by keyword.This = count.count_this p
    by keyword.Null = count.count_null p
    by keyword.True = count.count_true_ p
    by keyword.False = count.count_false_ p
    by _ = count.count_name p name
word_count _ name p = count.count_name p name

token_count : (k : EsTokenKind) (p : Pos) → expr_nodes (expr_at p (token_kind k)) ≡ 1
unfolding token_kind
token_count (token.Word name) p = word_count (terminal_of_word name) name p
token_count (token.Num v) p = count.count_num p v
token_count (token.Str t) p = count.count_str p t
token_count _ p = count.count_null p

access_count : (e : EsExpr) (t : EsToken) (args : List EsExpr) (n : ℕ) (p : Pos) → expr_nodes (expr_at p (access e t args n)) ≤ expr_nodes e + suc (total (map expr_nodes args))
unfolding access
access_count e t [] zero p = omega (arith, count.count_member p e (name_of t) (place t))
access_count e t [] (suc n) p = omega (arith, count.count_call p e [])
access_count e t (k ∷ []) zero p = omega (arith, count.count_call p e (k ∷ []))
access_count e t (k ∷ []) (suc zero) p = omega (arith, count.count_index p e k k.pos)
access_count e t (k ∷ []) (suc (suc n)) p = omega (arith, count.count_call p e (k ∷ []))
access_count e t (k ∷ l ∷ args) n p = omega (arith, count.count_call p e (k ∷ l ∷ args))

unary_count : (k : EsTokenKind) (e : EsExpr) (p : Pos) → expr_nodes (expr_at p (unary_kind k e)) ≡ suc (expr_nodes e)
unary_count (token.Mark m) e p = by m
  where
    by : (m : EsMark) → expr_nodes (expr_at p (unary_kind (token.Mark m) e)) ≡ suc (expr_nodes e)
    by mark.Not = count.count_not_ p e
    by mark.Minus = count.count_neg p e
    by _ = count.count_typeof p e
unary_count _ e p = count.count_typeof p e

module _ (env : Env) (names : (k : Name) → Bounded env (named k) (InName k)) where
  b_zero : {s : Sort} (r : R s) → Bounded env r (λ x. 0)
  b_zero r = record { bounded = λ x u h. omega arith }

  an_expr : (l : Level) → Bounded env (named (expr l)) InNode
  an_expr l = names (expr l)

  -- ---- primary expressions

  n_simple : Bounded env simple InExpr
  unfolding simple expr_of
  n_simple = b_node env {s = leaf} (λ t. (t, made t (token_kind t.kind))) InExpr (λ t. omega (arith, token_count t.kind (place t))) (b_token env _)

  n_parenthesized : Bounded env parenthesized InExpr
  unfolding parenthesized
  n_parenthesized = b_view env {s = pair leaf (pair tree leaf)} (λ x. (x.0, x.1.0)) InExpr (λ x. omega arith) (b_sequence env (b_token env _) (b_sequence env (an_expr level.Assignment) (b_token env _)))

  n_item_list : Bounded env item_list InList
  unfolding item_list
  n_item_list = b_choice env (b_view env {s = pair tree (list tree)} (λ x. x.0 ∷ x.1) InList (λ x. omega arith) (b_sequence env (an_expr level.Assignment) (names items))) (b_absent env [] InList refl)

  n_more_items : Bounded env more_items InList
  unfolding more_items
  n_more_items = b_choice env (b_less env InList (λ x. suc (InList x)) (λ x. omega arith) (b_behind env _ n_item_list)) (b_absent env [] InList refl)

  n_array : Bounded env array InExpr
  unfolding array expr_of
  n_array = b_node env {s = pair leaf (list tree)} (λ x. (x.0, made x.0 (kind.Array (exprs x.1)))) InExpr (λ x. omega (arith, count.count_array (place x.0) (exprs x.1))) (b_sequence env (b_token env _) (b_before env _ n_item_list))

  n_more_pairs : (seen : List (List ℕ)) → Bounded env (more_pairs seen) InPairs
  unfolding more_pairs
  n_more_pairs seen =
      b_choice env (b_less env InPairs (λ x. suc (InPairs x)) (λ x. omega arith) (b_behind env _ (b_choice env (names (pairs seen)) (b_absent env [] InPairs refl)))) (b_absent env [] InPairs refl)

  n_pairs : (seen : List (List ℕ)) → Bounded env (pair_list seen) InPairs
  unfolding pair_list value_and_more
  n_pairs seen =
      b_view env {s = pair leaf (pair tree (list (pair leaf tree)))} (λ x. (x.0, x.1.0) ∷ x.1.1) InPairs (λ x. omega arith)
      (b_bind env false _ _ (λ t. value_and_more (name_of t ∷ seen)) (λ x. suc (InNode x.0 + InPairs x.1)) (b_token_where env _ _) (λ t. b_behind env _ (b_sequence env (an_expr level.Assignment) (n_more_pairs (name_of t ∷ seen)))))

  n_object : Bounded env object_literal InExpr
  unfolding object_literal expr_of
  n_object =
      b_node env {s = pair leaf (list (pair leaf tree))} (λ x. (x.0, made x.0 (object x.1))) InExpr (λ x. omega (arith, count.count_object (place x.0) (map (λ p. name_of p.0) x.1) (map (λ p. expr_of p.1) x.1)))
      (b_sequence env (b_token env _) (b_before env _ (b_choice env (names (pairs [])) (b_absent env [] InPairs refl))))

  n_list : (f l : Bool) → Bounded env (statement_list f l) InBody
  unfolding statement_list
  n_list f l =
      b_less env InBody (λ ns. total (map InOne ns)) (λ ns. omega (arith, body_total ns))
      (b_many env (b_view env {s = marked tree} (λ x. x.0) InOne (λ x. omega arith) (names (statement f l))))

  n_block : (f l : Bool) → Bounded env (e.block f l) (λ ns. suc (suc (InBody ns)))
  unfolding e.block
  n_block f l = b_between env _ _ (n_list f l)

  n_function : Bounded env function_expression InExpr
  unfolding function_expression expr_of
  n_function =
      b_node env {s = pair leaf (pair (optional leaf) (pair (list leaf) (list tree)))} (λ x. (x.0, made x.0 (function (x.1.0) (x.1.1.0) (x.1.1.1)))) InExpr
      (λ x. omega (arith, count.count_function (place x.0) (option_map name_of x.1.0) (names_of x.1.1.0) (stmts x.1.1.1)))
      (b_sequence env (b_token env _) (b_sequence env (b_zero _) (b_sequence env (b_zero _) (n_block true false))))

  n_primary : Bounded env primary InExpr
  unfolding primary
  n_primary = b_choice env n_simple (b_choice env n_parenthesized (b_choice env n_array (b_choice env n_object n_function)))

  -- ---- members, indices and calls

  n_member : Bounded env member_part InAccess
  unfolding member_part
  n_member = b_view env {s = leaf} (λ t. ((t, []), by_name)) InAccess (λ t. omega arith) (b_behind env _ (b_token env _))

  n_index : Bounded env index_part InAccess
  unfolding index_part
  n_index = b_view env {s = pair leaf tree} (λ x. ((x.0, x.1 ∷ []), by_key)) InAccess (λ x. omega arith) (b_sequence env (b_token env _) (b_before env _ (an_expr level.Assignment)))

  n_arguments : Bounded env arguments InList
  unfolding arguments
  n_arguments = b_choice env (b_less env InList (λ ns. total (map InNode ns)) (λ ns. omega (arith, list_total ns)) (b_separated env _ (an_expr level.Assignment))) (b_absent env [] InList refl)

  n_call : Bounded env call_part InAccess
  unfolding call_part
  n_call = b_view env {s = pair leaf (list tree)} (λ x. (x, by_arguments)) InAccess (λ x. omega arith) (b_sequence env (b_token env _) (b_before env _ n_arguments))

  n_access : Bounded env access_part InAccess
  unfolding access_part
  n_access = b_choice env n_member (b_choice env n_index n_call)

  n_call_level : Bounded env call_level InExpr
  unfolding call_level expr_of
  n_call_level = b_suffixes env 1 accessed (λ l x. access_count (expr_of l.1) x.0.0 (exprs x.0.1) x.1 (place l.0)) n_primary n_access

  -- ---- operators

  n_deletion : Bounded env deletion InExpr
  unfolding deletion expr_of
  n_deletion =
      b_node env {s = pair leaf (pair tree flag)} (λ x. (x.0, made x.0 (kind.Delete (expr_of (x.1.0))))) InExpr (λ x. omega (arith, count.count_delete (place x.0) (expr_of x.1.0)))
      (b_sequence env (b_token env _) (b_bind env true _ _ (λ e. ends_where (is_member e)) (λ n. 0) (an_expr level.Call) (λ e. b_zero _)))

  n_operation : Bounded env operation InExpr
  unfolding operation expr_of
  n_operation = b_node env {s = pair leaf tree} negated InExpr (λ x. omega (arith, unary_count (x.0).kind (expr_of x.1) (place x.0))) (b_sequence env (b_token env _) (an_expr level.Unary))

  n_unary : Bounded env unary_level InExpr
  unfolding unary_level
  n_unary = b_choice env n_operation (b_choice env n_deletion n_call_level)

  over_binary : (l x : EsToken × Node) → InExpr (binary l x) ≤ InExpr l + (1 + InNode x.1)
  unfolding expr_of
  over_binary l x = omega (arith, count.count_binary (place l.0) (operator_of (x.0).kind) (expr_of l.1) (expr_of x.1))

  n_product : Bounded env product_level InExpr
  unfolding product_level product_part
  n_product = b_suffixes env 1 binary over_binary n_unary (b_sequence env (b_token env _) (an_expr level.Unary))

  n_sum : Bounded env sum_level InExpr
  unfolding sum_level sum_part
  n_sum = b_suffixes env 1 binary over_binary n_product (b_sequence env (b_token env _) (an_expr level.Multiplicative))

  n_relation : Bounded env relation_level InExpr
  unfolding relation_level relation_part
  n_relation = b_suffixes env 1 binary over_binary n_sum (b_sequence env (b_token env _) (an_expr level.Additive))

  n_equality : Bounded env equality_level InExpr
  unfolding equality_level equality_part
  n_equality = b_suffixes env 1 binary over_binary n_relation (b_sequence env (b_token env _) (an_expr level.Relational))

  n_and : Bounded env and_level InExpr
  unfolding and_level and_part expr_of
  n_and = b_suffixes env 1 conjunction (λ l x. omega (arith, count.count_and (place l.0) (expr_of l.1) (expr_of x))) n_equality (b_behind env _ (an_expr level.Equality))

  n_or : Bounded env or_level InExpr
  unfolding or_level or_part expr_of
  n_or = b_suffixes env 1 disjunction (λ l x. omega (arith, count.count_or (place l.0) (expr_of l.1) (expr_of x))) n_and (b_behind env _ (an_expr level.And))

  n_conditional : Bounded env conditional_level InExpr
  unfolding conditional_level choices expr_of
  n_conditional =
      b_suffix env 1 (λ l. true) conditional (λ l x. omega (arith, count.count_cond (place l.0) (expr_of l.1) (expr_of x.0) (expr_of x.1))) n_or
      (b_behind env _ (b_sequence env (an_expr level.Assignment) (b_behind env _ (an_expr level.Assignment))))

  n_assignment : Bounded env assignment_level InExpr
  unfolding assignment_level assigned_part expr_of
  n_assignment = b_suffix env 1 (λ l. is_target l.1) assigned (λ l x. omega (arith, count.count_assign (place l.0) (expr_of l.1) (expr_of x))) n_conditional (b_behind env _ (an_expr level.Assignment))

  -- ---- statements

  n_ended : Bounded env ended (λ n. suc (InNode n))
  unfolding ended
  n_ended = b_before env _ (an_expr level.Assignment)

  var_count : (t : EsToken) (o : Option Node) → InStatement (closed (stmt.Var (name_of t) (expr_if o))) ≤ suc (1 + suc (if_some (λ n. suc (InNode n)) o))
  unfolding stmt_of
  var_count t None = omega (arith, count.count_stmt_var (name_of t))
  var_count t (Some n) = omega (arith, count.count_stmt_var_set (name_of t) (expr_of n))

  n_variable : Bounded env variable_statement InStatement
  unfolding variable_statement
  n_variable =
      b_node env {s = pair leaf (optional tree)} (λ x. closed (stmt.Var (name_of x.0) (expr_if x.1))) InStatement (λ x. var_count x.0 x.1)
      (b_behind env _ (b_sequence env (b_token env _) (b_before env _ (b_maybe env (b_behind env _ (an_expr level.Assignment))))))

  n_empty : Bounded env empty_statement InStatement
  unfolding empty_statement stmt_of
  n_empty = b_node env {s = leaf} (λ t. closed stmt.Empty) InStatement (λ t. omega (arith, count.count_stmt_empty)) (b_token env _)

  n_expression : Bounded env expression_statement InStatement
  unfolding expression_statement stmt_of
  n_expression = b_node env {s = tree} (λ e. closed (stmt.Expr (expr_of e))) InStatement (λ e. omega (arith, count.count_stmt_expr (expr_of e))) (b_starting env _ n_ended)

  n_throw : Bounded env throw_statement InStatement
  unfolding throw_statement stmt_of
  n_throw = b_node env {s = tree} (λ e. closed (stmt.Throw (expr_of e))) InStatement (λ e. omega (arith, count.count_stmt_throw (expr_of e))) (b_behind env _ n_ended)

  return_count : (o : Option Node) → InStatement (closed (stmt.Return (expr_if o))) ≤ suc (suc (if_some InNode o))
  unfolding stmt_of
  return_count None = omega (arith, count.count_stmt_return)
  return_count (Some n) = omega (arith, count.count_stmt_return_value (expr_of n))

  n_return : Bounded env return_statement InStatement
  unfolding return_statement
  n_return = b_node env {s = optional tree} (λ x. closed (stmt.Return (expr_if x))) InStatement return_count (b_behind env _ (b_before env _ (b_maybe env (an_expr level.Assignment))))

  n_break : Bounded env break_statement InStatement
  unfolding break_statement stmt_of
  n_break = b_node env {s = leaf} (λ t. closed stmt.Break) InStatement (λ t. omega (arith, count.count_stmt_break)) (b_before env _ (b_token env _))

  n_continue : Bounded env continue_statement InStatement
  unfolding continue_statement stmt_of
  n_continue = b_node env {s = leaf} (λ t. closed stmt.Continue) InStatement (λ t. omega (arith, count.count_stmt_continue)) (b_before env _ (b_token env _))

  n_condition : Bounded env condition (λ n. suc (suc (InNode n)))
  unfolding condition
  n_condition = b_between env _ _ (an_expr level.Assignment)

  abbrev InBranches : (Node × (Node × ℕ)) × Option (Node × ℕ) → ℕ
  InBranches x = suc (InNode x.0.0 + (InStatement x.0.1 + if_some InStatement x.1))

  over_else : (x : (Node × (Node × ℕ)) × Option (Node × ℕ)) (y : Node × ℕ) → InBranches (x.0, Some y) ≤ InBranches x + suc (InStatement y)
  over_else x y = omega arith

  branched_count : (x : (Node × (Node × ℕ)) × Option (Node × ℕ)) → InStatement (branched x) ≤ InBranches x
  unfolding stmt_of
  branched_count (x, None) = omega (arith, count.count_stmt_if (expr_of x.0) (stmt_of x.1.0))
  branched_count (x, Some y) = omega (arith, count.count_stmt_if_else (expr_of x.0) (stmt_of x.1.0) (stmt_of y.0))

  looped_count : (x : Node × (Node × ℕ)) → InStatement (looped x) ≤ suc (suc (suc (InNode x.0)) + InStatement x.1)
  unfolding stmt_of
  looped_count x = omega (arith, count.count_stmt_while (expr_of x.0) (stmt_of x.1.0))

  abbrev InHandlers : Option (EsToken × List Node) × Option (List Node) → ℕ
  InHandlers h = if_some (λ c. InBody c.1) h.0 + if_some InBody h.1

  tried_count : (ns : List Node) (h : Option (EsToken × List Node) × Option (List Node)) → InStatement (closed (tried (ns, h))) ≤ suc (suc (suc (InBody ns)) + InHandlers h)
  unfolding stmt_of
  tried_count ns (None, None) = omega (arith, count.count_stmt_try_none (stmts ns))
  tried_count ns (None, Some last) = omega (arith, count.count_stmt_try_finally (stmts ns) (stmts last))
  tried_count ns (Some c, None) = omega (arith, count.count_stmt_try_catch (stmts ns) (caught c), count.catch_count (caught c))
  tried_count ns (Some c, Some last) = omega (arith, count.count_stmt_try_both (stmts ns) (caught c) (stmts last), count.catch_count (caught c))

  module _ (f l : Bool) where
    n_block_statement : Bounded env (block_statement f l) InStatement
    unfolding block_statement stmt_of
    n_block_statement = b_node env {s = list tree} (λ xs. closed (stmt.Block (stmts xs))) InStatement (λ xs. omega (arith, count.count_stmt_block (stmts xs))) (n_block f l)

    n_first : Bounded env (first_branch f l) InBranches
    unfolding first_branch
    n_first = b_view env {s = pair tree (marked tree)} (λ x. (x, None)) InBranches (λ x. omega arith) (b_behind env _ (b_sequence env n_condition (names (statement f l))))

    n_both : Bounded env (both_branches f l) InBranches
    unfolding both_branches
    n_both = b_suffix env 0 takes_else (λ x y. (x.0, Some y)) over_else n_first (b_behind env _ (names (statement f l)))

    n_if : Bounded env (if_statement f l) InStatement
    unfolding if_statement
    n_if = b_node env {s = branches} branched InStatement branched_count n_both

    n_while : Bounded env (while_statement f l) InStatement
    unfolding while_statement
    n_while = b_node env {s = pair tree (marked tree)} looped InStatement looped_count (b_behind env _ (b_sequence env n_condition (names (statement f true))))

    n_catch : Bounded env (catch_part f l) (λ c. InBody c.1)
    unfolding catch_part
    n_catch =
        b_less env (λ c. InBody c.1) (λ c. suc (0 + suc (suc (InBody c.1)))) (λ c. omega arith)
        (b_behind env _ (b_sequence env (b_zero _) (n_block f l)))

    n_finally : Bounded env (finally_part f l) InBody
    unfolding finally_part
    n_finally = b_less env InBody (λ ns. suc (suc (suc (InBody ns)))) (λ ns. omega arith) (b_behind env _ (n_block f l))

    n_handlers : Bounded env (handlers f l) InHandlers
    unfolding handlers
    n_handlers =
        b_choice env
        (b_sequence env (b_view env {s = pair leaf (list tree)} (λ x. Some x) (if_some (λ c. InBody c.1)) (λ x. omega arith) n_catch) (b_maybe env n_finally))
        (b_view env {s = list tree} (λ x. (None, Some x)) InHandlers (λ x. omega arith) n_finally)

    n_try : Bounded env (try_statement f l) InStatement
    unfolding try_statement
    n_try = b_node env {s = pair (list tree) handlers_sort} (λ x. closed (tried x)) InStatement (λ x. tried_count x.0 x.1) (b_behind env _ (b_sequence env (n_block f l) n_handlers))

    n_others : Bounded env (choice (block_statement f l) (choice variable_statement (choice empty_statement (choice (if_statement f l) (choice (while_statement f l) (choice throw_statement (choice (try_statement f l) expression_statement))))))) InStatement
    n_others = b_choice env n_block_statement (b_choice env n_variable (b_choice env n_empty (b_choice env n_if (b_choice env n_while (b_choice env n_throw (b_choice env n_try n_expression))))))

  n_statement : (f l : Bool) → Bounded env (any_statement f l) InStatement
  unfolding any_statement
  n_statement true true = b_choice env n_return (b_choice env n_break (b_choice env n_continue (n_others true true)))
  n_statement true false = b_choice env n_return (n_others true false)
  n_statement false true = b_choice env n_break (b_choice env n_continue (n_others false true))
  n_statement false false = n_others false false

  n_script : Bounded env whole_script InBody
  unfolding whole_script
  n_script = b_view env {s = pair leaf (list tree)} (λ x. x.1) InBody (λ x. omega arith) (b_sequence env (b_token_where env _ _) (b_behind env _ (n_list false false)))

  -- ---- all productions

  n_value_of : (r : R (pair leaf tree)) → Bounded env r InExpr → Bounded env {s = tree} (view {s = pair leaf tree} (λ x. x.1) r) InNode
  n_value_of r g = b_view env {s = pair leaf tree} (λ x. x.1) InNode (λ x. omega arith) g

  pub n_production : (k : Name) → Bounded env (production k) (InName k)
  n_production script = n_script
  n_production (statement f l) = n_statement f l
  n_production (expr level.Assignment) = n_value_of assignment_level n_assignment
  n_production (expr level.And) = n_value_of and_level n_and
  n_production (expr level.Equality) = n_value_of equality_level n_equality
  n_production (expr level.Relational) = n_value_of relation_level n_relation
  n_production (expr level.Additive) = n_value_of sum_level n_sum
  n_production (expr level.Multiplicative) = n_value_of product_level n_product
  n_production (expr level.Unary) = n_value_of unary_level n_unary
  n_production (expr level.Call) = n_value_of call_level n_call_level
  n_production items = n_more_items
  n_production (pairs seen) = n_pairs seen
  n_production (params seen) = b_zero _

pub bound : (n : ℕ) (k : Name) → Bounded (Derives table n) (named k) (InName k)
unfolding Derives table
bound zero k = record { bounded = λ x u h. absurd h }
bound (suc n) k = record { bounded = λ x u h. (n_production (Derives table n) (bound n) k).bounded x u h }

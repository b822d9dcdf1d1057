-- Which scripts have a spelling in the profile (ECMA-262 5.1, sections 7 and 11 to 14): the shape of each form, and what the
-- standard or the profile refuses.
use Rattle.std.specs.Prelude.{◌≡◌, ℕ, pos, ◌<◌, ◌^◌, Bool, true, false, not, ◌&&◌, List, [], ◌∷◌, length, Option, Some, None, codes, bytes_eq}
use Rattle.std.specs.List.{list_all, list_any, AllByRecursion}
use Rattle.opal_base.specs.declared.place.Pos.{Pos}
use Rattle.es5_tree.specs.declared.tree.Catch.{Catch}
use Rattle.es5_tree.specs.declared.tree.EsExpr.{EsExpr}
use Rattle.es5_tree.specs.declared.tree.EsKind.{EsKind, out-EsKind}
use Rattle.es5_tree.specs.declared.tree.EsKind.TheVariants as kind
use Rattle.es5_tree.specs.declared.tree.EsStmt.{EsStmt}
use Rattle.es5_tree.specs.declared.tree.EsStmt.TheVariants as stmt
use Rattle.es5_tree.specs.declared.tree.Operator.{Operator}
use Rattle.es5_tree.specs.declared.tree.Script.{Script}
use Rattle.es5_tree.specs.Characters.{begins, is_letter, is_name_part}
use Rattle.es5_tree.specs.Grammar.Nodes.{is_member_form, is_target_form}
use Rattle.es5_tree.specs.Reserved.{is_reserved}

-- ---- names

-- letters, digits, `$` and `_`, no digit first; no reserved word (7.6, 7.6.1) and not `eval`
unfoldable pub is_identifier : List ℕ → Bool
is_identifier name = begins is_letter name && list_all is_name_part name && not (is_reserved name) && not (bytes_eq (codes "eval") name)

-- the name of a variable, a function, a parameter or what was caught: not `arguments` (12.2.1, 12.14.1, 13.1)
unfoldable pub is_binding : List ℕ → Bool
is_binding name = is_identifier name && not (bytes_eq (codes "arguments") name)

abbrev pub IsIdentifier : List ℕ → Type 0
IsIdentifier name = is_identifier name ≡ true

abbrev pub IsBinding : List ℕ → Type 0
IsBinding name = is_binding name ≡ true

abbrev pub IsBindingIf : Option (List ℕ) → Type 0
IsBindingIf None = Unit {0}
IsBindingIf (Some name) = IsBinding name

-- none stands twice (11.1.5, 13.1)
abbrev pub none_twice : List (List ℕ) → Bool
none_twice [] = true
none_twice (name ∷ names) = not (list_any (λ other. bytes_eq name other) names) && none_twice names

-- 16-bit units (8.4)
abbrev pub IsText : List ℕ → Type 0
IsText text = AllByRecursion (λ unit. unit < 2 ^ 16) text

-- ---- expressions and statements. The flags of a statement: whether it stands in a function, whether in a loop of that function,
-- and whether it ends with an `if` without an `else`, which would take an `else` behind it (12.5).

mutual
  -- the form of an expression (11)
  pub data IsForm : EsKind → Type 0 where
    -- a whole number from 0 to 2^53-1 (7.8.3)
    num : (value : ℕ) → value < 2 ^ 53 → IsForm (kind.Num (pos value))
    str : (text : List ℕ) → IsText text → IsForm (kind.Str text)
    true_ : IsForm kind.True
    false_ : IsForm kind.False
    null : IsForm kind.Null
    this : IsForm kind.This
    name : (name : List ℕ) → IsIdentifier name → IsForm (kind.Name name)
    array : (items : List EsExpr) → AreExprs items → IsForm (kind.Array items)
    -- as many values as keys, and no key twice
    object : (keys : List (List ℕ)) (values : List EsExpr) → AllByRecursion IsIdentifier keys → none_twice keys ≡ true → length keys ≡ length values → AreExprs values → IsForm (kind.Object keys values)
    -- no parameter twice; its body is in a function, and in no loop of that function
    function : (name : Option (List ℕ)) (params : List (List ℕ)) (body : List EsStmt) → IsBindingIf name → AllByRecursion IsBinding params → none_twice params ≡ true → AreStatements true false body → IsForm (kind.Function name params body)
    member : (base : EsExpr) (name : List ℕ) (mark : Pos) → IsForm base.kind → IsIdentifier name → IsForm (kind.Member base name mark)
    index : (base key : EsExpr) (mark : Pos) → IsForm base.kind → IsForm key.kind → IsForm (kind.Index base key mark)
    call : (callee : EsExpr) (args : List EsExpr) → IsForm callee.kind → AreExprs args → IsForm (kind.Call callee args)
    not_ : (value : EsExpr) → IsForm value.kind → IsForm (kind.Not value)
    neg : (value : EsExpr) → IsForm value.kind → IsForm (kind.Neg value)
    typeof : (value : EsExpr) → IsForm value.kind → IsForm (kind.Typeof value)
    -- of a member or an index (11.4.1)
    delete : (value : EsExpr) → is_member_form (out-EsKind value.kind) ≡ true → IsForm value.kind → IsForm (kind.Delete value)
    binary : (operator : Operator) (left right : EsExpr) → IsForm left.kind → IsForm right.kind → IsForm (kind.Binary operator left right)
    and : (left right : EsExpr) → IsForm left.kind → IsForm right.kind → IsForm (kind.And left right)
    or : (left right : EsExpr) → IsForm left.kind → IsForm right.kind → IsForm (kind.Or left right)
    cond : (test first second : EsExpr) → IsForm test.kind → IsForm first.kind → IsForm second.kind → IsForm (kind.Cond test first second)
    -- to a name but `arguments`, a member or an index (11.13.1)
    assign : (target value : EsExpr) → is_target_form (out-EsKind target.kind) ≡ true → IsForm target.kind → IsForm value.kind → IsForm (kind.Assign target value)

  pub data AreExprs : List EsExpr → Type 0 where
    none : AreExprs []
    more : (e : EsExpr) (es : List EsExpr) → IsForm e.kind → AreExprs es → AreExprs (e ∷ es)

  -- a statement (12)
  pub data IsStatement : Bool → Bool → Bool → EsStmt → Type 0 where
    var : (in_function in_loop : Bool) (name : List ℕ) → IsBinding name → IsStatement in_function in_loop false (stmt.Var name None)
    var_set : (in_function in_loop : Bool) (name : List ℕ) (value : EsExpr) → IsBinding name → IsForm value.kind → IsStatement in_function in_loop false (stmt.Var name (Some value))
    expr : (in_function in_loop : Bool) (value : EsExpr) → IsForm value.kind → IsStatement in_function in_loop false (stmt.Expr value)
    block : (in_function in_loop : Bool) (body : List EsStmt) → AreStatements in_function in_loop body → IsStatement in_function in_loop false (stmt.Block body)
    if_ : (in_function in_loop short : Bool) (test : EsExpr) (first : EsStmt) → IsForm test.kind → IsStatement in_function in_loop short first → IsStatement in_function in_loop true (stmt.If test first None)
    -- its first part doesn't end with an `if` that would take the `else`
    if_else : (in_function in_loop short : Bool) (test : EsExpr) (first second : EsStmt) → IsForm test.kind → IsStatement in_function in_loop false first → IsStatement in_function in_loop short second → IsStatement in_function in_loop short (stmt.If test first (Some second))
    while : (in_function in_loop short : Bool) (test : EsExpr) (body : EsStmt) → IsForm test.kind → IsStatement in_function true short body → IsStatement in_function in_loop short (stmt.While test body)
    -- in a function (12.9)
    return : (in_loop : Bool) → IsStatement true in_loop false (stmt.Return None)
    return_value : (in_loop : Bool) (value : EsExpr) → IsForm value.kind → IsStatement true in_loop false (stmt.Return (Some value))
    -- in a loop of the same function (12.7, 12.8)
    break : (in_function : Bool) → IsStatement in_function true false stmt.Break
    continue : (in_function : Bool) → IsStatement in_function true false stmt.Continue
    throw : (in_function in_loop : Bool) (value : EsExpr) → IsForm value.kind → IsStatement in_function in_loop false (stmt.Throw value)
    -- with one of its two parts, or both (12.14)
    try_catch : (in_function in_loop : Bool) (body : List EsStmt) (catch : Catch) → AreStatements in_function in_loop body → IsBinding catch.name → AreStatements in_function in_loop catch.body → IsStatement in_function in_loop false (stmt.Try body (Some catch) None)
    try_finally : (in_function in_loop : Bool) (body last : List EsStmt) → AreStatements in_function in_loop body → AreStatements in_function in_loop last → IsStatement in_function in_loop false (stmt.Try body None (Some last))
    try_both : (in_function in_loop : Bool) (body : List EsStmt) (catch : Catch) (last : List EsStmt) → AreStatements in_function in_loop body → IsBinding catch.name → AreStatements in_function in_loop catch.body → AreStatements in_function in_loop last → IsStatement in_function in_loop false (stmt.Try body (Some catch) (Some last))
    empty : (in_function in_loop : Bool) → IsStatement in_function in_loop false stmt.Empty

  pub data AreStatements : Bool → Bool → List EsStmt → Type 0 where
    no_statement : (in_function in_loop : Bool) → AreStatements in_function in_loop []
    statement : (in_function in_loop short : Bool) (s : EsStmt) (ss : List EsStmt) → IsStatement in_function in_loop short s → AreStatements in_function in_loop ss → AreStatements in_function in_loop (s ∷ ss)

-- The script has a spelling: its statements are in no function and in no loop.
abbrev pub Spellable : Script → Type 0
Spellable script = AreStatements false false script.body

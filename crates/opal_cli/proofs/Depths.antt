-- A script that writes texts isn't deep.
use Rattle.std.proofs.Common.{◌≡◌, ℕ, ◌≤◌, List, [], ◌∷◌, codes, arith}
use Rattle.es5_tree.specs.Depth.{script_depth, stmt_depth}
use Rattle.es5_tree.specs.Tree.{start}
use Rattle.es5_tree.specs.declared.tree.EsKind.TheVariants as kind
use Rattle.es5_tree.proofs.Grammar.Depths.{call_depth, expr_statement_depth, member_depth, name_depth, str_depth}
use Rattle.es5_laws.specs.Writes.{expr, write, writes}

statement_depth : (text : List ℕ) → stmt_depth (write text) ≡ 4
statement_depth text =
    let host = expr (kind.Name (codes "$host")) in
    let callee = expr (kind.Member host (codes "write") start) in
    let literal = expr (kind.Str text) in
    omega (arith, expr_statement_depth (expr (kind.Call callee (literal ∷ []))), call_depth callee (literal ∷ []) start, member_depth host (codes "write") start start, name_depth (codes "$host") start, str_depth text start)

pub writes_depth : (texts : List (List ℕ)) → script_depth (writes texts) ≤ 4
writes_depth [] = omega arith
writes_depth (text ∷ texts) = omega (arith, statement_depth text, writes_depth texts)

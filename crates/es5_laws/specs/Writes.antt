-- Scripts that write texts.
use Rattle.std.specs.Prelude.{ℕ, List, [], ◌∷◌, map, None, codes}
use Rattle.es5_tree.specs.declared.tree.EsExpr.{EsExpr}
use Rattle.es5_tree.specs.declared.tree.EsKind.{EsKind}
use Rattle.es5_tree.specs.declared.tree.EsKind.TheVariants as kind
use Rattle.es5_tree.specs.declared.tree.EsStmt.{EsStmt}
use Rattle.es5_tree.specs.declared.tree.EsStmt.TheVariants as stmt
use Rattle.es5_tree.specs.declared.tree.Script.{Script}
use Rattle.es5_tree.specs.Tree.{start}

-- an expression without a site, which stands nowhere
abbrev pub expr : EsKind → EsExpr
expr form = record { kind = form; origin = None; pos = start }

-- `$host.write(text);`
abbrev pub write : List ℕ → EsStmt
write text = stmt.Expr (expr (kind.Call (expr (kind.Member (expr (kind.Name (codes "$host"))) (codes "write") start)) (expr (kind.Str text) ∷ [])))

-- a script that writes texts, each by a statement
abbrev pub writes : List (List ℕ) → Script
writes texts = record { body = map write texts }

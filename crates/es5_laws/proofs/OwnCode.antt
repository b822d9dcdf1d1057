-- Sites and places play no part in what code declares.
use Rattle.std.proofs.Common.{◌≡◌, List, map, refl, ap}
use Rattle.es5_tree.specs.declared.tree.EsKind.{EsKind-F}
use Rattle.es5_tree.specs.declared.tree.EsStmt.{EsStmt}
use Rattle.es5_tree.specs.Grammar.Spelling.{bare_stmt}
use Rattle.es5_tree.proofs.Bare.{placeless, bare_same_body}
use Rattle.es5_evaluation.specs.Declared.{OwnCode, each, of_catch, of_kind, of_stmt, own_code, stmt_code}

without_mark : (l : EsKind-F OwnCode OwnCode OwnCode OwnCode) → of_kind (placeless l) ≡ of_kind l
without_mark (EsKind-F.Member base name mark) = refl
without_mark (EsKind-F.Index base key mark) = refl
without_mark _ = refl

pub bare_own_code : (ts : List EsStmt) → own_code (map bare_stmt ts) ≡ own_code ts
unfolding own_code stmt_code
bare_own_code ts = ap each (bare_same_body OwnCode OwnCode OwnCode OwnCode of_kind of_stmt of_catch (λ e. e.kind) without_mark (λ e. refl) ts)

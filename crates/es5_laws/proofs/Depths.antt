-- Sites and places play no part in how deep a script is.
use Rattle.std.proofs.Common.{◌≡◌, ℕ, suc, List, map, refl, sym, ap, ◌∙◌}
use Rattle.es5_tree.specs.declared.tree.EsKind.{EsKind-F}
use Rattle.es5_tree.specs.declared.tree.EsStmt.{EsStmt}
use Rattle.es5_tree.specs.Depth.{highest, script_depth, stmt_depth}
use Rattle.es5_tree.specs.Depth as depth
use Rattle.es5_tree.specs.Grammar.Spelling.{bare_stmt}
use Rattle.es5_tree.proofs.Bare.{placeless, bare_same_body}
use Rattle.es5_laws.specs.Laws.{SameDepth}

without_mark : (l : EsKind-F ℕ ℕ ℕ ℕ) → depth.of_kind (placeless l) ≡ depth.of_kind l
without_mark (EsKind-F.Member base name mark) = refl
without_mark (EsKind-F.Index base key mark) = refl
without_mark _ = refl

bare_depths : (ts : List EsStmt) → map stmt_depth (map bare_stmt ts) ≡ map stmt_depth ts
unfolding stmt_depth
bare_depths ts = bare_same_body ℕ ℕ ℕ ℕ depth.of_kind depth.of_stmt depth.of_catch (λ e. suc e.kind) without_mark (λ e. refl) ts

pub same_depth_is : SameDepth
same_depth_is script other e = sym (ap highest (bare_depths script.body)) ∙ (ap script_depth e ∙ ap highest (bare_depths other.body))

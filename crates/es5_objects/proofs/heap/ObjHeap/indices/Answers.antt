use Rattle.std.proofs.Common.{◌≡◌, ◌∙◌, ap, rules, Some, Result, Ok, Err, IfOk}
use Rattle.es5_tree.specs.Objects.Cells.{rising}
use Rattle.es5_tree.specs.Objects.Links.{chain}
use Rattle.es5_objects.specs.Along.{indices_along}
use Rattle.es5_objects.proofs.Absent.{nothing_else}
use Rattle.es5_objects.proofs.heap.ObjHeap.indices.Goals as goal

if_ok : {T E : Type 0} (r : Result T E) (P Q : T → Type 0) → ((x : T) → P x → Q x) → IfOk r P → IfOk r Q
if_ok (Ok x) P Q f h = f x h
if_ok (Err e) P Q f h = tt

pub returns-clause-others : goal.returns-clause-others
returns-clause-others c =
    let all : c.in_ok-indices_along.field-0.items ≡ indices_along c.args.self.now.cells (chain c.args.self.now.cells (Some c.args.o)) = search rules in
    if_ok c.sorted.result _ _ (λ found e i lt h. nothing_else c.args.self.now.cells c.args.o i found.items (e ∙ ap rising all) lt h) c.sorted.ensures

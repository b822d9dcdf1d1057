-- The runs of functions on texts.
use Rattle.std.proofs.Common.{◌≡◌, false, [], ◌∷◌, ◌++◌, pos, slice_index, refl, codes}
use Rattle.es5_tree.specs.Tree.{start}
use Rattle.es5_tree.specs.Values.{Num, Str, Obj}
use Rattle.es5_tree.specs.Ends.{Number}
use Rattle.es5_tree.specs.Objects.Cells.{Host}
use Rattle.es5_evaluation.specs.Task.{Normal}
use Rattle.es5_evaluation.specs.Values.{numeral}
use Rattle.es5_evaluation.specs.Declared.{own_code}
use Rattle.es5_executor.specs.Runs.{Gave, Outside}
use Rattle.es5_executor.specs.Memory.{Frame}
use Rattle.es5_executor.specs.Texts.{key_code, Joins, JoinLeaves, unit_code, UnitReads}
use Rattle.es5_executor.proofs.Memory
use Rattle.es5_executor.proofs.Sym.{ByRow, Own, IsKind, act}
use Rattle.es5_executor.proofs.Calls.{by_call, seam}
use Rattle.es5_executor.proofs.Codes.{code_is}
use Rattle.es5_executor.proofs.Stepping.{stepping}

key_own : own_code key_code.body ≡ record { names = []; arguments = false }
unfolding stepping
key_own = code_is 20 key_code.body _ refl

pub joins : Joins
unfolding stepping
joins p f o k this s fn below fit =
    by_call p f o key_code this (Num k ∷ []) [] s 20 [] [] (1 ∷ []) [] 4 (Gave (Normal (Str (codes "i:" ++ numeral k)))) _ fn refl key_own below tt tt
    (assumption (fit, seam s.records (act o ((codes "k", Num k) ∷ [])) (act o ((codes "k", Num k) ∷ []))))

pub join_leaves : JoinLeaves
unfolding stepping
join_leaves p f o k this s fn below fit =
    by_call p f o key_code this (Str k ∷ []) [] s 20 [] [] (0 ∷ []) [] 4 (Outside Number start) _ fn refl key_own below tt tt
    (assumption (fit, seam s.records (act o ((codes "k", Str k) ∷ [])) (act o ((codes "k", Str k) ∷ []))))

unit_own : own_code unit_code.body ≡ record { names = []; arguments = false }
unfolding stepping
unit_own = code_is 20 unit_code.body _ refl

pub unit_reads : UnitReads
unfolding stepping
unit_reads p f o i t this s fn below out text is_text char is_char inside small =
    let ps : Frame = (codes "t", Str t) ∷ (codes "i", Num (pos i)) ∷ [] in
    by_call p f o unit_code this (Str t ∷ Num (pos i) ∷ []) [] s 20 (record { name = codes "String"; at = 0; val = Obj 9; free = false } ∷ [])
    (Own 9 (codes "fromCharCode") (Obj 26) ∷ IsKind 26 (Host 13) ∷ Own 3 (codes "charCodeAt") (Obj 23) ∷ IsKind 23 (Host 10) ∷ []) (0 ∷ 2 ∷ []) (ByRow 3 ∷ ByRow 1 ∷ []) 8
    (Gave (Normal (Str (slice_index t i ∷ [])))) _ fn refl unit_own below (out, tt)
    (text, (Memory.host_inside s.heap 26 13 is_text, (char, (Memory.host_inside s.heap 23 10 is_char, tt))))
    (assumption (inside, small, seam s.records (act o ps) (act o ps)))

-- The runs of functions with `try`.
use Rattle.std.proofs.Common.{◌≡◌, false, [], ◌∷◌, ◌++◌, length, refl, arith, codes, length-append}
use Rattle.es5_tree.specs.Values.{Obj}
use Rattle.es5_evaluation.specs.State.{State}
use Rattle.es5_evaluation.specs.Task.{Normal, Return, Throw}
use Rattle.es5_evaluation.specs.Declared.{own_code}
use Rattle.es5_evaluation.specs.Evaluate.{caught_by}
use Rattle.es5_executor.specs.Runs.{Gave, Takes}
use Rattle.es5_executor.specs.Memory.{Frame}
use Rattle.es5_executor.specs.Trying.{last_code, Lasts, part, catch_code, Catches}
use Rattle.es5_executor.proofs.Sym.{ByRun, act}
use Rattle.es5_executor.proofs.Calls.{by_call, by_caught, seam, seam_behind, frame_stays, frame_inside, from_here, rest_of}
use Rattle.es5_executor.proofs.Codes.{code_is}
use Rattle.es5_executor.proofs.Stepping.{stepping}

last_own : own_code last_code.body ≡ record { names = []; arguments = false }
unfolding stepping
last_own = code_is 20 last_code.body _ refl

pub lasts : Lasts
unfolding stepping
lasts p f o t v s fn below = by_call p f o last_code (Obj t) (v ∷ []) [] s 20 [] [] (99 ∷ []) [] 9 (Gave (Throw v)) _ fn refl last_own below tt tt (assumption (seam s.records (act o ((codes "x", v) ∷ [])) (act o ((codes "x", v) ∷ []))))

catch_own : own_code catch_code.body ≡ record { names = []; arguments = false }
unfolding stepping
catch_own = code_is 20 catch_code.body _ refl

pub catches : Catches
unfolding stepping
catches p f o v that s fn below =
    let ps : Frame = (codes "x", v) ∷ [] in
    let qs : Frame = (codes "e", v) ∷ [] in
    let r = length s.records in
    let s1 : State = record s { records = s.records ++ act o ps ∷ [] } in
    let R = (s.records ++ act o ps ∷ []) ++ act r qs ∷ [] in
    let long = length-append s.records (act o ps ∷ []) in
    let caught : Takes (caught_by part (record { this = that; innermost = r }) v) s1 2 (Gave (Return v)) (record s { records = R }) = by_caught part r that v s1 20 [] [] [] [] 2 (Gave (Return v)) (record s { records = R }) (omega (arith, long)) tt tt (assumption (seam (s.records ++ act o ps ∷ []) (act r qs) (act r qs))) in
    by_call p f o catch_code that (v ∷ []) [] s 20 [] [] []
    (ByRun (record { units = 2; end = Gave (Return v); heap = s.heap; records = R; frame = ps; facts = []; values = []; rest = rest_of s; seen = [] }) ∷ []) 5 (Gave (Normal v)) _ fn refl catch_own below tt tt
    (assumption (from_here (caught_by part (record { this = that; innermost = r }) v) s o ps ps s.heap (rest_of s) 2 (Gave (Return v)) (record s { records = R }) caught, frame_stays s.records (act o ps) (act r qs), frame_inside s.records (act o ps) (act r qs), seam_behind s.records (act o ps) (act r qs) (act o ps)))

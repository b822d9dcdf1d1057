-- The runs of primitives on numbers.
use Rattle.std.proofs.Common.{◌≡◌, true, false, [], ◌∷◌, ◌++◌, length, refl, codes, arith, length-append, pos, ◌+ℤ◌, ◌-ℤ◌, int_div, int_rem}
use Rattle.es5_tree.specs.Values.{Undefined, Num, Str, Obj}
use Rattle.es5_evaluation.specs.Declared.{own_code}
use Rattle.es5_tree.specs.Tree.{start}
use Rattle.es5_tree.specs.Ends.{Number}
use Rattle.es5_evaluation.specs.Task.{Normal, Throw}
use Rattle.es5_executor.specs.Runs.{Gave, Outside}
use Rattle.es5_executor.specs.Memory.{write}
use Rattle.es5_executor.specs.Sums.{add_code, Adds, AddLeaves, type_error_code, error_made, MakesError, AddThrows, div_code, DivPlain, DivMoved, DivExact}
use Rattle.es5_executor.proofs.Calls.{by_call, seam, seam_behind, frame_stays, frame_inside, from_here, rest_of}
use Rattle.es5_executor.proofs.Sym.{ByRun, act}
use Rattle.es5_evaluation.specs.Evaluate.{invoke}
use Rattle.es5_executor.proofs.Codes.{code_is}
use Rattle.es5_executor.proofs.Stepping.{stepping}

add_own : own_code add_code.body ≡ record { names = []; arguments = false }
unfolding stepping
add_own = code_is 20 add_code.body _ refl

error_own : own_code type_error_code.body ≡ record { names = codes "e" ∷ []; arguments = false }
unfolding stepping
error_own = code_is 20 type_error_code.body _ refl

div_own : own_code div_code.body ≡ record { names = codes "m" ∷ []; arguments = false }
unfolding stepping
div_own = code_is 20 div_code.body _ refl

pub adds : Adds
unfolding stepping
adds p f o i j this s fn below fit = by_call p f o add_code this (Num i ∷ Num j ∷ []) [] s 20 [] [] (0 ∷ 1 ∷ []) [] 9 (Gave (Normal (Num (i +ℤ j)))) _ fn refl add_own below tt tt (assumption (seam s.records (act o ((codes "i", Num i) ∷ (codes "j", Num j) ∷ [])) (act o ((codes "i", Num i) ∷ (codes "j", Num j) ∷ []))))

pub add_leaves : AddLeaves
unfolding stepping
add_leaves p f o i j this s fn below fit = by_call p f o add_code this (Num i ∷ Num j ∷ []) [] s 20 [] [] (0 ∷ 0 ∷ []) [] 9 (Outside Number start) _ fn refl add_own below tt tt (assumption (seam s.records (act o ((codes "i", Num i) ∷ (codes "j", Num j) ∷ [])) (act o ((codes "i", Num i) ∷ (codes "j", Num j) ∷ []))))

pub makes_error : MakesError
unfolding stepping
makes_error p f o v this s fn below = by_call p f o type_error_code this (v ∷ []) (codes "e" ∷ []) s 20 [] [] (99 ∷ []) [] 12 (Gave (Normal (Obj (length s.heap)))) _ fn refl error_own below tt tt (assumption (seam s.records (act o ((codes "v", v) ∷ (codes "e", Undefined) ∷ [])) (act o ((codes "v", v) ∷ (codes "e", Obj (length s.heap)) ∷ []))))

pub div_plain : DivPlain
unfolding stepping
div_plain p f o a b this s fn below q1 q2 q3 q4 q5 q6 q7 = by_call p f o div_code this (Num a ∷ Num b ∷ []) (codes "m" ∷ []) s 20 [] [] (1 ∷ 1 ∷ 0 ∷ 1 ∷ 1 ∷ []) [] 22 (Gave (Normal (Num (int_div (a -ℤ int_rem a b) b)))) _ fn refl div_own below tt tt (assumption (seam s.records (act o ((codes "a", Num a) ∷ (codes "b", Num b) ∷ (codes "m", Undefined) ∷ [])) (act o ((codes "a", Num a) ∷ (codes "b", Num b) ∷ (codes "m", Num (int_rem a b)) ∷ []))))

pub div_moved : DivMoved
unfolding stepping
div_moved p f o a b this s fn below q1 q2 q3 q4 q5 q6 q7 q8 = by_call p f o div_code this (Num a ∷ Num b ∷ []) (codes "m" ∷ []) s 20 [] [] (1 ∷ 1 ∷ 1 ∷ 1 ∷ 1 ∷ 1 ∷ []) [] 25 (Gave (Normal (Num (int_div (a -ℤ int_rem a b) b -ℤ pos 1)))) _ fn refl div_own below tt tt (assumption (seam s.records (act o ((codes "a", Num a) ∷ (codes "b", Num b) ∷ (codes "m", Undefined) ∷ [])) (act o ((codes "a", Num a) ∷ (codes "b", Num b) ∷ (codes "m", Num (int_rem a b)) ∷ []))))

pub div_exact : DivExact
unfolding stepping
div_exact p f o a b this s fn below q1 q2 q3 q4 q5 q6 = by_call p f o div_code this (Num a ∷ Num b ∷ []) (codes "m" ∷ []) s 20 [] [] (1 ∷ 0 ∷ 0 ∷ 1 ∷ 1 ∷ []) [] 15 (Gave (Normal (Num (int_div (a -ℤ int_rem a b) b)))) _ fn refl div_own below tt tt (assumption (seam s.records (act o ((codes "a", Num a) ∷ (codes "b", Num b) ∷ (codes "m", Undefined) ∷ [])) (act o ((codes "a", Num a) ∷ (codes "b", Num b) ∷ (codes "m", Num (int_rem a b)) ∷ []))))

pub add_throws : AddThrows
unfolding stepping
add_throws p f o h c b i t this s fn below out hn hb =
    let ps = (codes "i", Num i) ∷ (codes "j", Str t) ∷ [] in
    let qs = (codes "v", Str t) ∷ (codes "e", Obj (length s.heap)) ∷ [] in
    let R = (s.records ++ act o ps ∷ []) ++ act c qs ∷ [] in
    let H = write (s.heap ++ error_made ∷ []) (length s.heap) (codes "$$value") (Str t) in
    let long = length-append s.records (act o ps ∷ []) in
    let callee = makes_error start h c (Str t) Undefined (record s { records = s.records ++ act o ps ∷ [] }) hn (omega (arith, long, hb)) in
    by_call p f o add_code this (Num i ∷ Str t ∷ []) [] s 20 (record { name = codes "$$type_error"; at = b; val = Obj h; free = true } ∷ []) [] (1 ∷ [])
    (ByRun (record { units = 12; end = Gave (Normal (Obj (length s.heap))); heap = H; records = R; frame = ps; facts = []; values = []; rest = rest_of s; seen = [] }) ∷ []) 22 (Gave (Throw (Obj (length s.heap)))) _ fn refl add_own below (out, tt) tt
    (assumption (from_here (invoke start (Obj h) Undefined (Str t ∷ [])) s o ps ps s.heap (rest_of s) 12 (Gave (Normal (Obj (length s.heap)))) _ callee, frame_stays s.records (act o ps) (act c qs), frame_inside s.records (act o ps) (act c qs), seam_behind s.records (act o ps) (act c qs) (act o ps)))

-- The runs of functions that ask for an own property, delete one, and find none.
use Rattle.std.proofs.Common.{◌≡◌, ℕ, false, true, List, [], ◌∷◌, ◌++◌, None, refl, codes}
use Rattle.es5_tree.specs.Values.{Val, Undefined, Null, Str, Obj}
use Rattle.es5_tree.specs.Objects.Cells.{Host}
use Rattle.es5_evaluation.specs.Task.{Normal}
use Rattle.es5_evaluation.specs.Declared.{own_code}
use Rattle.es5_executor.specs.Runs.{Gave}
use Rattle.es5_executor.specs.Memory.{Outer}
use Rattle.es5_executor.specs.Owning.{lookup_code, lookup_frame, Owns, OwnsNot, passing_code, Deletes, variable_code, variable_frame, VariableReads, VariableMisses}
use Rattle.es5_executor.proofs.Memory
use Rattle.es5_executor.proofs.Sym.{ByRow, Fact, Own, Seen, Lacks, Absent, Link, IsKind, act}
use Rattle.es5_executor.proofs.Calls.{by_call, seam}
use Rattle.es5_executor.proofs.Codes.{code_is}
use Rattle.es5_executor.proofs.Stepping.{stepping}

lookup_own : own_code lookup_code.body ≡ record { names = []; arguments = false }
unfolding stepping
lookup_own = code_is 20 lookup_code.body _ refl

-- `hasOwnProperty` and its `call`
abbrev test_facts : List Fact
test_facts = Own 6 (codes "prototype") (Obj 0) ∷ Own 0 (codes "hasOwnProperty") (Obj 17) ∷ Seen 17 (codes "call") (Obj 18) ∷ IsKind 18 (Host 5) ∷ IsKind 17 (Host 4) ∷ []

abbrev object_outer : Outer
object_outer = record { name = codes "Object"; at = 0; val = Obj 6; free = false }

pub owns : Owns
unfolding stepping
owns p f o a n v this s fn below t e =
    by_call p f o lookup_code this (Obj a ∷ Str n ∷ []) [] s 20 (object_outer ∷ []) (test_facts ++ Own a n v ∷ []) (0 ∷ 1 ∷ 2 ∷ 4 ∷ 5 ∷ 1 ∷ 5 ∷ []) (ByRow 3 ∷ []) 13 (Gave (Normal v)) _ fn refl lookup_own below (t.object, tt)
    (t.prototype, (t.own, (t.passes, (Memory.host_inside s.heap 18 5 t.is_call, (Memory.host_inside s.heap 17 4 t.is_own, (e, tt))))))
    (assumption (seam s.records (act o (lookup_frame a n)) (act o (lookup_frame a n))))

pub owns_not : OwnsNot
unfolding stepping
owns_not p f o a n this s fn below t e inside =
    by_call p f o lookup_code this (Obj a ∷ Str n ∷ []) [] s 20 (object_outer ∷ []) (test_facts ++ Lacks a n ∷ []) (0 ∷ 1 ∷ 2 ∷ 4 ∷ 5 ∷ 0 ∷ []) (ByRow 3 ∷ []) 10 (Gave (Normal Null)) _ fn refl lookup_own below (t.object, tt)
    (t.prototype, (t.own, (t.passes, (Memory.host_inside s.heap 18 5 t.is_call, (Memory.host_inside s.heap 17 4 t.is_own, ((e, inside), tt))))))
    (assumption (seam s.records (act o (lookup_frame a n)) (act o (lookup_frame a n))))

passing_own : own_code passing_code.body ≡ record { names = []; arguments = false }
unfolding stepping
passing_own = code_is 20 passing_code.body _ refl

pub deletes : Deletes
unfolding stepping
deletes p f o l m this s fn below e k =
    by_call p f o passing_code this (Obj l ∷ []) [] s 20 [] (Own l (codes "$$mod") m ∷ Link l None ∷ []) (0 ∷ 1 ∷ 0 ∷ 1 ∷ []) [] 15 (Gave (Normal Undefined)) _ fn refl passing_own below tt
    (e, ((k, Memory.has_inside s.heap l (codes "$$mod") m e), tt))
    (assumption (seam s.records (act o ((codes "l", Obj l) ∷ [])) (act o ((codes "l", Obj l) ∷ []))))

variable_own : own_code variable_code.body ≡ record { names = codes "v" ∷ []; arguments = false }
unfolding stepping
variable_own = code_is 20 variable_code.body _ refl

abbrev outers : ℕ → Val → List Outer
outers b nil = record { name = codes "undefined"; at = 0; val = Undefined; free = false } ∷ record { name = codes "$$nil"; at = b; val = nil; free = true } ∷ []

pub variable_reads : VariableReads
unfolding stepping
variable_reads p f o b x n v nil this s fn below t e d =
    by_call p f o variable_code this (Obj x ∷ Str n ∷ []) (codes "v" ∷ []) s 20 (outers b nil) (Seen x n v ∷ []) (0 ∷ 0 ∷ []) [] 10 (Gave (Normal v)) _ fn refl variable_own below (t.undefined, (t.nil, tt)) (e, tt)
    (assumption (seam s.records (act o (variable_frame x n Undefined)) (act o (variable_frame x n v))))

pub variable_misses : VariableMisses
unfolding stepping
variable_misses p f o b x n nil this s fn below t e =
    by_call p f o variable_code this (Obj x ∷ Str n ∷ []) (codes "v" ∷ []) s 20 (outers b nil) (Absent x n ∷ []) (0 ∷ 1 ∷ []) [] 11 (Gave (Normal nil)) _ fn refl variable_own below (t.undefined, (t.nil, tt)) (e, tt)
    (assumption (seam s.records (act o (variable_frame x n Undefined)) (act o (variable_frame x n Undefined))))

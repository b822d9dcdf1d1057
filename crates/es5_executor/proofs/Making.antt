-- The runs of functions that make objects, and of stubs.
use Rattle.std.proofs.Common.{◌≡◌, ◌+◌, ◌<◌, true, false, List, [], ◌∷◌, ◌++◌, length, Some, refl, arith, codes, length-append, pos, ◌+ℤ◌}
use Rattle.es5_tree.specs.Tree.{start}
use Rattle.es5_tree.specs.Values.{Text, Undefined, Num, Str, Obj}
use Rattle.es5_tree.specs.Objects.Cells.{Object, new_cell}
use Rattle.es5_tree.specs.Intrinsics.Calls as call
use Rattle.es5_evaluation.specs.State.{State}
use Rattle.es5_evaluation.specs.Task.{Normal}
use Rattle.es5_evaluation.specs.Declared.{own_code}
use Rattle.es5_evaluation.specs.Evaluate.{invoke, arguments_object}
use Rattle.es5_executor.specs.Runs.{Gave}
use Rattle.es5_executor.specs.Memory.{Frame, Outer}
use Rattle.es5_executor.specs.Making.{make_code, Makes, stub_code, Stubs, stub_frame}
use Rattle.es5_executor.proofs.Memory
use Rattle.es5_executor.proofs.Sym.{ByRun, Own, Seen, act}
use Rattle.es5_executor.proofs.Calls.{by_call, by_list, from_here, rest_of, outers_old, host_makes, assign_under}
use Rattle.es5_executor.proofs.Bridge.{record_same}
use Rattle.es5_executor.proofs.Codes.{code_is}
use Rattle.es5_executor.proofs.Stepping.{stepping}

make_own : own_code make_code.body ≡ record { names = codes "x" ∷ []; arguments = false }
unfolding stepping
make_own = code_is 20 make_code.body _ refl

pub makes : Makes
unfolding stepping
makes p f c l k this s fn below counter object create host proto fit =
    let ps : Frame = (codes "c", Obj c) ∷ (codes "x", Undefined) ∷ [] in
    let qs : Frame = (codes "c", Obj c) ∷ (codes "x", Obj (length s.heap)) ∷ [] in
    let R = s.records ++ act 1 ps ∷ [] in
    let us : List Outer = record { name = codes "$$next_id"; at = 1; val = Num k; free = true } ∷ record { name = codes "Object"; at = 0; val = Obj 6; free = false } ∷ [] in
    let long = length-append s.records (act 1 ps ∷ []) in
    let inside : length s.records < length R = omega (arith, long) in
    let made = from_here (invoke start (Obj 13) (Obj 6) (Obj l ∷ [])) s 1 ps ps s.heap (rest_of s) 0 (Gave (Normal (Obj (length s.heap)))) (record s { heap = s.heap ++ new_cell Object (Some l) ∷ []; records = R }) (host_makes start 13 0 call.Create (Obj 6) (Obj l ∷ []) (new_cell Object (Some l)) (record s { records = R }) host refl refl) in
    by_call p f 1 make_code this (Obj c ∷ []) (codes "x" ∷ []) s 20 us (Own 6 (codes "create") (Obj 13) ∷ Own c (codes "$$proto") (Obj l) ∷ []) (0 ∷ 1 ∷ 99 ∷ 1 ∷ [])
    (ByRun (record { units = 0; end = Gave (Normal (Obj (length s.heap))); heap = s.heap ++ new_cell Object (Some l) ∷ []; records = R; frame = ps; facts = []; values = Num k ∷ Obj 6 ∷ []; rest = rest_of s; seen = [] }) ∷ []) 21 (Gave (Normal (Obj (length s.heap)))) _ fn refl make_own below (counter, (object, tt)) (create, (proto, tt))
    (assumption (made, Memory.record_new s.records (act 1 ps), inside, outers_old s.records (act 1 ps) 1 us (counter, (object, tt)), assign_under s.records (act 1 ps) (act 1 qs) 1 (codes "$$next_id") (Num (k +ℤ pos 1)) below))

stub_own : (m : Text) → own_code (stub_code m).body ≡ record { names = []; arguments = true }
unfolding stepping
stub_own m = code_is 20 (stub_code m).body _ refl

pub stubs : Stubs
unfolding stepping
stubs p f o t g n m v a ws s s2 fn below missing callee top inside =
    let ps = stub_frame v (length s.heap) in
    let h = s.heap ++ arguments_object (v ∷ ws) ∷ [] in
    let s1 : State = record s { heap = h } in
    by_list p f o (stub_code m) (Obj t) (v ∷ ws) [] s (Seen t (codes "$method_missing") (Obj g) ∷ []) 20 [] (0 ∷ [])
    (ByRun (record { units = n; end = Gave (Normal a); heap = s2.heap; records = s2.records; frame = ps; facts = []; values = []; rest = rest_of s2; seen = [] }) ∷ []) (8 + n) (Gave (Normal a)) s2 fn refl (stub_own m) below tt (Memory.get_old s.heap _ t _ _ missing, tt)
    (assumption (from_here (invoke start (Obj g) (Obj t) (v ∷ Str m ∷ Obj (length s.heap) ∷ [])) s1 o ps ps h (rest_of s) n (Gave (Normal a)) s2 callee, top, inside, record_same s2.records (length s.records) o ps top))

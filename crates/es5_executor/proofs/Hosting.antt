-- The runs of functions that call the host, pass a call on, and work on lists.
use Rattle.std.proofs.Common.{◌≡◌, ◌+◌, ◌<◌, false, List, [], ◌∷◌, ◌++◌, length, map, Some, pos, refl, ap, arith, codes, length-append}
use Rattle.es5_tree.specs.Tree.{start}
use Rattle.es5_tree.specs.Values.{Null, Num, Str, Obj}
use Rattle.es5_tree.specs.Objects.Names.{decimal}
use Rattle.es5_tree.specs.Objects.Cells.{Host, keys}
use Rattle.es5_tree.specs.Objects.Links.{cell_at}
use Rattle.es5_tree.specs.Intrinsics.Rows.{array_of}
use Rattle.es5_evaluation.specs.Task.{Normal, printed}
use Rattle.es5_evaluation.specs.Declared.{own_code}
use Rattle.es5_evaluation.specs.Evaluate.{invoke}
use Rattle.es5_executor.specs.Runs.{Gave}
use Rattle.es5_executor.specs.Memory.{Frame, Outer, Records, write}
use Rattle.es5_executor.specs.Hosting.{write_code, Writes, in_call, two_frame, apply_code, apply_frame, Applies, push_code, Pushes, keys_code, Lists}
use Rattle.es5_executor.proofs.Memory
use Rattle.es5_executor.proofs.Sym.{ByRow, ByRun, Own, Seen, IsKind, act}
use Rattle.es5_executor.proofs.Calls.{by_call, from_here, outers_old, rest_of, seam}
use Rattle.es5_executor.proofs.Intrinsics.{applies, length_pushed, lists_names, pushes}
use Rattle.es5_executor.proofs.Bridge.{record_same}
use Rattle.es5_executor.proofs.Codes.{code_is}
use Rattle.es5_executor.proofs.Stepping.{stepping}

write_own : own_code write_code.body ≡ record { names = []; arguments = false }
unfolding stepping
write_own = code_is 20 write_code.body _ refl

pub writes : Writes
unfolding stepping
writes p f o a b this s fn below out host is_host =
    let ps : Frame = two_frame a b in
    let same = seam s.records (act o ps) (act o ps) in
    by_call p f o write_code this (Str a ∷ Str b ∷ []) [] s 20 (record { name = codes "$host"; at = 0; val = Obj 12; free = false } ∷ []) (Own 12 (codes "write") (Obj 27) ∷ IsKind 27 (Host 14) ∷ []) (0 ∷ 0 ∷ []) (ByRow 1 ∷ ByRow 1 ∷ []) 12
    (Gave (Normal Null)) _ fn refl write_own below (out, tt) (host, (Memory.host_inside s.heap 27 14 is_host, tt))
    (assumption (same, ap (λ (Z : Records). record s { records = Z } ∷ printed (record s { records = Z }) a ∷ []) same))

apply_own : own_code apply_code.body ≡ record { names = []; arguments = false }
unfolding stepping
apply_own = code_is 20 apply_code.body _ refl

pub applied : Applies
unfolding stepping
applied p f o g c l n m code x a this s s2 vs fn below method is_apply (k, kind, at) list len fit callee top inside =
    let ps : Frame = apply_frame g x l in
    let passed = from_here (invoke start (Obj 19) (Obj g) (x ∷ Obj l ∷ [])) s o ps ps s.heap (rest_of s) m (Gave (Normal a)) s2 (applies start 19 g k c l n x (in_call s o ps) m (Gave (Normal a)) s2 is_apply kind list len fit callee) in
    by_call p f o apply_code this (Obj g ∷ x ∷ Obj l ∷ []) [] s 20 [] (Seen g (codes "apply") (Obj 19) ∷ []) (0 ∷ [])
    (ByRun (record { units = m; end = Gave (Normal a); heap = s2.heap; records = s2.records; frame = ps; facts = []; values = []; rest = rest_of s2; seen = vs }) ∷ []) (6 + m) (Gave (Normal a)) s2 fn refl apply_own below tt (method, tt)
    (assumption (passed, top, inside, record_same s2.records (length s.records) o ps top))

push_own : own_code push_code.body ≡ record { names = []; arguments = false }
unfolding stepping
push_own = code_is 20 push_code.body _ refl

pub pushed : Pushes
unfolding stepping
pushed p f o l n x this s fn below method is_push kind len fit =
    let ps : Frame = (codes "l", Obj l) ∷ (codes "x", x) ∷ [] in
    let R = s.records ++ act o ps ∷ [] in
    let long = length-append s.records (act o ps ∷ []) in
    let inside : length s.records < length R = omega (arith, long) in
    let run = from_here (invoke start (Obj 21) (Obj l) (x ∷ [])) s o ps ps s.heap (rest_of s) 0 (Gave (Normal (Num (pos (n + 1))))) (record s { heap = write s.heap l (decimal n) x; records = R }) (pushes start 21 l n x (record s { records = R }) is_push kind len fit) in
    by_call p f o push_code this (Obj l ∷ x ∷ []) [] s 20 [] (Seen l (codes "push") (Obj 21) ∷ []) (0 ∷ 0 ∷ [])
    (ByRun (record { units = 0; end = Gave (Normal (Num (pos (n + 1)))); heap = write s.heap l (decimal n) x; records = R; frame = ps; facts = Own l (codes "length") (Num (pos (n + 1))) ∷ []; values = []; rest = rest_of s; seen = [] }) ∷ []) 9
    (Gave (Normal (Num (pos (n + 1))))) _ fn refl push_own below tt (method, tt)
    (assumption (run, Memory.record_new s.records (act o ps), inside, length_pushed s l n x kind len fit, seam s.records (act o ps) (act o ps)))

keys_own : own_code keys_code.body ≡ record { names = []; arguments = false }
unfolding stepping
keys_own = code_is 20 keys_code.body _ refl

pub lists : Lists
unfolding stepping
lists p f o x this s fn below object names is_keys =
    let ps : Frame = (codes "x", Obj x) ∷ [] in
    let R = s.records ++ act o ps ∷ [] in
    let long = length-append s.records (act o ps ∷ []) in
    let inside : length s.records < length R = omega (arith, long) in
    let us : List Outer = record { name = codes "Object"; at = 0; val = Obj 6; free = false } ∷ [] in
    let H = s.heap ++ array_of (map (λ name. Some (Str name)) (keys (cell_at s.heap x))) ∷ [] in
    let run = from_here (invoke start (Obj 16) (Obj 6) (Obj x ∷ [])) s o ps ps s.heap (rest_of s) 0 (Gave (Normal (Obj (length s.heap)))) (record s { heap = H; records = R }) (lists_names start 16 x (Obj 6) (record s { records = R }) is_keys) in
    by_call p f o keys_code this (Obj x ∷ []) [] s 20 us (Own 6 (codes "keys") (Obj 16) ∷ []) (0 ∷ [])
    (ByRun (record { units = 0; end = Gave (Normal (Obj (length s.heap))); heap = H; records = R; frame = ps; facts = []; values = Obj 6 ∷ []; rest = rest_of s; seen = [] }) ∷ []) 5 (Gave (Normal (Obj (length s.heap)))) _ fn refl keys_own below (object, tt) (names, tt)
    (assumption (run, Memory.record_new s.records (act o ps), inside, outers_old s.records (act o ps) o us (object, tt), seam s.records (act o ps) (act o ps)))

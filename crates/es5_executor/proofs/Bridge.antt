-- Calls of functions of the runtime from code in a record.
use Rattle.std.proofs.Common.{◌≡◌, ℕ, ◌+◌, true, [], ◌∷◌, None, refl, sym, ap, ◌∙◌, subst, bytes_eq}
use Rattle.std.proofs.lemmas.Slice.Eq.{bytes_eq-Decides}
use Rattle.std.proofs.lemmas.List.{set-get_or}
use Rattle.es5_tree.specs.Tree.{start}
use Rattle.es5_tree.specs.Values.{Undefined, Obj}
use Rattle.es5_evaluation.specs.State.{record_at, set_record}
use Rattle.es5_evaluation.specs.Task.{Normal, Throw}
use Rattle.es5_evaluation.specs.Evaluate.{invoke}
use Rattle.es5_executor.specs.Builders.{name, call, assign}
use Rattle.es5_executor.specs.Runs.{Gave, Takes}
use Rattle.es5_executor.specs.Memory.{Frame, Records}
use Rattle.es5_executor.specs.Bridge.{CallAnswers, CallThrows}
use Rattle.es5_executor.proofs.Sym.{ByRun, Do, act, here}
use Rattle.es5_executor.proofs.Calls.{by_node, rest_of}
use Rattle.es5_executor.proofs.Stepping.{stepping}

pub record_same : (R : Records) (r o : ℕ) (ps : Frame) → record_at R r ≡ act o ps → set_record R r (act o ps) ≡ R
unfolding record_at
record_same R r o ps e = ap (λ a. set_record R r a) (sym e) ∙ set-get_or R r (record { variables = []; constants = []; outer = None })

pub call_answers : CallAnswers
unfolding stepping
call_answers r o b f n x y z nm v w u a this ps s s' top within below ey ez ex en out away callee top' within' =
    let same : bytes_eq nm nm ≡ true = (bytes_eq-Decides nm nm).1 refl in
    let c : Takes (invoke start (Obj f) Undefined (v ∷ w ∷ [])) (here r o s.heap s.records ps (rest_of s)) n (Gave (Normal a)) s' = subst (λ Z. Takes (invoke start (Obj f) Undefined (v ∷ w ∷ [])) (record s { records = Z }) n (Gave (Normal a)) s') (sym (record_same s.records r o ps top)) callee in
    by_node r o this (Do (assign (name x) (call (name nm) (name y ∷ name z ∷ [])))) s ps 20 (record { name = nm; at = b; val = Obj f; free = true } ∷ []) [] []
    (ByRun (record { units = n; end = Gave (Normal a); heap = s'.heap; records = s'.records; frame = ps; facts = []; values = []; rest = rest_of s'; seen = [] }) ∷ []) (7 + n) (Gave (Normal a)) _ top within below (out, tt) (away, tt) tt
    (rw en (rw same (rw ey (rw ez (rw ex (assumption c))))))

pub call_throws : CallThrows
unfolding stepping
call_throws r o b f n x y z nm v w a this ps s s' top within below ey ez en out away callee top' within' =
    let same : bytes_eq nm nm ≡ true = (bytes_eq-Decides nm nm).1 refl in
    let c : Takes (invoke start (Obj f) Undefined (v ∷ w ∷ [])) (here r o s.heap s.records ps (rest_of s)) n (Gave (Throw a)) s' = subst (λ Z. Takes (invoke start (Obj f) Undefined (v ∷ w ∷ [])) (record s { records = Z }) n (Gave (Throw a)) s') (sym (record_same s.records r o ps top)) callee in
    by_node r o this (Do (assign (name x) (call (name nm) (name y ∷ name z ∷ [])))) s ps 20 (record { name = nm; at = b; val = Obj f; free = true } ∷ []) [] []
    (ByRun (record { units = n; end = Gave (Throw a); heap = s'.heap; records = s'.records; frame = ps; facts = []; values = []; rest = rest_of s'; seen = [] }) ∷ []) (7 + n) (Gave (Throw a)) _ top within below (out, tt) (away, tt) tt
    (rw en (rw same (rw ey (rw ez (assumption (c, record_same s'.records r o ps top'))))))

-- A call of a function of the runtime from code in a record.
use Rattle.std.specs.Prelude.{◌≡◌, ◌≢◌, ℕ, ◌+◌, ◌<◌, true, [], ◌∷◌, length, None, Some}
use Rattle.es5_tree.specs.Tree.{start}
use Rattle.es5_tree.specs.Values.{Text, Val, Undefined, Obj, find_own}
use Rattle.es5_tree.specs.Objects.Cells.{with_property}
use Rattle.es5_evaluation.specs.State.{State, record_at, set_record}
use Rattle.es5_evaluation.specs.Task.{Normal, Throw, Execute}
use Rattle.es5_evaluation.specs.Evaluate.{invoke}
use Rattle.es5_executor.specs.Builders.{name, call, assign}
use Rattle.es5_executor.specs.Runs.{Gave, Takes, Does}
use Rattle.es5_executor.specs.Memory.{record_of, Frame, IsOuter}

-- x = f(y, z); where the call answers a
abbrev pub CallAnswers : Type 0
CallAnswers = (r o b f n : ℕ) (x y z nm : Text) (v w u a this : Val) (ps : Frame) (s s' : State) →
    record_at s.records r ≡ record_of o ps → r < length s.records → o < r →
    find_own ps y ≡ Some v → find_own ps z ≡ Some w → find_own ps x ≡ Some u → find_own ps nm ≡ None →
    IsOuter s.records o (record { name = nm; at = b; val = Obj f; free = true }) → b ≢ r →
    Takes (invoke start (Obj f) Undefined (v ∷ w ∷ [])) s n (Gave (Normal a)) s' →
    record_at s'.records r ≡ record_of o ps → r < length s'.records →
    Does (Execute (assign (name x) (call (name nm) (name y ∷ name z ∷ []))) (record { this = this; innermost = r })) s (7 + n) (Gave (Normal a))
    (record s' { records = set_record s'.records r (record_of o (with_property ps x a)) })

-- and where it throws
abbrev pub CallThrows : Type 0
CallThrows = (r o b f n : ℕ) (x y z nm : Text) (v w a this : Val) (ps : Frame) (s s' : State) →
    record_at s.records r ≡ record_of o ps → r < length s.records → o < r →
    find_own ps y ≡ Some v → find_own ps z ≡ Some w → find_own ps nm ≡ None →
    IsOuter s.records o (record { name = nm; at = b; val = Obj f; free = true }) → b ≢ r →
    Takes (invoke start (Obj f) Undefined (v ∷ w ∷ [])) s n (Gave (Throw a)) s' →
    record_at s'.records r ≡ record_of o ps → r < length s'.records →
    Does (Execute (assign (name x) (call (name nm) (name y ∷ name z ∷ []))) (record { this = this; innermost = r })) s (7 + n) (Gave (Throw a)) s'

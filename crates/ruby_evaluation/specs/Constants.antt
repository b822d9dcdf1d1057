-- Constants.
use Rattle.std.specs.Prelude.{ℕ, List, [], ◌∷◌, ◌++◌, Option, Some, None, codes}
use Rattle.ruby_meaning.specs.declared.value.Value.{Value}
use Rattle.ruby_meaning.specs.declared.value.Value.TheVariants as value
use Rattle.ruby_evaluation.specs.Tables.{Name, at, or_else}
use Rattle.ruby_evaluation.specs.State.{ModuleEntry, Ruby, thing_at, frame_at, module_at, module_in}
use Rattle.ruby_evaluation.specs.Ancestors.{object_class, ancestors}
use Rattle.ruby_evaluation.specs.Task.{Task, Look, gives}
use Rattle.ruby_evaluation.specs.Texts.{name_error, wrong_kind}

-- the innermost module body around a text; at the top Object
abbrev pub innermost_of : List ℕ → ℕ
innermost_of [] = object_class
innermost_of (m ∷ ms) = m

abbrev pub innermost : Ruby → ℕ → ℕ
innermost r k = innermost_of (frame_at r k).around.modules

abbrev pub constant_in : Ruby → Name → List ℕ → Option Value
constant_in r name [] = None
constant_in r name (m ∷ ms) = or_else (at name (module_at r m).constants) (constant_in r name ms)

abbrev pub known : Name → Option Value → Task
known name (Some v) = gives v
known name None = name_error (codes "uninitialized constant " ++ name)

-- in the module bodies around the text from the inside, then in the ancestors of the innermost, then in Object
abbrev pub constant_here : ℕ → Name → Task
constant_here k name =
    Look (λ r. known name (constant_in r name ((frame_at r k).around.modules ++ ancestors r (innermost r k) ++ object_class ∷ [])))

abbrev pub constant_of : ℕ → Name → Task
constant_of m name = Look (λ r. known name (constant_in r name (ancestors r m)))

abbrev pub constant_if : Option ModuleEntry → ℕ → Value → Name → Task
constant_if (Some m) k v name = constant_of k name
constant_if None k v name = wrong_kind v

-- in the ancestors of a base
abbrev pub constant_under : Value → Name → Task
constant_under (value.Ref k) name = Look (λ r. constant_if (module_in (thing_at r k).form) k (value.Ref k) name)
constant_under v name = wrong_kind v

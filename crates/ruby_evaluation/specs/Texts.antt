-- The range of whole numbers, new heap values, and the exceptions that rules and primitives raise.
use Rattle.std.specs.Prelude.{ℕ, Bool, true, false, ◌&&◌, if◌then◌else◌, nat_le, List, [], ◌∷◌, ◌++◌, ℤ, pos, neg_ℤ, int_le, length, None, codes}
use Rattle.ruby_meaning.specs.declared.value.Value.{Value}
use Rattle.ruby_meaning.specs.declared.value.Value.TheVariants as value
use Rattle.ruby_evaluation.specs.Tables.{Name, Text, at}
use Rattle.ruby_evaluation.specs.State.{Form, Plain, Array, Thing, Ruby, module_at, with_new}
use Rattle.ruby_evaluation.specs.Ancestors.{array_class, exception_class, class_name, or_own}
use Rattle.ruby_evaluation.specs.Task.{Raise, Outside, Task, Look, Change, gives, jumps}

-- ---- whole numbers within 2^53-1

abbrev pub largest : ℕ
largest = 9007199254740991

abbrev pub number : ℤ → Task
number z = if int_le (neg_ℤ (pos largest)) z && int_le z (pos largest) then gives (value.Int z) else Outside

abbrev pub count : ℕ → Task
count n = number (pos n)

-- a text of a length within the range
abbrev pub text : Text → Task
text t = if nat_le (length t) largest then gives (value.Text t) else Outside

abbrev pub truth : Bool → Value
truth true = value.True
truth false = value.False

-- ---- new heap values: the next number is drawn

abbrev pub thing : ℕ → Form → Thing
thing c f = record { class = c; singleton = None; variables = []; form = f }

abbrev pub draw : Thing → (ℕ → Task) → Task
draw t k = Look (λ r. if nat_le (length r.heap) largest then Change (with_new t) (k (length r.heap)) else Outside)

abbrev pub draw_value : Thing → Task
draw_value t = draw t (λ k. gives (value.Ref k))

-- ---- exceptions

-- the class that the core library made under that name, or Exception
abbrev pub error_class : Ruby → Name → ℕ
error_class r name = or_own exception_class (at name r.library)

abbrev pub error : ℕ → Text → Thing
error c message = record { class = c; singleton = None; variables = (codes "@message", value.Text message) ∷ []; form = Plain }

-- a rule or a primitive raises
abbrev pub fails : Name → Text → Task
fails name message = Look (λ r. draw (error (error_class r name) message) (λ k. jumps (Raise k)))

abbrev pub type_error : Text → Task
type_error message = fails (codes "TypeError") message

abbrev pub name_error : Text → Task
name_error message = fails (codes "NameError") message

-- a value of a kind that the rule or primitive doesn't take
abbrev pub wrong_kind : Value → Task
wrong_kind v = Look (λ r. type_error (codes "wrong kind: " ++ class_name r v))

abbrev pub closed_class : ℕ → Task
closed_class c = Look (λ r. type_error (codes "closed class: " ++ (module_at r c).name))

abbrev pub no_singleton : Value → Task
no_singleton v = Look (λ r. type_error (codes "no singleton: " ++ class_name r v))

abbrev pub frozen : Value → Task
frozen v = Look (λ r. fails (codes "FrozenError") (codes "frozen: " ++ class_name r v))

abbrev pub bad_key : Value → Task
bad_key v = Look (λ r. fails (codes "NotImplementedError") (codes "key of class " ++ class_name r v))

abbrev pub bad_index : Task
bad_index = fails (codes "IndexError") (codes "index out of range")

abbrev pub bad_name : Task
bad_name = name_error (codes "bad name")

abbrev pub jump_error : Text → Task
jump_error message = fails (codes "LocalJumpError") message

-- a method that isn't found, of a value and along the ancestors of a module
abbrev pub no_method : Name → Value → Task
no_method name v = Look (λ r. fails (codes "NoMethodError") (codes "undefined method '" ++ name ++ codes "' for " ++ class_name r v))

abbrev pub no_method_in : Name → ℕ → Task
no_method_in name m = Look (λ r. name_error (codes "undefined method '" ++ name ++ codes "' for " ++ (module_at r m).name))

abbrev pub not_defined_in : Name → ℕ → Task
not_defined_in name m = Look (λ r. name_error (codes "method '" ++ name ++ codes "' not defined in " ++ (module_at r m).name))

-- an array of these items; one that is too long isn't made
abbrev pub most_items : ℕ
most_items = 4294967295

abbrev pub new_array : List Value → Task
new_array vs = if nat_le (length vs) most_items then draw_value (thing array_class (Array vs)) else bad_index

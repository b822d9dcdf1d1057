-- Lists of nodes: arguments with splats, sequences, parts of texts and pairs.
use Rattle.std.specs.Prelude.{ℕ, Bool, true, false, if◌then◌else◌, nat_le, List, [], ◌∷◌, ◌++◌, length, Option, Some, None, codes}
use Rattle.ruby_meaning.specs.declared.tree.Base.TheOpen.{Kind-F}
use Rattle.ruby_meaning.specs.declared.tree.Base.{Base}
use Rattle.ruby_meaning.specs.declared.tree.Kind.{Kind, out-Kind}
use Rattle.ruby_meaning.specs.declared.tree.ModuleForm.{ModuleForm}
use Rattle.ruby_meaning.specs.declared.tree.Node.{Node}
use Rattle.ruby_meaning.specs.declared.tree.Params.{Params}
use Rattle.ruby_meaning.specs.declared.value.Value.{Value}
use Rattle.ruby_meaning.specs.declared.value.Value.TheVariants as value
use Rattle.ruby_evaluation.specs.Tables.{Text}
use Rattle.ruby_evaluation.specs.State.{Entry, Form, Array, Hash, Range, Ruby, thing_at}
use Rattle.ruby_evaluation.specs.Ancestors.{find}
use Rattle.ruby_evaluation.specs.Task.{Place, Task, Look, ◌>>=◌, onval, gives, evaluate}
use Rattle.ruby_evaluation.specs.Texts.{text, wrong_kind, bad_index}
use Rattle.ruby_evaluation.specs.Parameters.{items_of}
use Rattle.ruby_evaluation.specs.Calls.{invoke, call_method}

-- one layer of a node
abbrev pub Layer : Type 0
Layer = Kind-F Base Kind ModuleForm Node Params

-- ---- splats

abbrev pub splat_in : Layer → Bool
splat_in (Kind-F.Splat v) = true
splat_in _ = false

abbrev pub is_splat : Node → Bool
is_splat node = splat_in (out-Kind node.kind)

abbrev pub answered : Option (List Value) → Value → (List Value → Task) → Task
answered (Some vs) v k = k vs
answered None v k = wrong_kind v

abbrev pub to_items : Option (List Value) → Option Entry → Value → (List Value → Task) → Task
to_items (Some vs) e v k = k vs
to_items None (Some e) v k = invoke e v [] value.Nil >>= onval (λ w. Look (λ r. answered (items_of r w) w k))
to_items None None v k = k (v ∷ [])

-- the items of an Array, or of what `to_a` answers, or the value
abbrev pub splat : Value → (List Value → Task) → Task
splat v k = Look (λ r. to_items (items_of r v) (find r v (codes "to_a")) v k)

abbrev pub items_of_part : Bool → Value → (List Value → Task) → Task
items_of_part true v k = splat v k
items_of_part false v k = k (v ∷ [])

-- ---- arguments and items, from left to right

abbrev pub most_arguments : ℕ
most_arguments = 2147483648

abbrev pub within : ℕ → List Value → (List Value → Task) → Task
within most vs k = if nat_le (length vs) most then k vs else bad_index

-- the node of a splat has the value of its part; the list takes that value's items
abbrev pub values : ℕ → List Node → Place → List Value → (List Value → Task) → Task
values most [] p before k = k before
values most (node ∷ nodes) p before k =
    evaluate node p (λ v. items_of_part (is_splat node) v (λ vs. within most (before ++ vs) (λ all. values most nodes p all k)))

abbrev pub arguments : List Node → Place → (List Value → Task) → Task
arguments nodes p k = values most_arguments nodes p [] k

-- ---- sequences

-- the value of the last one, or the value before where there is none
abbrev pub in_order : Value → List Node → Place → Task
in_order before [] p = gives before
in_order before (node ∷ nodes) p = evaluate node p (λ v. in_order v nodes p)

-- ---- interpolations: `to_s` of each part in order

abbrev pub with_text : Value → (Text → Task) → Task
with_text (value.Text t) k = k t
with_text v k = wrong_kind v

abbrev pub texts : List Node → Place → Text → Task
texts [] p before = text before
texts (node ∷ nodes) p before =
    evaluate node p (λ v. call_method v (codes "to_s") [] value.Nil >>= onval (λ w. with_text w (λ t. texts nodes p (before ++ t))))

-- ---- hashes

abbrev pub bad_form : Form → Bool
bad_form (Array vs) = true
bad_form (Hash ps) = true
bad_form (Range a b e) = true
bad_form _ = false

-- an Array, a Hash or a Range is no key
abbrev pub is_bad_key : Ruby → Value → Bool
is_bad_key r (value.Ref k) = bad_form (thing_at r k).form
is_bad_key r _ = false

abbrev pub pairs : List Node → List Node → Place → List (Value × Value) → (List (Value × Value) → Task) → Task
pairs [] vs p before k = k before
pairs (x ∷ xs) [] p before k = evaluate x p (λ a. pairs xs [] p (before ++ (a, value.Nil) ∷ []) k)
pairs (x ∷ xs) (y ∷ ys) p before k =
    evaluate x p (λ a. evaluate y p (λ b. pairs xs ys p (before ++ (a, b) ∷ []) k))

-- Parameters: how many arguments are taken, and which parameter takes which.
use Rattle.std.specs.Prelude.{ℕ, zero, suc, ◌+◌, ◌-◌, min, Bool, true, false, ◌&&◌, ◌||◌, if◌then◌else◌, nat_le, List, [], ◌∷◌, ◌++◌, length, take, drop, Option, Some, None, codes}
use Rattle.ruby_meaning.specs.declared.tree.Base.{Base}
use Rattle.ruby_meaning.specs.declared.tree.Base.TheOpen.{Params-F}
use Rattle.ruby_meaning.specs.declared.tree.Kind.{Kind}
use Rattle.ruby_meaning.specs.declared.tree.ModuleForm.{ModuleForm}
use Rattle.ruby_meaning.specs.declared.tree.Node.{Node}
use Rattle.ruby_meaning.specs.declared.tree.Params.{Params}
use Rattle.ruby_meaning.specs.declared.tree.Rest.{Rest}
use Rattle.ruby_meaning.specs.declared.tree.Rest.TheVariants as rest
use Rattle.ruby_meaning.specs.declared.tree.Slot.{Slot}
use Rattle.ruby_meaning.specs.declared.tree.Slot.TheVariants as slot
use Rattle.ruby_meaning.specs.declared.value.Value.{Value}
use Rattle.ruby_meaning.specs.declared.value.Value.TheVariants as value
use Rattle.ruby_evaluation.specs.Tables.{decimal, Name, Text}
use Rattle.ruby_evaluation.specs.State.{Form, Array, Ruby, thing_at}
use Rattle.ruby_evaluation.specs.Task.{Place, Task, Look, Change, ◌>>=◌, onval, evaluate}
use Rattle.ruby_evaluation.specs.Texts.{fails, new_array}
use Rattle.ruby_evaluation.specs.Locals.{set_in}

-- the parts of parameters
abbrev pub Parts : Type 0
Parts = Params-F Base Kind ModuleForm Node Params

-- ---- arrays

abbrev pub items_in : Form → Option (List Value)
items_in (Array vs) = Some vs
items_in _ = None

-- the items of a value that is an Array
abbrev pub items_of : Ruby → Value → Option (List Value)
items_of r (value.Ref k) = items_in (thing_at r k).form
items_of r _ = None

abbrev pub items_or_one : Option (List Value) → Value → List Value
items_or_one (Some vs) v = vs
items_or_one None v = v ∷ []

-- the first value, nil where there is none, and the others
abbrev pub first_of : List Value → Value
first_of [] = value.Nil
first_of (v ∷ vs) = v

abbrev pub others : List Value → List Value
others [] = []
others (v ∷ vs) = vs

-- ---- how many

abbrev pub has_rest : Rest → Bool
has_rest rest.None = false
has_rest rest.Unnamed = true
has_rest (rest.Named name) = true

abbrev pub required : Parts → ℕ
required p = length p.plain + length p.after

abbrev pub takes : Parts → ℕ → Bool
takes p given = nat_le (required p) given && (has_rest p.rest || nat_le given (required p + length p.optional))

abbrev pub expected_at_most : ℕ → List Name → Text
expected_at_most n [] = decimal n
expected_at_most n (o ∷ os) = decimal n ++ codes ".." ++ decimal (n + length (o ∷ os))

abbrev pub expected : Parts → Text
expected p = if has_rest p.rest then decimal (required p) ++ codes "+" else expected_at_most (required p) p.optional

abbrev pub wrong_number : ℕ → Text → Task
wrong_number given wanted = fails (codes "ArgumentError") (codes "wrong number of arguments (given " ++ decimal given ++ codes ", expected " ++ wanted ++ codes ")")

-- a block with two or more parameters spreads a single Array
abbrev pub is_wide : Parts → Bool
is_wide p = nat_le 2 (required p + length p.optional + (if has_rest p.rest then 1 else 0))

abbrev pub spread_one : Ruby → Bool → List Value → List Value
spread_one r true (v ∷ []) = items_or_one (items_of r v) v
spread_one r _ vs = vs

-- ---- setting them, from left to right in frame k; t is what follows

abbrev pub set_names : ℕ → List Name → List Value → Task → Task
set_names k [] vs t = t
set_names k (n ∷ ns) vs t = Change (set_in k n (first_of vs)) (set_names k ns (others vs) t)

-- names in brackets take the items of an Array, or the value as first item
abbrev pub set_slot : ℕ → Slot → Value → Task → Task
set_slot k (slot.Name n) v t = Change (set_in k n v) t
set_slot k (slot.Names ns) v t = Look (λ r. set_names k ns (items_or_one (items_of r v) v) t)

abbrev pub set_slots : ℕ → List Slot → List Value → Task → Task
set_slots k [] vs t = t
set_slots k (x ∷ xs) vs t = set_slot k x (first_of vs) (set_slots k xs (others vs) t)

-- so many are given; a default is evaluated in the called frame
abbrev pub set_optional : Place → List Name → List Node → ℕ → List Value → Task → Task
set_optional p [] ds given vs t = t
set_optional p (n ∷ ns) [] given vs t = Change (set_in p.frame n (first_of vs)) (set_optional p ns [] given (others vs) t)
set_optional p (n ∷ ns) (d ∷ ds) zero vs t = evaluate d p (λ v. Change (set_in p.frame n v) (set_optional p ns ds zero vs t))
set_optional p (n ∷ ns) (d ∷ ds) (suc given) vs t = Change (set_in p.frame n (first_of vs)) (set_optional p ns ds given (others vs) t)

abbrev pub set_rest : ℕ → Rest → List Value → Task → Task
set_rest k rest.None vs t = t
set_rest k rest.Unnamed vs t = new_array vs >>= onval (λ v. Change (set_in k [] v) t)
set_rest k (rest.Named n) vs t = new_array vs >>= onval (λ v. Change (set_in k n v) t)

abbrev pub set_block : ℕ → Option Name → Value → Task → Task
set_block k None b t = t
set_block k (Some n) b t = Change (set_in k n b) t

-- how many arguments the optional ones and the rest take
abbrev pub given_optional : Parts → ℕ → ℕ
given_optional p given = min (length p.optional) (given - required p)

abbrev pub given_rest : Parts → ℕ → ℕ
given_rest p given = if has_rest p.rest then given - (required p + given_optional p given) else 0

abbrev pub bind : Place → Parts → List Value → Value → Task → Task
bind p parts vs b t =
    let o = given_optional parts (length vs) in
    let n = given_rest parts (length vs) in
    let behind_plain = drop (length parts.plain) vs in
    let behind_optional = drop o behind_plain in
    set_slots p.frame parts.plain vs
    (set_optional p parts.optional parts.defaults o behind_plain
    (set_rest p.frame parts.rest (take n behind_optional)
    (set_slots p.frame parts.after (drop n behind_optional)
    (set_block p.frame parts.block b t))))

-- The nodes that the productions spell, with their spans and marks.
use Rattle.std.specs.Prelude.{ℕ, ℤ, pos, zero, suc, ◌-◌, Bool, true, false, not, ◌&&◌, ◌||◌, nat_eq, if◌then◌else◌, List, [], ◌∷◌, ◌++◌, length, take, map, Option, Some, None, codes, is_some, bytes_eq}
use Rattle.std.specs.Option.{option_map}
use Rattle.grammar.specs.Rules.{Held}
use Rattle.opal_base.specs.declared.place.Pos.{Pos}
use Rattle.opal_base.specs.declared.place.Span.{Span}
use Rattle.ruby_meaning.specs.declared.token.Mark.{Mark}
use Rattle.ruby_meaning.specs.declared.token.Mark.TheVariants as mark_
use Rattle.ruby_meaning.specs.declared.token.Word.TheVariants as word
use Rattle.ruby_meaning.specs.declared.token.TokenKind.{TokenKind}
use Rattle.ruby_meaning.specs.declared.token.TokenKind.TheVariants as token
use Rattle.ruby_meaning.specs.declared.tree.Base.{Base}
use Rattle.ruby_meaning.specs.declared.tree.Base.TheVariants as base
use Rattle.ruby_meaning.specs.declared.tree.Base.TheOpen.{Base-F, Kind-F}
use Rattle.ruby_meaning.specs.declared.tree.Base.TheViews.{out-Base}
use Rattle.ruby_meaning.specs.declared.tree.Kind.{Kind, out-Kind}
use Rattle.ruby_meaning.specs.declared.tree.Kind.TheVariants as kind
use Rattle.ruby_meaning.specs.declared.tree.Literal.TheVariants as literal
use Rattle.ruby_meaning.specs.declared.tree.JumpKind.{JumpKind}
use Rattle.ruby_meaning.specs.declared.tree.JumpKind.TheVariants as jump
use Rattle.ruby_meaning.specs.declared.tree.Operator.{Operator}
use Rattle.ruby_meaning.specs.declared.tree.Operator.TheVariants as operator
use Rattle.ruby_meaning.specs.declared.tree.ModuleForm.{ModuleForm}
use Rattle.ruby_meaning.specs.declared.tree.ModuleForm.TheVariants as form
use Rattle.ruby_meaning.specs.declared.tree.Node.{Node}
use Rattle.ruby_meaning.specs.declared.tree.Params.{Params, roll-Params}
use Rattle.ruby_meaning.specs.declared.tree.Rest.{Rest}
use Rattle.ruby_meaning.specs.declared.tree.Rest.TheVariants as rest
use Rattle.ruby_meaning.specs.declared.tree.Slot.{Slot}
use Rattle.ruby_meaning.specs.declared.tree.Slot.TheVariants as slot
use Rattle.ruby_meaning.specs.declared.production.Stage.{Stage}
use Rattle.ruby_meaning.specs.declared.production.Stage.TheVariants as stage
use Rattle.ruby_meaning.specs.Grammar.Seen.{Seen}

-- ---- places

abbrev pub or_else : {A : Type 0} → Option A → Option A → Option A
or_else (Some a) o = Some a
or_else None o = o

abbrev pub make : Kind → Span → Pos → Node
make k s m = record { kind = k; span = s; mark = m }

abbrev pub start : Seen → Pos
start t = t.token.pos

-- the place behind a token
abbrev pub behind_token : Seen → Pos
behind_token t = t.token.end

abbrev pub span_of : Seen → Span
span_of t = record { from = start t; to = behind_token t }

abbrev pub to_end : Span → Span → Span
to_end a z = record { from = a.from; to = z.to }

-- from the start of a token to the end of a node
abbrev pub from_token : Seen → Node → Span
from_token t n = to_end (span_of t) n.span

abbrev pub to_token : Node → Seen → Span
to_token n t = to_end n.span (span_of t)

abbrev pub tokens : Seen → Seen → Span
tokens a z = to_end (span_of a) (span_of z)

abbrev pub nodes : Node → Node → Span
nodes a z = to_end a.span z.span

abbrev pub last_span : Span → List Node → Span
last_span s [] = s
last_span s (n ∷ ns) = last_span n.span ns

-- ---- what tokens carry

abbrev pub units_of_kind : TokenKind → List ℕ
units_of_kind (token.Name u) = u
units_of_kind (token.Const u) = u
units_of_kind (token.Ivar u) = u
units_of_kind (token.Gvar u) = u
units_of_kind (token.Text u) = u
-- the name before the `:`
units_of_kind (token.Label u) = take (length u - 1) u
units_of_kind _ = []

abbrev pub integer_of_kind : TokenKind → ℤ
integer_of_kind (token.Int i) = i
integer_of_kind _ = pos 0

abbrev pub integer : Seen → ℤ
integer t = integer_of_kind t.token.kind

-- the operators that name a method
abbrev pub method_of_mark : Mark → List ℕ
method_of_mark mark_.Plus = codes "+"
method_of_mark mark_.Minus = codes "-"
method_of_mark mark_.Star = codes "*"
method_of_mark mark_.Slash = codes "/"
method_of_mark mark_.Percent = codes "%"
method_of_mark mark_.Power = codes "**"
method_of_mark mark_.Negate = codes "-@"
method_of_mark mark_.Equal = codes "=="
method_of_mark mark_.Less = codes "<"
method_of_mark mark_.LessEqual = codes "<="
method_of_mark mark_.Greater = codes ">"
method_of_mark mark_.GreaterEqual = codes ">="
method_of_mark mark_.Compare = codes "<=>"
method_of_mark mark_.TripleEqual = codes "==="
method_of_mark mark_.ShiftLeft = codes "<<"
method_of_mark mark_.Index = codes "[]"
method_of_mark mark_.IndexSet = codes "[]="
method_of_mark _ = []

abbrev pub method_of_kind : TokenKind → List ℕ
method_of_kind (token.Op m) = method_of_mark m
method_of_kind k = units_of_kind k

abbrev pub units : Seen → List ℕ
units t = units_of_kind t.token.kind

abbrev pub method_name : Seen → List ℕ
method_name t = method_of_kind t.token.kind

-- the operator of an assignment, and whether it is `||=` or `&&=`
abbrev pub operator_of_mark : Mark → Operator
operator_of_mark mark_.PlusSet = operator.Add
operator_of_mark mark_.MinusSet = operator.Sub
operator_of_mark mark_.StarSet = operator.Mul
operator_of_mark mark_.SlashSet = operator.Div
operator_of_mark mark_.PercentSet = operator.Mod
operator_of_mark mark_.PowerSet = operator.Pow
operator_of_mark mark_.ShiftLeftSet = operator.ShiftLeft
operator_of_mark mark_.OrSet = operator.Or
operator_of_mark _ = operator.And

abbrev pub operator_of_kind : TokenKind → Operator
operator_of_kind (token.Op m) = operator_of_mark m
operator_of_kind _ = operator.And

abbrev pub method_of_operator : Operator → List ℕ
method_of_operator operator.Add = codes "+"
method_of_operator operator.Sub = codes "-"
method_of_operator operator.Mul = codes "*"
method_of_operator operator.Div = codes "/"
method_of_operator operator.Mod = codes "%"
method_of_operator operator.Pow = codes "**"
method_of_operator operator.ShiftLeft = codes "<<"
method_of_operator operator.Or = codes "||"
method_of_operator operator.And = codes "&&"

-- the last unit of a name that ends in ? or !
abbrev pub ends_in_sign : List ℕ → Bool
ends_in_sign [] = false
ends_in_sign (u ∷ []) = nat_eq u 63 || nat_eq u 33
ends_in_sign (u ∷ us) = ends_in_sign us

-- ---- how a value was written

-- anything that the others don't name
abbrev pub other : ℕ
other = 0

-- a name or a variable that can be set
abbrev pub variable : ℕ
variable = 1

-- a name that ends in ? or !, without arguments and block
abbrev pub asking : ℕ
asking = 2

-- `receiver.name`, without arguments and block
abbrev pub attribute : ℕ
attribute = 3

-- such a method that isn't named by a plain name
abbrev pub method : ℕ
method = 4

-- `receiver[args]` without a block pass
abbrev pub indexed : ℕ
indexed = 5

-- a comparison that takes no other behind it
abbrev pub compared : ℕ
compared = 6

-- a command with arguments, which isn't an argument itself
abbrev pub commanded : ℕ
commanded = 7

-- `begin` .. `end`
abbrev pub begun : ℕ
begun = 8

-- `yield` without arguments
abbrev pub yielding : ℕ
yielding = 9

abbrev pub plain_or : ℕ → ℕ → List ℕ → ℕ
plain_or n m name = if ends_in_sign name then m else n

-- ---- one layer of a node

abbrev pub Layer : Type 0
Layer = Kind-F Base Kind ModuleForm Node Params

abbrev pub layer : Node → Layer
layer n = out-Kind n.kind

-- what a call without arguments calls
pub data Callee : Type 0 where
  -- with a receiver or none
  method_called : Option Node → List ℕ → Callee
  super_called : Callee

abbrev pub callee_in : Layer → Option Callee
callee_in (Kind-F.Call receiver name [] None marked) = Some (method_called receiver name)
callee_in (Kind-F.Lit literal.BlockGiven) = Some (method_called None (codes "block_given?"))
callee_in Kind-F.Reraise = Some (method_called None (codes "raise"))
callee_in (Kind-F.Super None None) = Some super_called
callee_in _ = None

-- such a call that a command can be made of
abbrev pub is_bare : ℕ → Bool
is_bare n = nat_eq n variable || (nat_eq n asking || (nat_eq n attribute || nat_eq n method))

abbrev pub callee : Node × ℕ → Option Callee
callee x = if is_bare x.1 then callee_in (layer x.0) else None

abbrev pub yields_in : Layer → Bool
yields_in (Kind-F.Yield []) = true
yields_in _ = false

-- a `yield` that a command can be made of
abbrev pub yields : Node × ℕ → Bool
yields x = nat_eq x.1 yielding && yields_in (layer x.0)

-- the node of what has no tokens of its own, with the span of the form that holds it
abbrev pub replaced : Span → Pos → Node → Node
replaced s m n = make n.kind s m

-- 1 tells that it has none
abbrev pub filled_by : Span → Node → ℕ → Node
filled_by s n zero = n
filled_by s n (suc k) = replaced s s.from n

abbrev pub filled : Span → Node × ℕ → Node
filled s x = filled_by s x.0 x.1

abbrev pub no_place : Pos
no_place = record { line = 0; col = 0 }

-- no statement, with a span that the form sets which holds it
abbrev pub nothing : Node
nothing = make (kind.Seq []) (record { from = no_place; to = no_place }) no_place

-- ---- operators

-- the call of a binary operator
abbrev pub binary : Node × ℕ → Seen × Node → Node × ℕ
binary l x = (make (kind.Call (Some l.0) (method_name x.0) (x.1 ∷ []) None None) (nodes l.0 x.1) (start x.0), other)

-- `a != b`
abbrev pub different : Node × ℕ → Seen × Node → Node × ℕ
different l x = (make (kind.Not (make (kind.Call (Some l.0) (codes "==") (x.1 ∷ []) None None) (nodes l.0 x.1) (start x.0))) (nodes l.0 x.1) (start x.0), compared)

abbrev pub negated : Seen → Node → Node
negated t n = make (kind.Call (Some n) (codes "-@") [] None None) (from_token t n) (start t)

abbrev pub is_open_mark : TokenKind → Bool
is_open_mark (token.Op mark_.DotDotDot) = true
is_open_mark _ = false

-- `...`
abbrev pub without_end : Seen → Bool
without_end t = is_open_mark t.token.kind

-- ---- what can be set

pub data Place : Type 0 where
  local : List ℕ → Place
  ivar : List ℕ → Place
  global : List ℕ → Place
  constant : List ℕ → Place
  -- a receiver, a name and the arguments of an index
  attribute_of : Node → List ℕ → List Node → Place

abbrev pub constant_in : Base-F Base Kind ModuleForm Node Params → List ℕ → Option Place
constant_in Base-F.Here name = Some (constant name)
constant_in _ name = None

abbrev pub place_in : Layer → Option Place
place_in (Kind-F.Call (Some receiver) name args None marked) = Some (attribute_of receiver name args)
place_in (Kind-F.Call None name [] None marked) = Some (local name)
place_in (Kind-F.IvarGet name) = Some (ivar name)
place_in (Kind-F.GlobalGet name) = Some (global name)
place_in (Kind-F.ConstGet base name) = constant_in (out-Base base) name
place_in Kind-F.Reraise = Some (local (codes "raise"))
place_in _ = None

abbrev pub place_of : Node × ℕ → Option Place
place_of x = if nat_eq x.1 variable || (nat_eq x.1 attribute || nat_eq x.1 indexed) then place_in (layer x.0) else None

abbrev pub is_place : Node × ℕ → Bool
is_place x = is_some (place_of x)

abbrev pub set_kind : Place → Node → Kind
set_kind (local name) value = kind.LocalSet name value
set_kind (ivar name) value = kind.IvarSet name value
set_kind (global name) value = kind.GlobalSet name value
set_kind (constant name) value = kind.ConstSet name value
set_kind (attribute_of receiver name args) value = kind.AttrSet receiver name args value

abbrev pub set_place : Option Place → Node → Node → Node
set_place None target value = target
set_place (Some place) target value = make (set_kind place value) (nodes target value) target.mark

-- a value that can be set, read as a place: a name is a local there
abbrev pub name_target : Option Place → Node → Node
name_target (Some (local name)) n = make (kind.LocalGet name) n.span n.mark
name_target _ n = n

abbrev pub target_node : Node × ℕ → Node
target_node l = name_target (place_of l) l.0

-- a first target, and others with the value of all
abbrev pub multi_set : Node → List Node × Node → Node
multi_set target x = make (kind.MultiSet (target ∷ x.0) x.1) (nodes target x.1) (target.span).from

-- an assignment of a command is no argument
abbrev pub ended : ℕ → ℕ
ended n = if nat_eq n commanded then commanded else other

-- `target = value`
abbrev pub assigned : Node × ℕ → Held (Node × ℕ) → Node × ℕ
assigned l x = (set_place (place_of l) l.0 (x.value.0), ended x.value.1)

-- ---- `x op= value` on a variable, where the value stands under two nodes

abbrev pub is_variable : Place → Bool
is_variable (local name) = true
is_variable (ivar name) = true
is_variable (global name) = true
is_variable _ = false

abbrev pub is_attribute : Place → Bool
is_attribute (attribute_of receiver name args) = true
is_attribute _ = false

abbrev pub takes : (Place → Bool) → Option Place → Bool
takes f None = false
takes f (Some place) = f place

-- the call at the operator
abbrev pub combined : Operator → Seen → Node → Node → Node
combined op t target value = make (kind.Call (Some target) (method_of_operator op) (value ∷ []) None None) (nodes target value) (start t)

abbrev pub set_to : Place → Node → Node → Node → Node
set_to place target value whole = make (set_kind place value) (nodes target whole) target.mark

abbrev pub combined_set : Operator → Seen → Place → Node → Node → Node
combined_set operator.Or t place target value = make (kind.Or (name_target (Some place) target) (set_to place target value value)) (nodes target value) (start t)
combined_set operator.And t place target value = make (kind.And (name_target (Some place) target) (set_to place target value value)) (nodes target value) (start t)
combined_set op t place target value = set_to place target (combined op t target value) value

abbrev pub combined_place : Option Place → Seen → Node → Node → Node
combined_place None t target value = target
combined_place (Some place) t target value = combined_set (operator_of_kind t.token.kind) t place target value

-- ---- `receiver.name op= value`

abbrev pub attribute_place : Option Place → Seen → Node → Node → Node
attribute_place (Some (attribute_of receiver name args)) t target value =
    make (kind.AttrOpSet receiver name args (operator_of_kind t.token.kind) value) (nodes target value) target.mark
attribute_place _ t target value = target

-- ---- `x op= value` and `receiver.name op= value`

abbrev pub sets_variable : Node × ℕ → Bool
sets_variable l = takes is_variable (place_of l)

abbrev pub sets_attribute : Node × ℕ → Bool
sets_attribute l = takes is_attribute (place_of l)

abbrev pub operator_updated : Node × ℕ → Seen × (Node × ℕ) → Node × ℕ
operator_updated l x = (combined_place (place_of l) x.0 l.0 (x.1.0), ended (x.1.1))

abbrev pub variable_updated : Node × ℕ → Held (Held (Seen × (Node × ℕ))) → Node × ℕ
variable_updated l x = operator_updated l x.value.value

abbrev pub attribute_updated : Node × ℕ → Held (Seen × (Node × ℕ)) → Node × ℕ
attribute_updated l x = (attribute_place (place_of l) (x.value.0) l.0 (x.value.1.0), ended (x.value.1.1))

-- ---- arguments

abbrev pub Pairs : Type 0
Pairs = List (Held (Node × Node))

-- arguments, pairs behind them, and a block pass
abbrev pub Args : Type 0
Args = List Node × (Pairs × Option Node)

abbrev pub no_args : Args
no_args = ([], ([], None))

abbrev pub keys : Pairs → List Node
keys [] = []
keys (p ∷ ps) = p.value.0 ∷ keys ps

abbrev pub values : Pairs → List Node
values [] = []
values (p ∷ ps) = p.value.1 ∷ values ps

-- an argument
abbrev pub single : Node → Args
single n = (n ∷ [], ([], None))

abbrev pub is_single : Args → Bool
is_single (n ∷ [], ([], None)) = true
is_single _ = false

abbrev pub has_pair : Args → Bool
has_pair (ns, (p ∷ ps, None)) = true
has_pair _ = false

abbrev pub paired : Held (Node × Node) → Args
paired p = ([], (p ∷ [], None))

abbrev pub key_held : Node → Node → Held (Node × Node)
key_held k v = record { value = (k, v) }

-- what was an argument is the key of a pair
abbrev pub key_first : Args → Node → Args
key_first (k ∷ [], ([], None)) v = paired (key_held k v)
key_first x v = x

-- ---- how arguments were written

-- an argument, behind which an argument or a pair may stand
abbrev pub argued : ℕ
argued = 0

-- a pair, behind which a pair may stand
abbrev pub keyed : ℕ
keyed = 1

-- behind which nothing stands
abbrev pub whole : ℕ
whole = 2

abbrev pub first_argument : Node × ℕ → Args × ℕ
first_argument x = (single x.0, if nat_eq x.1 commanded then whole else argued)

abbrev pub takes_more : Args × ℕ → Bool
takes_more x = nat_eq x.1 argued && is_single x.0

abbrev pub takes_pairs : Args × ℕ → Bool
takes_pairs x = nat_eq x.1 keyed && has_pair x.0

-- others behind an argument or a pair
abbrev pub with_more : Args → Args → Args
with_more x y = (x.0 ++ y.0, (x.1.0 ++ y.1.0, or_else x.1.1 y.1.1))

-- the pairs are one hash
abbrev pub hash : Pairs → List Node
hash [] = []
hash (p ∷ ps) = make (kind.HashLit (keys (p ∷ ps)) (values (p ∷ ps))) (to_end (p.value.0).span (last_span (p.value.1).span (values ps))) ((p.value.0).span).from ∷ []

abbrev pub arguments_of : Args → List Node
arguments_of x = x.0 ++ hash (x.1.0)

abbrev pub list_of : Option Node → List Node
list_of None = []
list_of (Some n) = n ∷ []

-- a list without a block pass; had it one, it would be an item
abbrev pub items_of : Args → List Node
items_of x = arguments_of x ++ list_of (x.1.1)

-- Where a block stands, no block pass stands beside it; had it one, it would be an argument.
abbrev pub arguments_with : Args → Option Node → List Node
arguments_with x (Some block) = items_of x
arguments_with x None = arguments_of x

abbrev pub argument_list : Option (Args × Seen) → Option Node → List Node
argument_list None block = []
argument_list (Some x) block = arguments_with x.0 block

abbrev pub block_pass : Option (Args × Seen) → Option Node
block_pass None = None
block_pass (Some x) = x.0.1.1

-- the end of what has been read last
abbrev pub end_of : Span → Option (Args × Seen) → Option Node → Span
end_of s paren (Some n) = n.span
end_of s (Some x) None = span_of x.1
end_of s None None = s

-- the arguments in brackets, and a block
abbrev pub Tail : Type 0
Tail = Option (Args × Seen) × Option Node

abbrev pub is_empty : Tail → Bool
is_empty (None, None) = true
is_empty _ = false

abbrev pub call_node : Option Node → List ℕ → Tail → Span → Pos → Node
call_node receiver name tail s m = make (kind.Call receiver name (argument_list tail.0 tail.1) (or_else tail.1 (block_pass tail.0)) None) s m

-- ---- parameters

abbrev pub name_if : Option Seen → Option (List ℕ)
name_if None = None
name_if (Some t) = Some (units t)

-- names or names in brackets, those with a default, "*" with a name or none, those behind, and "&"
abbrev pub Parameters : Type 0
Parameters = List (List Seen) × (List (Seen × Node) × (Option (Option Seen) × (List (List Seen) × Option Seen)))

abbrev pub no_parameters : Parameters
no_parameters = ([], ([], (None, ([], None))))

-- a name, or names in brackets, before other parameters
abbrev pub with_slot : Stage → List Seen → Parameters → Parameters
with_slot stage.Plain names x = (names ∷ x.0, x.1)
with_slot _ names x = (x.0, (x.1.0, (x.1.1.0, (names ∷ x.1.1.1.0, x.1.1.1.1))))

-- a name with a default or without one
abbrev pub with_name : Stage → Seen → Option Node → Parameters → Parameters
with_name s name None x = with_slot s (name ∷ []) x
with_name s name (Some value) x = (x.0, ((name, value) ∷ x.1.0, x.1.1))

abbrev pub with_rest : Option Seen → Parameters → Parameters
with_rest name x = (x.0, (x.1.0, (Some name, x.1.1.1)))

abbrev pub block_name : Seen → Parameters
block_name name = ([], ([], (None, ([], Some name))))

abbrev pub slot_of : List Seen → Slot
slot_of (name ∷ []) = slot.Name (units name)
slot_of names = slot.Names (map units names)

abbrev pub rest_of : Option (Option Seen) → Rest
rest_of None = rest.None
rest_of (Some None) = rest.Unnamed
rest_of (Some (Some name)) = rest.Named (units name)

abbrev pub params_of : Parameters → Params
params_of x = roll-Params (record {
  plain = map slot_of x.0;
  optional = map (λ p. units p.0) (x.1.0);
  defaults = map (λ p. p.1) (x.1.0);
  rest = rest_of (x.1.1.0);
  after = map slot_of (x.1.1.1.0);
  block = name_if (x.1.1.1.1);
})

-- ---- a name at the front of a value

abbrev pub is_name : List ℕ → List ℕ → Bool
is_name name u = bytes_eq u name

-- `raise` in a rescue clause, and `block_given?`, without arguments and block
abbrev pub bare_node : Bool → List ℕ → Span → Pos → Node
bare_node in_rescue u s m =
    if is_name (codes "block_given?") u then make (kind.Lit literal.BlockGiven) s m
    else (if in_rescue && is_name (codes "raise") u then make kind.Reraise s m
    else call_node None u (None, None) s m)

abbrev pub named_node : Bool → Seen → Tail → Node × ℕ
named_node in_rescue t (None, None) = (bare_node in_rescue (units t) (span_of t) (start t), plain_or variable asking (units t))
named_node in_rescue t (Some (([], ([], None)), close), None) = (bare_node in_rescue (units t) (tokens t close) (start t), other)
named_node in_rescue t tail = (call_node None (units t) tail (to_end (span_of t) (end_of (span_of t) tail.0 tail.1)) (start t), other)

abbrev pub is_lambda : Seen → Bool
is_lambda t = is_name (codes "lambda") (units t)

-- parameters and statements from a token to another
abbrev pub lambda_of : Parameters → Node × ℕ → Span → Node
lambda_of params body s = make (kind.Lambda (params_of params) (filled s body)) s s.from

abbrev pub constant_node : Seen → Tail → Node × ℕ
constant_node t (None, None) = (make (kind.ConstGet base.Here (units t)) (span_of t) (start t), variable)
constant_node t tail = (call_node None (units t) tail (to_end (span_of t) (end_of (span_of t) tail.0 tail.1)) (start t), other)

abbrev pub super_node : Seen → Tail → Node × ℕ
super_node t (None, block) = (make (kind.Super None block) (to_end (span_of t) (end_of (span_of t) None block)) (start t), if is_some block then other else method)
super_node t (Some x, block) = (make (kind.Super (Some (arguments_with x.0 block)) (or_else block (x.0.1.1))) (to_end (span_of t) (end_of (span_of t) (Some x) block)) (start t), other)

abbrev pub yield_node : Seen → Option (Args × Seen) → Node × ℕ
yield_node t None = (make (kind.Yield []) (span_of t) (start t), yielding)
yield_node t (Some x) = (make (kind.Yield (items_of x.0)) (tokens t x.1) (start t), other)

-- ---- parts behind a value

-- the number of a part `:: CONST`
abbrev pub constant_part : ℕ
constant_part = 1

abbrev pub index_part : ℕ
index_part = 2

abbrev pub call_part : ℕ
call_part = 3

abbrev pub is_plain_name : TokenKind → Bool
is_plain_name (token.Name u) = if ends_in_sign u then false else true
is_plain_name _ = false

-- a method that is called without brackets and block can be set, or take arguments as a command; one that an operator names
-- can't
abbrev pub selected : TokenKind → ℕ
selected (token.Name u) = plain_or attribute method u
selected (token.Const u) = method
selected _ = other

abbrev pub selected_number : Seen → Tail → ℕ
selected_number t tail = if is_empty tail then selected t.token.kind else other

abbrev pub index_number : Tail → ℕ
index_number tail = if is_some (block_pass tail.0) then other else indexed

abbrev pub part_number : ℕ → Seen → Tail → ℕ
part_number n t tail = if nat_eq n index_part then index_number tail else (if nat_eq n call_part then selected_number t tail else other)

-- a part `.(..)`
abbrev pub bracket_part : ℕ
bracket_part = 4

-- behind a `.`, with a method's name or without one
abbrev pub by_selector : Seen → Option Seen → Tail → (Seen × Tail) × ℕ
by_selector dot None tail = ((dot, tail), bracket_part)
by_selector dot (Some t) tail = ((t, tail), call_part)

abbrev pub part_name : ℕ → Seen → List ℕ
part_name n t = if nat_eq n index_part then codes "[]" else (if nat_eq n call_part then method_name t else codes "call")

abbrev pub part_node : Node → ℕ → Seen → Tail → Span → Node
part_node l n t (None, None) s = if nat_eq n constant_part then make (kind.ConstGet (base.In l) (units t)) s (start t) else call_node (Some l) (part_name n t) (None, None) s (start t)
part_node l n t tail s = call_node (Some l) (part_name n t) tail s (start t)

abbrev pub with_part : Node × ℕ → (Seen × Tail) × ℕ → Node × ℕ
with_part l x = (part_node l.0 x.1 x.0.0 x.0.1 (to_end (l.0).span (end_of (span_of x.0.0) x.0.1.0 x.0.1.1)), part_number x.1 x.0.0 x.0.1)

-- ---- commands

-- the place of a mark that begins the arguments
abbrev pub first_place : Args → Option Pos
first_place (n ∷ ns, more) = Some (n.span).from
first_place ([], (p ∷ ps, more)) = Some ((p.value.0).span).from
first_place ([], ([], Some n)) = Some (n.span).from
first_place ([], ([], None)) = None

abbrev pub marked_place : Args × ℕ → Option Pos
marked_place x = if nat_eq x.1 0 then None else first_place x.0

abbrev pub args_span : Span → Args → Span
args_span s (ns, (ps, Some n)) = n.span
args_span s (ns, (ps, None)) = last_span (last_span s ns) (values ps)

abbrev pub command_span : Node → Args → Option Node → Span
command_span l args (Some n) = nodes l n
command_span l args None = to_end l.span (args_span l.span args)

abbrev pub command_call : Node → Option Callee → Args × ℕ → Option Node → Node
command_call l None x block = l
command_call l (Some (method_called receiver name)) x block = make (kind.Call receiver name (arguments_with x.0 block) (or_else block (x.0.1.1)) (marked_place x)) (command_span l x.0 block) l.mark
command_call l (Some super_called) x block = make (kind.Super (Some (arguments_with x.0 block)) (or_else block (x.0.1.1))) (command_span l x.0 block) l.mark

abbrev pub command_node : Node × ℕ → Held ((Args × ℕ) × Option Node) → Node × ℕ
command_node l x = (command_call l.0 (callee l) (x.value.0) (x.value.1), commanded)

abbrev pub yield_command : Node × ℕ → Held (Args × ℕ) → Node × ℕ
yield_command l x = (make (kind.Yield (items_of (x.value.0))) (command_span l.0 (x.value.0) None) (l.0).mark, commanded)

-- ---- lists of values

abbrev pub array_of : Node → List Node → Node
array_of n ns = make (kind.ArrayLit (n ∷ ns)) (to_end n.span (last_span n.span ns)) (n.span).from

-- ---- jumps, alias and undef

abbrev pub jump_of : TokenKind → JumpKind
jump_of (token.Keyword word.Break) = jump.Break
jump_of (token.Keyword word.Next) = jump.Next
jump_of _ = jump.Return

abbrev pub jump_node : Seen → Node × ℕ → Node
jump_node t (n, zero) = make (kind.Jump (jump_of t.token.kind) n) (from_token t n) (start t)
jump_node t (n, suc k) = make (kind.Jump (jump_of t.token.kind) (replaced (span_of t) (start t) n)) (span_of t) (start t)

-- the name of a method, which may have a `=` at its end
abbrev pub full_name : Seen × Option Seen → List ℕ
full_name (t, None) = method_name t
full_name (t, Some sign) = method_name t ++ codes "="

abbrev pub name_span : Seen × Option Seen → Span
name_span (t, None) = span_of t
name_span (t, Some sign) = tokens t sign

abbrev pub full_names : List (Seen × Option Seen) → List (List ℕ)
full_names [] = []
full_names (n ∷ ns) = full_name n ∷ full_names ns

abbrev pub names_span : Span → List (Seen × Option Seen) → Span
names_span s [] = s
names_span s (n ∷ ns) = names_span (name_span n) ns

-- ---- statements

abbrev pub is_word_or : TokenKind → Bool
is_word_or (token.Keyword word.Or) = true
is_word_or _ = false

abbrev pub joined : Node × ℕ → Seen × Node → Node × ℕ
joined l x = (make (if is_word_or x.0.token.kind then kind.Or l.0 x.1 else kind.And l.0 x.1) (nodes l.0 x.1) (start x.0), other)

abbrev pub empty_at : Span → Node
empty_at s = replaced s s.from nothing

-- which keyword stands behind a statement
abbrev pub if_behind : ℕ
if_behind = 0

abbrev pub unless_behind : ℕ
unless_behind = 1

abbrev pub while_behind : ℕ
while_behind = 2

abbrev pub until_behind : ℕ
until_behind = 3

abbrev pub modified_kind : ℕ → Node × ℕ → Node → Span → Kind
modified_kind zero l cond s = kind.If cond l.0 (empty_at s)
modified_kind (suc zero) l cond s = kind.If cond (empty_at s) l.0
modified_kind (suc (suc zero)) l cond s = kind.While cond l.0 (nat_eq l.1 begun)
modified_kind (suc (suc (suc n))) l cond s = kind.While (replaced s cond.mark cond) l.0 (nat_eq l.1 begun)

-- a statement and the keyword and condition behind it
abbrev pub modified : Node × ℕ → (Seen × Node) × ℕ → Node × ℕ
modified l x = (make (modified_kind x.1 l (x.0.1) (nodes l.0 (x.0.1))) (nodes l.0 (x.0.1)) (start (x.0.0)), other)

-- the condition of an `until`, which gets the span of the whole
abbrev pub until_condition : Seen × Node → Seen × Node
until_condition x = (x.0, make (kind.Not x.1) (from_token x.0 x.1) (start x.0))

-- a list of statements, and 1 where it has none
abbrev pub statements : List (Option Node) → List Node
statements [] = []
statements (None ∷ rest) = statements rest
statements (Some n ∷ rest) = n ∷ statements rest

abbrev pub sequence_of : List Node → Node × ℕ
sequence_of [] = (nothing, 1)
sequence_of (n ∷ ns) = (make (kind.Seq (n ∷ ns)) (to_end n.span (last_span n.span ns)) (n.span).from, 0)

-- ---- forms with an "end"

abbrev pub last_then : Seen × Option Seen → Seen
last_then (t, None) = t
last_then (t, Some then_) = then_

-- where a part ends that stands behind a token, which may have no statement
abbrev pub last_of : Seen → Node × ℕ → Span
last_of t (n, zero) = n.span
last_of t (n, suc k) = span_of t

abbrev pub last_or : Span → Node × ℕ → Span
last_or s (n, zero) = n.span
last_or s (n, suc k) = s

-- from an `elsif` to the end of its last part
abbrev pub elsif_span : Seen → Node × (Seen × (Node × ℕ)) → Node × ℕ → Span
elsif_span t branch last = to_end (span_of t) (last_or (last_of (branch.1.0) (branch.1.1)) last)

-- a class with its name and its superclass, or the singleton class of a node
abbrev pub form_of : Option Seen × Option Node → ModuleForm
form_of (Some t, superclass) = form.Class superclass
form_of (None, Some n) = form.Singleton n
form_of (None, None) = form.Module

abbrev pub form_name : Option Seen × Option Node → List ℕ
form_name (Some t, superclass) = units t
form_name (None, n) = []

-- the place of the name, or of the `class`
abbrev pub form_place : Seen → Option Seen × Option Node → Pos
form_place t (Some name, superclass) = start name
form_place t (None, n) = start t

-- the place of the name, or of the `rescue`
abbrev pub rescue_place : Seen → Option Seen → Pos
rescue_place t None = start t
rescue_place t (Some name) = start name

-- a name without ? or !
abbrev pub is_variable_name : Seen → Bool
is_variable_name t = is_plain_name t.token.kind

-- ---- bodies

-- rescue clauses, an `else` part and an `ensure` part, each with its keyword
abbrev pub Handlers : Type 0
Handlers = List Node × (Option (Seen × (Node × ℕ)) × Option (Seen × (Node × ℕ)))

abbrev pub handlers_from : Pos → Handlers → Pos
handlers_from p (clause ∷ clauses, parts) = (clause.span).from
handlers_from p ([], (Some x, ensure)) = start x.0
handlers_from p ([], (None, Some x)) = start x.0
handlers_from p ([], (None, None)) = p

abbrev pub handlers_end : Span → Handlers → Span
handlers_end s (clauses, (otherwise, Some x)) = last_of x.0 x.1
handlers_end s (clauses, (Some x, None)) = last_of x.0 x.1
handlers_end s (clauses, (None, None)) = last_span s clauses

-- from the first statement or else the first keyword
abbrev pub body_from : Node × ℕ → Handlers → Pos
body_from (n, zero) h = (n.span).from
body_from (n, suc k) h = handlers_from (n.span).from h

abbrev pub body_span : Node × ℕ → Handlers → Span
body_span x h = record { from = body_from x h; to = (handlers_end (x.0).span h).to }

abbrev pub part_if : Span → Option (Seen × (Node × ℕ)) → Option Node
part_if s None = None
part_if s (Some x) = Some (filled s x.1)

abbrev pub begin_node : Span → Node × ℕ → Handlers → Node
begin_node s x h = make (kind.Begin (filled s x) h.0 (part_if s (h.1.0)) (part_if s (h.1.1))) s s.from

-- whether a part of a body is one that the text doesn't have
abbrev pub is_empty_in : Layer → Bool
is_empty_in (Kind-F.Seq []) = true
is_empty_in _ = false

-- a part that the text doesn't have gets the span of the form that holds it
abbrev pub refilled : Span → Node → Node
refilled s n = if is_empty_in (layer n) then replaced s s.from n else n

-- a body with clauses: its statements, the clauses, and the `else` and `ensure` parts
abbrev pub body_in : Layer → Option (Node × (List Node × (Option Node × Option Node)))
body_in (Kind-F.Begin body clauses otherwise ensure) = Some (body, (clauses, (otherwise, ensure)))
body_in _ = None

abbrev pub spread_over : Span → Option (Node × (List Node × (Option Node × Option Node))) → Node → Node
spread_over s None n = replaced s s.from n
spread_over s (Some x) n = make (kind.Begin (refilled s x.0) (x.1.0) (option_map (refilled s) (x.1.1.0)) (option_map (refilled s) (x.1.1.1))) s s.from

-- a body between two tokens, from one to the other
abbrev pub spread : Span → Node → Node
spread s n = spread_over s (body_in (layer n)) n

-- statements behind a token, with clauses
abbrev pub with_handlers : Seen × (Node × ℕ) → Handlers → Seen × (Node × ℕ)
with_handlers l h = (l.0, (begin_node (body_span l.1 h) l.1 h, 0))

-- ---- methods

-- a `=` directly behind a name
abbrev pub is_attached : Seen → Bool
is_attached t = not t.token.blank_before

abbrev pub is_constant : TokenKind → Bool
is_constant (token.Const u) = true
is_constant _ = false

-- `self` or a constant
abbrev pub names_receiver : Seen → Bool
names_receiver t = is_constant t.token.kind || is_name (codes "self") (units t)

-- the name of a method, behind a receiver or none
abbrev pub DefName : Type 0
DefName = Option Node × (Seen × Option Seen)

abbrev pub is_receiver : DefName → Bool
is_receiver (None, (t, None)) = names_receiver t
is_receiver _ = false

abbrev pub receiver_node : Seen → Node
receiver_node t = make (if is_constant t.token.kind then kind.ConstGet base.Here (units t) else kind.SelfRef) (span_of t) (start t)

abbrev pub on_receiver : DefName → Seen × Option Seen → DefName
on_receiver l name = (Some (receiver_node (l.1.0)), name)

abbrev pub def_node : DefName → Parameters → Node × ℕ → Span → Node
def_node x params body s = make (kind.Def x.0 (full_name x.1) (params_of params) (filled s body)) s (start (x.1.0))

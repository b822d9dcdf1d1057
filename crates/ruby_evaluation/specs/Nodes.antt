-- What each node does: one clause for each kind. A node takes its unit as it begins, which the run counts.
use Rattle.std.specs.Prelude.{ℕ, ◌-◌, Bool, true, false, not, if◌then◌else◌, List, [], ◌∷◌, ◌++◌, length, take, drop, map, Option, Some, None, codes}
use Rattle.std.specs.List.{flat_map}
use Rattle.opal_base.specs.declared.place.Pos.{Pos}
use Rattle.ruby_meaning.specs.declared.tree.Base.{Base, out-Base}
use Rattle.ruby_meaning.specs.declared.tree.Base.TheOpen.{Base-F, Kind-F, ModuleForm-F}
use Rattle.ruby_meaning.specs.declared.tree.JumpKind.{JumpKind}
use Rattle.ruby_meaning.specs.declared.tree.JumpKind.TheVariants as jump_kind
use Rattle.ruby_meaning.specs.declared.tree.Kind.{Kind, out-Kind}
use Rattle.ruby_meaning.specs.declared.tree.Literal.{Literal}
use Rattle.ruby_meaning.specs.declared.tree.Literal.TheVariants as literal
use Rattle.ruby_meaning.specs.declared.tree.ModuleForm.{ModuleForm, out-ModuleForm}
use Rattle.ruby_meaning.specs.declared.tree.Node.{Node}
use Rattle.ruby_meaning.specs.declared.tree.Operator.{Operator}
use Rattle.ruby_meaning.specs.declared.tree.Operator.TheVariants as operator
use Rattle.ruby_meaning.specs.declared.tree.Params.{Params, out-Params}
use Rattle.ruby_meaning.specs.declared.value.Value.{Value}
use Rattle.ruby_meaning.specs.declared.value.Value.TheVariants as value
use Rattle.ruby_meaning.specs.Scoping.Walk.{setter}
use Rattle.ruby_evaluation.specs.Tables.{Name, at}
use Rattle.ruby_evaluation.specs.State.{Method, Ending, EndsCall, EndsItself, Form, Range, Hash, Block, Sends, Frame, Ruby, thing_at, frame_at, is_call_open, with_call, with_constant, with_global}
use Rattle.ruby_evaluation.specs.Ancestors.{hash_class, range_class, proc_class}
use Rattle.ruby_evaluation.specs.Task.{BreakLoop, Break, Next, Return, Again, Raise, Result, Val, Leaves, Place, Request, Evaluate, Turn, BodyFirst, Attempt, Task, Done, Ask, Look, Change, Begins, ◌>>=◌, onval, gives, jumps, evaluate, run_node}
use Rattle.ruby_evaluation.specs.Texts.{truth, thing, draw_value, wrong_kind, bad_key, jump_error, new_array, most_items}
use Rattle.ruby_evaluation.specs.Locals.{slot_names, rest_names, local, or_nil, with_local, home}
use Rattle.ruby_evaluation.specs.Parameters.{Parts, first_of, others, items_of, items_or_one}
use Rattle.ruby_evaluation.specs.Calls.{variable, set_variable, call_method, yield_to, call_of, with_literal, super_from}
use Rattle.ruby_evaluation.specs.Pairs.{put_all}
use Rattle.ruby_evaluation.specs.Lists.{Layer, is_splat, splat, arguments, values, within, most_arguments, in_order, texts, is_bad_key, pairs}
use Rattle.ruby_evaluation.specs.Constants.{innermost, constant_here, constant_of, constant_under}
use Rattle.ruby_evaluation.specs.Definitions.{singleton_of, define, alias_in, undefine_all, define_class, as_superclass, define_module, define_singleton}
use Rattle.ruby_evaluation.specs.Exceptions.{truthy, choose, reraise, attempted, ensured, case_of}
use Rattle.ruby_evaluation.specs.Requires.{Files, require}
use Rattle.ruby_evaluation.specs.Primitives.{primitive}

-- ---- leaves

abbrev pub me : Ruby → Place → Value
me r p = (frame_at r p.frame).me

abbrev pub is_nil : Value → Bool
is_nil value.Nil = true
is_nil _ = false

abbrev pub literal_value : Literal → Place → Task
literal_value literal.Nil p = gives value.Nil
literal_value literal.True p = gives value.True
literal_value literal.False p = gives value.False
literal_value literal.BlockGiven p = Look (λ r. gives (truth (not (is_nil (frame_at r p.frame).block))))

-- ---- ranges and hashes: a literal draws its number after its parts

abbrev pub range_of : Value → Value → Bool → Task
range_of (value.Int a) (value.Int b) without_end = draw_value (thing range_class (Range a b without_end))
range_of (value.Int a) w without_end = wrong_kind w
range_of v w without_end = wrong_kind v

abbrev pub bad_key_in : Ruby → List (Value × Value) → Option Value
bad_key_in r [] = None
bad_key_in r (x ∷ xs) = if is_bad_key r x.0 then Some x.0 else bad_key_in r xs

abbrev pub hash_or_bad : Option Value → List (Value × Value) → Task
hash_or_bad (Some v) ps = bad_key v
hash_or_bad None ps = draw_value (thing hash_class (Hash (put_all ps [])))

-- the pairs are put one after the other
abbrev pub new_hash : List (Value × Value) → Task
new_hash ps = Look (λ r. hash_or_bad (bad_key_in r ps) ps)

-- ---- constants

abbrev pub constant : Base-F Base Kind ModuleForm Node Params → Name → Place → Task
constant Base-F.Here name p = constant_here p.frame name
constant Base-F.Top name p = constant_of 1 name
constant (Base-F.In node) name p = evaluate node p (λ v. constant_under v name)

abbrev pub set_constant : ℕ → Name → Value → Ruby → Ruby
set_constant k name v r = with_constant (innermost r k) name v r

-- ---- calls

abbrev pub receiver_of : Option Node → Place → (Value → Task) → Task
receiver_of None p k = Look (λ r. k (me r p))
receiver_of (Some node) p k = evaluate node p k

abbrev pub literal_in : Layer → Bool
literal_in (Kind-F.Block params body) = true
literal_in _ = false

abbrev pub form_of : Ruby → Value → Form
form_of r (value.Ref k) = (thing_at r k).form
form_of r v = Sends []

-- a `break` of a literal block ends the call that it was given to
abbrev pub ending_with : Bool → Value → Task → Task
ending_with false b t = t
ending_with true b t = Look (λ r. with_literal (call_of (form_of r b)) t)

-- the block comes after the arguments
abbrev pub with_block : Option Node → Place → (Value → Task) → Task
with_block None p k = k value.Nil
with_block (Some node) p k = evaluate node p (λ b. ending_with (literal_in (out-Kind node.kind)) b (k b))

abbrev pub call : Option Node → Name → List Node → Option Node → Place → Task
call receiver name args block p =
    receiver_of receiver p (λ v. arguments args p (λ vs. with_block block p (λ b. call_method v name vs b)))

-- a block draws the number of its call and its own
abbrev pub block_value : Pos → Params → Node → Place → Task
block_value start params body p =
    Look (λ r. Change with_call (draw_value (thing proc_class (Block (record { frame = p.frame; clause = p.clause; params = params; body = body; start = start; ending = EndsCall (length r.calls) })))))

abbrev pub lambda_value : Pos → Params → Node → Place → Task
lambda_value start params body p =
    draw_value (thing proc_class (Block (record { frame = p.frame; clause = p.clause; params = params; body = body; start = start; ending = EndsItself })))

abbrev pub proc_or_wrong : Form → Value → Task
proc_or_wrong (Block c) v = gives v
proc_or_wrong (Sends name) v = gives v
proc_or_wrong _ v = wrong_kind v

-- `&e`
abbrev pub passed_block : Value → Task
passed_block value.Nil = gives value.Nil
passed_block (value.Text name) = draw_value (thing proc_class (Sends name))
passed_block (value.Ref k) = Look (λ r. proc_or_wrong (thing_at r k).form (value.Ref k))
passed_block v = wrong_kind v

-- ---- super

abbrev pub locals_in : Frame → List Name → List Value
locals_in f names = map (λ name. or_nil (at name f.locals)) names

abbrev pub forward_rest : Frame → List Name → (List Value → Task) → Task
forward_rest f [] k = k []
forward_rest f (name ∷ names) k = splat (or_nil (at name f.locals)) k

abbrev pub forward : Frame → Parts → (List Value → Task) → Task
forward f parts k =
    forward_rest f (rest_names parts.rest)
    (λ vs. within most_arguments (locals_in f (flat_map slot_names parts.plain ++ parts.optional) ++ vs ++ locals_in f (flat_map slot_names parts.after)) k)

-- without arguments of its own it passes the current values of the method's parameters
abbrev pub forward_all : Frame → Option Method → (List Value → Task) → Task
forward_all f None k = k []
forward_all f (Some m) k = forward f (out-Params m.params) k

abbrev pub super_arguments : Option (List Node) → Place → (List Value → Task) → Task
super_arguments (Some args) p k = arguments args p k
super_arguments None p k = Look (λ r. let f = frame_at r (home r p.frame) in forward_all f f.method k)

abbrev pub super_with : Value → List Value → Place → Task
super_with b vs p = Look (λ r. super_from (frame_at r p.frame).method (me r p) vs b)

-- without a block of its own it passes the method's
abbrev pub super_block : Option Node → List Value → Place → Task
super_block None vs p = Look (λ r. super_with (frame_at r p.frame).block vs p)
super_block (Some node) vs p = with_block (Some node) p (λ b. super_with b vs p)

-- ---- assignments

abbrev pub set_attribute : Value → Name → List Value → Value → Task
set_attribute v name vs w = call_method v (setter name) (vs ++ w ∷ []) value.Nil >>= onval (λ x. gives w)

abbrev pub attribute : Node → Name → List Node → Node → Place → Task
attribute receiver name args w p =
    evaluate receiver p (λ v. arguments args p (λ vs. evaluate w p (λ x. set_attribute v name vs x)))

abbrev pub operated : Name → Value → Name → List Value → Value → Node → Place → Task
operated op v name vs old w p =
    evaluate w p (λ x. call_method old op (x ∷ []) value.Nil >>= onval (λ y. set_attribute v name vs y))

abbrev pub assigned_by : Operator → Value → Name → List Value → Value → Node → Place → Task
assigned_by operator.Add v name vs old w p = operated (codes "+") v name vs old w p
assigned_by operator.Sub v name vs old w p = operated (codes "-") v name vs old w p
assigned_by operator.Mul v name vs old w p = operated (codes "*") v name vs old w p
assigned_by operator.Div v name vs old w p = operated (codes "/") v name vs old w p
assigned_by operator.Mod v name vs old w p = operated (codes "%") v name vs old w p
assigned_by operator.Pow v name vs old w p = operated (codes "**") v name vs old w p
assigned_by operator.ShiftLeft v name vs old w p = operated (codes "<<") v name vs old w p
assigned_by operator.Or v name vs old w p = choose (truthy old) (gives old) (evaluate w p (λ x. set_attribute v name vs x))
assigned_by operator.And v name vs old w p = choose (truthy old) (evaluate w p (λ x. set_attribute v name vs x)) (gives old)

-- receiver and arguments are evaluated once
abbrev pub operated_attribute : Node → Name → List Node → Operator → Node → Place → Task
operated_attribute receiver name args op w p =
    evaluate receiver p (λ v. arguments args p (λ vs. call_method v name vs value.Nil >>= onval (λ old. assigned_by op v name vs old w p)))

-- a target takes a value; t is what follows
abbrev pub assign : Layer → Value → Place → Task → Task
assign (Kind-F.LocalGet name) v p t = Change (with_local p.frame name v) t
assign (Kind-F.IvarGet name) v p t = Look (λ r. set_variable (me r p) name v >>= onval (λ w. t))
assign (Kind-F.GlobalGet name) v p t = Change (with_global name v) t
assign (Kind-F.ConstGet base name) v p t = Change (set_constant p.frame name v) t
assign (Kind-F.Call receiver name args block marked) v p t =
    receiver_of receiver p (λ w. arguments args p (λ vs. set_attribute w name vs v >>= onval (λ x. t)))
assign _ v p t = t

abbrev pub in_splat : Layer → Node → Node
in_splat (Kind-F.Splat node) other = node
in_splat _ other = other

-- each target is a node of its own; one in a splat gets an array of the values that the others leave
abbrev pub assign_all : List Node → List Value → Place → Task → Task
assign_all [] vs p t = t
assign_all (x ∷ xs) vs p t =
    if is_splat x then
    (let n = length vs - length xs in
    new_array (take n vs) >>= onval (λ a. Begins (Begins (assign (out-Kind (in_splat (out-Kind x.kind) x).kind) a p (assign_all xs (drop n vs) p t)))))
    else Begins (assign (out-Kind x.kind) (first_of vs) p (assign_all xs (others vs) p t))

abbrev pub assign_many : List Node → Node → Place → Task
assign_many targets w p =
    evaluate w p (λ v. Look (λ r. assign_all targets (items_or_one (items_of r v) v) p (gives v)))

-- ---- jumps

abbrev pub break_call : Ruby → Ending → ℕ → Value → Task
break_call r (EndsCall n) k v = if is_call_open r n then jumps (Break n v) else jump_error (codes "break from proc-closure")
break_call r EndsItself k v = jumps (Return k v)

abbrev pub break_from : Bool → Value → Place → Task
break_from true v p = jumps (BreakLoop v)
break_from false v p = Look (λ r. break_call r (frame_at r p.frame).ending (frame_at r p.frame).returns v)

abbrev pub return_from : Value → Place → Task
return_from v p =
    Look (λ r. let k = (frame_at r p.frame).returns in if (frame_at r k).is_open then jumps (Return k v) else jump_error (codes "unexpected return"))

abbrev pub jump : JumpKind → Value → Place → Task
jump jump_kind.Break v p = break_from p.in_loop v p
jump jump_kind.Next v p = jumps (Next v)
jump jump_kind.Return v p = return_from v p

-- ---- loops: `break` gives the value, in the condition too

abbrev pub turn_end : Task → Result → Task
turn_end next (Val v) = next
turn_end next (Leaves (Next v)) = next
turn_end next (Leaves (BreakLoop v)) = gives v
turn_end next (Leaves (Break c v)) = jumps (Break c v)
turn_end next (Leaves (Return k v)) = jumps (Return k v)
turn_end next (Leaves (Raise e)) = jumps (Raise e)
turn_end next (Leaves Again) = jumps Again

-- the condition, or the body that comes first, begins the turn
abbrev pub next_turn : Node → Node → Place → Task
next_turn condition body p = Ask (Turn condition body p) (λ x. Done x)

abbrev pub tested : Node → Node → Place → Result → Task
tested condition body p (Val v) = choose (truthy v) (run_node body p >>= turn_end (next_turn condition body p)) (gives value.Nil)
tested condition body p x = turn_end (next_turn condition body p) x

abbrev pub in_loop : Place → Place
in_loop p = record p { in_loop = true }

abbrev pub loop : Bool → Node → Node → Place → Task
loop false condition body p = next_turn condition body (in_loop p)
loop true condition body p = Ask (BodyFirst condition body (in_loop p)) (λ x. Done x)

-- ---- definitions

abbrev pub definition : Option Node → Name → Params → Node → Place → Task
definition None name params body p = Look (λ r. define (innermost r p.frame) name params body (frame_at r p.frame).around)
definition (Some node) name params body p =
    evaluate node p (λ v. singleton_of v (λ s. Look (λ r. define s name params body (frame_at r p.frame).around)))

abbrev pub module_definition : ModuleForm-F Base Kind ModuleForm Node Params → Name → Node → Place → Task
module_definition (ModuleForm-F.Class None) name body p = define_class name None body p.frame
module_definition (ModuleForm-F.Class (Some node)) name body p =
    evaluate node p (λ v. as_superclass v (λ c. define_class name (Some c) body p.frame))
module_definition ModuleForm-F.Module name body p = define_module name body p.frame
module_definition (ModuleForm-F.Singleton node) name body p = evaluate node p (λ v. define_singleton v body p.frame)

-- ---- one node; `start` is where it begins

abbrev pub act : Files → Pos → Layer → Place → Task
act files start (Kind-F.Lit which) p = literal_value which p
act files start Kind-F.SelfRef p = Look (λ r. gives (me r p))
act files start (Kind-F.Int n) p = gives (value.Int n)
act files start (Kind-F.Str units) p = gives (value.Text units)
act files start (Kind-F.Interp parts) p = texts parts p []
act files start (Kind-F.ArrayLit items) p = values most_items items p [] new_array
act files start (Kind-F.HashLit keys vs) p = pairs keys vs p [] new_hash
act files start (Kind-F.RangeLit low high without_end) p = evaluate low p (λ a. evaluate high p (λ b. range_of a b without_end))
act files start (Kind-F.LocalGet name) p = Look (λ r. gives (local r p.frame name))
act files start (Kind-F.IvarGet name) p = Look (λ r. gives (variable r (me r p) name))
act files start (Kind-F.GlobalGet name) p = Look (λ r. gives (or_nil (at name r.globals)))
act files start (Kind-F.ConstGet base name) p = constant (out-Base base) name p
act files start (Kind-F.LocalSet name node) p = evaluate node p (λ v. Change (with_local p.frame name v) (gives v))
act files start (Kind-F.IvarSet name node) p = evaluate node p (λ v. Look (λ r. set_variable (me r p) name v))
act files start (Kind-F.GlobalSet name node) p = evaluate node p (λ v. Change (with_global name v) (gives v))
act files start (Kind-F.ConstSet name node) p = evaluate node p (λ v. Change (set_constant p.frame name v) (gives v))
act files start (Kind-F.MultiSet targets node) p = assign_many targets node p
act files start (Kind-F.AttrSet receiver name args node) p = attribute receiver name args node p
act files start (Kind-F.AttrOpSet receiver name args op node) p = operated_attribute receiver name args op node p
act files start (Kind-F.Call receiver name args block mark) p = call receiver name args block p
act files start (Kind-F.Super args block) p = super_arguments args p (λ vs. super_block block vs p)
act files start (Kind-F.Yield args) p = arguments args p (λ vs. Look (λ r. yield_to (frame_at r p.frame).block vs))
act files start (Kind-F.Block params body) p = block_value start params body p
act files start (Kind-F.BlockPass node) p = evaluate node p passed_block
act files start (Kind-F.Lambda params body) p = lambda_value start params body p
act files start (Kind-F.Splat node) p = run_node node p
act files start (Kind-F.Not node) p = evaluate node p (λ v. gives (truth (not (truthy v))))
act files start (Kind-F.And left right) p = evaluate left p (λ v. choose (truthy v) (run_node right p) (gives v))
act files start (Kind-F.Or left right) p = evaluate left p (λ v. choose (truthy v) (gives v) (run_node right p))
act files start (Kind-F.If condition first second) p = evaluate condition p (λ v. choose (truthy v) (run_node first p) (run_node second p))
act files start (Kind-F.While condition body body_first) p = loop body_first condition body p
act files start (Kind-F.Case subject whens otherwise) p = case_of subject whens otherwise p
act files start (Kind-F.When tests body) p = gives value.Nil
act files start (Kind-F.Begin body clauses else_part ensure_part) p = Ask (Attempt body clauses else_part p) (ensured ensure_part p)
act files start (Kind-F.Rescue classes name body) p = gives value.Nil
act files start Kind-F.Retry p = jumps Again
act files start Kind-F.Reraise p = reraise p.clause
act files start (Kind-F.Jump which node) p = evaluate node p (λ v. jump which v p)
act files start (Kind-F.Def on name params body) p = definition on name params body p
act files start (Kind-F.ModuleDef form name body) p = module_definition (out-ModuleForm form) name body p
act files start (Kind-F.Alias new old) p = Look (λ r. alias_in (innermost r p.frame) new old)
act files start (Kind-F.Undef names) p = Look (λ r. undefine_all (innermost r p.frame) names)
act files start (Kind-F.Seq nodes) p = in_order value.Nil nodes p
act files start (Kind-F.Require name relative) p = require files p.frame name relative
act files start (Kind-F.Prim name args) p = arguments args p (λ vs. primitive name vs)

abbrev pub steps : Files → Node → Place → Task
steps files node p = act files node.span.from (out-Kind node.kind) p

-- what follows as a request begins
abbrev pub perform : Files → Request → Task
perform files (Evaluate node p) = steps files node p
perform files (Turn condition body p) = steps files condition p >>= tested condition body p
perform files (BodyFirst condition body p) = steps files body p >>= turn_end (next_turn condition body p)
perform files (Attempt body clauses otherwise p) = steps files body p >>= attempted (record { body = body; clauses = clauses; otherwise = otherwise; place = p })

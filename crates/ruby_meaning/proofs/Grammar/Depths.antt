-- How deep each node is, by its kind.
use Rattle.std.proofs.Common.{◌≡◌, ℕ, ℤ, suc, max, Bool, List, [], ◌∷◌, map, Option, Some, None, refl, sym, ap, ◌∙◌, arith}
use Rattle.opal_base.specs.declared.place.Pos.{Pos}
use Rattle.opal_base.specs.declared.place.Span.{Span}
use Rattle.grammar.specs.Forms.{deepest}
use Rattle.grammar.specs.Rules.{deep_if}
use Rattle.ruby_meaning.specs.declared.tree.Base.{Base, Base-F, out-Base, roll-Base, roll-out-Base, map-Base, fold-roll-Base}
use Rattle.ruby_meaning.specs.declared.tree.Base.TheVariants as base
use Rattle.ruby_meaning.specs.declared.tree.Kind.{Kind, Kind-F, out-Kind, roll-Kind, roll-out-Kind, map-Kind, fold-roll-Kind}
use Rattle.ruby_meaning.specs.declared.tree.Kind.TheVariants as kind
use Rattle.ruby_meaning.specs.declared.tree.ModuleForm.{ModuleForm, ModuleForm-F, roll-ModuleForm, map-ModuleForm, fold-roll-ModuleForm}
use Rattle.ruby_meaning.specs.declared.tree.ModuleForm.TheVariants as form
use Rattle.ruby_meaning.specs.declared.tree.Node.{Node, fold-roll-Node}
use Rattle.ruby_meaning.specs.declared.tree.Params.{Params, Params-F, roll-Params, fold-roll-Params}
use Rattle.ruby_meaning.specs.declared.tree.Literal.{Literal}
use Rattle.ruby_meaning.specs.declared.tree.JumpKind.{JumpKind}
use Rattle.ruby_meaning.specs.declared.tree.Operator.{Operator}
use Rattle.ruby_meaning.specs.Depth.{highest, of_base, of_kind, of_form, of_params, depth_of, kind_depth, base_depth, form_depth, params_depth}
use Rattle.ruby_meaning.specs.Grammar.Actions.{make}

pub depth_made : (k : Kind) (s : Span) (m : Pos) → depth_of (make k s m) ≡ suc (kind_depth k)
unfolding depth_of kind_depth
depth_made k s m = fold-roll-Node ℕ ℕ ℕ ℕ ℕ of_base of_kind of_form (λ node. suc node.kind) of_params (record { kind = k; span = s; mark = m })

pub depth_rolled : (l : Kind-F Base Kind ModuleForm Node Params) → kind_depth (roll-Kind l) ≡ of_kind (map-Kind Base Kind ModuleForm Node Params ℕ ℕ ℕ ℕ ℕ base_depth kind_depth form_depth depth_of params_depth l)
unfolding depth_of kind_depth base_depth form_depth params_depth
depth_rolled l = fold-roll-Kind ℕ ℕ ℕ ℕ ℕ of_base of_kind of_form (λ node. suc node.kind) of_params l

pub highest_of_all : (xs : List Node) → highest (map depth_of xs) ≡ deepest depth_of xs
highest_of_all [] = refl
highest_of_all (x ∷ xs) = ap (max (depth_of x)) (highest_of_all xs)

pub depth_lit : (which : Literal) (s : Span) (m : Pos) → depth_of (make (kind.Lit which) s m) ≡ 1
depth_lit which s m = omega (arith, depth_made (kind.Lit which) s m, ap kind_depth (sym (kind.rolls-Lit which)), depth_rolled (Kind-F.Lit which))

pub depth_self_ref : (s : Span) (m : Pos) → depth_of (make kind.SelfRef s m) ≡ 1
depth_self_ref s m = omega (arith, depth_made kind.SelfRef s m, ap kind_depth (sym kind.rolls-SelfRef), depth_rolled Kind-F.SelfRef)

pub depth_int : (value : ℤ) (s : Span) (m : Pos) → depth_of (make (kind.Int value) s m) ≡ 1
depth_int value s m = omega (arith, depth_made (kind.Int value) s m, ap kind_depth (sym (kind.rolls-Int value)), depth_rolled (Kind-F.Int value))

pub depth_str : (units : List ℕ) (s : Span) (m : Pos) → depth_of (make (kind.Str units) s m) ≡ 1
depth_str units s m = omega (arith, depth_made (kind.Str units) s m, ap kind_depth (sym (kind.rolls-Str units)), depth_rolled (Kind-F.Str units))

pub depth_interp : (parts : List Node) (s : Span) (m : Pos) → depth_of (make (kind.Interp parts) s m) ≡ suc (deepest depth_of parts)
depth_interp parts s m = omega (arith, depth_made (kind.Interp parts) s m, ap kind_depth (sym (kind.rolls-Interp parts)), depth_rolled (Kind-F.Interp parts), highest_of_all parts)

pub depth_array_lit : (items : List Node) (s : Span) (m : Pos) → depth_of (make (kind.ArrayLit items) s m) ≡ suc (deepest depth_of items)
depth_array_lit items s m = omega (arith, depth_made (kind.ArrayLit items) s m, ap kind_depth (sym (kind.rolls-ArrayLit items)), depth_rolled (Kind-F.ArrayLit items), highest_of_all items)

pub depth_hash_lit : (keys : List Node) (values : List Node) (s : Span) (m : Pos) → depth_of (make (kind.HashLit keys values) s m) ≡ suc (max (deepest depth_of keys) (deepest depth_of values))
depth_hash_lit keys values s m = omega (arith, depth_made (kind.HashLit keys values) s m, ap kind_depth (sym (kind.rolls-HashLit keys values)), depth_rolled (Kind-F.HashLit keys values), highest_of_all keys, highest_of_all values)

pub depth_range_lit : (low : Node) (high : Node) (without_end : Bool) (s : Span) (m : Pos) → depth_of (make (kind.RangeLit low high without_end) s m) ≡ suc (max (depth_of low) (depth_of high))
depth_range_lit low high without_end s m = omega (arith, depth_made (kind.RangeLit low high without_end) s m, ap kind_depth (sym (kind.rolls-RangeLit low high without_end)), depth_rolled (Kind-F.RangeLit low high without_end))

pub depth_ivar_get : (name : List ℕ) (s : Span) (m : Pos) → depth_of (make (kind.IvarGet name) s m) ≡ 1
depth_ivar_get name s m = omega (arith, depth_made (kind.IvarGet name) s m, ap kind_depth (sym (kind.rolls-IvarGet name)), depth_rolled (Kind-F.IvarGet name))

pub depth_global_get : (name : List ℕ) (s : Span) (m : Pos) → depth_of (make (kind.GlobalGet name) s m) ≡ 1
depth_global_get name s m = omega (arith, depth_made (kind.GlobalGet name) s m, ap kind_depth (sym (kind.rolls-GlobalGet name)), depth_rolled (Kind-F.GlobalGet name))

pub depth_local_get : (name : List ℕ) (s : Span) (m : Pos) → depth_of (make (kind.LocalGet name) s m) ≡ 1
depth_local_get name s m = omega (arith, depth_made (kind.LocalGet name) s m, ap kind_depth (sym (kind.rolls-LocalGet name)), depth_rolled (Kind-F.LocalGet name))

pub depth_const_get : (base : Base) (name : List ℕ) (s : Span) (m : Pos) → depth_of (make (kind.ConstGet base name) s m) ≡ suc (base_depth base)
depth_const_get base name s m = omega (arith, depth_made (kind.ConstGet base name) s m, ap kind_depth (sym (kind.rolls-ConstGet base name)), depth_rolled (Kind-F.ConstGet base name))

pub depth_local_set : (name : List ℕ) (value : Node) (s : Span) (m : Pos) → depth_of (make (kind.LocalSet name value) s m) ≡ suc (depth_of value)
depth_local_set name value s m = omega (arith, depth_made (kind.LocalSet name value) s m, ap kind_depth (sym (kind.rolls-LocalSet name value)), depth_rolled (Kind-F.LocalSet name value))

pub depth_ivar_set : (name : List ℕ) (value : Node) (s : Span) (m : Pos) → depth_of (make (kind.IvarSet name value) s m) ≡ suc (depth_of value)
depth_ivar_set name value s m = omega (arith, depth_made (kind.IvarSet name value) s m, ap kind_depth (sym (kind.rolls-IvarSet name value)), depth_rolled (Kind-F.IvarSet name value))

pub depth_global_set : (name : List ℕ) (value : Node) (s : Span) (m : Pos) → depth_of (make (kind.GlobalSet name value) s m) ≡ suc (depth_of value)
depth_global_set name value s m = omega (arith, depth_made (kind.GlobalSet name value) s m, ap kind_depth (sym (kind.rolls-GlobalSet name value)), depth_rolled (Kind-F.GlobalSet name value))

pub depth_const_set : (name : List ℕ) (value : Node) (s : Span) (m : Pos) → depth_of (make (kind.ConstSet name value) s m) ≡ suc (depth_of value)
depth_const_set name value s m = omega (arith, depth_made (kind.ConstSet name value) s m, ap kind_depth (sym (kind.rolls-ConstSet name value)), depth_rolled (Kind-F.ConstSet name value))

pub depth_multi_set : (targets : List Node) (value : Node) (s : Span) (m : Pos) → depth_of (make (kind.MultiSet targets value) s m) ≡ suc (max (deepest depth_of targets) (depth_of value))
depth_multi_set targets value s m = omega (arith, depth_made (kind.MultiSet targets value) s m, ap kind_depth (sym (kind.rolls-MultiSet targets value)), depth_rolled (Kind-F.MultiSet targets value), highest_of_all targets)

pub depth_attr_set : (receiver : Node) (name : List ℕ) (args : List Node) (value : Node) (s : Span) (m : Pos) → depth_of (make (kind.AttrSet receiver name args value) s m) ≡ suc (max (depth_of receiver) (max (deepest depth_of args) (depth_of value)))
depth_attr_set receiver name args value s m = omega (arith, depth_made (kind.AttrSet receiver name args value) s m, ap kind_depth (sym (kind.rolls-AttrSet receiver name args value)), depth_rolled (Kind-F.AttrSet receiver name args value), highest_of_all args)

pub depth_attr_op_set : (receiver : Node) (name : List ℕ) (args : List Node) (op : Operator) (value : Node) (s : Span) (m : Pos) → depth_of (make (kind.AttrOpSet receiver name args op value) s m) ≡ suc (max (depth_of receiver) (max (deepest depth_of args) (depth_of value)))
depth_attr_op_set receiver name args op value s m = omega (arith, depth_made (kind.AttrOpSet receiver name args op value) s m, ap kind_depth (sym (kind.rolls-AttrOpSet receiver name args op value)), depth_rolled (Kind-F.AttrOpSet receiver name args op value), highest_of_all args)

pub depth_call : (receiver : Option Node) (name : List ℕ) (args : List Node) (block : Option Node) (marked : Option Pos) (s : Span) (m : Pos) → depth_of (make (kind.Call receiver name args block marked) s m) ≡ suc (max (deep_if depth_of receiver) (max (deepest depth_of args) (deep_if depth_of block)))
depth_call None name args None marked s m = omega (arith, depth_made (kind.Call None name args None marked) s m, ap kind_depth (sym (kind.rolls-Call None name args None marked)), depth_rolled (Kind-F.Call None name args None marked), highest_of_all args)
depth_call None name args (Some block) marked s m = omega (arith, depth_made (kind.Call None name args (Some block) marked) s m, ap kind_depth (sym (kind.rolls-Call None name args (Some block) marked)), depth_rolled (Kind-F.Call None name args (Some block) marked), highest_of_all args)
depth_call (Some receiver) name args None marked s m = omega (arith, depth_made (kind.Call (Some receiver) name args None marked) s m, ap kind_depth (sym (kind.rolls-Call (Some receiver) name args None marked)), depth_rolled (Kind-F.Call (Some receiver) name args None marked), highest_of_all args)
depth_call (Some receiver) name args (Some block) marked s m = omega (arith, depth_made (kind.Call (Some receiver) name args (Some block) marked) s m, ap kind_depth (sym (kind.rolls-Call (Some receiver) name args (Some block) marked)), depth_rolled (Kind-F.Call (Some receiver) name args (Some block) marked), highest_of_all args)

pub depth_super : (args : Option (List Node)) (block : Option Node) (s : Span) (m : Pos) → depth_of (make (kind.Super args block) s m) ≡ suc (max (deep_if (deepest depth_of) args) (deep_if depth_of block))
depth_super None None s m = omega (arith, depth_made (kind.Super None None) s m, ap kind_depth (sym (kind.rolls-Super None None)), depth_rolled (Kind-F.Super None None))
depth_super None (Some block) s m = omega (arith, depth_made (kind.Super None (Some block)) s m, ap kind_depth (sym (kind.rolls-Super None (Some block))), depth_rolled (Kind-F.Super None (Some block)))
depth_super (Some args) None s m = omega (arith, depth_made (kind.Super (Some args) None) s m, ap kind_depth (sym (kind.rolls-Super (Some args) None)), depth_rolled (Kind-F.Super (Some args) None), highest_of_all args)
depth_super (Some args) (Some block) s m = omega (arith, depth_made (kind.Super (Some args) (Some block)) s m, ap kind_depth (sym (kind.rolls-Super (Some args) (Some block))), depth_rolled (Kind-F.Super (Some args) (Some block)), highest_of_all args)

pub depth_yield : (args : List Node) (s : Span) (m : Pos) → depth_of (make (kind.Yield args) s m) ≡ suc (deepest depth_of args)
depth_yield args s m = omega (arith, depth_made (kind.Yield args) s m, ap kind_depth (sym (kind.rolls-Yield args)), depth_rolled (Kind-F.Yield args), highest_of_all args)

pub depth_block : (params : Params) (body : Node) (s : Span) (m : Pos) → depth_of (make (kind.Block params body) s m) ≡ suc (max (params_depth params) (depth_of body))
depth_block params body s m = omega (arith, depth_made (kind.Block params body) s m, ap kind_depth (sym (kind.rolls-Block params body)), depth_rolled (Kind-F.Block params body))

pub depth_block_pass : (value : Node) (s : Span) (m : Pos) → depth_of (make (kind.BlockPass value) s m) ≡ suc (depth_of value)
depth_block_pass value s m = omega (arith, depth_made (kind.BlockPass value) s m, ap kind_depth (sym (kind.rolls-BlockPass value)), depth_rolled (Kind-F.BlockPass value))

pub depth_lambda : (params : Params) (body : Node) (s : Span) (m : Pos) → depth_of (make (kind.Lambda params body) s m) ≡ suc (max (params_depth params) (depth_of body))
depth_lambda params body s m = omega (arith, depth_made (kind.Lambda params body) s m, ap kind_depth (sym (kind.rolls-Lambda params body)), depth_rolled (Kind-F.Lambda params body))

pub depth_splat : (value : Node) (s : Span) (m : Pos) → depth_of (make (kind.Splat value) s m) ≡ suc (depth_of value)
depth_splat value s m = omega (arith, depth_made (kind.Splat value) s m, ap kind_depth (sym (kind.rolls-Splat value)), depth_rolled (Kind-F.Splat value))

pub depth_not : (value : Node) (s : Span) (m : Pos) → depth_of (make (kind.Not value) s m) ≡ suc (depth_of value)
depth_not value s m = omega (arith, depth_made (kind.Not value) s m, ap kind_depth (sym (kind.rolls-Not value)), depth_rolled (Kind-F.Not value))

pub depth_and : (left : Node) (right : Node) (s : Span) (m : Pos) → depth_of (make (kind.And left right) s m) ≡ suc (max (depth_of left) (depth_of right))
depth_and left right s m = omega (arith, depth_made (kind.And left right) s m, ap kind_depth (sym (kind.rolls-And left right)), depth_rolled (Kind-F.And left right))

pub depth_or : (left : Node) (right : Node) (s : Span) (m : Pos) → depth_of (make (kind.Or left right) s m) ≡ suc (max (depth_of left) (depth_of right))
depth_or left right s m = omega (arith, depth_made (kind.Or left right) s m, ap kind_depth (sym (kind.rolls-Or left right)), depth_rolled (Kind-F.Or left right))

pub depth_if : (cond : Node) (first : Node) (second : Node) (s : Span) (m : Pos) → depth_of (make (kind.If cond first second) s m) ≡ suc (max (depth_of cond) (max (depth_of first) (depth_of second)))
depth_if cond first second s m = omega (arith, depth_made (kind.If cond first second) s m, ap kind_depth (sym (kind.rolls-If cond first second)), depth_rolled (Kind-F.If cond first second))

pub depth_while : (cond : Node) (body : Node) (body_first : Bool) (s : Span) (m : Pos) → depth_of (make (kind.While cond body body_first) s m) ≡ suc (max (depth_of cond) (depth_of body))
depth_while cond body body_first s m = omega (arith, depth_made (kind.While cond body body_first) s m, ap kind_depth (sym (kind.rolls-While cond body body_first)), depth_rolled (Kind-F.While cond body body_first))

pub depth_case : (subject : Option Node) (whens : List Node) (otherwise : Node) (s : Span) (m : Pos) → depth_of (make (kind.Case subject whens otherwise) s m) ≡ suc (max (deep_if depth_of subject) (max (deepest depth_of whens) (depth_of otherwise)))
depth_case None whens otherwise s m = omega (arith, depth_made (kind.Case None whens otherwise) s m, ap kind_depth (sym (kind.rolls-Case None whens otherwise)), depth_rolled (Kind-F.Case None whens otherwise), highest_of_all whens)
depth_case (Some subject) whens otherwise s m = omega (arith, depth_made (kind.Case (Some subject) whens otherwise) s m, ap kind_depth (sym (kind.rolls-Case (Some subject) whens otherwise)), depth_rolled (Kind-F.Case (Some subject) whens otherwise), highest_of_all whens)

pub depth_when : (tests : List Node) (body : Node) (s : Span) (m : Pos) → depth_of (make (kind.When tests body) s m) ≡ suc (max (deepest depth_of tests) (depth_of body))
depth_when tests body s m = omega (arith, depth_made (kind.When tests body) s m, ap kind_depth (sym (kind.rolls-When tests body)), depth_rolled (Kind-F.When tests body), highest_of_all tests)

pub depth_begin : (body : Node) (clauses : List Node) (else_part : Option Node) (ensure_part : Option Node) (s : Span) (m : Pos) → depth_of (make (kind.Begin body clauses else_part ensure_part) s m) ≡ suc (max (depth_of body) (max (deepest depth_of clauses) (max (deep_if depth_of else_part) (deep_if depth_of ensure_part))))
depth_begin body clauses None None s m = omega (arith, depth_made (kind.Begin body clauses None None) s m, ap kind_depth (sym (kind.rolls-Begin body clauses None None)), depth_rolled (Kind-F.Begin body clauses None None), highest_of_all clauses)
depth_begin body clauses None (Some ensure_part) s m = omega (arith, depth_made (kind.Begin body clauses None (Some ensure_part)) s m, ap kind_depth (sym (kind.rolls-Begin body clauses None (Some ensure_part))), depth_rolled (Kind-F.Begin body clauses None (Some ensure_part)), highest_of_all clauses)
depth_begin body clauses (Some else_part) None s m = omega (arith, depth_made (kind.Begin body clauses (Some else_part) None) s m, ap kind_depth (sym (kind.rolls-Begin body clauses (Some else_part) None)), depth_rolled (Kind-F.Begin body clauses (Some else_part) None), highest_of_all clauses)
depth_begin body clauses (Some else_part) (Some ensure_part) s m = omega (arith, depth_made (kind.Begin body clauses (Some else_part) (Some ensure_part)) s m, ap kind_depth (sym (kind.rolls-Begin body clauses (Some else_part) (Some ensure_part))), depth_rolled (Kind-F.Begin body clauses (Some else_part) (Some ensure_part)), highest_of_all clauses)

pub depth_rescue : (classes : List Node) (name : Option (List ℕ)) (body : Node) (s : Span) (m : Pos) → depth_of (make (kind.Rescue classes name body) s m) ≡ suc (max (deepest depth_of classes) (depth_of body))
depth_rescue classes name body s m = omega (arith, depth_made (kind.Rescue classes name body) s m, ap kind_depth (sym (kind.rolls-Rescue classes name body)), depth_rolled (Kind-F.Rescue classes name body), highest_of_all classes)

pub depth_retry : (s : Span) (m : Pos) → depth_of (make kind.Retry s m) ≡ 1
depth_retry s m = omega (arith, depth_made kind.Retry s m, ap kind_depth (sym kind.rolls-Retry), depth_rolled Kind-F.Retry)

pub depth_reraise : (s : Span) (m : Pos) → depth_of (make kind.Reraise s m) ≡ 1
depth_reraise s m = omega (arith, depth_made kind.Reraise s m, ap kind_depth (sym kind.rolls-Reraise), depth_rolled Kind-F.Reraise)

pub depth_jump : (which : JumpKind) (value : Node) (s : Span) (m : Pos) → depth_of (make (kind.Jump which value) s m) ≡ suc (depth_of value)
depth_jump which value s m = omega (arith, depth_made (kind.Jump which value) s m, ap kind_depth (sym (kind.rolls-Jump which value)), depth_rolled (Kind-F.Jump which value))

pub depth_def : (on : Option Node) (name : List ℕ) (params : Params) (body : Node) (s : Span) (m : Pos) → depth_of (make (kind.Def on name params body) s m) ≡ suc (max (deep_if depth_of on) (max (params_depth params) (depth_of body)))
depth_def None name params body s m = omega (arith, depth_made (kind.Def None name params body) s m, ap kind_depth (sym (kind.rolls-Def None name params body)), depth_rolled (Kind-F.Def None name params body))
depth_def (Some on) name params body s m = omega (arith, depth_made (kind.Def (Some on) name params body) s m, ap kind_depth (sym (kind.rolls-Def (Some on) name params body)), depth_rolled (Kind-F.Def (Some on) name params body))

pub depth_module_def : (form : ModuleForm) (name : List ℕ) (body : Node) (s : Span) (m : Pos) → depth_of (make (kind.ModuleDef form name body) s m) ≡ suc (max (form_depth form) (depth_of body))
depth_module_def form name body s m = omega (arith, depth_made (kind.ModuleDef form name body) s m, ap kind_depth (sym (kind.rolls-ModuleDef form name body)), depth_rolled (Kind-F.ModuleDef form name body))

pub depth_alias : (new : List ℕ) (old : List ℕ) (s : Span) (m : Pos) → depth_of (make (kind.Alias new old) s m) ≡ 1
depth_alias new old s m = omega (arith, depth_made (kind.Alias new old) s m, ap kind_depth (sym (kind.rolls-Alias new old)), depth_rolled (Kind-F.Alias new old))

pub depth_undef : (names : List (List ℕ)) (s : Span) (m : Pos) → depth_of (make (kind.Undef names) s m) ≡ 1
depth_undef names s m = omega (arith, depth_made (kind.Undef names) s m, ap kind_depth (sym (kind.rolls-Undef names)), depth_rolled (Kind-F.Undef names))

pub depth_seq : (items : List Node) (s : Span) (m : Pos) → depth_of (make (kind.Seq items) s m) ≡ suc (deepest depth_of items)
depth_seq items s m = omega (arith, depth_made (kind.Seq items) s m, ap kind_depth (sym (kind.rolls-Seq items)), depth_rolled (Kind-F.Seq items), highest_of_all items)

-- ---- bases of constants

depth_base : (l : Base-F Base Kind ModuleForm Node Params) → base_depth (roll-Base l) ≡ of_base (map-Base Base Kind ModuleForm Node Params ℕ ℕ ℕ ℕ ℕ base_depth kind_depth form_depth depth_of params_depth l)
unfolding depth_of kind_depth base_depth form_depth params_depth
depth_base l = fold-roll-Base ℕ ℕ ℕ ℕ ℕ of_base of_kind of_form (λ node. suc node.kind) of_params l

pub depth_here : base_depth base.Here ≡ 0
depth_here = ap base_depth (sym base.rolls-Here) ∙ depth_base Base-F.Here

pub depth_top : base_depth base.Top ≡ 0
depth_top = ap base_depth (sym base.rolls-Top) ∙ depth_base Base-F.Top

pub depth_in : (n : Node) → base_depth (base.In n) ≡ depth_of n
depth_in n = ap base_depth (sym (base.rolls-In n)) ∙ depth_base (Base-F.In n)

-- ---- parameters

depth_parameters : (l : Params-F Base Kind ModuleForm Node Params) → params_depth (roll-Params l) ≡ highest (map depth_of l.defaults)
unfolding depth_of kind_depth base_depth form_depth params_depth
depth_parameters l = fold-roll-Params ℕ ℕ ℕ ℕ ℕ of_base of_kind of_form (λ node. suc node.kind) of_params l

pub depth_params : (l : Params-F Base Kind ModuleForm Node Params) → params_depth (roll-Params l) ≡ deepest depth_of l.defaults
depth_params l = depth_parameters l ∙ highest_of_all l.defaults

-- ---- a node by its layer

pub depth_layer : (n : Node) → depth_of n ≡ suc (of_kind (map-Kind Base Kind ModuleForm Node Params ℕ ℕ ℕ ℕ ℕ base_depth kind_depth form_depth depth_of params_depth (out-Kind n.kind)))
depth_layer n = depth_made n.kind n.span n.mark ∙ ap suc (ap kind_depth (sym (roll-out-Kind n.kind)) ∙ depth_rolled (out-Kind n.kind))

pub depth_out_base : (x : Base) → base_depth x ≡ of_base (map-Base Base Kind ModuleForm Node Params ℕ ℕ ℕ ℕ ℕ base_depth kind_depth form_depth depth_of params_depth (out-Base x))
depth_out_base x = ap base_depth (sym (roll-out-Base x)) ∙ depth_base (out-Base x)

-- ---- what a module definition makes

depth_form : (l : ModuleForm-F Base Kind ModuleForm Node Params) → form_depth (roll-ModuleForm l) ≡ of_form (map-ModuleForm Base Kind ModuleForm Node Params ℕ ℕ ℕ ℕ ℕ base_depth kind_depth form_depth depth_of params_depth l)
unfolding depth_of kind_depth base_depth form_depth params_depth
depth_form l = fold-roll-ModuleForm ℕ ℕ ℕ ℕ ℕ of_base of_kind of_form (λ node. suc node.kind) of_params l

pub depth_class : (o : Option Node) → form_depth (form.Class o) ≡ deep_if depth_of o
depth_class None = ap form_depth (sym (form.rolls-Class None)) ∙ depth_form (ModuleForm-F.Class None)
depth_class (Some n) = ap form_depth (sym (form.rolls-Class (Some n))) ∙ depth_form (ModuleForm-F.Class (Some n))

pub depth_module : form_depth form.Module ≡ 0
depth_module = ap form_depth (sym form.rolls-Module) ∙ depth_form ModuleForm-F.Module

pub depth_singleton : (n : Node) → form_depth (form.Singleton n) ≡ depth_of n
depth_singleton n = ap form_depth (sym (form.rolls-Singleton n)) ∙ depth_form (ModuleForm-F.Singleton n)

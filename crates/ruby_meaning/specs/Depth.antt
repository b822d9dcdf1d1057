-- How deep a program is: the nodes on the longest path.
use Rattle.std.specs.Prelude.{ℕ, suc, max, List, [], ◌∷◌, Option, None, Some}
use Rattle.ruby_meaning.specs.declared.tree.Base.TheOpen.{Base-F, Kind-F, ModuleForm-F, Params-F}
use Rattle.ruby_meaning.specs.declared.tree.Base.TheFolds.{fold-Base, fold-Kind, fold-ModuleForm, fold-Node, fold-Params}
use Rattle.ruby_meaning.specs.declared.tree.Base.{Base}
use Rattle.ruby_meaning.specs.declared.tree.Kind.{Kind}
use Rattle.ruby_meaning.specs.declared.tree.ModuleForm.{ModuleForm}
use Rattle.ruby_meaning.specs.declared.tree.Node.{Node}
use Rattle.ruby_meaning.specs.declared.tree.Params.{Params}

abbrev pub highest : List ℕ → ℕ
highest [] = 0
highest (n ∷ ns) = max n (highest ns)

abbrev pub optional : Option ℕ → ℕ
optional None = 0
optional (Some n) = n

abbrev pub highest_of : Option (List ℕ) → ℕ
highest_of None = 0
highest_of (Some ns) = highest ns

-- the parts of a node, each with its depth in its place
abbrev pub of_base : Base-F ℕ ℕ ℕ ℕ ℕ → ℕ
of_base Base-F.Here = 0
of_base Base-F.Top = 0
of_base (Base-F.In node) = node

abbrev pub of_form : ModuleForm-F ℕ ℕ ℕ ℕ ℕ → ℕ
of_form (ModuleForm-F.Class superclass) = optional superclass
of_form ModuleForm-F.Module = 0
of_form (ModuleForm-F.Singleton node) = node

abbrev pub of_params : Params-F ℕ ℕ ℕ ℕ ℕ → ℕ
of_params params = highest params.defaults

abbrev pub of_kind : Kind-F ℕ ℕ ℕ ℕ ℕ → ℕ
of_kind (Kind-F.Lit which) = 0
of_kind Kind-F.SelfRef = 0
of_kind (Kind-F.Int value) = 0
of_kind (Kind-F.Str units) = 0
of_kind (Kind-F.Interp parts) = highest parts
of_kind (Kind-F.ArrayLit items) = highest items
of_kind (Kind-F.HashLit keys values) = max (highest keys) (highest values)
of_kind (Kind-F.RangeLit low high without_end) = max low high
of_kind (Kind-F.LocalGet name) = 0
of_kind (Kind-F.IvarGet name) = 0
of_kind (Kind-F.GlobalGet name) = 0
of_kind (Kind-F.ConstGet base name) = base
of_kind (Kind-F.LocalSet name value) = value
of_kind (Kind-F.IvarSet name value) = value
of_kind (Kind-F.GlobalSet name value) = value
of_kind (Kind-F.ConstSet name value) = value
of_kind (Kind-F.MultiSet targets value) = max (highest targets) value
of_kind (Kind-F.AttrSet receiver name args value) = max receiver (max (highest args) value)
of_kind (Kind-F.AttrOpSet receiver name args op value) = max receiver (max (highest args) value)
of_kind (Kind-F.Call receiver name args block marked) = max (optional receiver) (max (highest args) (optional block))
of_kind (Kind-F.Super args block) = max (highest_of args) (optional block)
of_kind (Kind-F.Yield args) = highest args
of_kind (Kind-F.Block params body) = max params body
of_kind (Kind-F.BlockPass value) = value
of_kind (Kind-F.Lambda params body) = max params body
of_kind (Kind-F.Splat value) = value
of_kind (Kind-F.Not value) = value
of_kind (Kind-F.And left right) = max left right
of_kind (Kind-F.Or left right) = max left right
of_kind (Kind-F.If cond first second) = max cond (max first second)
of_kind (Kind-F.While cond body body_first) = max cond body
of_kind (Kind-F.Case subject whens otherwise) = max (optional subject) (max (highest whens) otherwise)
of_kind (Kind-F.When tests body) = max (highest tests) body
of_kind (Kind-F.Begin body clauses else_part ensure_part) = max body (max (highest clauses) (max (optional else_part) (optional ensure_part)))
of_kind (Kind-F.Rescue classes name body) = max (highest classes) body
of_kind Kind-F.Retry = 0
of_kind Kind-F.Reraise = 0
of_kind (Kind-F.Jump which value) = value
of_kind (Kind-F.Def on name params body) = max (optional on) (max params body)
of_kind (Kind-F.ModuleDef form name body) = max form body
of_kind (Kind-F.Alias new old) = 0
of_kind (Kind-F.Undef names) = 0
of_kind (Kind-F.Seq items) = highest items
of_kind (Kind-F.Require name relative) = 0
of_kind (Kind-F.Prim name args) = highest args

-- A node is one more than its parts. The same fold at the other types of the tree:
unfoldable pub depth_of : Node → ℕ
depth_of = fold-Node ℕ ℕ ℕ ℕ ℕ of_base of_kind of_form (λ node. suc node.kind) of_params

unfoldable pub kind_depth : Kind → ℕ
kind_depth = fold-Kind ℕ ℕ ℕ ℕ ℕ of_base of_kind of_form (λ node. suc node.kind) of_params

unfoldable pub base_depth : Base → ℕ
base_depth = fold-Base ℕ ℕ ℕ ℕ ℕ of_base of_kind of_form (λ node. suc node.kind) of_params

unfoldable pub form_depth : ModuleForm → ℕ
form_depth = fold-ModuleForm ℕ ℕ ℕ ℕ ℕ of_base of_kind of_form (λ node. suc node.kind) of_params

unfoldable pub params_depth : Params → ℕ
params_depth = fold-Params ℕ ℕ ℕ ℕ ℕ of_base of_kind of_form (λ node. suc node.kind) of_params

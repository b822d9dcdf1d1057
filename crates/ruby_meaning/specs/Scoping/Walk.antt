-- The walk over a tree in the order of the text: what each form says to the text behind it, what is refused, and the
-- form in which bare names of locals and calls of `require` are told apart from other calls.
use Rattle.std.specs.Prelude.{ℕ, ◌+◌, ◌==◌, Bool, true, false, not, ◌&&◌, ◌||◌, if◌then◌else◌, is_some, is_none, List, [], ◌∷◌, ◌++◌, length, Option, Some, None, codes, bytes_eq}
use Rattle.opal_base.specs.declared.place.Pos.{Pos}
use Rattle.opal_base.specs.declared.place.Span.{Span}
use Rattle.ruby_meaning.specs.declared.construct.Construct.TheVariants as construct
use Rattle.ruby_meaning.specs.declared.scope.Around.{Around}
use Rattle.ruby_meaning.specs.declared.scope.Role.{Role}
use Rattle.ruby_meaning.specs.declared.scope.Role.TheVariants as role
use Rattle.ruby_meaning.specs.declared.scope.Seen.{Seen}
use Rattle.ruby_meaning.specs.declared.tree.Base.TheOpen.{Base-F, Kind-F, ModuleForm-F, Node-F, Params-F}
use Rattle.ruby_meaning.specs.declared.tree.Base.TheFolds.{fold-Base, fold-Kind, fold-ModuleForm, fold-Node, fold-Params}
use Rattle.ruby_meaning.specs.declared.tree.Base.{Base}
use Rattle.ruby_meaning.specs.declared.tree.Base.TheVariants as bases
use Rattle.ruby_meaning.specs.declared.tree.JumpKind.{JumpKind}
use Rattle.ruby_meaning.specs.declared.tree.JumpKind.TheVariants as jump
use Rattle.ruby_meaning.specs.declared.tree.Kind.{Kind}
use Rattle.ruby_meaning.specs.declared.tree.Kind.TheVariants as kinds
use Rattle.ruby_meaning.specs.declared.tree.ModuleForm.{ModuleForm}
use Rattle.ruby_meaning.specs.declared.tree.ModuleForm.TheVariants as forms
use Rattle.ruby_meaning.specs.declared.tree.Node.{Node}
use Rattle.ruby_meaning.specs.declared.tree.Operator.{Operator}
use Rattle.ruby_meaning.specs.declared.tree.Operator.TheVariants as operator
use Rattle.ruby_meaning.specs.declared.tree.Params.{Params, roll-Params}
use Rattle.ruby_meaning.specs.declared.tree.Rest.{Rest}
use Rattle.ruby_meaning.specs.declared.tree.Rest.TheVariants as rest
use Rattle.ruby_meaning.specs.declared.tree.Slot.{Slot}
use Rattle.ruby_meaning.specs.declared.tree.Slot.TheVariants as slot
use Rattle.ruby_meaning.specs.Scoping.Names.{Name}
use Rattle.ruby_meaning.specs.Scoping.Requires.{names_file, required_name}
use Rattle.ruby_meaning.specs.Scoping.Seen.{stands_before, refuse_if, unbuilt_at, is_local, name_local, parameter, called, opened, block_closed, body_closed}

-- ---- what stands around

abbrev pub as_role : Role → Around → Around
as_role r c = record c { role = r }

abbrev pub plain : Around → Around
plain c = as_role role.Plain c

abbrev pub is_condition : Role → Bool
is_condition role.Condition = true
is_condition _ = false

abbrev pub is_target : Role → Bool
is_target role.Target = true
is_target _ = false

abbrev pub is_shown : Role → Bool
is_shown role.Shown = true
is_shown _ = false

-- around the text of a file, and that of a class or a module
abbrev pub no_targets : Around
no_targets = record { in_def = false; returns = false; breaks = false; retries = false; role = role.Plain }

abbrev pub within_def : Around
within_def = record { in_def = true; returns = true; breaks = false; retries = false; role = role.Plain }

abbrev pub within_block : Around → Around
within_block c = record { in_def = c.in_def; returns = c.returns; breaks = true; retries = false; role = role.Plain }

abbrev pub within_lambda : Around → Around
within_lambda c = record { in_def = c.in_def; returns = true; breaks = true; retries = false; role = role.Plain }

abbrev pub within_loop : Around → Around
within_loop c = record { in_def = c.in_def; returns = c.returns; breaks = true; retries = c.retries; role = role.Plain }

abbrev pub within_rescue : Around → Around
within_rescue c = record { in_def = c.in_def; returns = c.returns; breaks = c.breaks; retries = true; role = role.Plain }

abbrev pub has_target : JumpKind → Around → Bool
has_target jump.Return c = c.returns
has_target _ c = c.breaks

-- ---- the parts of a node

-- what the text says up to the end of a part, and the part with its names resolved
pub record Walked (A : Type 0) : Type 0 where
  pub seen : Seen
  pub made : A

abbrev pub walked : {A : Type 0} → Seen → A → Walked A
walked s a = record { seen = s; made = a }

abbrev pub onto : {A B : Type 0} → (A → B) → Walked A → Walked B
onto f w = walked w.seen (f w.made)

-- parts one behind the other
abbrev pub two : {A B C : Type 0} → (A → B → C) → (Seen → Walked A) → (Seen → Walked B) → Seen → Walked C
two f a b s = onto (f (a s).made) (b (a s).seen)

abbrev pub three : {A B C D : Type 0} → (A → B → C → D) → (Seen → Walked A) → (Seen → Walked B) → (Seen → Walked C) → Seen → Walked D
three f a b c s = two (f (a s).made) b c (a s).seen

abbrev pub Walk : Type 0 → Type 0
Walk A = Around → Seen → Walked A

-- a node: its start, its text where it is a Str, whether it is a literal block, and its walk
pub record Part : Type 0 where
  pub from : Pos
  pub text : Option Name
  pub is_block : Bool
  pub walk : Walk Node

-- a form: the name of a call that has nothing but its name, whether it is built, at its role, and its walk at its mark
pub record FormPart : Type 0 where
  pub name : Option Name
  pub text : Option Name
  pub is_block : Bool
  pub built : Role → Bool
  pub walk : Pos → Walk Kind

-- where a constant begins: whether it stands without a base
pub record BasePart : Type 0 where
  pub is_here : Bool
  pub walk : Walk Base

abbrev pub all : List Part → Walk (List Node)
all [] c s = walked s []
all (p ∷ ps) c s = two (λ n ns. n ∷ ns) (p.walk c) (all ps c) s

abbrev pub if_any : Option Part → Walk (Option Node)
if_any None c s = walked s None
if_any (Some p) c s = onto (λ n. Some n) (p.walk c s)

abbrev pub all_if_any : Option (List Part) → Walk (Option (List Node))
all_if_any None c s = walked s None
all_if_any (Some ps) c s = onto (λ ns. Some ns) (all ps c s)

-- keys and values in turn: there are as many
abbrev pub in_turn : List Part → List Part → Walk (List Node × List Node)
in_turn [] vs c s = walked s ([], [])
in_turn (k ∷ ks) [] c s = two (λ n r. (n ∷ r.0, r.1)) (k.walk c) (in_turn ks [] c) s
in_turn (k ∷ ks) (v ∷ vs) c s = three (λ n m r. (n ∷ r.0, m ∷ r.1)) (k.walk c) (v.walk c) (in_turn ks vs c) s

abbrev pub names_in_turn : Pos → List Name → Seen → Seen
names_in_turn mark [] s = s
names_in_turn mark (n ∷ ns) s = names_in_turn mark ns (parameter mark n s)

-- parameters with their defaults in turn: there are as many
abbrev pub defaults_in_turn : Pos → List Name → List Part → Walk (List Node)
defaults_in_turn mark ns [] c s = walked (names_in_turn mark ns s) []
defaults_in_turn mark [] (p ∷ ps) c s = two (λ d ds. d ∷ ds) (p.walk c) (defaults_in_turn mark [] ps c) s
defaults_in_turn mark (n ∷ ns) (p ∷ ps) c s = two (λ d ds. d ∷ ds) (p.walk c) (defaults_in_turn mark ns ps c) (parameter mark n s)

-- A condition and what it guards, which may stand before it: in the order of the text.
abbrev pub guarded : Part → Part → Around → Around → Seen → Walked (Node × Node)
guarded cond body c d s =
    if stands_before body.from cond.from then two (λ b t. (t, b)) (body.walk d) (cond.walk c) s
    else two (λ t b. (t, b)) (cond.walk c) (body.walk d) s

-- two parts of which the first doesn't stand behind the second, with the condition before, between or behind them
abbrev pub guarded_two : Part → Part → Part → Around → Around → Seen → Walked (Node × (Node × Node))
guarded_two cond a b c d s =
    if stands_before a.from cond.from then two (λ x r. (r.0, (x, r.1))) (a.walk d) (guarded cond b c d) s
    else three (λ t x y. (t, (x, y))) (cond.walk c) (a.walk d) (b.walk d) s

abbrev pub branches : Part → Part → Part → Around → Around → Seen → Walked (Node × (Node × Node))
branches cond a b c d s =
    if stands_before b.from a.from then onto (λ r. (r.0, ((r.1).1, (r.1).0))) (guarded_two cond b a c d s)
    else guarded_two cond a b c d s

-- a block or a lambda sees the scope around it
abbrev pub in_block : {A : Type 0} → (Seen → Walked A) → Seen → Walked A
in_block body s =
    let w = body (opened (s.outer ++ s.own ∷ []) s) in
    walked (block_closed s.params s.named s.scopes w.seen) w.made

-- a `def`, a class and a module see none
abbrev pub in_body : {A : Type 0} → (Seen → Walked A) → Seen → Walked A
in_body body s =
    let w = body (opened [] s) in
    walked (body_closed s.own s.params s.named s.outer s.scopes w.seen) w.made

-- ---- calls

abbrev pub operator_name : Operator → Option Name
operator_name operator.Add = Some (codes "+")
operator_name operator.Sub = Some (codes "-")
operator_name operator.Mul = Some (codes "*")
operator_name operator.Div = Some (codes "/")
operator_name operator.Mod = Some (codes "%")
operator_name operator.Pow = Some (codes "**")
operator_name operator.ShiftLeft = Some (codes "<<")
operator_name operator.Or = None
operator_name operator.And = None

abbrev pub setter : Name → Name
setter name = name ++ codes "="

unfoldable pub called_if_any : Option Name → Seen → Seen
called_if_any None s = s
called_if_any (Some name) s = called name s

unfoldable pub refuse_marked : Bool → Option Pos → Seen → Seen
refuse_marked b None s = s
refuse_marked b (Some pos) s = refuse_if b pos construct.AmbiguousArgument s

abbrev pub is_empty : List Part → Bool
is_empty [] = true
is_empty (p ∷ ps) = false

-- the one argument, where it is a text
abbrev pub only_text : List Part → Option Name
only_text (p ∷ []) = p.text
only_text _ = None

abbrev pub is_literal_block : Option Part → Bool
is_literal_block None = false
is_literal_block (Some p) = p.is_block

abbrev pub is_one_of : Name → List Name → Bool
is_one_of name [] = false
is_one_of name (n ∷ ns) = bytes_eq name n || is_one_of name ns

abbrev pub is_eval : Bool → Name → List Part → Bool
is_eval alone name args =
    (alone && is_one_of name (codes "eval" ∷ codes "binding" ∷ []))
    || (not (is_empty args) && is_one_of name (codes "instance_eval" ∷ codes "class_eval" ∷ codes "module_eval" ∷ []))

abbrev pub is_relative : Name → Bool
is_relative name = bytes_eq name (codes "require_relative")

abbrev pub is_require : Name → Bool
is_require name = bytes_eq name (codes "require") || is_relative name

-- a `require` begins at the base, a `require_relative` at the directory of its file
abbrev pub requires_file : Option ℕ → Name → Option Name → Bool → Bool
requires_file below name None no_block = false
requires_file below name (Some text) no_block =
    no_block && names_file (if is_relative name then below else Some 0) text

-- `puts` with one text
abbrev pub is_shown_text : Option Part → Name → List Part → Option Part → Bool
is_shown_text receiver name args block =
    is_none receiver && bytes_eq name (codes "puts") && is_some (only_text args) && is_none block

-- a `require` without receiver
unfoldable pub noted_require : Option ℕ → Name → List Part → Option Part → Option Pos → Pos → Seen → Seen
noted_require below name args block marked mark s =
    refuse_marked (is_local s name) marked
    (refuse_if (not (requires_file below name (only_text args) (is_none block))) mark construct.DynamicRequire s)

-- a call that looks a name up; it is alone where it has no receiver
unfoldable pub noted_call : Bool → Name → List Part → Option Part → Option Pos → Pos → Role → Seen → Seen
noted_call alone name args block marked mark r s =
    refuse_marked (alone && is_local s name) marked
    (refuse_if (alone && bytes_eq name (codes "lambda") && not (is_literal_block block)) mark construct.BareLambda
    (refuse_if (is_eval alone name args) mark construct.Eval
    (called (if is_target r then setter name else name) s)))

-- what a call says before its parts do: without receiver it may be a `require`
unfoldable pub noted : Option ℕ → Option Part → Name → List Part → Option Part → Option Pos → Pos → Role → Seen → Seen
noted below receiver name args block marked mark r s =
    if is_none receiver && is_require name then noted_require below name args block marked mark s
    else noted_call (is_none receiver) name args block marked mark r s

-- the name of a call without receiver, arguments and block
abbrev pub only_name : Option Part → Name → List Part → Option Part → Option Name
only_name receiver name args block = if is_none receiver && is_empty args && is_none block then Some name else None

-- the text of a `require`, and that of any other argument is empty
abbrev pub text_or_empty : Option Name → Name
text_or_empty None = []
text_or_empty (Some text) = text

-- a `require` without receiver, or else a call with its parts
unfoldable pub resolved_call : Bool → Name → Option Name → Option Pos → Option Node → List Node → Option Node → Kind
resolved_call requires name text marked receiver args block =
    if requires then kinds.Require (required_name (is_relative name) (text_or_empty text)) (is_relative name)
    else kinds.Call receiver name args block marked

-- a call that isn't the bare name of a local
unfoldable pub call : Option ℕ → Option Part → Name → List Part → Option Part → Option Pos → Pos → Walk Kind
call below receiver name args block marked mark c s =
    three (resolved_call (is_none receiver && is_require name) name (only_text args) marked)
    (if_any receiver (plain c))
    (all args (as_role (if is_shown_text receiver name args block then role.Shown else role.Plain) c))
    (if_any block (plain c))
    (noted below receiver name args block marked mark c.role s)

-- ---- bare names

-- A node is its name alone where it is as long as the name: `x`, and not `x()`.
abbrev pub spans_name : Span → Name → Bool
spans_name span name = (span.from.line == span.to.line) && (span.to.col == span.from.col + length name)

-- the local that a node with such a span is the bare name of
unfoldable pub bare_local : Option Name → Span → Seen → Option Name
bare_local None span s = None
bare_local (Some name) span s = if spans_name span name && is_local s name then Some name else None

-- the value of a local, or else another form
unfoldable pub local_or : Option Name → (Seen → Walked Kind) → Seen → Walked Kind
local_or None walk s = walk s
local_or (Some name) walk s = walked (name_local name s) (kinds.LocalGet name)

-- ---- parameters

abbrev pub one_slot : Pos → Slot → Seen → Seen
one_slot mark (slot.Name name) s = parameter mark name s
one_slot mark (slot.Names names) s = names_in_turn mark names s

abbrev pub slots : Pos → List Slot → Seen → Seen
slots mark [] s = s
slots mark (p ∷ ps) s = slots mark ps (one_slot mark p s)

abbrev pub rest_name : Pos → Rest → Seen → Seen
rest_name mark rest.None s = s
rest_name mark rest.Unnamed s = s
rest_name mark (rest.Named name) s = parameter mark name s

abbrev pub block_name : Pos → Option Name → Seen → Seen
block_name mark None s = s
block_name mark (Some name) s = parameter mark name s

abbrev pub Folded : Type 0
Folded = Kind-F BasePart FormPart (Walk ModuleForm) Part (Pos → Walk Params)

abbrev pub of_params : Params-F BasePart FormPart (Walk ModuleForm) Part (Pos → Walk Params) → Pos → Walk Params
of_params p mark c s =
    let w = defaults_in_turn mark p.optional p.defaults c (slots mark p.plain s) in
    walked (block_name mark p.block (slots mark p.after (rest_name mark p.rest w.seen)))
    (roll-Params (record { plain = p.plain; optional = p.optional; defaults = w.made; rest = p.rest; after = p.after; block = p.block }))

-- ---- the forms

abbrev pub unbuilt : (Pos → Walk Kind) → FormPart
unbuilt walk = record { name = None; text = None; is_block = false; built = λ r. false; walk = walk }

abbrev pub nothing : Kind → FormPart
nothing kind = unbuilt (λ mark c s. walked s kind)

abbrev pub of_base : Base-F BasePart FormPart (Walk ModuleForm) Part (Pos → Walk Params) → BasePart
of_base Base-F.Here = record { is_here = true; walk = λ c s. walked s bases.Here }
of_base Base-F.Top = record { is_here = false; walk = λ c s. walked s bases.Top }
of_base (Base-F.In node) = record { is_here = false; walk = λ c s. onto (λ n. bases.In n) (node.walk c s) }

abbrev pub of_form : ModuleForm-F BasePart FormPart (Walk ModuleForm) Part (Pos → Walk Params) → Walk ModuleForm
of_form (ModuleForm-F.Class superclass) c s = onto (λ n. forms.Class n) (if_any superclass c s)
of_form ModuleForm-F.Module c s = walked s forms.Module
of_form (ModuleForm-F.Singleton node) c s = onto (λ n. forms.Singleton n) (node.walk c s)

abbrev pub is_thread : Name → Bool
is_thread name = is_one_of name (codes "Thread" ∷ codes "Fiber" ∷ codes "Mutex" ∷ [])

abbrev pub constant : BasePart → Name → Pos → Walk Kind
constant base name mark c s =
    onto (λ b. kinds.ConstGet b name) (base.walk (plain c)
    (refuse_if (is_target c.role && c.in_def) mark construct.DynamicConstant
    (refuse_if (base.is_here && is_thread name) mark construct.ThreadOrFiber s)))

abbrev pub attr_set : Part → Name → List Part → Part → Walk Kind
attr_set receiver name args value c s =
    three (λ r ns v. kinds.AttrSet r name ns v) (receiver.walk (plain c)) (all args (plain c)) (value.walk (plain c)) (called (setter name) s)

abbrev pub attr_op_set : Part → Name → List Part → Operator → Part → Walk Kind
attr_op_set receiver name args op value c s =
    three (λ r ns v. kinds.AttrOpSet r name ns op v) (receiver.walk (plain c)) (all args (plain c)) (value.walk (plain c))
    (called_if_any (operator_name op) (called (setter name) (called name s)))

abbrev pub super : Option (List Part) → Option Part → Pos → Walk Kind
super args block mark c s =
    two (λ ns b. kinds.Super ns b) (all_if_any args (plain c)) (if_any block (plain c))
    (refuse_if (not c.in_def) mark construct.JumpOutside s)

abbrev pub block : (Pos → Walk Params) → Part → Pos → Walk Kind
block params body mark c s =
    in_block (two (λ p b. kinds.Block p b) (params mark (within_block c)) (body.walk (within_block c))) s

abbrev pub lambda : (Pos → Walk Params) → Part → Pos → Walk Kind
lambda params body mark c s =
    in_block (two (λ p b. kinds.Lambda p b) (params mark (within_lambda c)) (body.walk (within_lambda c))) s

abbrev pub conditional : Part → Part → Part → Walk Kind
conditional cond first second c s =
    onto (λ r. kinds.If r.0 (r.1).0 (r.1).1) (branches cond first second (as_role role.Condition c) (plain c) s)

abbrev pub loop : Part → Part → Bool → Walk Kind
loop cond body body_first c s =
    onto (λ r. kinds.While r.0 r.1 body_first) (guarded cond body (as_role role.Condition (within_loop c)) (within_loop c) s)

abbrev pub case_of : Option Part → List Part → Part → Walk Kind
case_of subject whens otherwise c s =
    three (λ t ws o. kinds.Case t ws o) (if_any subject (plain c))
    (all whens (if is_none subject then as_role role.Condition c else plain c)) (otherwise.walk (plain c)) s

abbrev pub begin_with : Part → List Part → Option Part → Option Part → Walk Kind
begin_with body clauses else_part ensure_part c s =
    two (λ b (r : List Node × (Option Node × Option Node)). kinds.Begin b r.0 (r.1).0 (r.1).1) (body.walk (plain c))
    (three (λ cs e f. (cs, (e, f))) (all clauses (plain c)) (if_any else_part (plain c)) (if_any ensure_part (plain c))) s

unfoldable pub rescued : Option Name → Seen → Seen
rescued None s = s
rescued (Some name) s = name_local name s

abbrev pub rescue : List Part → Option Name → Part → Walk Kind
rescue classes name body c s =
    two (λ cs b. kinds.Rescue cs name b) (all classes (plain c)) (λ t. body.walk (within_rescue c) (rescued name t)) s

abbrev pub def : Option Part → Name → (Pos → Walk Params) → Part → Pos → Walk Kind
def on name params body mark c s =
    two (λ o (r : Params × Node). kinds.Def o name r.0 r.1) (if_any on (plain c))
    (in_body (two (λ p b. (p, b)) (params mark within_def) (body.walk within_def))) s

abbrev pub module_def : Walk ModuleForm → Name → Part → Pos → Walk Kind
module_def form name body mark c s =
    two (λ f b. kinds.ModuleDef f name b) (form (plain c)) (in_body (body.walk no_targets))
    (refuse_if c.in_def mark construct.DynamicConstant s)

-- a part that is all of a form
abbrev pub whole : (Node → Kind) → Part → Walk Kind
whole f value c s = onto f (value.walk c s)

-- parts that are all of a form
abbrev pub whole_list : (List Node → Kind) → List Part → Walk Kind
whole_list f items c s = onto f (all items c s)

abbrev pub of_kind : Option ℕ → Folded → FormPart
of_kind below (Kind-F.Lit which) = nothing (kinds.Lit which)
of_kind below Kind-F.SelfRef = nothing kinds.SelfRef
of_kind below (Kind-F.Int value) = nothing (kinds.Int value)
of_kind below (Kind-F.Str units) = record { name = None; text = Some units; is_block = false; built = is_shown; walk = λ mark c s. walked s (kinds.Str units) }
of_kind below (Kind-F.Interp parts) = unbuilt (λ mark c. whole_list (λ ns. kinds.Interp ns) parts (plain c))
of_kind below (Kind-F.ArrayLit items) = unbuilt (λ mark c. whole_list (λ ns. kinds.ArrayLit ns) items (plain c))
of_kind below (Kind-F.HashLit keys values) = unbuilt (λ mark c s. onto (λ r. kinds.HashLit r.0 r.1) (in_turn keys values (plain c) s))
of_kind below (Kind-F.RangeLit low high without_end) =
    unbuilt (λ mark c s. two (λ l h. kinds.RangeLit l h without_end) (low.walk (plain c)) (high.walk (plain c))
    (refuse_if (is_condition c.role) mark construct.FlipFlop s))
of_kind below (Kind-F.LocalGet name) = unbuilt (λ mark c s. walked (name_local name s) (kinds.LocalGet name))
of_kind below (Kind-F.IvarGet name) = nothing (kinds.IvarGet name)
of_kind below (Kind-F.GlobalGet name) = nothing (kinds.GlobalGet name)
of_kind below (Kind-F.ConstGet base name) = unbuilt (constant base name)
of_kind below (Kind-F.LocalSet name value) = unbuilt (λ mark c s. whole (λ n. kinds.LocalSet name n) value (plain c) (name_local name s))
of_kind below (Kind-F.IvarSet name value) = unbuilt (λ mark c. whole (λ n. kinds.IvarSet name n) value (plain c))
of_kind below (Kind-F.GlobalSet name value) = unbuilt (λ mark c. whole (λ n. kinds.GlobalSet name n) value (plain c))
of_kind below (Kind-F.ConstSet name value) =
    unbuilt (λ mark c s. whole (λ n. kinds.ConstSet name n) value (plain c) (refuse_if c.in_def mark construct.DynamicConstant s))
of_kind below (Kind-F.MultiSet targets value) =
    unbuilt (λ mark c. two (λ ts v. kinds.MultiSet ts v) (all targets (as_role role.Target c)) (value.walk (plain c)))
of_kind below (Kind-F.AttrSet receiver name args value) = unbuilt (λ mark. attr_set receiver name args value)
of_kind below (Kind-F.AttrOpSet receiver name args op value) = unbuilt (λ mark. attr_op_set receiver name args op value)
of_kind below (Kind-F.Call receiver name args block marked) =
    record { name = only_name receiver name args block; text = None; is_block = false; built = λ r. is_shown_text receiver name args block; walk = call below receiver name args block marked }
of_kind below (Kind-F.Super args block) = unbuilt (super args block)
of_kind below (Kind-F.Yield args) =
    unbuilt (λ mark c s. whole_list (λ ns. kinds.Yield ns) args (plain c) (refuse_if (not c.in_def) mark construct.JumpOutside s))
of_kind below (Kind-F.Block params body) = record { name = None; text = None; is_block = true; built = λ r. false; walk = block params body }
of_kind below (Kind-F.BlockPass value) = unbuilt (λ mark c. whole (λ n. kinds.BlockPass n) value (plain c))
of_kind below (Kind-F.Lambda params body) = unbuilt (lambda params body)
of_kind below (Kind-F.Splat value) = unbuilt (λ mark c. whole (λ n. kinds.Splat n) value (if is_target c.role then c else plain c))
of_kind below (Kind-F.Not value) = unbuilt (λ mark c. whole (λ n. kinds.Not n) value (if is_condition c.role then c else plain c))
of_kind below (Kind-F.And left right) = unbuilt (λ mark c. two (λ l r. kinds.And l r) (left.walk (plain c)) (right.walk (plain c)))
of_kind below (Kind-F.Or left right) = unbuilt (λ mark c. two (λ l r. kinds.Or l r) (left.walk (plain c)) (right.walk (plain c)))
of_kind below (Kind-F.If cond first second) = unbuilt (λ mark. conditional cond first second)
of_kind below (Kind-F.While cond body body_first) = unbuilt (λ mark. loop cond body body_first)
of_kind below (Kind-F.Case subject whens otherwise) = unbuilt (λ mark. case_of subject whens otherwise)
of_kind below (Kind-F.When tests body) =
    unbuilt (λ mark c. two (λ ts b. kinds.When ts b) (all tests (if is_condition c.role then c else plain c)) (body.walk (plain c)))
of_kind below (Kind-F.Begin body clauses else_part ensure_part) = unbuilt (λ mark. begin_with body clauses else_part ensure_part)
of_kind below (Kind-F.Rescue classes name body) = unbuilt (λ mark. rescue classes name body)
of_kind below Kind-F.Retry = unbuilt (λ mark c s. walked (refuse_if (not c.retries) mark construct.JumpOutside s) kinds.Retry)
of_kind below Kind-F.Reraise = nothing kinds.Reraise
of_kind below (Kind-F.Jump which value) =
    unbuilt (λ mark c s. whole (λ n. kinds.Jump which n) value (plain c) (refuse_if (not (has_target which c)) mark construct.JumpOutside s))
of_kind below (Kind-F.Def on name params body) = unbuilt (def on name params body)
of_kind below (Kind-F.ModuleDef form name body) = unbuilt (module_def form name body)
of_kind below (Kind-F.Alias new old) = nothing (kinds.Alias new old)
of_kind below (Kind-F.Undef names) = nothing (kinds.Undef names)
of_kind below (Kind-F.Seq items) =
    record { name = None; text = None; is_block = false; built = λ r. true; walk = λ mark c. whole_list (λ ns. kinds.Seq ns) items (plain c) }
of_kind below (Kind-F.Require name relative) = nothing (kinds.Require name relative)
of_kind below (Kind-F.Prim name args) = unbuilt (λ mark c. whole_list (λ ns. kinds.Prim name ns) args (plain c))

abbrev pub of_node : Node-F BasePart FormPart (Walk ModuleForm) Part (Pos → Walk Params) → Part
of_node n = record {
  from = n.span.from;
  text = n.kind.text;
  is_block = n.kind.is_block;
  walk = λ c s. onto (λ k. record { kind = k; span = n.span; mark = n.mark })
      (local_or (bare_local n.kind.name n.span s) (n.kind.walk n.mark c) (if n.kind.built c.role then s else unbuilt_at n.span.from s));
}

-- The same fold at each type of the tree. `below` says how many directories the file's one is below the base, where
-- that is asked.
unfoldable pub part : Option ℕ → Node → Part
part below = fold-Node BasePart FormPart (Walk ModuleForm) Part (Pos → Walk Params) of_base (of_kind below) of_form of_node of_params

unfoldable pub form_part : Option ℕ → Kind → FormPart
form_part below = fold-Kind BasePart FormPart (Walk ModuleForm) Part (Pos → Walk Params) of_base (of_kind below) of_form of_node of_params

unfoldable pub base_part : Option ℕ → Base → BasePart
base_part below = fold-Base BasePart FormPart (Walk ModuleForm) Part (Pos → Walk Params) of_base (of_kind below) of_form of_node of_params

unfoldable pub module_part : Option ℕ → ModuleForm → Walk ModuleForm
module_part below = fold-ModuleForm BasePart FormPart (Walk ModuleForm) Part (Pos → Walk Params) of_base (of_kind below) of_form of_node of_params

unfoldable pub params_part : Option ℕ → Params → Pos → Walk Params
params_part below = fold-Params BasePart FormPart (Walk ModuleForm) Part (Pos → Walk Params) of_base (of_kind below) of_form of_node of_params

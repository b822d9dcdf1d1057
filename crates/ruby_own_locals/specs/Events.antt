-- What a text says of its locals, in the order of the text: the parameters that a scope takes, the names that it sets, and
-- the scopes that begin in it.
use Rattle.std.specs.Prelude.{ℕ, zero, suc, Bool, true, false, if◌then◌else◌, List, [], ◌∷◌, ◌++◌, Option, Some, None, bytes_eq}
use Rattle.opal_base.specs.declared.place.Pos.{Pos}
use Rattle.ruby_meaning.specs.declared.tree.Base.{Base, out-Base}
use Rattle.ruby_meaning.specs.declared.tree.Base.TheOpen.{Base-F, Kind-F, ModuleForm-F, Params-F}
use Rattle.ruby_meaning.specs.declared.tree.Kind.{Kind, out-Kind}
use Rattle.ruby_meaning.specs.declared.tree.ModuleForm.{ModuleForm, out-ModuleForm}
use Rattle.ruby_meaning.specs.declared.tree.Node.{Node}
use Rattle.ruby_meaning.specs.declared.tree.Params.{Params, out-Params}
use Rattle.ruby_meaning.specs.declared.tree.Rest.{Rest}
use Rattle.ruby_meaning.specs.declared.tree.Rest.TheVariants as rest
use Rattle.ruby_meaning.specs.declared.tree.Slot.{Slot}
use Rattle.ruby_meaning.specs.declared.tree.Slot.TheVariants as slot
use Rattle.ruby_meaning.specs.Scoping.Names.{Name}
use Rattle.ruby_meaning.specs.Scoping.Seen.{stands_before}
use Rattle.ruby_evaluation.specs.Locals.{Declared, declared, declared_in_defaults, parameter_places, behind_all}
use Rattle.ruby_evaluation.specs.Calls.{own_of_method}
use Rattle.ruby_evaluation.specs.Calls as calls

pub data Events : Type 0 where
  end : Events
  -- what no text has: nodes below the depth that counts, and a local that nothing sets
  odd : Events
  takes : Name → Pos → Events → Events
  sets : Name → Pos → Events → Events
  -- a block or a lambda that begins there: what evaluation finds of its parameters and in its text, what its text says,
  -- and what follows it
  opens : Pos → Declared → Declared → Events → Events → Events
  -- the body of a method, a class or a module: what evaluation finds in it, what its text says, and what follows it
  apart : Declared → Events → Events → Events

abbrev pub chain : Events → Events → Events
chain end b = b
chain odd b = odd
chain (takes n p r) b = takes n p (chain r b)
chain (sets n p r) b = sets n p (chain r b)
chain (opens p ps ds inner r) b = opens p ps ds inner (chain r b)
chain (apart ds inner r) b = apart ds inner (chain r b)

-- What a node says as it stands and as a target; the local that it only reads, and the one that it sets.
pub record Read : Type 0 where
  pub events : Events
  pub targets : Events
  pub reads : Option Name
  pub sets : Option Name

abbrev pub only : Events → Read
only es = record { events = es; targets = es; reads = None; sets = None }

abbrev pub Reading : Type 0
Reading = Node → Read

abbrev pub all_of : Reading → List Node → Events
all_of f [] = end
all_of f (n ∷ ns) = chain (f n).events (all_of f ns)

abbrev pub all_targets : Reading → List Node → Events
all_targets f [] = end
all_targets f (n ∷ ns) = chain (f n).targets (all_targets f ns)

abbrev pub if_any : Reading → Option Node → Events
if_any f None = end
if_any f (Some n) = (f n).events

abbrev pub all_if_any : Reading → Option (List Node) → Events
all_if_any f None = end
all_if_any f (Some ns) = all_of f ns

-- keys and values in turn: there are as many
abbrev pub in_turn : Reading → List Node → List Node → Events
in_turn f [] [] = end
in_turn f [] (v ∷ vs) = odd
in_turn f (k ∷ ks) [] = odd
in_turn f (k ∷ ks) (v ∷ vs) = chain (f k).events (chain (f v).events (in_turn f ks vs))

-- a condition and what it guards, in the order of the text
abbrev pub guarded : Reading → Node → Node → Events
guarded f cond n =
    if stands_before n.span.from cond.span.from then chain (f n).events (f cond).events
    else chain (f cond).events (f n).events

abbrev pub guarded_two : Reading → Node → Node → Node → Events
guarded_two f cond a b =
    if stands_before a.span.from cond.span.from then chain (f a).events (guarded f cond b)
    else chain (f cond).events (chain (f a).events (f b).events)

abbrev pub branches : Reading → Node → Node → Node → Events
branches f cond a b = if stands_before b.span.from a.span.from then guarded_two f cond b a else guarded_two f cond a b

-- `x ||= v` is read as `x || x = v`
abbrev pub same_name : Option Name → Option Name → Bool
same_name None o = false
same_name (Some x) None = false
same_name (Some x) (Some y) = bytes_eq x y

abbrev pub joined : Read → Read → Events
joined a b = if same_name a.reads b.sets then b.events else chain a.events b.events

abbrev pub of_base : Reading → Base-F Base Kind ModuleForm Node Params → Events
of_base f Base-F.Here = end
of_base f Base-F.Top = end
of_base f (Base-F.In node) = (f node).events

abbrev pub of_form : Reading → ModuleForm-F Base Kind ModuleForm Node Params → Events
of_form f (ModuleForm-F.Class superclass) = if_any f superclass
of_form f ModuleForm-F.Module = end
of_form f (ModuleForm-F.Singleton node) = (f node).events

-- ---- parameters, at the places that evaluation gives them

abbrev pub names_at : Pos → List Name → Events
names_at p [] = end
names_at p (n ∷ ns) = takes n p (names_at p ns)

abbrev pub slot_at : Pos → Slot → Events
slot_at p (slot.Name name) = takes name p end
slot_at p (slot.Names names) = names_at p names

abbrev pub slots_at : Pos → List Slot → Events
slots_at p [] = end
slots_at p (x ∷ xs) = chain (slot_at p x) (slots_at p xs)

abbrev pub rest_at : Pos → Rest → Events
rest_at p rest.None = end
rest_at p rest.Unnamed = end
rest_at p (rest.Named name) = takes name p end

abbrev pub name_at : Pos → Option Name → Events
name_at p None = end
name_at p (Some name) = takes name p end

abbrev pub defaults_at : Reading → Pos → List Name → List Node → Events
defaults_at f p ns [] = names_at p ns
defaults_at f p [] (d ∷ ds) = chain (f d).events (defaults_at f p [] ds)
defaults_at f p (n ∷ ns) (d ∷ ds) = takes n p (chain (f d).events (defaults_at f d.span.to ns ds))

abbrev pub of_params : Reading → Pos → Params-F Base Kind ModuleForm Node Params → Events
of_params f p x =
    let q = behind_all p x.defaults in
    chain (chain (slots_at p x.plain) (defaults_at f p x.optional x.defaults))
    (chain (chain (rest_at q x.rest) (slots_at q x.after)) (name_at q x.block))

-- ---- nodes

abbrev pub is_alone : Option Node → List Node → Option Node → Bool
is_alone None [] None = true
is_alone receiver args block = false

abbrev pub set_at : Pos → Option Name → Events
set_at p None = end
set_at p (Some name) = sets name p end

abbrev pub in_block : Reading → Pos → Params → Node → Events
in_block f start params n =
    opens start (parameter_places start params) (declared_in_defaults params ++ declared n) (chain (of_params f start (out-Params params)) (f n).events) end

abbrev pub in_method : Reading → Params → Node → Events
in_method f params n = apart (own_of_method params n) (chain (of_params f calls.start (out-Params params)) (f n).events) end

-- The node starts at the first place and is marked at the second. `stray` is said of a local that is read: in a program as it
-- was parsed no node reads one by itself.
abbrev pub of_kind : Events → Reading → Kind-F Base Kind ModuleForm Node Params → Pos → Pos → Read
of_kind stray f (Kind-F.Lit which) start mark = only end
of_kind stray f Kind-F.SelfRef start mark = only end
of_kind stray f (Kind-F.Int n) start mark = only end
of_kind stray f (Kind-F.Str units) start mark = only end
of_kind stray f (Kind-F.Interp parts) start mark = only (all_of f parts)
of_kind stray f (Kind-F.ArrayLit items) start mark = only (all_of f items)
of_kind stray f (Kind-F.HashLit keys values) start mark = only (in_turn f keys values)
of_kind stray f (Kind-F.RangeLit low high without_end) start mark = only (chain (f low).events (f high).events)
of_kind stray f (Kind-F.LocalGet name) start mark = record { events = stray; targets = sets name mark end; reads = Some name; sets = None }
of_kind stray f (Kind-F.IvarGet name) start mark = only end
of_kind stray f (Kind-F.GlobalGet name) start mark = only end
of_kind stray f (Kind-F.ConstGet base name) start mark = only (of_base f (out-Base base))
of_kind stray f (Kind-F.LocalSet name v) start mark =
    record { events = sets name mark (f v).events; targets = sets name mark (f v).events; reads = None; sets = Some name }
of_kind stray f (Kind-F.IvarSet name v) start mark = only (f v).events
of_kind stray f (Kind-F.GlobalSet name v) start mark = only (f v).events
of_kind stray f (Kind-F.ConstSet name v) start mark = only (f v).events
of_kind stray f (Kind-F.MultiSet targets v) start mark = only (chain (all_targets f targets) (f v).events)
of_kind stray f (Kind-F.AttrSet receiver name args v) start mark = only (chain (chain (f receiver).events (all_of f args)) (f v).events)
of_kind stray f (Kind-F.AttrOpSet receiver name args op v) start mark = only (chain (chain (f receiver).events (all_of f args)) (f v).events)
-- a name alone is no target
of_kind stray f (Kind-F.Call receiver name args block marked) start mark =
    let es = chain (chain (if_any f receiver) (all_of f args)) (if_any f block) in
    record { events = es; targets = if is_alone receiver args block then odd else es; reads = None; sets = None }
of_kind stray f (Kind-F.Super args block) start mark = only (chain (all_if_any f args) (if_any f block))
of_kind stray f (Kind-F.Yield args) start mark = only (all_of f args)
of_kind stray f (Kind-F.Block params n) start mark = only (in_block f start params n)
of_kind stray f (Kind-F.BlockPass v) start mark = only (f v).events
of_kind stray f (Kind-F.Lambda params n) start mark = only (in_block f start params n)
of_kind stray f (Kind-F.Splat v) start mark = record { events = (f v).events; targets = (f v).targets; reads = None; sets = None }
of_kind stray f (Kind-F.Not v) start mark = only (f v).events
of_kind stray f (Kind-F.And left right) start mark = only (joined (f left) (f right))
of_kind stray f (Kind-F.Or left right) start mark = only (joined (f left) (f right))
of_kind stray f (Kind-F.If cond first second) start mark = only (branches f cond first second)
of_kind stray f (Kind-F.While cond n body_first) start mark = only (guarded f cond n)
of_kind stray f (Kind-F.Case subject whens otherwise) start mark = only (chain (chain (if_any f subject) (all_of f whens)) (f otherwise).events)
of_kind stray f (Kind-F.When tests n) start mark = only (chain (all_of f tests) (f n).events)
of_kind stray f (Kind-F.Begin n clauses else_part ensure_part) start mark =
    only (chain (chain (chain (f n).events (all_of f clauses)) (if_any f else_part)) (if_any f ensure_part))
of_kind stray f (Kind-F.Rescue classes name n) start mark = only (chain (chain (all_of f classes) (set_at mark name)) (f n).events)
of_kind stray f Kind-F.Retry start mark = only end
of_kind stray f Kind-F.Reraise start mark = only end
of_kind stray f (Kind-F.Jump which v) start mark = only (f v).events
of_kind stray f (Kind-F.Def on name params n) start mark = only (chain (if_any f on) (in_method f params n))
of_kind stray f (Kind-F.ModuleDef form name n) start mark = only (chain (of_form f (out-ModuleForm form)) (apart (declared n) (f n).events end))
of_kind stray f (Kind-F.Alias new old) start mark = only end
of_kind stray f (Kind-F.Undef names) start mark = only end
of_kind stray f (Kind-F.Seq items) start mark = only (all_of f items)
of_kind stray f (Kind-F.Require name relative) start mark = only end
of_kind stray f (Kind-F.Prim name args) start mark = only (all_of f args)

-- to a depth
abbrev pub read : Events → ℕ → Reading
read stray zero node = only odd
read stray (suc d) node = of_kind stray (read stray d) (out-Kind node.kind) node.span.from node.mark

-- A symbolic executor: what is to be shown of code in one function, as a type that computes.
use Rattle.std.proofs.Common.{codes, nat_eq, nat_lt, slice_get, slice_index, slice_range, nat_le, ◌≡◌, ◌≢◌, ℕ, zero, suc, ◌+◌, ◌<◌, Bool, true, false, ◌||◌, ◌&&◌, not, if◌then◌else◌, List, [], ◌∷◌, ◌++◌, length, map, Option, Some, None, bytes_eq, ℤ, pos, neg_ℤ, ◌+ℤ◌, ◌-ℤ◌, ◌*ℤ◌, int_le, int_div, int_rem}
use Rattle.opal_base.specs.declared.place.Pos.{Pos}
use Rattle.opal_base.specs.Shown.{HostCall, Wrote}
use Rattle.es5_tree.specs.declared.tree.Catch.{Catch}
use Rattle.es5_tree.specs.declared.tree.EsExpr.{EsExpr}
use Rattle.es5_tree.specs.declared.tree.EsStmt.{EsStmt, out-EsStmt}
use Rattle.es5_tree.specs.declared.tree.EsKind.TheOpen.{EsKind-F, EsStmt-F}
use Rattle.es5_tree.specs.declared.tree.Operator.{Operator}
use Rattle.es5_tree.specs.declared.tree.Operator.TheVariants as operator
use Rattle.es5_tree.specs.Values.{Text, Val, Undefined, Null, Truth, Num, Str, Obj, find_own}
use Rattle.es5_tree.specs.Ends.{Number}
use Rattle.es5_tree.specs.Objects.Names.{decimal, index_end, is_length, length_name}
use Rattle.es5_tree.specs.Objects.Cells.{Kind, Cell, Object, Array, Arguments, Function, Host, Record, is_array, new_cell, own, with_property}
use Rattle.es5_tree.specs.Objects.Links.{cell_at, get, in_chain, link_at}
use Rattle.es5_tree.specs.Intrinsics.Lines.{Reading}
use Rattle.es5_tree.specs.Intrinsics.Made.{array_prototype, object_prototype, function_prototype, number_prototype, text_prototype, truth_prototype}
use Rattle.es5_tree.specs.Intrinsics.Calls.{HostFn}
use Rattle.es5_tree.specs.Intrinsics.Calls as call
use Rattle.es5_tree.specs.Intrinsics.Rows.{array_of, link_of, link_value}
use Rattle.es5_evaluation.specs.State.{Code, Activation, State, record_at, set_record}
use Rattle.es5_evaluation.specs.Task.{Place, Variable, Property, Normal, Refers, Return, Throw, Break, Continue, Scope, Request, Evaluate, Refer, Execute}
use Rattle.es5_evaluation.specs.Values.{Result, Is, Out, largest, truthy, numeral, key_of, type_name, kind_name, negated, binary, is_zero}
use Rattle.es5_evaluation.specs.Evaluate.{Layer, Statement, layer, invoke, error_object, exec_node, host_functions, with_properties, this_of, caught_by}
use Rattle.es5_executor.specs.Runs.{End, Gave, Outside, TakesSeen}
use Rattle.es5_executor.specs.Memory.{Heap, Records, Frame, has, write, erase, relink, Misses, listed, plain, assign, Outer, IsOuter}
use Rattle.es5_executor.proofs.Memory.{clash}

-- ---- what is known of objects

pub data Fact : Type 0 where
  -- an own property
  Own : ℕ → Text → Val → Fact
  -- a property along the links
  Seen : ℕ → Text → Val → Fact
  -- an object without this own property
  Lacks : ℕ → Text → Fact
  -- an object without this property along the links
  Absent : ℕ → Text → Fact
  -- an object whose own properties have these names at most, beside the length of an array
  Names : ℕ → List Text → Fact
  -- an object with a link, or none
  Link : ℕ → Option ℕ → Fact
  -- an object of a kind
  IsKind : ℕ → Kind → Fact
  -- what is known no more
  Gone : Fact

-- it has no own properties of other names
abbrev pub OnlyNames : Heap → ℕ → List Text → Type 0
OnlyNames h a ns = (n : Text) → listed ns n ≡ false → is_length n ≡ false → has h a n ≡ None

abbrev pub FactIs : Heap → Fact → Type 0
FactIs h (Own a n v) = has h a n ≡ Some v
FactIs h (Seen a n v) = get h a n ≡ Some v
FactIs h (Lacks a n) = (has h a n ≡ None) × (a < length h)
FactIs h (Absent a n) = Misses h a n
FactIs h (Names a ns) = OnlyNames h a ns × (a < length h)
FactIs h (Link a l) = (link_at h a ≡ l) × (a < length h)
FactIs h (IsKind a k) = ((cell_at h a).kind ≡ k) × (a < length h)
FactIs h Gone = Unit {0}

abbrev pub Facts : Heap → List Fact → Type 0
Facts h [] = Unit {0}
Facts h (k ∷ ks) = FactIs h k × Facts h ks

abbrev pub Outers : Records → ℕ → List Outer → Type 0
Outers R o [] = Unit {0}
Outers R o (u ∷ us) = IsOuter R o u × Outers R o us

-- none of the outer variables stands in this record
abbrev pub Away : ℕ → List Outer → Type 0
Away r [] = Unit {0}
Away r (u ∷ us) = (u.at ≢ r) × Away r us

unfoldable pub fact_at : List Fact → ℕ → Option Fact
fact_at [] i = None
fact_at (k ∷ ks) zero = Some k
fact_at (k ∷ ks) (suc i) = fact_at ks i

unfoldable pub outer_at : List Outer → Text → Option Outer
outer_at [] x = None
outer_at (u ∷ us) x = if bytes_eq u.name x then Some u else outer_at us x

-- the outer variables after a write to one
unfoldable pub rewritten : List Outer → Text → Val → List Outer
rewritten [] x v = []
rewritten (u ∷ us) x v = (if bytes_eq u.name x then record u { val = v } else u) ∷ rewritten us x v

-- the outer variables with other values
unfoldable pub revalued : List Outer → List Val → List Outer
revalued [] vs = []
revalued (u ∷ us) [] = []
revalued (u ∷ us) (v ∷ vs) = record u { val = v } ∷ revalued us vs

-- ---- what a change of an object owes, and what it leaves of the facts

-- where the names can't be told apart, the objects must be
unfoldable pub Unless : Bool → Type 0 → Type 0
Unless true P = P
Unless false P = Unit {0}

unfoldable pub unless : Bool → Fact → Fact
unless true k = Gone
unless false k = k

-- the i-th fact is the one that is hit
unfoldable pub Changes : (Fact → Type 0) → (Fact → Fact) → (Fact → Type 0) → (Fact → Fact) → ℕ → List Fact → (List Fact → Type 0) → Type 0
Changes H f O g i [] F = F []
Changes H f O g zero (k ∷ ks) F = H k × Changes H f O g (length ks) ks (λ l. F (f k ∷ l))
Changes H f O g (suc i) (k ∷ ks) F = O k × Changes H f O g i ks (λ l. F (g k ∷ l))

-- a write hits a fact of this property, or one of this object
unfoldable pub Hit : Fact → ℕ → Text → Type 0
Hit (Own b n v) a m = (a ≡ b) × (m ≡ n)
Hit (Seen b n v) a m = ⊥
Hit (Lacks b n) a m = (a ≡ b) × (m ≡ n)
Hit (Absent b n) a m = ⊥
Hit (Names b ns) a m = a ≡ b
Hit (Link b l) a m = a ≡ b
Hit (IsKind b k) a m = a ≡ b
Hit Gone a m = ⊥

unfoldable pub hit : Fact → Text → Val → Fact
hit (Own b n w) m v = Own b n v
hit (Seen b n w) m v = Gone
hit (Lacks b n) m v = Own b n v
hit (Absent b n) m v = Gone
hit (Names b ns) m v = Names b (m ∷ ns)
hit (Link b l) m v = Link b l
hit (IsKind b k) m v = IsKind b k
hit Gone m v = Gone

-- where one of the object was hit, there is one more
unfoldable pub added : Option Fact → Text → Val → List Fact
added None m v = []
added (Some (Own b n w)) m v = []
added (Some (Seen b n w)) m v = []
added (Some (Lacks b n)) m v = []
added (Some (Absent b n)) m v = []
added (Some (Names b ns)) m v = Own b m v ∷ []
added (Some (Link b l)) m v = Own b m v ∷ []
added (Some (IsKind b k)) m v = Own b m v ∷ []
added (Some Gone) m v = []

unfoldable pub Kept : Fact → ℕ → Text → Type 0
Kept (Own b n v) a m = Unless (clash m n) (a ≢ b)
Kept (Seen b n v) a m = Unit {0}
Kept (Lacks b n) a m = Unless (clash m n) (a ≢ b)
Kept (Absent b n) a m = Unit {0}
Kept (Names b ns) a m = Unit {0}
Kept (Link b l) a m = Unit {0}
Kept (IsKind b k) a m = Unit {0}
Kept Gone a m = Unit {0}

unfoldable pub kept : Fact → Text → Fact
kept (Own b n v) m = Own b n v
kept (Seen b n v) m = unless (clash m n) (Seen b n v)
kept (Lacks b n) m = Lacks b n
kept (Absent b n) m = unless (clash m n) (Absent b n)
kept (Names b ns) m = Names b (m ∷ ns)
kept (Link b l) m = Link b l
kept (IsKind b k) m = IsKind b k
kept Gone m = Gone

-- a deletion hits a fact of this property
unfoldable pub Cut : Fact → ℕ → Text → Type 0
Cut (Own b n v) a m = (a ≡ b) × (m ≡ n)
Cut (Seen b n v) a m = ⊥
Cut (Lacks b n) a m = (a ≡ b) × (m ≡ n)
Cut (Absent b n) a m = ⊥
Cut (Names b ns) a m = ⊥
Cut (Link b l) a m = ⊥
Cut (IsKind b k) a m = ⊥
Cut Gone a m = ⊥

unfoldable pub cut : Fact → Fact
cut (Own b n w) = Lacks b n
cut (Seen b n w) = Gone
cut (Lacks b n) = Lacks b n
cut (Absent b n) = Absent b n
cut (Names b ns) = Names b ns
cut (Link b l) = Link b l
cut (IsKind b k) = IsKind b k
cut Gone = Gone

unfoldable pub Spared : Fact → ℕ → Text → Type 0
Spared (Own b n v) a m = Unless (bytes_eq m n) (a ≢ b)
Spared (Seen b n v) a m = Unit {0}
Spared (Lacks b n) a m = Unit {0}
Spared (Absent b n) a m = Unit {0}
Spared (Names b ns) a m = Unit {0}
Spared (Link b l) a m = Unit {0}
Spared (IsKind b k) a m = Unit {0}
Spared Gone a m = Unit {0}

unfoldable pub spared : Fact → Text → Fact
spared (Own b n v) m = Own b n v
spared (Seen b n v) m = unless (bytes_eq m n) (Seen b n v)
spared (Lacks b n) m = Lacks b n
spared (Absent b n) m = Absent b n
spared (Names b ns) m = Names b ns
spared (Link b l) m = Link b l
spared (IsKind b k) m = IsKind b k
spared Gone m = Gone

-- a new link hits the fact of the link; what is known of properties along links is known no more
unfoldable pub Linked : Fact → ℕ → Type 0
Linked (Own b n v) a = ⊥
Linked (Seen b n v) a = ⊥
Linked (Lacks b n) a = ⊥
Linked (Absent b n) a = ⊥
Linked (Names b ns) a = ⊥
Linked (Link b l) a = a ≡ b
Linked (IsKind b k) a = ⊥
Linked Gone a = ⊥

unfoldable pub linked : Fact → Option ℕ → Fact
linked (Own b n v) l = Own b n v
linked (Seen b n v) l = Gone
linked (Lacks b n) l = Lacks b n
linked (Absent b n) l = Gone
linked (Names b ns) l = Names b ns
linked (Link b k) l = Link b l
linked (IsKind b k) l = IsKind b k
linked Gone l = Gone

unfoldable pub Unlinked : Fact → ℕ → Type 0
Unlinked (Own b n v) a = Unit {0}
Unlinked (Seen b n v) a = Unit {0}
Unlinked (Lacks b n) a = Unit {0}
Unlinked (Absent b n) a = Unit {0}
Unlinked (Names b ns) a = Unit {0}
Unlinked (Link b l) a = a ≢ b
Unlinked (IsKind b k) a = Unit {0}
Unlinked Gone a = Unit {0}

unfoldable pub unlinked : Fact → Fact
unlinked (Own b n v) = Own b n v
unlinked (Seen b n v) = Gone
unlinked (Lacks b n) = Lacks b n
unlinked (Absent b n) = Gone
unlinked (Names b ns) = Names b ns
unlinked (Link b l) = Link b l
unlinked (IsKind b k) = IsKind b k
unlinked Gone = Gone

-- the length of a new array
unfoldable pub lengths : Bool → ℕ → ℕ → List Fact
lengths true a n = Own a length_name (Num (pos n)) ∷ []
lengths false a n = []

-- the facts of a new object
unfoldable pub news : ℕ → Cell → List (Text × Val) → List Fact
news a c [] = IsKind a c.kind ∷ Link a c.link ∷ Names a (map (λ p. p.0) c.properties) ∷ lengths (is_array c.kind) a c.array_length
news a c (p ∷ ps) = elim (own c p.0) [ Some v ↦ Own a p.0 v ∷ news a c ps | None ↦ news a c ps ]

-- ---- the parts of a state that the executor carries

pub record Rest : Type 0 where
  pub codes : List Code
  pub lines : Reading
  pub calls : List HostCall
  -- the states in which the host was called
  pub seen : List State

-- what a call or a loop is known to do
pub record Run : Type 0 where
  pub units : ℕ
  pub end : End
  pub heap : Heap
  pub records : Records
  pub frame : Frame
  pub facts : List Fact
  pub values : List Val
  pub rest : Rest
  pub seen : List State

-- the rest behind it
abbrev pub rest_after : Rest → Run → Rest
rest_after w c = record { codes = c.rest.codes; lines = c.rest.lines; calls = c.rest.calls; seen = w.seen ++ c.seen }

-- what is known of the next call or loop: its run, or, of a call of an intrinsic function, the fact with the callee's kind
pub data Known : Type 0 where
  ByRun : Run → Known
  ByRow : ℕ → Known

-- what is to be shown at a place: hints, known calls and loops, objects, records, own variables, what is known, the rest, and the units so far
abbrev pub Here : Type 1
Here = List ℕ → List Known → Heap → Records → Frame → List Fact → List Outer → Rest → ℕ → Type 0

abbrev pub Cont : Type 1
Cont = End → Here

-- an expression for its value or for its place, or a statement
pub data Node : Type 0 where
  Ev : EsExpr → Node
  Rf : EsExpr → Node
  Do : EsStmt → Node

abbrev pub Nodes : Type 1
Nodes = Node → Cont → Here

unfoldable pub No : Here
No hs cs h R ps ks fs w n = ⊥

unfoldable pub on : (Val → Here) → Cont → Cont
on f K (Gave (Normal v)) = f v
on f K (Gave (Refers p)) = K (Gave (Refers p))
on f K (Gave (Return v)) = K (Gave (Return v))
on f K (Gave (Throw v)) = K (Gave (Throw v))
on f K (Gave Break) = K (Gave Break)
on f K (Gave Continue) = K (Gave Continue)
on f K (Outside o p) = K (Outside o p)

unfoldable pub on_place : (Place → Here) → (Val → Here) → Cont → Cont
on_place g f K (Gave (Normal v)) = f v
on_place g f K (Gave (Refers p)) = g p
on_place g f K (Gave (Return v)) = K (Gave (Return v))
on_place g f K (Gave (Throw v)) = K (Gave (Throw v))
on_place g f K (Gave Break) = K (Gave Break)
on_place g f K (Gave Continue) = K (Gave Continue)
on_place g f K (Outside o p) = K (Outside o p)

-- ---- reads

-- the next hint
unfoldable pub Hinted : (ℕ → Here) → Here
Hinted F [] cs h R ps ks fs w n = ⊥
Hinted F (i ∷ hs) cs h R ps ks fs w n = F i hs cs h R ps ks fs w n

unfoldable pub Choice : ℕ → Bool → Here → Here → Here
Choice zero b F G hs cs h R ps ks fs w n = (b ≡ false) × G hs cs h R ps ks fs w n
Choice (suc i) b F G hs cs h R ps ks fs w n = (b ≡ true) × F hs cs h R ps ks fs w n

-- a test: by hint 0 it fails, by hint 1 it holds
unfoldable pub Test : Bool → Here → Here → Here
Test b F G = Hinted (λ i. Choice i b F G)

unfoldable pub VarIs : Option Val → Option Outer → (Val → Here) → Here
VarIs (Some v) u F hs cs h R ps ks fs w n = F v hs cs h R ps ks fs w n
VarIs None None F hs cs h R ps ks fs w n = ⊥
VarIs None (Some u) F hs cs h R ps ks fs w n = F u.val hs cs h R ps ks fs w n

unfoldable pub var : Text → Cont → Here
var x K hs cs h R ps ks fs w n = VarIs (find_own ps x) (outer_at fs x) (λ v. K (Gave (Normal v))) hs cs h R ps ks fs w n

unfoldable pub SetIs : Text → Val → Option Val → Option Outer → Here → Here
SetIs x v (Some v') u F hs cs h R ps ks fs w n = F hs cs h R (with_property ps x v) ks fs w n
SetIs x v None None F hs cs h R ps ks fs w n = ⊥
SetIs x v None (Some u) F hs cs h R ps ks fs w n = (u.free ≡ true) × F hs cs h (assign R u.at x v) ps ks (rewritten fs x v) w n

unfoldable pub set_var : Text → Val → Cont → Here
set_var x v K hs cs h R ps ks fs w n = SetIs x v (find_own ps x) (outer_at fs x) (K (Gave (Normal v))) hs cs h R ps ks fs w n

-- the object b misses this property
unfoldable pub AbsentAt : Option Fact → ℕ → Text → Here → Here
AbsentAt None b m F hs cs h R ps ks fs w n = ⊥
AbsentAt (Some (Own c k v)) b m F hs cs h R ps ks fs w n = ⊥
AbsentAt (Some (Seen c k v)) b m F hs cs h R ps ks fs w n = ⊥
AbsentAt (Some (Lacks c k)) b m F hs cs h R ps ks fs w n = ⊥
AbsentAt (Some (Absent c k)) b m F hs cs h R ps ks fs w n = (b ≡ c) × (m ≡ k) × F hs cs h R ps ks fs w n
AbsentAt (Some (Names c ns)) b m F hs cs h R ps ks fs w n = ⊥
AbsentAt (Some (Link c l)) b m F hs cs h R ps ks fs w n = ⊥
AbsentAt (Some (IsKind c k)) b m F hs cs h R ps ks fs w n = ⊥
AbsentAt (Some Gone) b m F hs cs h R ps ks fs w n = ⊥

unfoldable pub absent_by : ℕ → ℕ → Text → Here → Here
absent_by i b m F hs cs h R ps ks fs w n = AbsentAt (fact_at ks i) b m F hs cs h R ps ks fs w n

-- behind an object that lacks a property: it has no link, or the object of its link misses it
unfoldable pub behind : Option ℕ → Text → Here → Here
behind None m F = F
behind (Some b) m F = Hinted (λ i. absent_by i b m F)

unfoldable pub LinkAt : Option Fact → ℕ → (Option ℕ → Here) → Here
LinkAt None a F hs cs h R ps ks fs w n = ⊥
LinkAt (Some (Own b k v)) a F hs cs h R ps ks fs w n = ⊥
LinkAt (Some (Seen b k v)) a F hs cs h R ps ks fs w n = ⊥
LinkAt (Some (Lacks b k)) a F hs cs h R ps ks fs w n = ⊥
LinkAt (Some (Absent b k)) a F hs cs h R ps ks fs w n = ⊥
LinkAt (Some (Names b ns)) a F hs cs h R ps ks fs w n = ⊥
LinkAt (Some (Link b l)) a F hs cs h R ps ks fs w n = (a ≡ b) × F l hs cs h R ps ks fs w n
LinkAt (Some (IsKind b k)) a F hs cs h R ps ks fs w n = ⊥
LinkAt (Some Gone) a F hs cs h R ps ks fs w n = ⊥

unfoldable pub link_by : ℕ → ℕ → (Option ℕ → Here) → Here
link_by i a F hs cs h R ps ks fs w n = LinkAt (fact_at ks i) a F hs cs h R ps ks fs w n

unfoldable pub SeenAt : Option Fact → ℕ → Text → (Val → Here) → Here
SeenAt None a m F hs cs h R ps ks fs w n = ⊥
SeenAt (Some (Own b k v)) a m F hs cs h R ps ks fs w n = (a ≡ b) × (m ≡ k) × F v hs cs h R ps ks fs w n
SeenAt (Some (Seen b k v)) a m F hs cs h R ps ks fs w n = (a ≡ b) × (m ≡ k) × F v hs cs h R ps ks fs w n
SeenAt (Some (Lacks b k)) a m F hs cs h R ps ks fs w n = (a ≡ b) × (m ≡ k) × Hinted (λ i. link_by i a (λ l. behind l m (F Undefined))) hs cs h R ps ks fs w n
SeenAt (Some (Absent b k)) a m F hs cs h R ps ks fs w n = (a ≡ b) × (m ≡ k) × F Undefined hs cs h R ps ks fs w n
SeenAt (Some (Names b ns)) a m F hs cs h R ps ks fs w n = (a ≡ b) × (listed ns m ≡ false) × (is_length m ≡ false) × Hinted (λ i. link_by i a (λ l. behind l m (F Undefined))) hs cs h R ps ks fs w n
SeenAt (Some (Link b l)) a m F hs cs h R ps ks fs w n = ⊥
SeenAt (Some (IsKind b k)) a m F hs cs h R ps ks fs w n = ⊥
SeenAt (Some Gone) a m F hs cs h R ps ks fs w n = ⊥

unfoldable pub seen_by : ℕ → ℕ → Text → (Val → Here) → Here
seen_by i a m F hs cs h R ps ks fs w n = SeenAt (fact_at ks i) a m F hs cs h R ps ks fs w n

-- whether there is an own property
unfoldable pub OwnsAt : Option Fact → ℕ → Text → (Bool → Here) → Here
OwnsAt None a m F hs cs h R ps ks fs w n = ⊥
OwnsAt (Some (Own b k v)) a m F hs cs h R ps ks fs w n = (a ≡ b) × (m ≡ k) × F true hs cs h R ps ks fs w n
OwnsAt (Some (Seen b k v)) a m F hs cs h R ps ks fs w n = ⊥
OwnsAt (Some (Lacks b k)) a m F hs cs h R ps ks fs w n = (a ≡ b) × (m ≡ k) × F false hs cs h R ps ks fs w n
OwnsAt (Some (Absent b k)) a m F hs cs h R ps ks fs w n = (a ≡ b) × (m ≡ k) × F false hs cs h R ps ks fs w n
OwnsAt (Some (Names b ns)) a m F hs cs h R ps ks fs w n = (a ≡ b) × (listed ns m ≡ false) × (is_length m ≡ false) × F false hs cs h R ps ks fs w n
OwnsAt (Some (Link b l)) a m F hs cs h R ps ks fs w n = ⊥
OwnsAt (Some (IsKind b k)) a m F hs cs h R ps ks fs w n = ⊥
OwnsAt (Some Gone) a m F hs cs h R ps ks fs w n = ⊥

unfoldable pub owns_by : ℕ → ℕ → Text → (Bool → Here) → Here
owns_by i a m F hs cs h R ps ks fs w n = OwnsAt (fact_at ks i) a m F hs cs h R ps ks fs w n

-- ---- new objects, and errors of the machine

unfoldable pub makes : Cell → (Val → End) → Cont → Here
makes c e K hs cs h R ps ks fs w n = K (e (Obj (length h))) hs cs (h ++ c ∷ []) R ps (ks ++ news (length h) c c.properties) fs w n

unfoldable pub make : Cell → Cont → Here
make c K = makes c (λ v. Gave (Normal v)) K

-- the elements of a new array
unfoldable pub items : ℕ → ℕ → List Val → List Fact
items a i [] = []
items a i (v ∷ vs) = Own a (decimal i) v ∷ items a (i + 1) vs

-- the facts of a new array of values
unfoldable pub listing : ℕ → List Val → List Fact
listing a vs = IsKind a Array ∷ Link a (Some array_prototype) ∷ lengths (nat_le (length vs) index_end) a (length vs)

unfoldable pub arrayed : List Val → Cont → Here
arrayed vs K hs cs h R ps ks fs w n = K (Gave (Normal (Obj (length h)))) hs cs (h ++ array_of (map (λ v. Some v) vs) ∷ []) R ps (ks ++ (items (length h) 0 vs ++ listing (length h) vs)) fs w n

-- a TypeError is thrown
unfoldable pub raised : Text → Cont → Here
raised message K = makes (error_object (codes "TypeError") message) (λ v. Gave (Throw v)) K

unfoldable pub Pick : Bool → Here → Here → Here
Pick true F G = F
Pick false F G = G

-- a name that begins with no digit
unfoldable pub NoIndex : Text → Here → Here
NoIndex m F hs cs h R ps ks fs w n = (plain m ≡ true) × F hs cs h R ps ks fs w n

-- a property of an object by the fact that the hint names; the length of a text needs none, and its methods stand along its prototype
unfoldable pub prop : Val → Text → Cont → Here
prop Undefined m K = raised (codes "no properties") K
prop Null m K = raised (codes "no properties") K
prop (Truth b) m K = Hinted (λ i. seen_by i truth_prototype m (λ v. K (Gave (Normal v))))
prop (Num z) m K = Hinted (λ i. seen_by i number_prototype m (λ v. K (Gave (Normal v))))
prop (Str t) m K = Pick (is_length m) (K (Gave (Normal (Num (pos (length t)))))) (NoIndex m (Hinted (λ i. seen_by i text_prototype m (λ v. K (Gave (Normal v))))))
prop (Obj a) m K = Hinted (λ i. seen_by i a m (λ v. K (Gave (Normal v))))

unfoldable pub placed : Val → Text → Cont → Here
placed Undefined m K = raised (codes "no properties") K
placed Null m K = raised (codes "no properties") K
placed (Truth b) m K = K (Gave (Refers (Property (Truth b) m)))
placed (Num z) m K = K (Gave (Refers (Property (Num z) m)))
placed (Str t) m K = K (Gave (Refers (Property (Str t) m)))
placed (Obj a) m K = K (Gave (Refers (Property (Obj a) m)))

unfoldable pub named : Option Text → (Text → Here) → Here
named None F = No
named (Some m) F = F m

unfoldable pub put_at : ℕ → ℕ → Text → Val → Here → Here
put_at i a m v F hs cs h R ps ks fs w n = (is_length m ≡ false) × Changes (λ k. Hit k a m) (λ k. hit k m v) (λ k. Kept k a m) (λ k. kept k m) i ks (λ l. F hs cs (write h a m v) R ps (l ++ added (fact_at ks i) m v) fs w n)

unfoldable pub set_prop : Val → Text → Val → Cont → Here
set_prop (Obj a) m v K = Hinted (λ i. put_at i a m v (K (Gave (Normal v))))
set_prop Undefined m v K = raised (codes "not writable") K
set_prop Null m v K = raised (codes "not writable") K
set_prop (Truth b) m v K = raised (codes "not writable") K
set_prop (Num z) m v K = raised (codes "not writable") K
set_prop (Str t) m v K = raised (codes "not writable") K

unfoldable pub cut_at : ℕ → ℕ → Text → Here → Here
cut_at i a m F hs cs h R ps ks fs w n = (is_length m ≡ false) × Changes (λ k. Cut k a m) cut (λ k. Spared k a m) (λ k. spared k m) i ks (λ l. F hs cs (erase h a m) R ps l fs w n)

-- by the fact that the hint names
unfoldable pub cut_prop : Val → Text → Cont → Here
cut_prop (Obj a) m K = Hinted (λ i. cut_at i a m (K (Gave (Normal (Truth true)))))
cut_prop Undefined m K = raised (codes "not deletable") K
cut_prop Null m K = raised (codes "not deletable") K
cut_prop (Truth b) m K = raised (codes "not deletable") K
cut_prop (Num z) m K = raised (codes "not deletable") K
cut_prop (Str t) m K = raised (codes "not deletable") K

unfoldable pub link_at_by : ℕ → ℕ → Option ℕ → Here → Here
link_at_by i a l F hs cs h R ps ks fs w n = (in_chain h a l ≡ false) × Changes (λ k. Linked k a) (λ k. linked k l) (λ k. Unlinked k a) unlinked i ks (λ g. F hs cs (relink h a l) R ps g fs w n)

unfoldable pub read : Place → Cont → Here
read (Variable x) K = var x K
read (Property v m) K = prop v m K

unfoldable pub set : Place → Val → Cont → Here
set (Variable x) v K = set_var x v K
set (Property b m) v K = set_prop b m v K

unfoldable pub removed : Place → Cont → Here
removed (Variable x) K = K (Gave (Normal (Truth true)))
removed (Property b m) K = cut_prop b m K

-- ---- functions

unfoldable pub function : ℕ → Code → Cont → Here
function r c K hs cs h R ps ks fs w n = make (new_cell (Function (length w.codes) r) (Some function_prototype)) K hs cs h R ps ks fs (record w { codes = w.codes ++ c ∷ [] }) n

-- ---- operators

abbrev pub fits : ℤ → Bool
fits z = int_le (neg_ℤ (pos largest)) z && int_le z (pos largest)

-- hint 1: the number is within the range; 0: the run leaves the profile
unfoldable pub ranged : Pos → ℤ → Cont → Here
ranged p z K = Test (fits z) (K (Gave (Normal (Num z)))) (K (Outside Number p))

unfoldable pub Holds : Bool → Here → Here
Holds b F hs cs h R ps ks fs w n = (b ≡ true) × F hs cs h R ps ks fs w n

unfoldable pub Fails : Bool → Here → Here
Fails b F hs cs h R ps ks fs w n = (b ≡ false) × F hs cs h R ps ks fs w n

unfoldable pub result : Pos → Result → Cont → Here
result p (Is v) K = K (Gave (Normal v))
result p (Out o) K = K (Outside o p)

-- hint 1: the text is of a length within the range; 0: the run leaves the profile
unfoldable pub spelled : Pos → Text → Cont → Here
spelled p t K = Test (nat_le (length t) largest) (K (Gave (Normal (Str t)))) (K (Outside Number p))

unfoldable pub sum : Pos → Val → Val → Cont → Here
sum p (Num m) (Num n) K = ranged p (m +ℤ n) K
sum p (Num m) (Str t) K = spelled p (numeral m ++ t) K
sum p (Str s) (Num n) K = spelled p (s ++ numeral n) K
sum p (Str s) (Str t) K = spelled p (s ++ t) K
sum p v w K = No

-- of two numbers
unfoldable pub numbers : (ℤ → ℤ → Cont → Here) → Val → Val → Cont → Here
numbers f (Num m) (Num n) K = f m n K
numbers f v w K = No

-- a quotient without a rest, a rest
unfoldable pub divided : Pos → ℤ → ℤ → Cont → Here
divided p m n K = Fails (is_zero n) (Holds (is_zero (int_rem m n)) (ranged p (int_div m n) K))

unfoldable pub rest : Pos → ℤ → ℤ → Cont → Here
rest p m n K = Fails (is_zero n) (ranged p (int_rem m n) K)

unfoldable pub operate : Pos → Operator → Val → Val → Cont → Here
operate p operator.Same v w K = result p (binary operator.Same v w) K
operate p operator.Different v w K = result p (binary operator.Different v w) K
operate p operator.Less v w K = result p (binary operator.Less v w) K
operate p operator.Greater v w K = result p (binary operator.Greater v w) K
operate p operator.LessOrEqual v w K = result p (binary operator.LessOrEqual v w) K
operate p operator.GreaterOrEqual v w K = result p (binary operator.GreaterOrEqual v w) K
operate p operator.Add v w K = sum p v w K
operate p operator.Subtract v w K = numbers (λ m n. ranged p (m -ℤ n)) v w K
operate p operator.Multiply v w K = numbers (λ m n. ranged p (m *ℤ n)) v w K
operate p operator.Divide v w K = numbers (divided p) v w K
operate p operator.Remainder v w K = numbers (rest p) v w K

unfoldable pub KindAt : Option Fact → ℕ → (Kind → Here) → Here
KindAt None a F hs cs h R ps ks fs w n = ⊥
KindAt (Some (Own b k v)) a F hs cs h R ps ks fs w n = ⊥
KindAt (Some (Seen b k v)) a F hs cs h R ps ks fs w n = ⊥
KindAt (Some (Lacks b k)) a F hs cs h R ps ks fs w n = ⊥
KindAt (Some (Absent b k)) a F hs cs h R ps ks fs w n = ⊥
KindAt (Some (Names b ns)) a F hs cs h R ps ks fs w n = ⊥
KindAt (Some (Link b l)) a F hs cs h R ps ks fs w n = ⊥
KindAt (Some (IsKind b k)) a F hs cs h R ps ks fs w n = (a ≡ b) × F k hs cs h R ps ks fs w n
KindAt (Some Gone) a F hs cs h R ps ks fs w n = ⊥

unfoldable pub kind_by : ℕ → ℕ → (Kind → Here) → Here
kind_by i a F hs cs h R ps ks fs w n = KindAt (fact_at ks i) a F hs cs h R ps ks fs w n

unfoldable pub typed : Val → Cont → Here
typed (Obj a) K = Hinted (λ i. kind_by i a (λ k. K (Gave (Normal (Str (kind_name k))))))
typed Undefined K = K (Gave (Normal (Str (type_name [] Undefined))))
typed Null K = K (Gave (Normal (Str (type_name [] Null))))
typed (Truth b) K = K (Gave (Normal (Str (type_name [] (Truth b)))))
typed (Num z) K = K (Gave (Normal (Str (type_name [] (Num z)))))
typed (Str t) K = K (Gave (Normal (Str (type_name [] (Str t)))))

-- ---- nodes

abbrev pub act : ℕ → Frame → Activation
act o ps = record { variables = ps; constants = []; outer = Some o }

abbrev pub here : ℕ → ℕ → Heap → Records → Frame → Rest → State
here r o h R ps w = record { heap = h; codes = w.codes; records = set_record R r (act o ps); lines = w.lines; calls = w.calls }

abbrev pub there : Run → State
there c = record { heap = c.heap; codes = c.rest.codes; records = c.records; lines = c.rest.lines; calls = c.rest.calls }

module _ (r o : ℕ) (this : Val) where
  abbrev pub ρ : Scope
  ρ = record { this = this; innermost = r }

  abbrev pub request : Node → Request
  request (Ev e) = Evaluate e (ρ)
  request (Rf e) = Refer e (ρ)
  request (Do t) = Execute t (ρ)

  -- a call or a loop, by what is known of it
  unfoldable pub known : (State → ℕ → End → State → List State → Type 0) → (ℕ → Here) → Cont → Here
  known T B K hs [] h R ps ks fs w n = ⊥
  known T B K hs (ByRun c ∷ cs) h R ps ks fs w n =
      T (here r o h R ps w) c.units c.end (there c) c.seen
      × (record_at c.records r ≡ act o c.frame) × (r < length c.records) × Facts c.heap c.facts × Outers c.records o (revalued fs c.values)
      × K c.end hs cs c.heap c.records c.frame c.facts (revalued fs c.values) (rest_after w c) (n + c.units)
  known T B K hs (ByRow i ∷ cs) h R ps ks fs w n = B i hs cs h R ps ks fs w n

  -- ---- intrinsic functions that are run by their rows

  -- a text is written, and the host is called in the state that is there
  unfoldable pub prints : Text → Here → Here
  prints t F hs cs h R ps ks fs w n = F hs cs h R ps ks fs (record { codes = w.codes; lines = w.lines; calls = Wrote t ∷ w.calls; seen = w.seen ++ here r o h R ps w ∷ [] }) n

  unfoldable pub created : Option (Option ℕ) → Cont → Here
  created None K = raised (codes "not an object") K
  created (Some l) K = make (new_cell Object l) K

  unfoldable pub linking : ℕ → Option (Option ℕ) → Cont → Here
  linking a None K = raised (codes "not an object") K
  linking a (Some l) K = Hinted (λ i. link_at_by i a l (K (Gave (Normal (Obj a)))))

  unfoldable pub arrays : Val → Cont → Here
  arrays (Obj a) K = Hinted (λ i. kind_by i a (λ k. K (Gave (Normal (Truth (is_array k))))))
  arrays Undefined K = K (Gave (Normal (Truth false)))
  arrays Null K = K (Gave (Normal (Truth false)))
  arrays (Truth b) K = K (Gave (Normal (Truth false)))
  arrays (Num z) K = K (Gave (Normal (Truth false)))
  arrays (Str t) K = K (Gave (Normal (Truth false)))

  unfoldable pub hosted : HostFn → Val → List Val → Cont → Here
  hosted call.Create that (v ∷ []) K = created (link_of v) K
  hosted call.GetPrototypeOf that (Obj a ∷ []) K = Hinted (λ i. link_by i a (λ l. K (Gave (Normal (link_value l)))))
  hosted call.SetPrototypeOf that (Obj a ∷ v ∷ []) K = linking a (link_of v) K
  hosted call.HasOwnProperty (Obj a) (Str m ∷ []) K = Hinted (λ i. owns_by i a m (λ b. K (Gave (Normal (Truth b)))))
  hosted call.IsArray that (v ∷ []) K = arrays v K
  hosted call.CharCodeAt (Str t) (Num (pos i) ∷ []) K = Holds (nat_lt i (length t)) (K (Gave (Normal (Num (pos (slice_index t i))))))
  hosted call.Substring (Str t) (Num (pos i) ∷ Num (pos j) ∷ []) K = Holds (nat_le i j && nat_le j (length t)) (K (Gave (Normal (Str (slice_range t i j)))))
  hosted call.FromCharCode that (Num (pos i) ∷ []) K = Holds (nat_le i 65535) (K (Gave (Normal (Str (i ∷ [])))))
  hosted call.Write that (Str t ∷ []) K = prints t (K (Gave (Normal Undefined)))
  hosted which that vs K = No

  unfoldable pub found : Option HostFn → (HostFn → Here) → Here
  found None F = No
  found (Some which) F = F which

  -- a kind that is an intrinsic function
  unfoldable pub intrinsic : Kind → (ℕ → HostFn → Here) → Here
  intrinsic (Host j) F = found (slice_get host_functions j) (F j)
  intrinsic Object F = No
  intrinsic Array F = No
  intrinsic Arguments F = No
  intrinsic (Function c a) F = No
  intrinsic (Record a) F = No

  -- `call` of an intrinsic function
  unfoldable pub passing : HostFn → Val → List Val → Cont → Here
  passing call.Call (Obj g) (that ∷ vs) K = Hinted (λ i. kind_by i g (λ k. intrinsic k (λ j which. Fails (nat_eq j 5 || nat_eq j 6) (hosted which that vs K))))
  passing which that vs K = hosted which that vs K

  unfoldable pub by_row : ℕ → Val → Val → List Val → Cont → Here
  by_row i (Obj f) that vs K = kind_by i f (λ k. intrinsic k (λ j which. passing which that vs K))
  by_row i v that vs K = No

  module _ (E : Nodes) where
    unfoldable pub gathers : List EsExpr → List Val → (List Val → Here) → Cont → Here
    gathers [] vs G K = G vs
    gathers (e ∷ es) vs G K = E (Ev e) (on (λ v. gathers es (vs ++ v ∷ []) G K) K)

    unfoldable pub alls : List EsStmt → Cont → Here
    alls [] K = K (Gave (Normal Undefined))
    alls (t ∷ ts) K = E (Do t) (on (λ v. alls ts K) K)

    -- what is no object is no function
    unfoldable pub invoked : Pos → Val → Val → List Val → Cont → Here
    invoked p (Obj f) that vs K = known (λ s m e s' seen. TakesSeen (invoke p (Obj f) that vs) s m e s' seen) (λ i. by_row i (Obj f) that vs K) K
    invoked p Undefined that vs K = raised (codes "not a function") K
    invoked p Null that vs K = raised (codes "not a function") K
    invoked p (Truth b) that vs K = raised (codes "not a function") K
    invoked p (Num z) that vs K = raised (codes "not a function") K
    invoked p (Str t) that vs K = raised (codes "not a function") K

    unfoldable pub called : Pos → List EsExpr → Val → Val → Cont → Here
    called p args that f K = gathers args [] (λ vs. invoked p f that vs K) K

    unfoldable pub typed_place : Place → Cont → Here
    typed_place (Variable x) K = var x (on (λ v. typed v K) K)
    typed_place (Property v m) K = prop v m (on (λ v. typed v K) K)

    unfoldable pub eval : Layer → Pos → Cont → Here
    eval (EsKind-F.Num z) p K = K (Gave (Normal (Num z)))
    eval (EsKind-F.Str t) p K = K (Gave (Normal (Str t)))
    eval EsKind-F.True p K = K (Gave (Normal (Truth true)))
    eval EsKind-F.False p K = K (Gave (Normal (Truth false)))
    eval EsKind-F.Null p K = K (Gave (Normal Null))
    eval EsKind-F.This p K = K (Gave (Normal this))
    eval (EsKind-F.Name x) p K = var x K
    eval (EsKind-F.Array items) p K = gathers items [] (λ vs. arrayed vs K) K
    eval (EsKind-F.Object keys values) p K = gathers values [] (λ vs. make (with_properties (new_cell Object (Some object_prototype)) keys vs) K) K
    eval (EsKind-F.Function name params body) p K = function r (record { name = name; params = params; body = body }) K
    eval (EsKind-F.Member b m mark) p K = E (Ev b) (on (λ v. prop v m K) K)
    eval (EsKind-F.Index b k mark) p K = E (Ev b) (on (λ v. E (Ev k) (on (λ w. named (key_of w) (λ m. prop v m K)) K)) K)
    eval (EsKind-F.Call callee args) p K = E (Rf callee) (on_place (λ q. read q (on (λ f. called p args (this_of q) f K) K)) (λ f. called p args Undefined f K) K)
    eval (EsKind-F.Not e) p K = E (Ev e) (on (λ v. K (Gave (Normal (Truth (not (truthy v)))))) K)
    eval (EsKind-F.Neg e) p K = E (Ev e) (on (λ v. result p (negated v) K) K)
    eval (EsKind-F.Typeof e) p K = E (Rf e) (on_place (λ q. typed_place q K) (λ v. typed v K) K)
    eval (EsKind-F.Delete e) p K = E (Rf e) (on_place (λ q. removed q K) (λ v. K (Gave (Normal (Truth true)))) K)
    eval (EsKind-F.Binary op a b) p K = E (Ev a) (on (λ v. E (Ev b) (on (λ w. operate p op v w K) K)) K)
    eval (EsKind-F.And a b) p K = E (Ev a) (on (λ v. Test (truthy v) (E (Ev b) K) (K (Gave (Normal v)))) K)
    eval (EsKind-F.Or a b) p K = E (Ev a) (on (λ v. Test (truthy v) (K (Gave (Normal v))) (E (Ev b) K)) K)
    eval (EsKind-F.Cond t a b) p K = E (Ev t) (on (λ v. Test (truthy v) (E (Ev a) K) (E (Ev b) K)) K)
    eval (EsKind-F.Assign target e) p K = E (Rf target) (on_place (λ q. E (Ev e) (on (λ v. set q v K) K)) (λ v. No) K)

    unfoldable pub refer : Layer → Pos → Cont → Here
    refer (EsKind-F.Name x) p K = K (Gave (Refers (Variable x)))
    refer (EsKind-F.Member b m mark) p K = E (Ev b) (on (λ v. placed v m K) K)
    refer (EsKind-F.Index b k mark) p K = E (Ev b) (on (λ v. E (Ev k) (on (λ w. named (key_of w) (λ m. placed v m K)) K)) K)
    refer form p K = eval form p K

    unfoldable pub second : Option EsStmt → Cont → Here
    second None K = K (Gave (Normal Undefined))
    second (Some t) K = E (Do t) K

    unfoldable pub first_value : Option EsExpr → Text → Cont → Here
    first_value None x K = K (Gave (Normal Undefined))
    first_value (Some e) x K = E (Ev e) (on (λ v. set_var x v K) K)

    unfoldable pub returned : Option EsExpr → Cont → Here
    returned None K = K (Gave (Return Undefined))
    returned (Some e) K = E (Ev e) (on (λ v. K (Gave (Return v))) K)

    -- the last part of a `try`, and what comes behind its first part; the part that takes what was thrown is known
    unfoldable pub lasts : Option (List EsStmt) → Cont → Cont
    lasts None K e = K e
    lasts (Some fin) K (Gave c) = alls fin (on (λ v. K (Gave c)) K)
    lasts (Some fin) K (Outside q p) = K (Outside q p)

    unfoldable pub tries : Option Catch → Option (List EsStmt) → Cont → Cont
    tries None fin K e = lasts fin K e
    tries (Some part) fin K (Gave (Throw v)) = known (λ s m e s' seen. TakesSeen (caught_by part (ρ) v) s m e s' seen) (λ i. No) (lasts fin K)
    tries (Some part) fin K (Gave (Normal v)) = lasts fin K (Gave (Normal v))
    tries (Some part) fin K (Gave (Refers q)) = lasts fin K (Gave (Refers q))
    tries (Some part) fin K (Gave (Return v)) = lasts fin K (Gave (Return v))
    tries (Some part) fin K (Gave Break) = lasts fin K (Gave Break)
    tries (Some part) fin K (Gave Continue) = lasts fin K (Gave Continue)
    tries (Some part) fin K (Outside q p) = K (Outside q p)

    unfoldable pub exec : Statement → Cont → Here
    exec (EsStmt-F.Var x value) K = first_value value x K
    exec (EsStmt-F.Expr e) K = E (Ev e) K
    exec (EsStmt-F.Block body) K = alls body K
    exec (EsStmt-F.If t a b) K = E (Ev t) (on (λ v. Test (truthy v) (E (Do a) K) (second b K)) K)
    exec (EsStmt-F.While t body) K = known (λ s m e s' seen. TakesSeen (exec_node (EsStmt-F.While t body) (ρ)) s m e s' seen) (λ i. No) K
    exec (EsStmt-F.Return value) K = returned value K
    exec EsStmt-F.Break K = K (Gave Break)
    exec EsStmt-F.Continue K = K (Gave Continue)
    exec (EsStmt-F.Throw e) K = E (Ev e) (on (λ v. K (Gave (Throw v))) K)
    exec (EsStmt-F.Try body catch finally) K = alls body (tries catch finally K)
    exec EsStmt-F.Empty K = K (Gave (Normal Undefined))

    unfoldable pub node : Node → Cont → Here
    node (Ev e) = eval (layer e) e.pos
    node (Rf e) = refer (layer e) e.pos
    node (Do t) = exec (out-EsStmt t)

  -- nodes, at most g of them inside one another
  unfoldable pub go : ℕ → Nodes
  go zero q K hs cs h R ps ks fs w n = ⊥
  go (suc g) q K hs cs h R ps ks fs w n = node (go g) q K hs cs h R ps ks fs w (suc n)

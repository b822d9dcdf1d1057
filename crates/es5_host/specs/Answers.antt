-- What the answer to a call of an intrinsic function says, beside the row of that function.
use Rattle.std.specs.Prelude.{◌≡◌, ℕ, ◌<◌, ◌≤◌, List, [], ◌∷◌, ◌++◌, length, codes, Option, ⊤, All}
use Rattle.opal_base.specs.Outside.{Rose, TookFront, appended}
use Rattle.opal_base.specs.Text.{utf8_of}
use Rattle.es5_tree.specs.Intrinsics.Lines.{Reading, advanced}
use Rattle.es5_tree.specs.Intrinsics.Calls.{HostFn}
use Rattle.es5_tree.specs.Intrinsics.Calls as call
use Rattle.es5_tree.specs.Values.{Text, Val, Undefined, Obj}
use Rattle.es5_tree.specs.Objects.Cells.{Cell}
use Rattle.es5_tree.specs.Intrinsics.Rows.{Row, Gives, Sets, Makes, Throws, Invokes, Leaves, Writes, Reads}
use Rattle.es5_tree.specs.Intrinsics.Valid.{Names}
use Rattle.es5_objects.specs.Heap.{Heap, with_cell}
use Rattle.es5_objects.specs.Values.{value_of}
use Rattle.es5_host.specs.Values.{out_of}
use Rattle.es5_host.specs.declared.answer.HostAnswer.{HostAnswer}
use Rattle.es5_host.specs.declared.answer.HostAnswer.TheVariants.{Value, Throw, Invoke, Outside, CellsFull, WriteFault, NoMemory}

-- the heap with one more object
abbrev pub with_new : Heap → Cell → Heap
with_new h c = record { cells = h.cells ++ c ∷ []; capacity = h.capacity }

-- a heap with a cell left
abbrev pub HasRoom : Heap → Type 0
HasRoom h = length h.cells < h.capacity

-- a value is what the row gives, and the heap is as the row leaves it
abbrev pub Gave : Row → Val → Heap → Heap → Type 0
Gave (Gives v) w old new = (w ≡ v) × (new ≡ old)
Gave (Sets v o c) w old new = (w ≡ v) × (new ≡ with_cell old o c)
Gave (Makes c) w old new = (w ≡ Obj (length old.cells)) × HasRoom old × (new ≡ with_new old c)
Gave (Throws message) w old new = ⊥
Gave (Invokes f this args) w old new = ⊥
Gave (Leaves kind) w old new = ⊥
Gave (Writes s) w old new = (w ≡ Undefined) × (new ≡ old)
Gave (Reads v n) w old new = (w ≡ v) × (new ≡ old)

abbrev pub MakesObject : Row → Type 0
MakesObject row = (c : Cell) × (row ≡ Makes c)

abbrev pub WritesText : Row → Type 0
WritesText row = (s : Text) × (row ≡ Writes s)

-- The answer is that of the row. Where it is no value the heap is as before, but for want of memory, of which nothing is said.
abbrev pub Answered : Row → HostAnswer → Heap → Heap → Type 0
Answered row (Value v) old new = Gave row (value_of v) old new
Answered row (Throw name message) old new = (name ≡ codes "TypeError") × (row ≡ Throws message) × (new ≡ old)
Answered row (Invoke f this args) old new = (row ≡ Invokes f (value_of this) args) × (new ≡ old)
Answered row (Outside kind) old new = (row ≡ Leaves (out_of kind)) × (new ≡ old)
Answered row CellsFull old new = MakesObject row × (old.capacity ≤ length old.cells) × (new ≡ old)
Answered row WriteFault old new = WritesText row × (new ≡ old)
Answered row NoMemory old new = ⊤

-- the values of an answer name objects below n
abbrev pub NamesInAnswer : ℕ → HostAnswer → Type 0
NamesInAnswer n (Value v) = Names n (value_of v)
NamesInAnswer n (Throw name message) = ⊤
NamesInAnswer n (Invoke f this args) = (f < n) × Names n (value_of this) × All (Names n) args
NamesInAnswer n (Outside kind) = ⊤
NamesInAnswer n CellsFull = ⊤
NamesInAnswer n WriteFault = ⊤
NamesInAnswer n NoMemory = ⊤

-- ---- the sink and the lines

-- With a value the sink took the whole text in UTF-8, after a fault or for want of memory a front of it, and otherwise nothing.
abbrev pub TookText : Text → HostAnswer → Option (List ℕ) → Option (List ℕ) → Type 0
TookText s (Value v) old new = new ≡ appended old (utf8_of s)
TookText s (Throw name message) old new = new ≡ old
TookText s (Invoke f this args) old new = new ≡ old
TookText s (Outside kind) old new = new ≡ old
TookText s CellsFull old new = new ≡ old
TookText s WriteFault old new = TookFront old new (utf8_of s)
TookText s NoMemory old new = TookFront old new (utf8_of s)

-- the sink takes something only where the row writes
abbrev pub Took : Row → HostAnswer → Option (List ℕ) → Option (List ℕ) → Type 0
Took (Gives v) answer old new = new ≡ old
Took (Sets v o c) answer old new = new ≡ old
Took (Makes c) answer old new = new ≡ old
Took (Throws message) answer old new = new ≡ old
Took (Invokes f this args) answer old new = new ≡ old
Took (Leaves kind) answer old new = new ≡ old
Took (Writes s) answer old new = TookText s answer old new
Took (Reads v n) answer old new = new ≡ old

-- With a value so many units were read, and otherwise none; for want of memory nothing is said.
abbrev pub ReadUnits : ℕ → HostAnswer → Reading → Reading → Type 0
ReadUnits n (Value v) old new = new ≡ advanced old n
ReadUnits n (Throw name message) old new = new ≡ old
ReadUnits n (Invoke f this args) old new = new ≡ old
ReadUnits n (Outside kind) old new = new ≡ old
ReadUnits n CellsFull old new = new ≡ old
ReadUnits n WriteFault old new = new ≡ old
ReadUnits n NoMemory old new = ⊤

-- something is read only where the row reads
abbrev pub HasRead : Row → HostAnswer → Reading → Reading → Type 0
HasRead (Gives v) answer old new = new ≡ old
HasRead (Sets v o c) answer old new = new ≡ old
HasRead (Makes c) answer old new = new ≡ old
HasRead (Throws message) answer old new = new ≡ old
HasRead (Invokes f this args) answer old new = new ≡ old
HasRead (Leaves kind) answer old new = new ≡ old
HasRead (Writes s) answer old new = new ≡ old
HasRead (Reads v n) answer old new = ReadUnits n answer old new

-- a fault of the sink is answered only where its count rose
abbrev pub Caused : HostAnswer → ℕ → ℕ → Type 0
Caused (Value v) before now = ⊤
Caused (Throw name message) before now = ⊤
Caused (Invoke f this args) before now = ⊤
Caused (Outside kind) before now = ⊤
Caused CellsFull before now = ⊤
Caused WriteFault before now = Rose before now
Caused NoMemory before now = ⊤

-- only `write` writes
abbrev pub TookBy : HostFn → Row → HostAnswer → Option (List ℕ) → Option (List ℕ) → Type 0
TookBy call.Write row answer old new = Took row answer old new
TookBy which row answer old new = new ≡ old

-- only `line` reads
abbrev pub ReadBy : HostFn → Row → HostAnswer → Reading → Reading → Type 0
ReadBy call.Line row answer old new = HasRead row answer old new
ReadBy which row answer old new = new ≡ old

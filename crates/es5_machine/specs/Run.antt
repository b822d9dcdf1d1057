-- What a machine shows, and what its answers say of the run of its script.
use Rattle.std.specs.Prelude.{◌≡◌, ◌⊎◌, ℕ, suc, ◌+◌, ◌<◌, ◌≤◌, List, ◌++◌, Option, Some, None}
use Rattle.opal_base.specs.Outside.{Rose, appended}
use Rattle.opal_base.specs.Shown.{Shown, Ended, Going}
use Rattle.es5_tree.specs.declared.tree.Script.{Script}
use Rattle.es5_tree.specs.Values.{Text}
use Rattle.es5_tree.specs.Ends.{EsEnd, Finished, Uncaught, Outside}
use Rattle.es5_evaluation.specs.Run.{es_run, cells_at}
use Rattle.es5_host.specs.Values.{out_of}
use Rattle.es5_machine.specs.declared.end.RunEnd.{RunEnd}
use Rattle.es5_machine.specs.declared.end.RunEnd.TheVariants as end

-- A machine: its script and the input, how many cells the script may make, the steps begun, and how it ended, if it did.
pub record Ran : Type 0 where
  pub script : Script
  pub input : Text
  pub cells : ℕ
  pub steps : ℕ
  pub ended : Option RunEnd

abbrev pub output : Shown EsEnd → List ℕ
output (Ended bytes end) = bytes
output (Going bytes) = bytes

-- the output of the first steps of a script
abbrev pub output_at : Script → Text → ℕ → List ℕ
output_at script input n = output (es_run script input n)

abbrev pub IsFront : List ℕ → List ℕ → Type 0
IsFront xs ys = (rest : List ℕ) × (ys ≡ xs ++ rest)

-- what the sink took from the step n0 on is the output of the steps since
abbrev pub Pieces : Ran → ℕ → Option (List ℕ) → Option (List ℕ) → Type 0
Pieces m n0 old new = (piece : List ℕ) × (new ≡ appended old piece) × (output_at m.script m.input m.steps ≡ output_at m.script m.input n0 ++ piece)

-- what the sink took is a front of it
abbrev pub FrontPieces : Ran → ℕ → Option (List ℕ) → Option (List ℕ) → Type 0
FrontPieces m n0 old new = (piece : List ℕ) × (new ≡ appended old piece) × IsFront (output_at m.script m.input n0 ++ piece) (output_at m.script m.input m.steps)

-- the script has ended, and is within its cells
pub record Ends (m : Ran) (end : EsEnd) : Type 0 where
  pub shows : (k : ℕ) → es_run m.script m.input (m.steps + k) ≡ Ended (output_at m.script m.input m.steps) end
  pub within : (k : ℕ) → cells_at m.script m.input (m.steps + k) ≤ m.cells

-- the script goes on, and is within its cells
pub record GoesOn (m : Ran) : Type 0 where
  pub shows : es_run m.script m.input m.steps ≡ Going (output_at m.script m.input m.steps)
  pub within : cells_at m.script m.input m.steps ≤ m.cells

-- The last step makes one cell more than the limit; the sink took the output before it, and a front of the output with it.
pub record Fills (m : Ran) (n0 : ℕ) (old new : Option (List ℕ)) : Type 0 where
  pub before : ℕ
  pub last : m.steps ≡ suc before
  pub within : cells_at m.script m.input before ≤ m.cells
  pub over : m.cells < cells_at m.script m.input m.steps
  pub piece : List ℕ
  pub took : new ≡ appended old piece
  pub least : IsFront (output_at m.script m.input before) (output_at m.script m.input n0 ++ piece)
  pub most : IsFront (output_at m.script m.input n0 ++ piece) (output_at m.script m.input m.steps)

-- a run from the step n0 on that answers so
abbrev pub Tells : RunEnd → Ran → ℕ → Option (List ℕ) → Option (List ℕ) → Type 0
Tells end.Finished m n0 old new = Ends m Finished × Pieces m n0 old new
Tells (end.Uncaught name message) m n0 old new = Ends m (Uncaught name message) × Pieces m n0 old new
Tells (end.Outside kind pos) m n0 old new = Ends m (Outside (out_of kind) pos) × Pieces m n0 old new
Tells end.OutOfSteps m n0 old new = GoesOn m × Pieces m n0 old new
Tells end.CellsFull m n0 old new = Fills m n0 old new
Tells end.WriteFault m n0 old new = FrontPieces m n0 old new
Tells end.NoMemory m n0 old new = FrontPieces m n0 old new

-- a fault of the sink is answered only where its count rose
abbrev pub Caused : RunEnd → ℕ → ℕ → Type 0
Caused end.WriteFault before now = Rose before now
Caused end.Finished before now = Unit {0}
Caused (end.Uncaught name message) before now = Unit {0}
Caused (end.Outside kind pos) before now = Unit {0}
Caused end.OutOfSteps before now = Unit {0}
Caused end.CellsFull before now = Unit {0}
Caused end.NoMemory before now = Unit {0}

-- Out of steps, all of them were begun, and the machine can go on; any other end is kept.
pub record Keeps (result : RunEnd) (m : Ran) (most : ℕ) : Type 0 where
  pub all_begun : result ≡ end.OutOfSteps → (m.ended ≡ None) × (m.steps ≡ most)
  pub kept : (result ≡ end.OutOfSteps → ⊥) → m.ended ≡ Some result

-- the same end again, or want of memory for its texts
abbrev pub IsAgain : RunEnd → RunEnd → Type 0
IsAgain last result = (result ≡ last) ⊎ (result ≡ end.NoMemory)

-- a machine before the first step
abbrev pub started : Script → Text → ℕ → Ran
started script input cells = record { script = script; input = input; cells = cells; steps = 0; ended = None }

-- the script, its input and its cells stay
pub record HasRun (old new : Ran) : Type 0 where
  pub script : new.script ≡ old.script
  pub input : new.input ≡ old.input
  pub cells : new.cells ≡ old.cells

-- Heaps in which the intrinsic objects stand and all that names an object names one that is there.
use Rattle.std.specs.Prelude.{◌≡◌, ℕ, ◌<◌, ◌≤◌, List, length, Option, IfSome, ⊤, All}
use Rattle.es5_tree.specs.Values.{Val, Undefined, Null, Truth, Num, Str, Obj}
use Rattle.es5_tree.specs.Objects.Cells.{Cell}
use Rattle.es5_tree.specs.Objects.Links.{cell_at, LinksWithin}
use Rattle.es5_tree.specs.Intrinsics.Made.{count}
use Rattle.es5_tree.specs.Intrinsics.Made as made

-- a value names an object below n, or none
abbrev pub Names : ℕ → Val → Type 0
Names n Undefined = ⊤
Names n Null = ⊤
Names n (Truth b) = ⊤
Names n (Num z) = ⊤
Names n (Str s) = ⊤
Names n (Obj o) = o < n

-- where there is a value, it names one
abbrev pub NamesIf : ℕ → Option Val → Type 0
NamesIf n v = IfSome v (Names n)

-- the values of an object's properties name objects below n
abbrev pub NamesIn : ℕ → Cell → Type 0
NamesIn n c = All (λ p. Names n p.1) c.properties

-- The first objects are the intrinsic ones, as their kinds, which never change, tell. Each link and each value names an object that is there.
pub record Valid (cells : List Cell) : Type 0 where
  pub enough : count ≤ length cells
  pub intrinsic : (o : ℕ) → o < count → (cell_at cells o).kind ≡ (cell_at made.cells o).kind
  pub links : LinksWithin cells
  pub values : All (NamesIn (length cells)) cells

-- What of both sides' states never changes: the names of records and which record is around which, what frame names stand for,
-- which object stands for a heap value, which record for a frame, which function an object is, and what objects serve for.
use Rattle.std.specs.Prelude.{◌≡◌, ℕ, ℤ, ◌<◌, ◌||◌, Bool, true, false, List, [], ◌∷◌, length, map, Option, None, Some, is_some, bytes_eq, ⊤}
use Rattle.std.specs.List.{list_any}
use Rattle.ruby_meaning.specs.declared.value.Value.{Value}
use Rattle.ruby_meaning.specs.declared.value.Value.TheVariants as value
use Rattle.es5_tree.specs.Values.{Text, Val, Truth, Num, Str, Obj, find_own}
use Rattle.es5_evaluation.specs.State.{Code, Activation}
use Rattle.ruby_evaluation.specs.Tables.{Name}
use Rattle.ruby_evaluation.specs.State.{Method}
use Rattle.both_meanings.specs.Names.{local, home_name, module_name}

-- ---- records

-- the names of a record, those that can't be written with their values, and the record around it
pub record Shape : Type 0 where
  pub names : List Text
  pub constants : List (Text × Val)
  pub outer : Option ℕ

abbrev pub shape_of : Activation → Shape
shape_of a = record { names = map (λ p. p.0) a.variables; constants = a.constants; outer = a.outer }

abbrev pub stands : Text → List Text → Bool
stands x names = list_any (λ y. bytes_eq y x) names

abbrev pub bound_in : Shape → Text → Bool
bound_in sh x = stands x sh.names || is_some (find_own sh.constants x)

-- ---- functions, frames, and what objects serve for

-- a function of the script: its code, and the record that it was made in
pub record Function : Type 0 where
  pub code : Code
  pub scope : ℕ

-- a frame: its record, the names of its own locals, and the frame around a block
pub record Framed : Type 0 where
  pub record_at : ℕ
  pub names : List Name
  pub outer : Option ℕ

-- what a jump out of a block ends: a frame, or a call with a literal block
pub data Target : Type 0 where
  OfFrame : ℕ → Target
  OfCall : ℕ → Target

-- What an object without a number of Ruby's serves for: it is the token of a target; it carries a jump to a token with a value; or
-- it is a list that the code at a temporary of a record makes, and no other writes.
pub data Role : Type 0 where
  Token : Target → Role
  Carrier : ℕ → Val → Role
  Listed : ℕ → ℕ → Role

pub record World : Type 0 where
  pub shape : ℕ → Option Shape
  -- what a name of a record stands for from the time on that it was set
  pub fixed : ℕ → Text → Option Val
  pub object : ℕ → Option ℕ
  pub frame : ℕ → Option Framed
  pub function : ℕ → Option Function
  pub role : ℕ → Option Role

-- what is there stays
pub record Grows (w w1 : World) : Type 0 where
  pub shape : (r : ℕ) (sh : Shape) → w.shape r ≡ Some sh → w1.shape r ≡ Some sh
  pub fixed : (r : ℕ) (x : Text) (u : Val) → w.fixed r x ≡ Some u → w1.fixed r x ≡ Some u
  pub object : (k o : ℕ) → w.object k ≡ Some o → w1.object k ≡ Some o
  pub frame : (k : ℕ) (f : Framed) → w.frame k ≡ Some f → w1.frame k ≡ Some f
  pub function : (o : ℕ) (f : Function) → w.function o ≡ Some f → w1.function o ≡ Some f
  pub role : (o : ℕ) (x : Role) → w.role o ≡ Some x → w1.role o ≡ Some x

-- ---- values

-- A value of the script is a value of Ruby; the heap value with number 0 is nil's.
pub data IsValue (w : World) : Value → Val → Type 0 where
  is_nil : (o : ℕ) → w.object 0 ≡ Some o → IsValue w value.Nil (Obj o)
  is_true : IsValue w value.True (Truth true)
  is_false : IsValue w value.False (Truth false)
  is_int : (n : ℤ) → IsValue w (value.Int n) (Num n)
  is_text : (t : Text) → IsValue w (value.Text t) (Str t)
  is_ref : (k o : ℕ) → (k ≡ 0 → ⊥) → w.object k ≡ Some o → IsValue w (value.Ref k) (Obj o)

-- ---- names seen from a record

-- the record b binds a name, seen from a record: this one, or it is not bound here and the record around sees it
pub data Binds (w : World) : ℕ → Text → ℕ → Type 0 where
  bound_here : (r : ℕ) (x : Text) (sh : Shape) → w.shape r ≡ Some sh → bound_in sh x ≡ true → Binds w r x r
  bound_around : (r o b : ℕ) (x : Text) (sh : Shape) → w.shape r ≡ Some sh → bound_in sh x ≡ false → sh.outer ≡ Some o → o < r → Binds w o x b → Binds w r x b

-- a variable of a record
pub record Var (w : World) (r : ℕ) (x : Text) : Type 0 where
  pub sh : Shape
  pub shape : w.shape r ≡ Some sh
  pub stands : stands x sh.names ≡ true

-- a name that stands for a value for good
pub record Sees (w : World) (r : ℕ) (x : Text) (u : Val) : Type 0 where
  pub at : ℕ
  pub binds : Binds w r x at
  pub is : w.fixed at x ≡ Some u

-- one that stands for a module
pub record SeesModule (w : World) (r : ℕ) (x : Text) (k : ℕ) : Type 0 where
  pub o : ℕ
  pub object : w.object k ≡ Some o
  pub sees : Sees w r x (Obj o)

-- the modules around a text, the inmost first
abbrev pub SeesModules : World → ℕ → List ℕ → Type 0
SeesModules w r [] = ⊤
SeesModules w r (k ∷ ks) = SeesModule w r (module_name (length (k ∷ ks))) k × SeesModules w r ks

abbrev pub SeesHome : World → ℕ → Option Method → Type 0
SeesHome w r None = ⊤
SeesHome w r (Some m) = SeesModule w r home_name m.owner

-- ---- locals

-- the record q is one around r, and none between has a local
pub data Behind (w : World) : ℕ → ℕ → Type 0 where
  next : (r o : ℕ) (sh : Shape) → w.shape r ≡ Some sh → sh.outer ≡ Some o → o < r → Behind w r o
  over : (r o q : ℕ) (sh sh1 : Shape) → w.shape r ≡ Some sh → sh.outer ≡ Some o → o < r → w.shape o ≡ Some sh1 → ((x : Name) → bound_in sh1 (local x) ≡ false) → Behind w o q → Behind w r q

-- a frame's record has the frame's own locals and no others, and sees those of the frame around
pub record FrameIs (w : World) (k : ℕ) (f : Framed) : Type 0 where
  pub sh : Shape
  pub shape : w.shape f.record_at ≡ Some sh
  pub own : (x : Name) → stands (local x) sh.names ≡ stands x f.names
  pub free : (x : Name) → find_own sh.constants (local x) ≡ None
  pub outer : (j : ℕ) → f.outer ≡ Some j → (g : Framed) × (w.frame j ≡ Some g) × (j < k) × Behind w f.record_at g.record_at

-- seen from frame k, the local x is one of frame h
pub data SeesLocal (w : World) : ℕ → Name → ℕ → Type 0 where
  own_local : (k : ℕ) (x : Name) (f : Framed) → w.frame k ≡ Some f → stands x f.names ≡ true → SeesLocal w k x k
  outer_local : (k j h : ℕ) (x : Name) (f : Framed) → w.frame k ≡ Some f → stands x f.names ≡ false → f.outer ≡ Some j → j < k → SeesLocal w j x h → SeesLocal w k x h

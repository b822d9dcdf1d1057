-- The state of a run: objects, the code of the functions, activation records, the input, and what the host was called for (ECMA-262 5.1, sections 8.6, 10.2 and 13.2).
use Rattle.std.specs.Prelude.{ℕ, zero, suc, ◌||◌, Bool, if◌then◌else◌, List, [], length, slice_index_or, slice_set, Option, None, Some, is_some}
use Rattle.opal_base.specs.Shown.{HostCall}
use Rattle.es5_tree.specs.declared.tree.EsStmt.{EsStmt}
use Rattle.es5_tree.specs.Values.{Text, Val, find_own, first}
use Rattle.es5_tree.specs.Objects.Cells.{Cell, with_property}
use Rattle.es5_tree.specs.Intrinsics.Lines.{Reading}

-- what a function does: its own name, where it has one, its parameters, and its statements
pub record Code : Type 0 where
  pub name : Option Text
  pub params : List Text
  pub body : List EsStmt

-- An activation record: its variables, the names in it that can't be written, and the record around it (10.2.1).
pub record Activation : Type 0 where
  pub variables : List (Text × Val)
  pub constants : List (Text × Val)
  pub outer : Option ℕ

-- An object, a function's code and a record are each known by their place in their list. The newest call of the host stands first.
pub record State : Type 0 where
  pub heap : List Cell
  pub codes : List Code
  pub records : List Activation
  pub lines : Reading
  pub calls : List HostCall

-- ---- code and records by their numbers; past the ends stand empty ones

unfoldable pub code_at : List Code → ℕ → Code
code_at codes k = slice_index_or codes k (record { name = None; params = []; body = [] })

unfoldable pub record_at : List Activation → ℕ → Activation
record_at records r = slice_index_or records r (record { variables = []; constants = []; outer = None })

abbrev pub set_record : List Activation → ℕ → Activation → List Activation
set_record records r a = slice_set records r a

-- ---- names (10.2.2.1)

abbrev pub has_variable : Activation → Text → Bool
has_variable a name = is_some (find_own a.variables name)

abbrev pub binds : Activation → Text → Bool
binds a name = has_variable a name || is_some (find_own a.constants name)

-- the value of a name in the record that binds it
abbrev pub value_in : Activation → Text → Option Val
value_in a name = first (find_own a.variables name) (λ u. find_own a.constants name)

-- the innermost of at most k records, from this one outwards, that binds the name
unfoldable pub binding_by : ℕ → List Activation → Option ℕ → Text → Option ℕ
binding_by zero records at name = None
binding_by (suc k) records None name = None
binding_by (suc k) records (Some r) name = if binds (record_at records r) name then Some r else binding_by k records (record_at records r).outer name

-- The innermost record that binds a name, seen from a record. Each record is made behind the one around it, so that as many as there are is enough.
unfoldable pub binding : List Activation → ℕ → Text → Option ℕ
binding records r name = binding_by (length records) records (Some r) name

-- a record in which a variable has another value
abbrev pub with_variable : Activation → Text → Val → Activation
with_variable a name v = record { variables = with_property a.variables name v; constants = a.constants; outer = a.outer }

-- Primitives on numbers.
use Rattle.std.specs.Prelude.{◌≡◌, ℕ, ◌<◌, Bool, true, false, not, ◌&&◌, [], ◌∷◌, ◌++◌, length, Some, codes, ℤ, pos, neg_ℤ, ◌+ℤ◌, ◌-ℤ◌, int_le, int_div, int_rem, int_lt}
use Rattle.es5_tree.specs.declared.tree.Operator.TheVariants as operator
use Rattle.std.specs.Ordering.{int_eq}
use Rattle.es5_tree.specs.Tree.{start}
use Rattle.es5_tree.specs.Values.{Text, Val, Truth, Num, Str, Obj}
use Rattle.es5_tree.specs.Ends.{Number}
use Rattle.es5_tree.specs.Objects.Cells.{Cell}
use Rattle.es5_tree.specs.Intrinsics.Made.{holder, object_prototype}
use Rattle.es5_evaluation.specs.State.{Code, State}
use Rattle.es5_evaluation.specs.Task.{Normal, Throw}
use Rattle.es5_evaluation.specs.Values.{largest, is_zero, same}
use Rattle.es5_evaluation.specs.Evaluate.{invoke}
use Rattle.opal_base.specs.declared.place.Pos.{Pos}
use Rattle.es5_executor.specs.Builders.{name, str, at, object, binary, typeof, and, call, assign, var, when, return, throw, code, num}
use Rattle.es5_executor.specs.Runs.{Gave, Outside, Takes}
use Rattle.es5_executor.specs.Memory.{record_of, IsFunction, IsOuter, write}

abbrev pub truth_eq : Bool → Bool → Bool
truth_eq a b = same (Truth a) (Truth b)

abbrev pub fits : ℤ → Bool
fits z = int_le (neg_ℤ (pos largest)) z && int_le z (pos largest)

-- function(v) { var e = {"name": "TypeError", "message": "not a number"}; e["$$value"] = v; return e; }
abbrev pub type_error_code : Code
type_error_code = code (codes "v" ∷ [])
    (var (codes "e") (object (codes "name" ∷ codes "message" ∷ []) (str (codes "TypeError") ∷ str (codes "not a number") ∷ []))
    ∷ assign (at (name (codes "e")) (codes "$$value")) (name (codes "v"))
    ∷ return (name (codes "e"))
    ∷ [])

abbrev pub error_made : Cell
error_made = holder (Some object_prototype) ((codes "name", Str (codes "TypeError")) ∷ (codes "message", Str (codes "not a number")) ∷ [])

-- function(i, j) { if (typeof j !== "number") { throw $$type_error(j); } return i + j; }
abbrev pub add_code : Code
add_code = code (codes "i" ∷ codes "j" ∷ [])
    (when (binary operator.Different (typeof (name (codes "j"))) (str (codes "number"))) (throw (call (name (codes "$$type_error")) (name (codes "j") ∷ [])) ∷ [])
    ∷ return (binary operator.Add (name (codes "i")) (name (codes "j")))
    ∷ [])

-- the sum of two numbers within the range
abbrev pub Adds : Type 0
Adds = (p : Pos) (f o : ℕ) (i j : ℤ) (this : Val) (s : State) → IsFunction s.heap s.codes f add_code o → o < length s.records → fits (i +ℤ j) ≡ true →
    Takes (invoke p (Obj f) this (Num i ∷ Num j ∷ [])) s 9 (Gave (Normal (Num (i +ℤ j)))) (record s { records = s.records ++ record_of o ((codes "i", Num i) ∷ (codes "j", Num j) ∷ []) ∷ [] })

-- a sum outside the range
abbrev pub AddLeaves : Type 0
AddLeaves = (p : Pos) (f o : ℕ) (i j : ℤ) (this : Val) (s : State) → IsFunction s.heap s.codes f add_code o → o < length s.records → fits (i +ℤ j) ≡ false →
    Takes (invoke p (Obj f) this (Num i ∷ Num j ∷ [])) s 9 (Outside Number start) (record s { records = s.records ++ record_of o ((codes "i", Num i) ∷ (codes "j", Num j) ∷ []) ∷ [] })

-- the helper makes an object
abbrev pub MakesError : Type 0
MakesError = (p : Pos) (f o : ℕ) (v this : Val) (s : State) → IsFunction s.heap s.codes f type_error_code o → o < length s.records →
    Takes (invoke p (Obj f) this (v ∷ [])) s 12 (Gave (Normal (Obj (length s.heap))))
    (record s { heap = write (s.heap ++ error_made ∷ []) (length s.heap) (codes "$$value") v; records = s.records ++ record_of o ((codes "v", v) ∷ (codes "e", Obj (length s.heap)) ∷ []) ∷ [] })

-- an argument that is no number: the error is thrown
abbrev pub AddThrows : Type 0
AddThrows = (p : Pos) (f o h c b : ℕ) (i : ℤ) (t : Text) (this : Val) (s : State) → IsFunction s.heap s.codes f add_code o → o < length s.records →
    IsOuter s.records o (record { name = codes "$$type_error"; at = b; val = Obj h; free = true }) → IsFunction s.heap s.codes h type_error_code c → c < length s.records →
    Takes (invoke p (Obj f) this (Num i ∷ Str t ∷ [])) s 22 (Gave (Throw (Obj (length s.heap))))
    (record s { heap = write (s.heap ++ error_made ∷ []) (length s.heap) (codes "$$value") (Str t); records = (s.records ++ record_of o ((codes "i", Num i) ∷ (codes "j", Str t) ∷ []) ∷ []) ++ record_of c ((codes "v", Str t) ∷ (codes "e", Obj (length s.heap)) ∷ []) ∷ [] })

-- function(a, b) { var m = a % b; if (m !== 0 && m < 0 !== b < 0) { return (a - m) / b - 1; } return (a - m) / b; }
abbrev pub div_code : Code
div_code = code (codes "a" ∷ codes "b" ∷ [])
    (var (codes "m") (binary operator.Remainder (name (codes "a")) (name (codes "b")))
    ∷ when (and (binary operator.Different (name (codes "m")) (num (pos 0))) (binary operator.Different (binary operator.Less (name (codes "m")) (num (pos 0))) (binary operator.Less (name (codes "b")) (num (pos 0)))))
    (return (binary operator.Subtract (binary operator.Divide (binary operator.Subtract (name (codes "a")) (name (codes "m"))) (name (codes "b"))) (num (pos 1))) ∷ [])
    ∷ return (binary operator.Divide (binary operator.Subtract (name (codes "a")) (name (codes "m"))) (name (codes "b")))
    ∷ [])

-- the facts of numbers on which a division without a move rests
abbrev pub DivPlain : Type 0
DivPlain = (p : Pos) (f o : ℕ) (a b : ℤ) (this : Val) (s : State) → IsFunction s.heap s.codes f div_code o → o < length s.records →
    is_zero b ≡ false → fits (int_rem a b) ≡ true → not (int_eq (int_rem a b) (pos 0)) ≡ true → not (truth_eq (int_lt (int_rem a b) (pos 0)) (int_lt b (pos 0))) ≡ false →
    fits (a -ℤ int_rem a b) ≡ true → is_zero (int_rem (a -ℤ int_rem a b) b) ≡ true → fits (int_div (a -ℤ int_rem a b) b) ≡ true →
    Takes (invoke p (Obj f) this (Num a ∷ Num b ∷ [])) s 22 (Gave (Normal (Num (int_div (a -ℤ int_rem a b) b)))) (record s { records = s.records ++ record_of o ((codes "a", Num a) ∷ (codes "b", Num b) ∷ (codes "m", Num (int_rem a b)) ∷ []) ∷ [] })

-- with a move
abbrev pub DivMoved : Type 0
DivMoved = (p : Pos) (f o : ℕ) (a b : ℤ) (this : Val) (s : State) → IsFunction s.heap s.codes f div_code o → o < length s.records →
    is_zero b ≡ false → fits (int_rem a b) ≡ true → not (int_eq (int_rem a b) (pos 0)) ≡ true → not (truth_eq (int_lt (int_rem a b) (pos 0)) (int_lt b (pos 0))) ≡ true →
    fits (a -ℤ int_rem a b) ≡ true → is_zero (int_rem (a -ℤ int_rem a b) b) ≡ true → fits (int_div (a -ℤ int_rem a b) b) ≡ true → fits (int_div (a -ℤ int_rem a b) b -ℤ pos 1) ≡ true →
    Takes (invoke p (Obj f) this (Num a ∷ Num b ∷ [])) s 25 (Gave (Normal (Num (int_div (a -ℤ int_rem a b) b -ℤ pos 1)))) (record s { records = s.records ++ record_of o ((codes "a", Num a) ∷ (codes "b", Num b) ∷ (codes "m", Num (int_rem a b)) ∷ []) ∷ [] })

-- a quotient without a rest
abbrev pub DivExact : Type 0
DivExact = (p : Pos) (f o : ℕ) (a b : ℤ) (this : Val) (s : State) → IsFunction s.heap s.codes f div_code o → o < length s.records →
    is_zero b ≡ false → fits (int_rem a b) ≡ true → not (int_eq (int_rem a b) (pos 0)) ≡ false →
    fits (a -ℤ int_rem a b) ≡ true → is_zero (int_rem (a -ℤ int_rem a b) b) ≡ true → fits (int_div (a -ℤ int_rem a b) b) ≡ true →
    Takes (invoke p (Obj f) this (Num a ∷ Num b ∷ [])) s 15 (Gave (Normal (Num (int_div (a -ℤ int_rem a b) b)))) (record s { records = s.records ++ record_of o ((codes "a", Num a) ∷ (codes "b", Num b) ∷ (codes "m", Num (int_rem a b)) ∷ []) ∷ [] })

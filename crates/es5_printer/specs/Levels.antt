-- How tightly the forms of expressions bind (ECMA-262 5.1, section 11), from the loosest on.
use Rattle.std.specs.Prelude.{ℕ}
use Rattle.es5_tree.specs.declared.tree.Operator.{Operator}
use Rattle.es5_tree.specs.declared.tree.Operator.TheVariants as operator
use Rattle.es5_printer.specs.declared.level.Level.{Level}
use Rattle.es5_printer.specs.declared.level.Level.TheVariants as level

abbrev pub tightness : Level → ℕ
tightness level.Assignment = 0
tightness level.Conditional = 1
tightness level.Or = 2
tightness level.And = 3
tightness level.Equality = 4
tightness level.Relational = 5
tightness level.Additive = 6
tightness level.Multiplicative = 7
tightness level.Unary = 8
-- a `-` before a value, which takes no other `-` directly before it
tightness level.Negation = 9
-- a numeral, behind which no `.` stands
tightness level.Numeral = 10
tightness level.Call = 11
tightness level.Primary = 12

-- the level of a binary operator's node, which is that of its left side
abbrev pub of_operator : Operator → Level
of_operator operator.Same = level.Equality
of_operator operator.Different = level.Equality
of_operator operator.Less = level.Relational
of_operator operator.Greater = level.Relational
of_operator operator.LessOrEqual = level.Relational
of_operator operator.GreaterOrEqual = level.Relational
of_operator operator.Add = level.Additive
of_operator operator.Subtract = level.Additive
of_operator operator.Multiply = level.Multiplicative
of_operator operator.Divide = level.Multiplicative
of_operator operator.Remainder = level.Multiplicative

-- the level of its right side, which is the next tighter one
abbrev pub of_right : Operator → Level
of_right operator.Same = level.Relational
of_right operator.Different = level.Relational
of_right operator.Less = level.Additive
of_right operator.Greater = level.Additive
of_right operator.LessOrEqual = level.Additive
of_right operator.GreaterOrEqual = level.Additive
of_right operator.Add = level.Multiplicative
of_right operator.Subtract = level.Multiplicative
of_right operator.Multiply = level.Unary
of_right operator.Divide = level.Unary
of_right operator.Remainder = level.Unary

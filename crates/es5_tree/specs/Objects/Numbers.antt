-- Numbers (ECMA-262 5.1, section 8.5): whole ones that have no rounding.
use Rattle.std.specs.Prelude.{ℤ, pos, negsuc, ◌≤ℤ◌}

-- from -(2^53-1) to 2^53-1
abbrev pub IsSafe : ℤ → Type 0
IsSafe z = (negsuc 9007199254740990 ≤ℤ z) × (z ≤ℤ pos 9007199254740991)

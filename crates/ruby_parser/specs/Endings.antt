-- What the reading of a list comes to.
use Rattle.std.specs.Prelude.{ℕ, ◌-◌, Bool, true, false, nat_eq, Result, Ok, Err}
use Rattle.descent.specs.declared.fail.Fail.{Fail}
use Rattle.descent.specs.declared.fail.Fail.TheVariants as fail
use Rattle.opal_base.specs.declared.fault.NoMemory.{NoMemory}
use Rattle.ruby_parser.specs.declared.read.Halt.{Halt}
use Rattle.ruby_parser.specs.declared.read.Halt.TheVariants as halt
use Rattle.ruby_reading.specs.declared.value.Body.{Body}
use Rattle.ruby_reading.specs.declared.value.Reading.{Reading}
use Rattle.ruby_reading.specs.declared.value.Reading.TheVariants as reading

abbrev pub stopped : ℕ → ℕ → Result Body Halt
stopped all left = Err (halt.At (all - left))

abbrev pub whole_body : Bool → Body → ℕ → ℕ → Result Body Halt
whole_body true b all left = Ok b
whole_body false b all left = stopped all left

abbrev pub whole : Result Reading Fail → ℕ → ℕ → Result Body Halt
whole (Ok (reading.Body b)) all left = whole_body (nat_eq left 0) b all left
whole (Ok r) all left = stopped all left
whole (Err fail.NoMemory) all left = Err halt.NoMemory
whole (Err fail.Refused) all left = stopped all left

abbrev pub ended : Result Reading Fail → ℕ → Result Bool NoMemory
ended (Ok r) left = Ok (nat_eq left 0)
ended (Err fail.NoMemory) left = Err (record {})
ended (Err fail.Refused) left = Ok (nat_eq left 0)

abbrev pub spelled : Result Body Halt → Result Bool NoMemory
spelled (Ok b) = Ok true
spelled (Err (halt.At at)) = Ok false
spelled (Err halt.NoMemory) = Err (record {})

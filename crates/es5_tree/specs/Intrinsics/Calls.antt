-- The intrinsic functions in their order, and their numbers from 0.
use Rattle.std.specs.Prelude.{ℕ}

pub data HostFn : Type 0 where
  Create : HostFn
  GetPrototypeOf : HostFn
  SetPrototypeOf : HostFn
  Keys : HostFn
  HasOwnProperty : HostFn
  Call : HostFn
  Apply : HostFn
  IsArray : HostFn
  Push : HostFn
  Slice : HostFn
  CharCodeAt : HostFn
  Substring : HostFn
  IndexOf : HostFn
  FromCharCode : HostFn
  Write : HostFn
  Line : HostFn

abbrev pub number : HostFn → ℕ
number Create = 0
number GetPrototypeOf = 1
number SetPrototypeOf = 2
number Keys = 3
number HasOwnProperty = 4
number Call = 5
number Apply = 6
number IsArray = 7
number Push = 8
number Slice = 9
number CharCodeAt = 10
number Substring = 11
number IndexOf = 12
number FromCharCode = 13
number Write = 14
number Line = 15

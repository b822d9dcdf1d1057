-- The words of the command line.
use Rattle.std.specs.Prelude.{◌≤◌, ⊤, ℕ, ◌+◌, ◌-◌, ◌*◌, ◌==◌, ◌&&◌, not, nat_le, Bool, false, List, [], ◌∷◌, map, None, Some, String, string_bytes, if◌then◌else◌, bytes_eq, codes}
use Rattle.std.specs.Option.{option_map, option_and_then}
use Rattle.std.specs.declared.option.Option.{Option}
use Rattle.std.specs.declared.alloc.Global.{Global}
use Rattle.opal_cli.specs.declared.words.Budget.{Budget}
use Rattle.opal_cli.specs.declared.words.Command.{Command}
use Rattle.opal_cli.specs.declared.words.Command.TheVariants as command

-- what the words ask for
pub data Asked : Type 0 where
  Compile : List ℕ → Asked
  Check : List ℕ → Asked
  Run : List ℕ → Budget → Asked
  Exec : List ℕ → Budget → Asked

-- a file's name isn't empty and doesn't begin with `-`
abbrev pub is_file_name : List ℕ → Bool
is_file_name [] = false
is_file_name (byte ∷ name) = not (byte == 45)

-- ---- numbers: decimal, without a leading zero

abbrev pub is_digit : ℕ → Bool
is_digit byte = nat_le 48 byte && nat_le byte 57

-- the number that more digits make of one
abbrev pub number_from : ℕ → List ℕ → Option ℕ
number_from value [] = Some value
number_from value (byte ∷ bytes) = if is_digit byte then number_from (value * 10 + (byte - 48)) bytes else None

abbrev pub number : List ℕ → Option ℕ
number [] = None
number (byte ∷ []) = number_from 0 (byte ∷ [])
number (byte ∷ bytes) = if byte == 48 then None else number_from 0 (byte ∷ bytes)

-- a number within bounds
abbrev pub within : ℕ → ℕ → ℕ → Option ℕ
within least most value = if nat_le least value && nat_le value most then Some value else None

abbrev pub number_within : ℕ → ℕ → List ℕ → Option ℕ
number_within least most word = option_and_then (within least most) (number word)

-- ---- options

abbrev pub usual : Budget
usual = record { steps = 20000000; cells = 4000000 }

-- a budget with an option set
abbrev pub with_option : Budget → List ℕ → List ℕ → Option Budget
with_option budget name value =
    if bytes_eq name (codes "--steps") then option_map (λ n. record budget { steps = n }) (number_within 0 1000000000 value)
    else (if bytes_eq name (codes "--cells") then option_map (λ n. record budget { cells = n }) (number_within 1000 16777216 value) else None)

-- a second option isn't the first one again
abbrev pub with_second : List ℕ → Budget → List (List ℕ) → Option Budget
with_second first budget [] = Some budget
with_second first budget (name ∷ value ∷ []) = if bytes_eq first name then None else with_option budget name value
with_second first budget _ = None

-- each option stands at most once, in either order
abbrev pub budget_of : List (List ℕ) → Option Budget
budget_of [] = Some usual
budget_of (name ∷ value ∷ more) = option_and_then (λ budget. with_second name budget more) (with_option usual name value)
budget_of _ = None

-- ---- commands

-- what is asked where nothing stands behind the file
abbrev pub alone : Asked → List (List ℕ) → Option Asked
alone asked [] = Some asked
alone asked _ = None

abbrev pub command_of : List ℕ → List ℕ → List (List ℕ) → Option Asked
command_of verb file options =
    if bytes_eq verb (codes "compile") then alone (Compile file) options
    else (if bytes_eq verb (codes "check") then alone (Check file) options
    else (if bytes_eq verb (codes "run") then option_map (Run file) (budget_of options)
    else (if bytes_eq verb (codes "exec") then option_map (Exec file) (budget_of options) else None)))

abbrev pub asked : List (List ℕ) → Option Asked
asked (verb ∷ file ∷ options) = if is_file_name file then command_of verb file options else None
asked _ = None

-- what the words ask for, or none where they have no reading
abbrev pub asked_by : List (String Global) → Option Asked
asked_by words = asked (map string_bytes words)

abbrev pub asked_of : Command → Asked
asked_of (command.Compile file) = Compile file.now
asked_of (command.Check file) = Check file.now
asked_of (command.Run file budget) = Run file.now budget
asked_of (command.Exec file budget) = Exec file.now budget

-- the steps of a run are within their bound
abbrev pub IsBounded : Command → Type 0
IsBounded (command.Compile file) = ⊤
IsBounded (command.Check file) = ⊤
IsBounded (command.Run file budget) = budget.steps ≤ 1000000000
IsBounded (command.Exec file budget) = budget.steps ≤ 1000000000

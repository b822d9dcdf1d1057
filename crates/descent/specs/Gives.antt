-- What a parser's functions give.
use Rattle.std.specs.Prelude.{◌≡◌, List, Result, Ok, Err}
use Rattle.descent.specs.declared.fail.Fail.{Fail}
use Rattle.descent.specs.declared.fail.Fail.TheVariants.{NoMemory, Refused}

-- The reading's outcome is the value, shown as the grammar has it, and the tokens behind it; or it stops at the token that
-- stands next.
abbrev pub Gives : {A B T : Type 0} → (B → A) → Result (A × List T) (List T) → Result B Fail → List T → Type 0
Gives shown outcome (Ok a) rest = outcome ≡ Ok (shown a, rest)
Gives shown outcome (Err NoMemory) rest = Unit {0}
Gives shown outcome (Err Refused) rest = outcome ≡ Err rest

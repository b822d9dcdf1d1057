-- What the parser's functions read of the tokens ahead.
use Rattle.std.specs.Prelude.{◌≡◌, ℕ, List, map, Result, Ok, Err}
use Rattle.ruby_meaning.specs.declared.production.Sign.{Sign}
use Rattle.ruby_meaning.specs.declared.tree.Node.{Node}
use Rattle.ruby_meaning.specs.Grammar.Classes.{code_of}
use Rattle.ruby_meaning.specs.Grammar.Seen.{Seen}
use Rattle.ruby_reading.specs.declared.cursor.Sight.{Sight}
use Rattle.ruby_reading.specs.declared.cursor.Cursor.{Cursor}
use Rattle.descent.specs.declared.fail.Fail.{Fail}
use Rattle.descent.specs.declared.fail.Fail.TheVariants.{NoMemory}
use Rattle.descent.specs.Gives.{Gives}

abbrev pub see : Sight → Seen
see s = record { token = s.token.now; sign = s.sign }

abbrev pub ahead : Cursor → List Seen
ahead c = map see c.rest.now

abbrev pub class_code : Seen → ℕ
class_code t = code_of t.sign

abbrev pub codes : List Sign → List ℕ
codes signs = map code_of signs

abbrev pub GivesToken : Result (Seen × List Seen) (List Seen) → Result Sight Fail → List Seen → Type 0
GivesToken = Gives see

abbrev pub GivesNode : Result (Node × List Seen) (List Seen) → Result Node Fail → List Seen → Type 0
GivesNode = Gives (λ n. n)

-- It makes the value, unless no memory is found.
abbrev pub Makes : {A : Type 0} → A → Result A Fail → Type 0
Makes value (Ok a) = a ≡ value
Makes value (Err f) = f ≡ NoMemory

-- It makes what is shown as the value, unless no memory is found.
abbrev pub MakesAs : {A B : Type 0} → (B → A) → A → Result B Fail → Type 0
MakesAs shown value (Ok b) = shown b ≡ value
MakesAs shown value (Err f) = f ≡ NoMemory

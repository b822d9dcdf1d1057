-- What the parser's functions read of the tokens ahead.
use Rattle.std.specs.Prelude.{ℕ, List, map, Result}
use denote.Ref.{Bor}
use Rattle.es5_tree.specs.declared.terminal.Terminal.{Terminal}
use Rattle.es5_tree.specs.declared.token.EsToken.{EsToken}
use Rattle.es5_tree.specs.Grammar.Terminals.{code_of}
use Rattle.es5_reading.specs.declared.tokens.Tokens.{Tokens}
use Rattle.descent.specs.declared.fail.Fail.{Fail}
use Rattle.descent.specs.Gives.{Gives}

abbrev pub ahead : Tokens → List EsToken
ahead tokens = tokens.rest.now

abbrev pub codes : List Terminal → List ℕ
codes terminals = map code_of terminals

abbrev pub GivesToken : Result (EsToken × List EsToken) (List EsToken) → Result (Bor EsToken) Fail → List EsToken → Type 0
GivesToken = Gives (λ t. t.now)

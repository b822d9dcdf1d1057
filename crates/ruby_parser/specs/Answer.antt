-- Why tokens spell no program.
use Rattle.std.specs.Prelude.{List, ⊤}
use Rattle.ruby_meaning.specs.declared.construct.Stop.{Stop}
use Rattle.ruby_meaning.specs.declared.construct.Stop.TheVariants as stop
use Rattle.ruby_meaning.specs.declared.token.Token.{Token}
use Rattle.ruby_meaning.specs.Grammar.Refusals.{RefusedTokens}

-- no memory was found, or the refusal is that of the tokens
abbrev pub StopsAt : List Token → Stop → Type 0
StopsAt tokens stop.NoMemory = ⊤
StopsAt tokens (stop.Refused pos c) = RefusedTokens tokens pos c

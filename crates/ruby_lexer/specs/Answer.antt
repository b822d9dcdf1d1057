-- What the parts of the lexer answer.
use Rattle.std.specs.Prelude.{◌≡◌, ℕ, false, List}
use Rattle.ruby_meaning.specs.declared.construct.Stop.{Stop}
use Rattle.ruby_meaning.specs.declared.construct.Stop.TheVariants as stop
use Rattle.ruby_meaning.specs.declared.form.Stand.{Stand}
use Rattle.ruby_meaning.specs.declared.form.Stand.TheVariants as stand
use Rattle.ruby_meaning.specs.declared.spot.Spot.{Spot}
use Rattle.ruby_meaning.specs.Lexing.Lexes.{FaultAt}
use Rattle.ruby_meaning.specs.Lexing.OpenTexts.{top_is_none}

-- no piece stands there, and the text isn't over
abbrev pub IsFault : Spot → Stand → Type 0
IsFault s (stand.Form f n) = ⊥
IsFault s (stand.Refused c n) = Unit {0}
IsFault s stand.Endless = Unit {0}
IsFault s stand.Cut = Unit {0}
IsFault s stand.End = top_is_none s.nesting ≡ false

-- the refusal is that of what stands at the place
abbrev pub RefusedAt : Spot → List ℕ → Stand → Stop → Type 0
RefusedAt s text found stop.NoMemory = Unit {0}
RefusedAt s text found (stop.Refused place c) = FaultAt s text found place c

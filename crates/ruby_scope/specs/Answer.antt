-- Why a program has no scopes.
use Rattle.ruby_meaning.specs.declared.construct.Stop.{Stop}
use Rattle.ruby_meaning.specs.declared.construct.Stop.TheVariants as stop
use Rattle.ruby_meaning.specs.declared.tree.Program.{Program}
use Rattle.ruby_meaning.specs.Scoping.Scopes.{OwnScopeFault}

-- no memory was found, or the refusal is the program's
abbrev pub Stops : Program → Stop → Type 0
Stops program stop.NoMemory = Unit {0}
Stops program (stop.Refused pos c) = OwnScopeFault program pos c

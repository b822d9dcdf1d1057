-- Laws of the definitions.
use Rattle.std.specs.Prelude.{◌≡◌, ℕ, true, List}
use Rattle.opal_base.specs.Outside.{FileMap}
use Rattle.ruby_meaning.specs.declared.bundle.Bundle.{Bundle}
use Rattle.ruby_meaning.specs.Puts.{putting}
use Rattle.ruby_meaning.specs.Load.{Loaded, Loads, IsSound}

-- a bundle that some file spells is such a program
abbrev pub OnlyPuts : Type 0
OnlyPuts = (bundle : Bundle) → IsSound bundle → (putting bundle.main.program.body).only_puts ≡ true

-- loading comes to something
abbrev pub SomeLoad : Type 0
SomeLoad = (files : FileMap) (main : List ℕ) → (loaded : Loaded) × Loads files main loaded

-- loading comes to one thing at most
abbrev pub OneLoad : Type 0
OneLoad = (files : FileMap) (main : List ℕ) (loaded other : Loaded) → Loads files main loaded → Loads files main other → loaded ≡ other

-- What holds of the scoping of a program.
use Rattle.std.specs.Prelude.{◌≡◌, ◌⊎◌}
use Rattle.opal_base.specs.declared.place.Pos.{Pos}
use Rattle.ruby_meaning.specs.declared.construct.Construct.{Construct}
use Rattle.ruby_meaning.specs.declared.scope.Resolved.{Resolved}
use Rattle.ruby_meaning.specs.declared.tree.Program.{Program}
use Rattle.ruby_meaning.specs.Scoping.Scopes.{OwnScopeFault, Scoped}

-- A program is resolved in at most one way.
abbrev pub OneScoping : Type 0
OneScoping = (program : Program) (a b : Resolved) → Scoped program a → Scoped program b → a ≡ b

-- It has at most one refusal.
abbrev pub OneRefusal : Type 0
OneRefusal = (program : Program) (p q : Pos) (c d : Construct) → OwnScopeFault program p c → OwnScopeFault program q d → (p ≡ q) × (c ≡ d)

-- It never has both.
abbrev pub NotBoth : Type 0
NotBoth = (program : Program) (a : Resolved) (p : Pos) (c : Construct) → Scoped program a → OwnScopeFault program p c → ⊥

-- It has one of them.
abbrev pub ScopedOrRefused : Type 0
ScopedOrRefused = (program : Program)
    → ((a : Resolved) × Scoped program a) ⊎ ((p : Pos) × (c : Construct) × OwnScopeFault program p c)

-- The scoping of a program, or its first refusal.
use Rattle.std.specs.Prelude.{◌≡◌, ℕ, List, [], ◌∷◌, Option, Some, None}
use Rattle.opal_base.specs.declared.place.Pos.{Pos}
use Rattle.ruby_meaning.specs.declared.construct.Construct.{Construct}
use Rattle.ruby_meaning.specs.declared.construct.Construct.TheVariants as construct
use Rattle.ruby_meaning.specs.declared.scope.Refusal.{Refusal}
use Rattle.ruby_meaning.specs.declared.scope.Resolved.{Resolved}
use Rattle.ruby_meaning.specs.declared.scope.Scope.{Scope}
use Rattle.ruby_meaning.specs.declared.scope.Seen.{Seen}
use Rattle.ruby_meaning.specs.declared.tree.Program.{Program}
use Rattle.ruby_meaning.specs.Scoping.Walk.{part, no_targets}

-- before the first token of a file
abbrev pub start : Seen
start = record { own = []; params = []; named = []; outer = []; scopes = []; calls = []; refusal = None; unbuilt = None }

-- what the whole text says
abbrev pub seen : Option ℕ → Program → Seen
seen below program = ((part below program.body).walk no_targets start).seen

-- the program in which bare names of locals and calls of `require` are told apart from other calls
abbrev pub resolved_program : Program → Program
resolved_program program = record { body = ((part None program.body).walk no_targets start).made }

-- a form that isn't built is refused where nothing else is
abbrev pub or_unbuilt : Option Refusal → Option Pos → Option Refusal
or_unbuilt (Some r) unbuilt = Some r
or_unbuilt None None = None
or_unbuilt None (Some pos) = Some (record { pos = pos; construct = construct.NotYet })

abbrev pub refusal_of : Seen → Option Refusal
refusal_of s = or_unbuilt s.refusal s.unbuilt

-- the first refusal of a file whose directory is so many below the base
abbrev pub ScopeFault : Program → ℕ → Pos → Construct → Type 0
ScopeFault program below pos c = refusal_of (seen (Some below) program) ≡ Some (record { pos = pos; construct = c })

-- the same, without the one thing that the directory decides: whether a `require_relative` goes above the base
unfoldable pub own_scope_fault : Program → Option Refusal
own_scope_fault program = refusal_of (seen None program)

abbrev pub OwnScopeFault : Program → Pos → Construct → Type 0
OwnScopeFault program pos c = own_scope_fault program ≡ Some (record { pos = pos; construct = c })

-- the scopes of a file in the order of the text
abbrev pub scopes_of : Seen → List Scope
scopes_of s = record { own = s.own; outer = s.named } ∷ s.scopes

-- A program that isn't refused: with its names resolved, with its scopes and the names that it calls. Places for a source
-- map aren't given yet.
pub record Scoped (program : Program) (resolved : Resolved) : Type 0 where
  pub taken : own_scope_fault program ≡ None
  pub program_is : resolved.program ≡ resolved_program program
  pub scopes_are : resolved.scopes ≡ scopes_of (seen None program)
  pub calls_are : resolved.calls ≡ (seen None program).calls
  pub sites_are : resolved.sites ≡ []

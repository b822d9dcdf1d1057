-- Loading a program: what the map of files holds under the main name, read as a bundle, or refused, or missing.
use Rattle.std.specs.Prelude.{◌≡◌, ℕ, ◌<◌, ◌≤◌, List, length, take, None, Some}
use Rattle.std.specs.Str.{IsValidUpTo}
use Rattle.opal_base.specs.Outside.{FileMap}
use Rattle.opal_base.specs.Place.{place_at}
use Rattle.opal_base.specs.Text.{IsDecoded}
use Rattle.opal_base.specs.declared.place.Pos.{Pos}
use Rattle.ruby_meaning.specs.declared.bundle.Bundle.{Bundle}
use Rattle.ruby_meaning.specs.declared.construct.Construct.{Construct}
use Rattle.ruby_meaning.specs.declared.construct.Construct.TheVariants as construct
use Rattle.ruby_meaning.specs.declared.scope.Resolved.{Resolved}
use Rattle.ruby_meaning.specs.declared.token.Token.{Token}
use Rattle.ruby_meaning.specs.declared.tree.Program.{Program}
use Rattle.ruby_meaning.specs.Lexing.Lexes.{Lexes, LexFault}
use Rattle.ruby_meaning.specs.Grammar.Laws.{SpellsInLimit}
use Rattle.ruby_meaning.specs.Grammar.Refusals.{RefusedTokens}
use Rattle.ruby_meaning.specs.Scoping.Scopes.{Scoped, OwnScopeFault}

abbrev pub place : ℕ → ℕ → Pos
place line col = record { line = line; col = col }

-- the longest file, in bytes
abbrev pub most_bytes : ℕ
most_bytes = 1048576

-- ---- a text, step by step

-- the text's tokens spell the program, which isn't too deep
pub record TextSpells (text : List ℕ) (program : Program) : Type 0 where
  pub tokens : List Token
  pub lexes : Lexes text tokens
  pub spells : SpellsInLimit program tokens

-- the text spells a program that becomes this one where its names are resolved
pub record TextResolves (text : List ℕ) (resolved : Resolved) : Type 0 where
  pub program : Program
  pub spelled : TextSpells text program
  pub scoped : Scoped program resolved

-- The text is refused so: it has no tokens, or they spell no program, or the names, jumps and requires of its program
-- aren't in order.
pub data TextRefused (text : List ℕ) (pos : Pos) (c : Construct) : Type 0 where
  NoTokens : LexFault text pos c → TextRefused text pos c
  NoProgram : (tokens : List Token) → Lexes text tokens → RefusedTokens tokens pos c → TextRefused text pos c
  NoScopes : (program : Program) → TextSpells text program → OwnScopeFault program pos c → TextRefused text pos c

-- ---- a file

-- the bytes are those of the text, and not too many
pub record HoldsText (bytes text : List ℕ) : Type 0 where
  pub short : length bytes ≤ most_bytes
  pub decoded : IsDecoded bytes text

-- the bytes are a file of this program, whose names are resolved
pub record IsProgram (bytes : List ℕ) (resolved : Resolved) : Type 0 where
  pub text : List ℕ
  pub holds : HoldsText bytes text
  pub resolves : TextResolves text resolved

-- bytes that are no UTF-8 are refused behind their longest front that is
pub record IsBadByte (bytes : List ℕ) (pos : Pos) : Type 0 where
  pub short : length bytes ≤ most_bytes
  pub offset : ℕ
  pub valid : IsValidUpTo bytes offset
  pub front : List ℕ
  pub decoded : IsDecoded (take offset bytes) front
  pub at : pos ≡ place_at front (length front)

-- The bytes are a file that is refused so: it is too long, or no UTF-8, or its text is refused.
pub data IsRefused (bytes : List ℕ) (pos : Pos) (c : Construct) : Type 0 where
  TooLong : most_bytes < length bytes → pos ≡ place 0 0 → c ≡ construct.FileTooLong → IsRefused bytes pos c
  NoText : IsBadByte bytes pos → c ≡ construct.BadByte → IsRefused bytes pos c
  BadText : (text : List ℕ) → HoldsText bytes text → TextRefused text pos c → IsRefused bytes pos c

-- ---- loading

-- what loading comes to
pub data Loaded : Type 0 where
  Whole : Bundle → Loaded
  Missing : List ℕ → Loaded
  Refused : List ℕ → Pos → Construct → Loaded

-- loading the main file from the files comes to this
abbrev pub Loads : FileMap → List ℕ → Loaded → Type 0
Loads files main (Whole bundle) = (bytes : List ℕ) × (files main ≡ Some bytes) × IsProgram bytes bundle.main
Loads files main (Missing name) = (name ≡ main) × (files main ≡ None)
Loads files main (Refused name pos c) = (name ≡ main) × (bytes : List ℕ) × (files main ≡ Some bytes) × IsRefused bytes pos c

-- a bundle of a program that some file spells
abbrev pub IsSound : Bundle → Type 0
IsSound bundle = (bytes : List ℕ) × IsProgram bytes bundle.main

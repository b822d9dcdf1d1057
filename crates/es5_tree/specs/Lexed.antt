-- The tokens of bytes, and the first byte where none begins (ECMA-262 5.1, section 7).
use Rattle.std.specs.Prelude.{◌≡◌, ℕ, ◌+◌, ◌<◌, ◌≤◌, ◌^◌, Bool, false, ◌==◌, ◌&&◌, List, [], ◌∷◌, ◌++◌, length, pos, Option, None, Some, bytes_eq, codes}
use Rattle.opal_base.specs.Place.{place_at}
use Rattle.opal_base.specs.declared.place.Pos.{Pos}
use Rattle.es5_tree.specs.declared.token.EsStop.{EsStop}
use Rattle.es5_tree.specs.declared.token.EsStop.TheVariants.{NoMemory, NotScript}
use Rattle.es5_tree.specs.declared.token.EsToken.{EsToken}
use Rattle.es5_tree.specs.declared.token.EsTokenKind.{EsTokenKind}
use Rattle.es5_tree.specs.declared.token.EsTokenKind.TheVariants as kind
use Rattle.es5_tree.specs.declared.lexing.Restriction.TheVariants.{Free}
use Rattle.es5_tree.specs.Tokens.{kind_of, StuckAt, after_all, Piece, Reaches, Lexes}

-- A token of so many bytes; its place counts lines and columns from 0, and only a line feed ends a line.
abbrev pub token_at : List ℕ → ℕ → ℕ → EsTokenKind → EsToken
token_at bytes from size kind = record { kind = kind; from = from; to = from + size; pos = place_at bytes from }

abbrev pub token_if : List ℕ → ℕ → ℕ → Option EsTokenKind → List EsToken
token_if bytes from size None = []
token_if bytes from size (Some kind) = token_at bytes from size kind ∷ []

-- the tokens of pieces that begin at a byte
abbrev pub tokens_from : List ℕ → ℕ → List Piece → List EsToken
tokens_from bytes from [] = []
tokens_from bytes from (piece ∷ pieces) = token_if bytes from (length piece.slice) (kind_of piece.form) ++ tokens_from bytes (from + length piece.slice) pieces

-- the bytes are cut into pieces, whose tokens these are, with the end token behind them
pub record LexesTo (bytes : List ℕ) (tokens : List EsToken) : Type 0 where
  pub pieces : List Piece
  pub lexed : Lexes bytes pieces
  pub same : tokens ≡ tokens_from bytes 0 pieces ++ token_at bytes (length bytes) 0 kind.End ∷ []

-- the list has one end token and ends with it
abbrev pub IsEnded : List EsToken → Type 0
IsEnded [] = ⊥
IsEnded (token ∷ []) = token.kind ≡ kind.End
IsEnded (token ∷ next ∷ tokens) = (token.kind ≡ kind.End → ⊥) × IsEnded (next ∷ tokens)

abbrev pub is_text : List ℕ → EsTokenKind → Bool
is_text text (kind.Str other) = bytes_eq text other
is_text text k = false

-- the token is the directive as it stands: a literal of twelve bytes, quotes with it, has no escapes (14.1)
abbrev pub is_directive : EsToken → Bool
is_directive token = is_text (codes "use strict") token.kind && (token.to == token.from + 12)

-- the slices follow one another from a byte on
abbrev pub Ascends : ℕ → List EsToken → Type 0
Ascends at [] = Unit {0}
Ascends at (token ∷ tokens) = (at ≤ token.from) × (token.from ≤ token.to) × Ascends token.to tokens

-- a numeral's value is from 0 to 2^53-1
abbrev pub IsSafeKind : EsTokenKind → Type 0
IsSafeKind (kind.Num number) = (value : ℕ) × (number ≡ pos value) × (value < 2 ^ 53)
IsSafeKind other = Unit {0}

abbrev pub IsSafe : EsToken → Type 0
IsSafe token = IsSafeKind token.kind

-- pieces stand up to the byte at the offset, and at that byte none stands
pub record NoTokenAt (bytes : List ℕ) (offset : ℕ) : Type 0 where
  pub pieces : List Piece
  pub rest : List ℕ
  pub reached : Reaches Free bytes pieces rest
  pub some : 0 < length rest
  pub none : StuckAt (after_all Free pieces) rest
  pub place : offset + length rest ≡ length bytes

-- the place of such a byte
abbrev pub NoTokenPlace : List ℕ → Pos → Type 0
NoTokenPlace bytes place = (offset : ℕ) × NoTokenAt bytes offset × (place ≡ place_at bytes offset)

-- memory ran out, or the place is one of these
abbrev pub StopsAt : (Pos → Type 0) → EsStop → Type 0
StopsAt P NoMemory = Unit {0}
StopsAt P (NotScript place) = P place

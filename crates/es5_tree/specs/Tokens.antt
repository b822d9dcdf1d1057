-- The lexical grammar of scripts (ECMA-262 5.1, section 7): the pieces that bytes are cut into.
use Rattle.std.specs.Prelude.{◌≡◌, ℕ, Bool, true, false, ◌||◌, List, [], ◌∷◌, ◌++◌, drop, codes, pos, bytes_eq, Option, None, Some, if◌then◌else◌, take_while}
use Rattle.std.specs.List.{list_any}
use Rattle.es5_tree.specs.declared.lexing.Class.TheVariants.{Blank, Letter, Quote}
use Rattle.es5_tree.specs.declared.lexing.Restriction.{Restriction}
use Rattle.es5_tree.specs.declared.lexing.Restriction.TheVariants.{Free, SameLine, NextLine}
use Rattle.es5_tree.specs.declared.sign.Sign.TheVariants as sign
use Rattle.es5_tree.specs.declared.token.EsMark.{EsMark}
use Rattle.es5_tree.specs.declared.token.EsMark.TheVariants.{Semicolon}
use Rattle.es5_tree.specs.declared.token.EsTokenKind.{EsTokenKind}
use Rattle.es5_tree.specs.declared.token.EsTokenKind.TheVariants as kind
use Rattle.es5_tree.specs.Characters.{class_of, ends_line, is_digit, is_name_part}
use Rattle.es5_tree.specs.Literals.{comment_size, Characters}
use Rattle.es5_tree.specs.Numerals.{numeral, goes_on}
use Rattle.es5_tree.specs.Signs.{sign_at}

-- Blanks and comments between tokens, and tokens: names and reserved words, numerals with their value, string literals with the text that they stand for, and signs.
pub data Form : Type 0 where
  Space : Form
  Comment : Form
  Word : List ℕ → Form
  Num : ℕ → Form
  Str : List ℕ → Form
  Mark : EsMark → Form

-- a piece of the form stands at the front of the bytes, and the rest is behind it
abbrev pub Stands : Form → List ℕ → List ℕ → Type 0
-- 7.2, 7.3: white space and line terminators
Stands Space bytes rest = (byte : ℕ) × (bytes ≡ byte ∷ rest) × (class_of byte ≡ Blank)
-- 7.4: a whole comment
Stands Comment bytes rest = (more : List ℕ) × (n : ℕ) × (bytes ≡ 47 ∷ more) × (comment_size more ≡ Some n) × (rest ≡ drop n more)
-- 7.6: the longest run of identifier parts
Stands (Word name) bytes rest = (byte : ℕ) × (more : List ℕ) × (bytes ≡ byte ∷ more) × (class_of byte ≡ Letter) × (name ≡ byte ∷ take_while is_name_part more) × (bytes ≡ name ++ rest)
-- 7.8.3: the whole run of digits
Stands (Num value) bytes rest = (numeral (take_while is_digit bytes) ≡ Some value) × (bytes ≡ take_while is_digit bytes ++ rest) × (goes_on rest ≡ false)
-- 7.8.4: characters between quotes
Stands (Str text) bytes rest = (quote : ℕ) × (more : List ℕ) × (bytes ≡ quote ∷ more) × (class_of quote ≡ Quote) × Characters quote text more rest
-- 7.7: the longest sign
Stands (Mark mark) bytes rest = (n : ℕ) × (sign_at bytes ≡ Some (sign.Mark mark, n)) × (rest ≡ drop n bytes)

-- no piece stands at the front of the bytes
abbrev pub Stuck : List ℕ → Type 0
Stuck bytes = (form : Form) (behind : List ℕ) → Stands form bytes behind → ⊥

-- blanks and comments are no tokens
abbrev pub kind_of : Form → Option EsTokenKind
kind_of Space = None
kind_of Comment = None
kind_of (Word name) = Some (kind.Word name)
kind_of (Num value) = Some (kind.Num (pos value))
kind_of (Str text) = Some (kind.Str text)
kind_of (Mark mark) = Some (kind.Mark mark)

-- ---- restricted productions (7.9.1, 12.9, 12.13): behind `return` and `throw` a line terminator ends the statement, so only `;` or the end may come

-- what may come: blanks and comments, and tokens
abbrev pub allows : Restriction → Option EsTokenKind → Bool
allows NextLine (Some (kind.Mark Semicolon)) = true
allows NextLine (Some other) = false
allows _ _ = true

abbrev pub is_restricted : List ℕ → Bool
is_restricted name = bytes_eq (codes "return") name || bytes_eq (codes "throw") name

-- behind a blank or comment
abbrev pub passed : Restriction → List ℕ → Restriction
passed SameLine slice = if list_any ends_line slice then NextLine else SameLine
passed restriction slice = restriction

-- behind a piece of these bytes
abbrev pub after : Restriction → Option EsTokenKind → List ℕ → Restriction
after restriction None slice = passed restriction slice
after restriction (Some (kind.Word name)) slice = if is_restricted name then SameLine else Free
after restriction (Some other) slice = Free

-- ---- all pieces

pub record Piece : Type 0 where
  pub form : Form
  pub slice : List ℕ

abbrev pub after_piece : Restriction → Piece → Restriction
after_piece restriction piece = after restriction (kind_of piece.form) piece.slice

abbrev pub after_all : Restriction → List Piece → Restriction
after_all restriction [] = restriction
after_all restriction (piece ∷ pieces) = after_all (after_piece restriction piece) pieces

-- a piece of the form stands there and may come
pub record StandsAt (restriction : Restriction) (form : Form) (bytes rest : List ℕ) : Type 0 where
  pub stands : Stands form bytes rest
  pub allowed : allows restriction (kind_of form) ≡ true

-- no piece stands there that may come
abbrev pub StuckAt : Restriction → List ℕ → Type 0
StuckAt restriction bytes = (form : Form) (behind : List ℕ) → StandsAt restriction form bytes behind → ⊥

-- the pieces stand one after the other at the front of the bytes, and behind them is the rest
abbrev pub Reaches : Restriction → List ℕ → List Piece → List ℕ → Type 0
Reaches restriction bytes [] behind = bytes ≡ behind
Reaches restriction bytes (piece ∷ pieces) behind =
    (rest : List ℕ) × (bytes ≡ piece.slice ++ rest) × StandsAt restriction piece.form bytes rest × Reaches (after_piece restriction piece) rest pieces behind

-- the bytes are the join of the pieces, each of which stands at its place
abbrev pub Lexes : List ℕ → List Piece → Type 0
Lexes bytes pieces = Reaches Free bytes pieces []

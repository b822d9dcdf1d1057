-- What follows from the definitions of texts and places.
use Rattle.std.specs.Prelude.{◌≡◌, ℕ, ◌+◌, ◌<◌, ◌≤◌, ◌^◌, ◌==◌, if◌then◌else◌, List, length, slice_index}
use Rattle.std.specs.List.{AllByRecursion}
use Rattle.std.specs.Str.{IsValidUpTo}
use Rattle.opal_base.specs.Place.{place_at}
use Rattle.opal_base.specs.Text.{IsDecoded, utf8_of}
use Rattle.opal_base.specs.declared.place.Pos.{Pos}

-- Bytes are the UTF-8 of one text at most.
abbrev pub OneText : Type 0
OneText = (bytes u v : List ℕ) → IsDecoded bytes u → IsDecoded bytes v → u ≡ v

-- A text that was decoded from bytes is written as the same bytes.
abbrev pub TextPrintedBack : Type 0
TextPrintedBack = (bytes units : List ℕ) → IsDecoded bytes units → utf8_of units ≡ bytes

-- Bytes that are UTF-8 only up to an offset are the UTF-8 of no text.
abbrev pub DecodedOrNot : Type 0
DecodedOrNot = (bytes : List ℕ) (offset : ℕ) → IsValidUpTo bytes offset → (units : List ℕ) → IsDecoded bytes units → ⊥

-- Bytes are UTF-8 up to one offset at most.
abbrev pub OneOffset : Type 0
OneOffset = (bytes : List ℕ) (offset other : ℕ) → IsValidUpTo bytes offset → IsValidUpTo bytes other → offset ≡ other

-- A decoded text has no more units than bytes, and its units have 16 bits.
pub record IsFitting (bytes units : List ℕ) : Type 0 where
  pub shorter : length units ≤ length bytes
  pub of_16_bits : AllByRecursion (λ unit. unit < 2 ^ 16) units

abbrev pub DecodedFits : Type 0
DecodedFits = (bytes units : List ℕ) → IsDecoded bytes units → IsFitting bytes units

-- The place behind a unit that stands at a place: behind a line feed the next line begins.
abbrev pub place_behind : ℕ → Pos → Pos
place_behind unit pos = if unit == 10 then record { line = pos.line + 1; col = 0 } else record { line = pos.line; col = pos.col + 1 }

-- A text begins at line 0 and column 0.
abbrev pub PlacesBegin : Type 0
PlacesBegin = (text : List ℕ) → place_at text 0 ≡ record { line = 0; col = 0 }

-- Each place follows from the one before it and the unit between them.
abbrev pub PlacesGoOn : Type 0
PlacesGoOn = (text : List ℕ) (at : ℕ) → at < length text → place_at text (at + 1) ≡ place_behind (slice_index text at) (place_at text at)

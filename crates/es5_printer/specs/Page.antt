-- A text that is being written, up to a length.
use Rattle.std.specs.Prelude.{ℕ, ◌+◌, Bool, true, false, nat_le, List, [], ◌∷◌, ◌++◌, length, Option, Some, None, if◌then◌else◌}
use Rattle.opal_base.specs.declared.place.Pos.{Pos}
use Rattle.es5_printer.specs.declared.place.Place.{Place}
use Rattle.es5_printer.specs.Pieces.{Piece, text, site, behind_bytes, place_of}

-- the bytes so far, the place behind them, the places of sites, and whether the text was too long
pub record Shown : Type 0 where
  pub bytes : List ℕ
  pub at : Pos
  pub places : List Place
  pub full : Bool

abbrev pub empty : Shown
empty = record { bytes = []; at = record { line = 0; col = 0 }; places = []; full = false }

-- from this length on a text is too long
abbrev pub limit : ℕ
limit = 2147483648

abbrev pub with_text : List ℕ → Shown → Shown
with_text more s =
    if s.full then s
    else (if nat_le limit (length s.bytes + length more) then record { bytes = s.bytes; at = s.at; places = s.places; full = true }
    else record { bytes = s.bytes ++ more; at = behind_bytes s.at more; places = s.places; full = false })

abbrev pub with_site : ℕ → Shown → Shown
with_site origin s = if s.full then s else record { bytes = s.bytes; at = s.at; places = s.places ++ place_of s.at origin ∷ []; full = false }

abbrev pub with_piece : Piece → Shown → Shown
with_piece (text bytes) s = with_text bytes s
with_piece (site origin) s = with_site origin s

abbrev pub written : List Piece → Shown → Shown
written [] s = s
written (piece ∷ pieces) s = written pieces (with_piece piece s)

-- what is there at the end, unless the text was too long
abbrev pub finished : Shown → Option (List ℕ × List Place)
finished s = if s.full then None else Some (s.bytes, s.places)

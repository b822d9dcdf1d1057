-- A text piece by piece: tokens and the blanks between them, with a mark where the token of a site begins.
use Rattle.std.specs.Prelude.{ℕ, ◌+◌, ◌==◌, List, [], ◌∷◌, ◌++◌, Option, None, Some, if◌then◌else◌, codes}
use Rattle.std.specs.List.{flat_map}
use Rattle.opal_base.specs.declared.place.Pos.{Pos}
use Rattle.es5_printer.specs.declared.place.Place.{Place}

pub data Piece : Type 0 where
  text : List ℕ → Piece
  site : ℕ → Piece

-- a piece of ASCII text
abbrev pub plain : List ℕ → List Piece
plain bytes = text bytes ∷ []

-- the mark of a site, where there is one
abbrev pub marked : Option ℕ → List Piece
marked None = []
marked (Some origin) = site origin ∷ []

abbrev pub more_listed : List (List Piece) → List Piece
more_listed [] = []
more_listed (item ∷ items) = text (codes ", ") ∷ (item ++ more_listed items)

-- items with `, ` between them
abbrev pub listed : List (List Piece) → List Piece
listed [] = []
listed (item ∷ items) = item ++ more_listed items

-- ---- the text, and where its sites are

abbrev pub piece_bytes : Piece → List ℕ
piece_bytes (text bytes) = bytes
piece_bytes (site origin) = []

abbrev pub bytes_of : List Piece → List ℕ
bytes_of pieces = flat_map piece_bytes pieces

-- the place behind a byte: a line ends behind a line feed
abbrev pub behind_byte : Pos → ℕ → Pos
behind_byte at byte = if byte == 10 then record { line = at.line + 1; col = 0 } else record { line = at.line; col = at.col + 1 }

abbrev pub behind_bytes : Pos → List ℕ → Pos
behind_bytes at [] = at
behind_bytes at (byte ∷ bytes) = behind_bytes (behind_byte at byte) bytes

abbrev pub place_of : Pos → ℕ → Place
place_of at origin = record { line = at.line; col = at.col; origin = origin }

-- the places of sites, in the order of the text
abbrev pub places_from : Pos → List Piece → List Place
places_from at [] = []
places_from at (text bytes ∷ pieces) = places_from (behind_bytes at bytes) pieces
places_from at (site origin ∷ pieces) = place_of at origin ∷ places_from at pieces

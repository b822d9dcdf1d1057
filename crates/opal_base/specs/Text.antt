-- Texts as bytes in UTF-8 (RFC 3629) and as units in UTF-16 (RFC 2781).
use Rattle.std.specs.Prelude.{◌≡◌, ℕ, true, List, encode_utf8_all, ⊤}
use Rattle.std.specs.List.{flat_map}
use Rattle.std.specs.Str.{IsValidUpTo}
use Rattle.std.specs.Char.Escape.{encode_utf16}
use Rattle.std.specs.Char.Utf16.{utf16_lossy_chars}
use lib.Utf8.{scalars}
use Rattle.opal_base.specs.declared.utf8.DecodeFault.{DecodeFault}
use Rattle.opal_base.specs.declared.utf8.DecodeFault.TheVariants.{NoMemory, BadByte}

-- The bytes are the UTF-8 of a list of Unicode scalar values, and the units are its UTF-16.
pub record IsDecoded (bytes units : List ℕ) : Type 0 where
  pub chars : List ℕ
  pub are_scalars : scalars chars ≡ true
  pub in_utf8 : encode_utf8_all chars ≡ bytes
  pub in_utf16 : flat_map encode_utf16 chars ≡ units

-- The bytes are no UTF-8: their longest front that is UTF-8 ends before them, at the offset.
abbrev pub IsDecodeFault : List ℕ → DecodeFault → Type 0
IsDecodeFault bytes NoMemory = ⊤
IsDecodeFault bytes (BadByte offset) = IsValidUpTo bytes offset

-- The UTF-8 of units in UTF-16, with U+FFFD (ef bf bd) for each surrogate that has no partner.
abbrev pub utf8_of : List ℕ → List ℕ
utf8_of units = encode_utf8_all (utf16_lossy_chars units)

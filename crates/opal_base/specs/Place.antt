-- Places in a text: lines and columns from 0, columns in units of 16 bits.
use Rattle.std.specs.Prelude.{ℕ, ◌==◌, not, List, take, count_by}
use Rattle.std.specs.List.{suffix_len}
use Rattle.opal_base.specs.declared.place.Pos.{Pos}

-- The line is the number of line feeds before the place, the column the number of units behind the last of them.
abbrev pub place_at : List ℕ → ℕ → Pos
place_at text at = record {
  line = count_by (λ unit. unit == 10) (take at text);
  col = suffix_len (λ unit. not (unit == 10)) (take at text);
}

-- Where trees stand.
use Rattle.opal_base.specs.declared.place.Pos.{Pos}

-- the place before the first byte
abbrev pub start : Pos
start = record { line = 0; col = 0 }

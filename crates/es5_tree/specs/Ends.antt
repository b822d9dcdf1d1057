-- How a script ends.
use Rattle.std.specs.Prelude.{Option, Some}
use Rattle.opal_base.specs.declared.place.Pos.{Pos}
use Rattle.es5_tree.specs.Values.{Text, Val, Str}

-- why a run leaves the profile
pub data OutKind : Type 0 where
  Number : OutKind
  Division : OutKind
  Conversion : OutKind
  Host : OutKind

-- how a script ends: finished, with a throw that nothing caught, or outside the profile at a place
pub data EsEnd : Type 0 where
  Finished : EsEnd
  Uncaught : Text → Text → EsEnd
  Outside : OutKind → Pos → EsEnd

-- a text, or what stands for another value
abbrev pub text_or : Text → Option Val → Text
text_or other (Some (Str text)) = text
text_or other _ = other

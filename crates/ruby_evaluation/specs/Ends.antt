-- How a Ruby program ends.
use Rattle.ruby_evaluation.specs.Tables.{Text}

-- finished, with an exception of that class name and message, or with a whole number outside the profile's range
pub data RubyEnd : Type 0 where
  Finished : RubyEnd
  Uncaught : Text → Text → RubyEnd
  NumberOutside : RubyEnd

-- Records in which a variable has another value.
use Rattle.std.specs.Prelude.{ℕ}
use Rattle.es5_tree.specs.Values.{Val}
use Rattle.es5_host.specs.Bindings.{with_value_at}
use Rattle.es5_evaluation.specs.State.{Activation}

-- the variable at this place
abbrev pub with_value : Activation → ℕ → Val → Activation
with_value a i v = record { variables = with_value_at a.variables i v; constants = a.constants; outer = a.outer }

-- What a call comes to, where a function that an intrinsic one calls is called in some way.
use Rattle.std.specs.Prelude.{◌≡◌, ℕ, List, [], Option, Result, Ok, Err}
use Rattle.es5_evaluation.specs.Task.{Scope, Task}
use Rattle.es5_evaluation.specs.Evaluate.{Call}
use Rattle.es5_objects.specs.Values.{value_of}
use Rattle.es5_code.specs.declared.node.Node.{Node}
use Rattle.es5_store.specs.declared.effect.Halt.{Halt}
use Rattle.es5_store.specs.declared.store.Store.{Store}
use Rattle.es5_store.specs.Steps.{Acted, Steps}
use Rattle.es5_making.specs.declared.invocations.Invoked.{Invoked}
use Rattle.es5_making.specs.declared.invocations.Invoked.TheVariants as invoked

-- A call was done, or it comes to the call of another function; then nothing was written.
abbrev pub ActedBy : Result Invoked Halt → Call → List Node → Scope → Task → Store → Store → Option (List ℕ) → Option (List ℕ) → Type 0
ActedBy (Ok (invoked.Done e)) call T ρ t old new told now = Acted (Ok e) T ρ t old new told now
ActedBy (Ok (invoked.Passed f this args)) call T ρ t old new told now = (now ≡ told) × (new.limit ≡ old.limit) × Steps T t old (call f (value_of this) args) new []
ActedBy (Err h) call T ρ t old new told now = Acted (Err h) T ρ t old new told now

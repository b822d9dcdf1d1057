-- The agreement of two runs on one input: of Ruby's evaluation, and of a script.
use Rattle.std.specs.Prelude.{◌≡◌, ℕ, ◌<◌, List, length, Some, ⊤}
use Rattle.std.specs.List.{slice_get}
use Rattle.opal_base.specs.Shown.{Shown, Ended, Going, Shows}
use Rattle.opal_base.specs.declared.place.Pos.{Pos}
use Rattle.es5_tree.specs.Ends.{EsEnd, OutKind, Number}
use Rattle.es5_tree.specs.Ends as es
use Rattle.es5_evaluation.specs.State.{State}
use Rattle.ruby_evaluation.specs.Ends.{RubyEnd}
use Rattle.ruby_evaluation.specs.Ends as ruby
use Rattle.ruby_evaluation.specs.State.{Ruby}

-- the same end; a number outside the range is the same at any place
abbrev pub SameEnd : RubyEnd → EsEnd → Type 0
SameEnd ruby.Finished es.Finished = ⊤
SameEnd (ruby.Uncaught name message) (es.Uncaught other text) = (name ≡ other) × (message ≡ text)
SameEnd ruby.NumberOutside (es.Outside kind place) = kind ≡ Number
SameEnd _ _ = ⊥

-- The one run ends with an output and an end exactly when the other ends with the same output and the same end; while neither
-- ends, each output that one shows the other shows too; and the script leaves the profile by a number alone.
pub record AgreeRuns (f : ℕ → Shown RubyEnd) (g : ℕ → Shown EsEnd) : Type 0 where
  pub ends : (n : ℕ) (output : List ℕ) (end : RubyEnd) → f n ≡ Ended output end → (m : ℕ) × (other : EsEnd) × (g m ≡ Ended output other) × SameEnd end other
  pub ends_only : (m : ℕ) (output : List ℕ) (other : EsEnd) → g m ≡ Ended output other → (n : ℕ) × (end : RubyEnd) × (f n ≡ Ended output end) × SameEnd end other
  pub goes : (n : ℕ) (output : List ℕ) → f n ≡ Going output → (m : ℕ) × Shows (g m) output
  pub goes_only : (m : ℕ) (output : List ℕ) → g m ≡ Going output → (n : ℕ) × Shows (f n) output
  pub outside : (m : ℕ) (output : List ℕ) (kind : OutKind) (place : Pos) → g m ≡ Ended output (es.Outside kind place) → kind ≡ Number

-- a relation between the states of both sides
abbrev pub Relation : Type 1
Relation = Ruby → State → Type 0

-- Of the states that both sides show, at each call of the host and at an end, the k-th ones are in the relation, wherever both
-- lists have a k-th; and each k that one list reaches the other reaches too.
pub record CarriedRuns (C : Relation) (f : ℕ → List Ruby) (g : ℕ → List State) : Type 0 where
  pub carried : (n m k : ℕ) (r : Ruby) (s : State) → slice_get (f n) k ≡ Some r → slice_get (g m) k ≡ Some s → C r s
  pub reached : (n k : ℕ) → k < length (f n) → (m : ℕ) × (k < length (g m))
  pub reached_only : (m k : ℕ) → k < length (g m) → (n : ℕ) × (k < length (f n))

-- What begins what a jump gives.
use Rattle.std.proofs.Common.{◌≡◌, Bool, ◌&&◌, ◌||◌, List, [], ◌∷◌, refl}
use Rattle.std.specs.Prelude.{not}
use Rattle.grammar.specs.FormReaders.{next_in}

pub begins_given : {T : Type 0} (m s v : T → Bool) (ts : List T) → next_in (λ t. not (m t) && (s t || v t)) ts ≡ (not (next_in m ts) && (next_in s ts || next_in v ts))
begins_given m s v [] = refl
begins_given m s v (t ∷ ts) = refl

-- Which token stands next.
use Rattle.std.proofs.Common.{◌≡◌, Bool, ◌||◌, List, [], ◌∷◌, refl}
use Rattle.grammar.specs.FormReaders.{next_in}

pub next_or : {T : Type 0} (f g : T → Bool) (ts : List T) → next_in (λ t. f t || g t) ts ≡ (next_in f ts || next_in g ts)
next_or f g [] = refl
next_or f g (t ∷ ts) = refl

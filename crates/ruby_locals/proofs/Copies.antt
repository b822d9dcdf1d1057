-- Lists that are made one item at a time.
use Rattle.std.proofs.Common.{◌≡◌, ℕ, ◌+◌, List, [], ◌∷◌, ◌++◌, drop, Some, slice_get, sym, ap, ◌∙◌}
use Rattle.std.proofs.lemmas.List.{append_assoc}
use Rattle.ruby_meaning.proofs.Scoping.Lists.{drop_at}

pub moved : {X : Type 0} (whole copy : List X) (i : ℕ) (x : X) → slice_get whole i ≡ Some x → copy ++ drop i whole ≡ whole → (copy ++ x ∷ []) ++ drop (i + 1) whole ≡ whole
moved whole copy i x e h = append_assoc copy (x ∷ []) (drop (i + 1) whole) ∙ ap (λ r. copy ++ r) (sym (drop_at whole i x e)) ∙ h

-- One turn of a loop over a list, from what is known of the items from an index on.
use Rattle.std.proofs.Common.{◌≡◌, ℕ, ◌+◌, Bool, true, false, not, ◌&&◌, ◌||◌, List, drop, Some, sym, ap, ◌∙◌}
use Rattle.std.specs.Prelude.{bytes_eq, slice_get}
use Rattle.std.specs.List.{list_all, list_any}
use Rattle.es5_printer.proofs.Written.{item_at}
use Rattle.es5_spelling.specs.Spellable.{none_twice}

module _ {A : Type 0} (p : A → Bool) (xs : List A) (i : ℕ) (x : A) (r : Bool) (here : slice_get xs i ≡ Some x) where
  pub any_next : p x ≡ false → list_any p (drop i xs) ≡ r → list_any p (drop (i + 1) xs) ≡ r
  any_next e h = sym (ap (list_any p) (item_at xs i x here) ∙ ap (λ b. b || list_any p (drop (i + 1) xs)) e) ∙ h

  pub any_found : p x ≡ true → list_any p (drop i xs) ≡ r → true ≡ r
  any_found e h = sym (ap (list_any p) (item_at xs i x here) ∙ ap (λ b. b || list_any p (drop (i + 1) xs)) e) ∙ h

  pub all_next : p x ≡ true → list_all p (drop i xs) ≡ r → list_all p (drop (i + 1) xs) ≡ r
  all_next e h = sym (ap (list_all p) (item_at xs i x here) ∙ ap (λ b. b && list_all p (drop (i + 1) xs)) e) ∙ h

  pub all_failed : p x ≡ false → list_all p (drop i xs) ≡ r → false ≡ r
  all_failed e h = sym (ap (list_all p) (item_at xs i x here) ∙ ap (λ b. b && list_all p (drop (i + 1) xs)) e) ∙ h

module _ (names : List (List ℕ)) (i : ℕ) (name : List ℕ) (r : Bool) (here : slice_get names i ≡ Some name) where
  pub twice_next : list_any (λ other. bytes_eq name other) (drop (i + 1) names) ≡ false → none_twice (drop i names) ≡ r → none_twice (drop (i + 1) names) ≡ r
  twice_next e h = sym (ap none_twice (item_at names i name here) ∙ ap (λ b. not b && none_twice (drop (i + 1) names)) e) ∙ h

  pub twice_found : list_any (λ other. bytes_eq name other) (drop (i + 1) names) ≡ true → none_twice (drop i names) ≡ r → false ≡ r
  twice_found e h = sym (ap none_twice (item_at names i name here) ∙ ap (λ b. not b && none_twice (drop (i + 1) names)) e) ∙ h

-- The step of a loop over a list: what is left begins with the element at the index.
use Rattle.std.proofs.Common.{◌≡◌, ℕ, suc, ◌+◌, ◌<◌, ◌≤◌, List, [], ◌∷◌, length, get_or, drop, refl, sym, ap, ◌∙◌, arith, drop-cons, drop_of_length-le}

one_more : (i : ℕ) → suc i ≡ i + 1
one_more i = omega arith

pub at_step : {A : Type 0} (xs : List A) (i : ℕ) (x : A) → i < length xs → x ≡ get_or xs i x → drop i xs ≡ x ∷ drop (i + 1) xs
at_step xs i x h e = drop-cons xs i x h ∙ (ap (λ y. y ∷ drop (suc i) xs) (sym e) ∙ ap (λ n. x ∷ drop n xs) (one_more i))

pub at_end : {A : Type 0} (xs : List A) → drop (length xs) xs ≡ []
at_end [] = refl
at_end (x ∷ xs) = at_end xs

pub past_end : {A : Type 0} (xs : List A) (i : ℕ) → length xs ≤ i → drop i xs ≡ []
past_end xs i h = drop_of_length-le xs h

-- The opening brackets that come next, by their number.
use Rattle.std.proofs.Common.{◌≡◌, ℕ, zero, suc, ◌-◌, ◌≤◌, Bool, true, false, List, [], ◌∷◌, length, take, drop, refl, ap, ◌∙◌, arith}
use Rattle.std.specs.Prelude.{if◌then◌else◌}
use Rattle.grammar.specs.FormReaders.{behind_openings}
use Rattle.es5_tree.specs.declared.token.EsToken.{EsToken}
use Rattle.es5_parser.specs.Levels.{opens, openings_ahead}

pub taken : (ts : List EsToken) → take (length (openings_ahead ts)) ts ≡ openings_ahead ts
taken [] = refl
taken (t ∷ ts) = by (opens t) (taken ts)
  where
    by : (c : Bool) → take (length (openings_ahead ts)) ts ≡ openings_ahead ts → take (length (if c then t ∷ openings_ahead ts else [])) (t ∷ ts) ≡ (if c then t ∷ openings_ahead ts else [])
    by true h = ap (λ l. t ∷ l) h
    by false h = refl

pub passed : (ts : List EsToken) → drop (length (openings_ahead ts)) ts ≡ behind_openings opens ts
passed [] = refl
passed (t ∷ ts) = by (opens t) (passed ts)
  where
    by : (c : Bool) → drop (length (openings_ahead ts)) ts ≡ behind_openings opens ts → drop (length (if c then t ∷ openings_ahead ts else [])) (t ∷ ts) ≡ (if c then behind_openings opens ts else t ∷ ts)
    by true h = h
    by false h = refl

pub within : (ts : List EsToken) → length (openings_ahead ts) ≤ length ts
within [] = omega arith
within (t ∷ ts) = by (opens t) (within ts)
  where
    by : (c : Bool) → length (openings_ahead ts) ≤ length ts → length (if c then t ∷ openings_ahead ts else []) ≤ suc (length ts)
    by true h = omega (arith, h)
    by false h = omega arith

all_taken : {A : Type 0} (xs : List A) → take (length xs) xs ≡ xs
all_taken [] = refl
all_taken (x ∷ xs) = ap (λ l. x ∷ l) (all_taken xs)

none_taken : {A : Type 0} (n : ℕ) → take {A = A} n [] ≡ []
none_taken zero = refl
none_taken (suc n) = refl

rest_taken : {A : Type 0} (xs : List A) (n : ℕ) → take (length xs - n) (drop n xs) ≡ drop n xs
rest_taken xs zero = let e : length xs - 0 ≡ length xs = omega arith in ap (λ k. take k xs) e ∙ all_taken xs
rest_taken [] (suc n) = none_taken (0 - suc n)
rest_taken (x ∷ xs) (suc n) = let e : suc (length xs) - suc n ≡ length xs - n = omega arith in ap (λ k. take k (drop n xs)) e ∙ rest_taken xs n

pub passed_by : (ts : List EsToken) (n : ℕ) → n ≡ length (openings_ahead ts) → take (length ts - n) (drop n ts) ≡ behind_openings opens ts
passed_by ts n e = rest_taken ts n ∙ ap (λ k. drop k ts) e ∙ passed ts

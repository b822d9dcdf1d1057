-- Classes of tokens: disjoint, included, and those that go on behind a value.
use Rattle.std.proofs.Common.{◌≡◌, ℕ, zero, suc, ◌<◌, Bool, true, false, ◌&&◌, [], ◌∷◌, inl, inr, refl, sym, ap, ◌∙◌, arith, true≢false, eq-or-lt_of_le, le_of_suc-le-suc}
use Rattle.std.specs.Prelude.{if◌then◌else◌}
use Rattle.grammar.specs.FormReaders.{Apart}
use Rattle.grammar.specs.Rules.{Sort, El, Rule, token, token_where, absent, sequence, choice, view, node, many, suffixes, suffix, starting, bind, needs, named, Grammar}
use Rattle.grammar.specs.Checks.{classes_in, Included, nullable, continues, GoesOn, Disjoint}
use Rattle.grammar.proofs.Lists.{cons_nil, or_left, or_right, and_both}

pub never : {c : Bool} → c ≡ false → c ≡ true → ⊥
never h g = true≢false (sym g ∙ h)

pub clear_at : (n : ℕ) (f : ℕ → Bool) (k : ℕ) → classes_in n f ≡ [] → k < n → f k ≡ true → ⊥
clear_at zero f k h lt e = let no : ⊥ = omega (arith, lt) in no
clear_at (suc n) f k h lt e = by (λ y less. clear_at n f k y less e) (f n) refl h
  where
    by : (classes_in n f ≡ [] → k < n → ⊥) → (c : Bool) → f n ≡ c → (if c then n ∷ classes_in n f else classes_in n f) ≡ [] → ⊥
    by go true x y = cons_nil y
    by go false x y = elim (eq-or-lt_of_le (le_of_suc-le-suc lt)) [
      | inl same ↦ true≢false (sym e ∙ ap f same ∙ x)
      | inr less ↦ go y less
    ]

module _ {T N K : Type 0} {sorts : K → Sort} (G : Grammar T N K sorts) where
  pub included_at : (f g : ℕ → Bool) (k : ℕ) → Included G f g → k < G.size → f k ≡ true → g k ≡ true
  included_at f g k h lt e = by (g k) refl
    where
      by : (c : Bool) → g k ≡ c → c ≡ true
      by true x = refl
      by false x = absurd (clear_at G.size (λ j. if g j then false else f j) k h lt (ap (λ c. if c then false else f k) x ∙ e))

  pub apart : (within : (t : T) → G.code t < G.size) (c f : ℕ → Bool) → Disjoint G c f → Apart (λ t. c (G.code t)) (λ t. f (G.code t))
  apart within c f h t k j = clear_at G.size (λ n. c n && f n) (G.code t) h (within t) (and_both (c (G.code t)) _ k j)

  -- what goes on behind a value goes on behind the rule
  pub continues_of : ((k : K) (a : El T N (sorts k)) (t : ℕ) → G.name_goes_on k a t ≡ true → G.name_continues k t ≡ true) → {s : Sort} (r : Rule T N K sorts s) (a : El T N s) (t : ℕ) → GoesOn G r a t → continues G r t ≡ true
  continues_of h (token f) a t x = x
  continues_of h (token_where f ok) a t x = x
  continues_of h (absent b) a t x = x
  continues_of h (sequence r q) a t (inl x) = or_left (continues G q t) _ (continues_of h q a.1 t x)
  continues_of h (sequence r q) a t (inr x) = or_right (continues G q t) _ (and_both (nullable G q) _ x.0 (continues_of h r a.0 t x.1))
  continues_of h (choice r q) a t (inl x) = or_left (continues G r t) _ (continues_of h r a t x)
  continues_of h (choice r q) a t (inr (inl x)) = or_right (continues G r t) _ (or_left (continues G q t) _ (continues_of h q a t x))
  continues_of h (choice r q) a t (inr (inr x)) = or_right (continues G r t) _ (or_right (continues G q t) _ (and_both (nullable G q) _ x.0 x.1))
  continues_of h (view f r) a t (b, e, x) = continues_of h r b t x
  continues_of h (node f r) a t (b, e, x) = continues_of h r b t x
  continues_of h (many r) a t x = x
  continues_of h (suffixes levels r q f) a t (inl x) = or_left (continues G r t) _ (continues_of h r a t x)
  continues_of h (suffixes levels r q f) a t (inr (inl (l, y, e, x))) = or_right (continues G r t) _ (or_left (continues G q t) _ (continues_of h q y t x))
  continues_of h (suffixes levels r q f) a t (inr (inr x)) = or_right (continues G r t) _ (or_right (continues G q t) _ x)
  continues_of h (suffix levels r ok q f) a t (inl x) = or_left (continues G r t) _ (continues_of h r a t x)
  continues_of h (suffix levels r ok q f) a t (inr (inl (l, y, e, k, x))) = or_right (continues G r t) _ (or_left (continues G q t) _ (continues_of h q y t x))
  continues_of h (suffix levels r ok q f) a t (inr (inr x)) = or_right (continues G r t) _ (or_right (continues G q t) _ x.1)
  continues_of h (starting g r) a t x = continues_of h r a t x
  continues_of h (bind r null begins goes_on q) a t x = x
  continues_of h (needs n r) a t x = continues_of h r a t x
  continues_of h (named k) a t x = h k a t x

  -- what goes on behind a production's value goes on behind its name
  pub by_class : ((k : K) (a : El T N (sorts k)) (t : ℕ) → G.name_goes_on k a t ≡ true → G.name_continues k t ≡ true)
      → (k : K) → Included G (continues G (G.production k)) (G.name_continues k) → (a : El T N (sorts k)) (t : ℕ) → t < G.size → GoesOn G (G.production k) a t → G.name_continues k t ≡ true
  by_class h k all a t less x = included_at (continues G (G.production k)) (G.name_continues k) t all less (continues_of h (G.production k) a t x)

  -- where names go on by their class alone
  pub by_classes : ((k : K) (a : El T N (sorts k)) (t : ℕ) → G.name_goes_on k a t ≡ true → G.name_continues k t ≡ true)
      → ((k : K) (a : El T N (sorts k)) (t : ℕ) → G.name_continues k t ≡ true → G.name_goes_on k a t ≡ true)
      → ((k : K) → Included G (continues G (G.production k)) (G.name_continues k))
      → (k : K) (a : El T N (sorts k)) (t : ℕ) → t < G.size → GoesOn G (G.production k) a t → G.name_goes_on k a t ≡ true
  by_classes h back all k a t less x = back k a t (by_class h k (all k) a t less x)

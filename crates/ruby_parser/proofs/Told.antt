-- What tests tell, put together.
use Rattle.std.proofs.Common.{◌≡◌, Bool, true, false, ◌&&◌, ◌||◌, ◌⊎◌, inl, inr, refl, sym, ap, ◌∙◌, subst, true≢false, List, [], ◌∷◌, None, Option}
use Rattle.std.specs.Prelude.{not}
use Rattle.ruby_meaning.specs.declared.production.Sign.{Sign}
use Rattle.ruby_meaning.specs.declared.production.Sign.TheVariants as sign
use Rattle.ruby_meaning.specs.declared.token.Mark.TheVariants as mark
use Rattle.ruby_meaning.specs.declared.token.Word.TheVariants as word
use Rattle.ruby_meaning.specs.Grammar.Refusals.{has_sign, is_case, is_jump, is_keyword_sign, last_from, last_seen}
use Rattle.ruby_meaning.specs.Grammar.Seen.{Seen}
use Rattle.ruby_parser.specs.Refusing.{BehindSubject, Follows, KeywordParameter, Starts, Tells, holds}

pub tells_or : (p q : Type 0) (a b : Bool) → Tells p a → Tells q b → Tells (p ⊎ q) (a || b)
tells_or p q true b h g = inl h
tells_or p q false true h g = inr g
tells_or p q false false h g = by
  where
    by : p ⊎ q → ⊥
    by (inl x) = h x
    by (inr y) = g y

pub tells_and : (p q : Type 0) (a b : Bool) → Tells p a → Tells q b → Tells (p × q) (a && b)
tells_and p q true true h g = (h, g)
tells_and p q true false h g = λ z. g z.1
tells_and p q false b h g = λ z. h z.0

pub tells_three : (p q r : Type 0) (a b c : Bool) → Tells p a → Tells q b → Tells r c → Tells (p × q × r) (a && (b && c))
tells_three p q r true true true x y z = (x, y, z)
tells_three p q r true true false x y z = λ t. z t.2
tells_three p q r true false c x y z = λ t. y t.1
tells_three p q r false b c x y z = λ t. x t.0

pub tells_not : (p : Type 0) (a : Bool) → Tells p a → Tells (p → ⊥) (not a)
tells_not p true h = λ f. f h
tells_not p false h = h

pub tells_true : (a : Bool) → Tells (a ≡ true) a
tells_true true = refl
tells_true false = λ e. true≢false (sym e)

pub tells_false : (a : Bool) → Tells (a ≡ false) (not a)
tells_false true = λ e. true≢false e
tells_false false = refl

pub told : (p : Type 0) (a : Bool) → a ≡ true → Tells p a → p
told p a e h = subst (Tells p) e h

pub untold : (p : Type 0) (a : Bool) → a ≡ false → Tells p a → p → ⊥
untold p a e h = subst (Tells p) e h

pub same_test : (p : Type 0) (a b : Bool) → a ≡ b → Tells p b → Tells p a
same_test p a b e h = subst (Tells p) (sym e) h

module _ (front : List Seen) where
  pub starts_told : (block splat label jump another other all : Bool) → another ≡ (splat && label) → other ≡ (another || jump) → all ≡ (block || other)
      → jump ≡ has_sign is_jump (last_seen front) → Tells (Follows front (sign.Op mark.Ampersand ∷ [])) block → Tells (Follows front (sign.Marked mark.Star ∷ [])) splat → Tells (Follows front (sign.Label ∷ [])) label
      → Tells (Starts front) all
  starts_told block splat label jump another other all e f g j x y z =
      let both = same_test _ another (splat && label) e (tells_and (Follows front (sign.Marked mark.Star ∷ [])) (Follows front (sign.Label ∷ [])) splat label y z) in
      let last = same_test (has_sign is_jump (last_seen front) ≡ true) jump _ j (tells_true (has_sign is_jump (last_seen front))) in
      same_test (Starts front) all (block || other) g (tells_or (Follows front (sign.Op mark.Ampersand ∷ [])) ((Follows front (sign.Marked mark.Star ∷ []) × Follows front (sign.Label ∷ [])) ⊎ (has_sign is_jump (last_seen front) ≡ true)) block other x
      (same_test _ other (another || jump) f (tells_or (Follows front (sign.Marked mark.Star ∷ []) × Follows front (sign.Label ∷ [])) (has_sign is_jump (last_seen front) ≡ true) another jump both last)))

  pub subject_told : (when end unended uncased others all : Bool) → unended ≡ not end → uncased ≡ not (has_sign is_case (last_from None front)) → others ≡ (unended && uncased) → all ≡ (when && others)
      → Tells (Follows front (sign.Keyword word.When ∷ [])) when → Tells (Follows front (sign.Keyword word.End ∷ [])) end → Tells (BehindSubject front) all
  subject_told when end unended uncased others all e f g h x y =
      let ended = same_test (Follows front (sign.Keyword word.End ∷ []) → ⊥) unended (not end) e (tells_not (Follows front (sign.Keyword word.End ∷ [])) end y) in
      let cased = same_test (has_sign is_case (last_from None front) ≡ false) uncased _ f (tells_false (has_sign is_case (last_from None front))) in
      same_test (BehindSubject front) all (when && (unended && uncased)) (h ∙ ap (λ b. when && b) g)
      (tells_three (Follows front (sign.Keyword word.When ∷ [])) (Follows front (sign.Keyword word.End ∷ []) → ⊥) (has_sign is_case (last_from None front) ≡ false) when unended uncased x ended cased)

  pub keyword_told : (next : Option Sign) (named starts all : Bool) → named ≡ holds is_keyword_sign next → all ≡ (named && starts) → Tells (Starts front) starts → Tells (KeywordParameter next front) all
  keyword_told next named starts all e f x =
      same_test (KeywordParameter next front) all (named && starts) f (tells_and (holds is_keyword_sign next ≡ true) (Starts front) named starts (same_test (holds is_keyword_sign next ≡ true) named _ e (tells_true (holds is_keyword_sign next))) x)

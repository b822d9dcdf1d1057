-- How high a derivation has to be: each name stands under a node or behind a token.
use Rattle.std.proofs.Common.{◌≡◌, ℕ, zero, suc, ◌+◌, ◌≤◌, ◌<◌, max, true, false, List, [], ◌∷◌, length, inl, inr, refl, sym, ap, ◌∙◌, length-append, arith, le_refl, true≢false}
use Rattle.grammar.specs.Forms.{ManySpells, deepest, ChainSpells}
use Rattle.grammar.specs.Rules.{Sort, El, deep, Rule, token, token_where, absent, sequence, choice, view, node, many, suffixes, suffix, starting, bind, needs, named, Grammar}
use Rattle.grammar.specs.Spelling.{RuleSpells, Derives}
use Rattle.grammar.specs.Checks.{nullable, Checks, Guarded, Predictive}
use Rattle.grammar.proofs.ReadsRules.{nullable_sound, derives_nullable}

module _ {T N K : Type 0} {sorts : K → Sort} (G : Grammar T N K sorts) where
  pub many_le : (s : Sort) (V V' : El T N s → List T → Type 0) (L : ℕ) → ((a : El T N s) (u : List T) → length u + deep T G.depth s a ≤ L → V a u → V' a u)
      → (xs : List (El T N s)) (u : List T) → length u + deepest (deep T G.depth s) xs ≤ L → ManySpells V xs u → ManySpells V' xs u
  many_le s V V' L h [] u le m = m
  many_le s V V' L h (a ∷ xs) u le (v, w, e, x, m) =
      (v, w, e, h a v (omega (arith, le, ap length e ∙ length-append v w)) x, many_le s V V' L h xs w (omega (arith, le, ap length e ∙ length-append v w)) m)

  pub chain_le : (levels : ℕ) (s s' : Sort) (V V' : El T N s → List T → Type 0) (U U' : El T N s' → List T → Type 0) (f : El T N s → El T N s' → El T N s)
      → ((l : El T N s) (x : El T N s') → deep T G.depth s (f l x) ≡ levels + max (deep T G.depth s l) (deep T G.depth s' x)) → (L : ℕ)
      → ((a : El T N s) (u : List T) → length u + deep T G.depth s a ≤ L → V a u → V' a u) → ((a : El T N s') (u : List T) → length u + deep T G.depth s' a ≤ L → U a u → U' a u)
      → (k : ℕ) (x : El T N s) (u : List T) → length u + deep T G.depth s x ≤ L → ChainSpells V U f k x u → ChainSpells V' U' f k x u
  chain_le levels s s' V V' U U' f over L h g zero x u le m = h x u le m
  chain_le levels s s' V V' U U' f over L h g (suc k) x u le (l, z, v, w, e1, e2, m, y) = (
    l,
    z,
    v,
    w,
    e1,
    e2,
    chain_le levels s s' V V' U U' f over L h g k l v (omega (arith, le, ap length e2 ∙ length-append v w, ap (deep T G.depth s) e1, over l z)) m,
    g z w (omega (arith, le, ap length e2 ∙ length-append v w, ap (deep T G.depth s) e1, over l z)) y,
  )

  module _ (env env' : (k : K) → El T N (sorts k) → List T → Type 0) (no_token : (k : K) (a : El T N (sorts k)) → env k a [] → G.name_nullable k ≡ true) where
    pub weak : {s : Sort} (r : Rule T N K sorts s) → Checks G r → (a : El T N s) (u : List T) (L : ℕ) → length u + deep T G.depth s a ≤ L
        → ((k : K) (a : El T N (sorts k)) (u : List T) → length u + deep T G.depth (sorts k) a ≤ L → env k a u → env' k a u) → RuleSpells G env r a u → RuleSpells G env' r a u
    weak (token f) c a u L le h x = x
    weak (token_where f ok) c a u L le h x = x
    weak (absent b) c a u L le h x = x
    weak (sequence r q) c a u L le h (v, w, e, x, y) =
        (v, w, e, weak r c.1 a.0 v L (omega (arith, le, ap length e ∙ length-append v w)) h x, weak q c.2 a.1 w L (omega (arith, le, ap length e ∙ length-append v w)) h y)
    weak (choice r q) c a u L le h (inl x) = inl (weak r c.2 a u L le h x)
    weak (choice r q) c a u L le h (inr x) = inr (weak q c.3 a u L le h x)
    weak (view {r = r'} f r) c a u L le h (b, e, x) = (b, e, weak r c.1 b u L (omega (arith, le, ap (deep T G.depth r') e, c.0 b)) h x)
    weak (node {r = r'} f r) c a u L le h (b, e, x) = (b, e, weak r c.1 b u L (omega (arith, le, ap (deep T G.depth r') e, c.0 b)) h x)
    weak (many {s = s} r) c xs u L le h m = many_le s (RuleSpells G env r) (RuleSpells G env' r) L (λ a v l x. weak r c.2 a v L l h x) xs u le m
    weak (suffixes {s = s} {r = r'} levels r q f) c x u L le h (k, m) =
        (k, chain_le levels s r' (RuleSpells G env r) (RuleSpells G env' r) (RuleSpells G env q) (RuleSpells G env' q) f c.4 L (λ a v l y. weak r c.5 a v L l h y) (λ a v l y. weak q c.6 a v L l h y) k x u le m)
    weak (suffix {s = s} levels r ok q f) c x u L le h (inl m) = inl (weak r c.4 x u L le h m)
    weak (suffix {s = s} levels r ok q f) c x u L le h (inr (l, z, v, w, e1, e2, k, m, y)) =
        inr (
          l,
          z,
          v,
          w,
          e1,
          e2,
          k,
          weak r c.4 l v L (omega (arith, le, ap length e2 ∙ length-append v w, ap (deep T G.depth s) e1, c.3 l z k)) h m,
          weak q c.5 z w L (omega (arith, le, ap length e2 ∙ length-append v w, ap (deep T G.depth s) e1, c.3 l z k)) h y,
        )
    weak (starting g r) c a u L le h x = (x.0, weak r c.1 a u L le h x.1)
    weak (bind r null begins goes_on q) c a u L le h (v, w, e, x, y) =
        (v, w, e, weak r c.1 a.0 v L (omega (arith, le, ap length e ∙ length-append v w)) h x, weak (q a.0) ((c.2 a.0).3) a.1 w L (omega (arith, le, ap length e ∙ length-append v w)) h y)
    weak (needs n r) c a u L le h x = weak r c.1 a u L le h x
    weak (named k) c a u L le h x = h k a u le x

    pub some_token : {s : Sort} (r : Rule T N K sorts s) → Checks G r → nullable G r ≡ false → (a : El T N s) (v : List T) → RuleSpells G env r a v → 0 < length v
    some_token r c e a [] x = absurd (true≢false (sym (nullable_sound G env no_token r c a x) ∙ e))
    some_token r c e a (t ∷ v) x = omega arith

    -- each name in a guarded rule has less
    pub strict : {s : Sort} (r : Rule T N K sorts s) → Checks G r → Guarded G r → (a : El T N s) (u : List T) (L : ℕ) → length u + deep T G.depth s a ≤ L
        → ((k : K) (a : El T N (sorts k)) (u : List T) → length u + deep T G.depth (sorts k) a < L → env k a u → env' k a u) → RuleSpells G env r a u → RuleSpells G env' r a u
    strict (token f) c d a u L le h x = x
    strict (token_where f ok) c d a u L le h x = x
    strict (absent b) c d a u L le h x = x
    strict (sequence {s = s'} {r = r'} r q) c d a u L le h (v, w, e, x, y) =
        let len = ap length e ∙ length-append v w in
        let first = strict r c.1 d.0 a.0 v L (omega (arith, le, len)) h x in (
          v,
          w,
          e,
          first,
          elim d.1 [
            | inl g ↦ strict q c.2 g a.1 w L (omega (arith, le, len)) h y
            | inr g ↦ let some = some_token r c.1 g a.0 v x in
                weak q c.2 a.1 w (length w + deep T G.depth r' a.1) (le_refl _) (λ k b t j p. h k b t (omega (arith, j, le, len, some)) p) y
          ],
        )
    strict (choice r q) c d a u L le h (inl x) = inl (strict r c.2 d.0 a u L le h x)
    strict (choice r q) c d a u L le h (inr x) = inr (strict q c.3 d.1 a u L le h x)
    strict (view {r = r'} f r) c d a u L le h (b, e, x) = (b, e, strict r c.1 d b u L (omega (arith, le, ap (deep T G.depth r') e, c.0 b)) h x)
    strict (node {s = s} {r = r'} f r) c d a u L le h (b, e, x) =
        (b, e, weak r c.1 b u (length u + deep T G.depth s b) (le_refl _) (λ k a v l z. h k a v (omega (arith, l, le, ap (deep T G.depth r') e, c.0 b)) z) x)
    strict (many {s = s} r) c d xs u L le h m = many_le s (RuleSpells G env r) (RuleSpells G env' r) L (λ a v l x. strict r c.2 d a v L l h x) xs u le m
    strict (suffixes levels r q f) c d x u L le h (zero, m) = (0, strict r c.5 d x u L le h m)
    strict (suffixes {s = s} {r = r'} levels r q f) c d x u L le h (suc k, (l, z, v, w, e1, e2, m, y)) =
        let len = ap length e2 ∙ length-append v w in
        let high = ap (deep T G.depth s) e1 ∙ c.4 l z in
        let before = some_token (suffixes levels r q f) c refl l v (k, m) in
        let behind = some_token q c.6 c.3 z w y in
        let M = length v + deep T G.depth s l in (
          suc k,
          (
            l,
            z,
            v,
            w,
            e1,
            e2,
            chain_le levels s r' (RuleSpells G env r) (RuleSpells G env' r) (RuleSpells G env q) (RuleSpells G env' q) f c.4 M
                (λ a t i o. weak r c.5 a t M i (λ k a t j p. h k a t (omega (arith, j, le, len, high, behind)) p) o)
                (λ a t i o. weak q c.6 a t M i (λ k a t j p. h k a t (omega (arith, j, le, len, high, behind)) p) o) k l v (le_refl _) m,
            weak q c.6 z w (length w + deep T G.depth r' z) (le_refl _) (λ k a t j p. h k a t (omega (arith, j, le, len, high, before)) p) y,
          ),
        )
    strict (suffix levels r ok q f) c d x u L le h (inl m) = inl (strict r c.4 d x u L le h m)
    strict (suffix {s = s} {r = r'} levels r ok q f) c d x u L le h (inr (l, z, v, w, e1, e2, k, m, y)) =
        let len = ap length e2 ∙ length-append v w in
        let high = ap (deep T G.depth s) e1 ∙ c.3 l z k in
        let before = some_token r c.4 c.1 l v m in
        inr (
          l,
          z,
          v,
          w,
          e1,
          e2,
          k,
          strict r c.4 d l v L (omega (arith, le, len, high)) h m,
          weak q c.5 z w (length w + deep T G.depth r' z) (le_refl _) (λ k a t j p. h k a t (omega (arith, j, le, len, high, before)) p) y,
        )
    strict (starting g r) c d a u L le h x = (x.0, strict r c.1 d a u L le h x.1)
    strict (bind {s = s'} {r = r'} r null begins goes_on q) c d a u L le h (v, w, e, x, y) =
        let len = ap length e ∙ length-append v w in
        let first = strict r c.1 d.0 a.0 v L (omega (arith, le, len)) h x in (
          v,
          w,
          e,
          first,
          elim d.1 [
            | inl g ↦ strict (q a.0) ((c.2 a.0).3) (g a.0) a.1 w L (omega (arith, le, len)) h y
            | inr g ↦ let some = some_token r c.1 g a.0 v x in
                weak (q a.0) ((c.2 a.0).3) a.1 w (length w + deep T G.depth r' a.1) (le_refl _) (λ k b t j p. h k b t (omega (arith, j, le, len, some)) p) y
          ],
        )
    strict (needs n r) c d a u L le h x = strict r c.1 d a u L le h x
    strict (named k) c d a u L le h x = absurd d

  module _ (S : Predictive G) where
    -- as high as there are tokens and levels is high enough
    pub height : (m n : ℕ) (k : K) (a : El T N (sorts k)) (u : List T) → length u + deep T G.depth (sorts k) a < m → Derives G n k a u → Derives G m k a u
    unfolding Derives
    height zero n k a u le x = let no : ⊥ = omega (arith, le) in absurd no
    height (suc m) zero k a u le x = absurd x
    height (suc m) (suc n) k a u le x =
        strict (Derives G n) (Derives G m) (derives_nullable G S n) (G.production k) (S.checks k) (S.guarded k) a u (length u + deep T G.depth (sorts k) a) (le_refl _)
        (λ j b v l y. height m n j b v (omega (arith, l, le)) y) x

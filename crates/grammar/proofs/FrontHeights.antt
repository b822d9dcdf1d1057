-- How high the derivation of a front has to be, and the reader with enough steps.
use Rattle.std.proofs.Common.{◌≡◌, ℕ, zero, suc, ◌+◌, ◌≤◌, ◌<◌, true, List, [], ◌++◌, length, inl, inr, refl, sym, ap, ◌∙◌, subst, length-append, arith, le_refl}
use Rattle.grammar.specs.FormReaders.{Reads}
use Rattle.grammar.specs.Rules.{Sort, El, deep, Rule, token, token_where, absent, sequence, choice, view, node, many, suffixes, suffix, starting, bind, needs, named, Grammar}
use Rattle.grammar.specs.Spelling.{RuleSpells, Derives, Spells, RuleFront, DerivesFront, IsFront}
use Rattle.grammar.specs.Checks.{Checks, Guarded, Predictive}
use Rattle.grammar.specs.Readers.{read_named}
use Rattle.grammar.proofs.ReadsRules.{derives_nullable, read_within_reads}
use Rattle.grammar.proofs.Heights.{many_le, chain_le, weak, strict, some_token, height}

module _ {T N K : Type 0} {sorts : K → Sort} (G : Grammar T N K sorts) (env env' : (k : K) → El T N (sorts k) → List T → Type 0) (fr fr' : K → ℕ → List T → Type 0) (no_token : (k : K) (a : El T N (sorts k)) → env k a [] → G.name_nullable k ≡ true) where
  front_weak : {s : Sort} (r : Rule T N K sorts s) → Checks G r → (b : ℕ) (u : List T) (L : ℕ) → length u + b ≤ L
      → ((k : K) (a : El T N (sorts k)) (u : List T) → length u + deep T G.depth (sorts k) a ≤ L → env k a u → env' k a u) → ((k : K) (b : ℕ) (u : List T) → length u + b ≤ L → fr k b u → fr' k b u)
      → RuleFront G env fr r b u → RuleFront G env' fr' r b u
  front_weak (token f) c b u L le h g x = x
  front_weak (token_where f ok) c b u L le h g x = x
  front_weak (absent a) c b u L le h g x = x
  front_weak (sequence r q) c b u L le h g (inl x) = inl (front_weak r c.1 b u L le h g x)
  front_weak (sequence r q) c b u L le h g (inr (a, v, w, e, y, d, x)) =
      let len = ap length e ∙ length-append v w in
      inr (a, v, w, e, weak G env env' no_token r c.1 a v L (omega (arith, le, len, d)) h y, d, front_weak q c.2 b w L (omega (arith, le, len)) h g x)
  front_weak (choice r q) c b u L le h g (inl x) = inl (front_weak r c.2 b u L le h g x)
  front_weak (choice r q) c b u L le h g (inr x) = inr (front_weak q c.3 b u L le h g x)
  front_weak (view f r) c b u L le h g x = front_weak r c.1 b u L le h g x
  front_weak (node f r) c zero u L le h g x = x
  front_weak (node f r) c (suc b) u L le h g x = front_weak r c.1 b u L (omega (arith, le)) h g x
  front_weak (many {s = s} r) c b u L le h g (xs, v, w, e, m, d, x) =
      let len = ap length e ∙ length-append v w in
      (xs, v, w, e, many_le G s (RuleSpells G env r) (RuleSpells G env' r) L (λ a t l y. weak G env env' no_token r c.2 a t L l h y) xs v (omega (arith, le, len, d)) m, d, front_weak r c.2 b w L (omega (arith, le, len)) h g x)
  front_weak (suffixes levels r q f) c b u L le h g (inl x) = inl (front_weak r c.5 b u L le h g x)
  front_weak (suffixes {s = s} {r = r'} levels r q f) c b u L le h g (inr (b', lv, (l, v, w, e, (k, m), d, x))) =
      let len = ap length e ∙ length-append v w in
      let chain = chain_le G levels s r' (RuleSpells G env r) (RuleSpells G env' r) (RuleSpells G env q) (RuleSpells G env' q) f c.4 L
      (λ a t i y. weak G env env' no_token r c.5 a t L i h y) (λ a t i y. weak G env env' no_token q c.6 a t L i h y) k l v (omega (arith, le, lv, len, d)) m in
      inr (b', lv, (l, v, w, e, (k, chain), d, front_weak q c.6 b' w L (omega (arith, le, lv, len)) h g x))
  front_weak (suffix levels r ok q f) c b u L le h g (inl x) = inl (front_weak r c.4 b u L le h g x)
  front_weak (suffix levels r ok q f) c b u L le h g (inr (b', lv, (l, v, w, e, k, m, d, x))) =
      let len = ap length e ∙ length-append v w in
      inr (b', lv, (l, v, w, e, k, weak G env env' no_token r c.4 l v L (omega (arith, le, lv, len, d)) h m, d, front_weak q c.5 b' w L (omega (arith, le, lv, len)) h g x))
  front_weak (starting t r) c b u L le h g (inl x) = inl x
  front_weak (starting t r) c b u L le h g (inr x) = inr (x.0, front_weak r c.1 b u L le h g x.1)
  front_weak (bind r null begins goes_on q) c b u L le h g (inl x) = inl (front_weak r c.1 b u L le h g x)
  front_weak (bind r null begins goes_on q) c b u L le h g (inr (a, v, w, e, y, d, x)) =
      let len = ap length e ∙ length-append v w in
      inr (a, v, w, e, weak G env env' no_token r c.1 a v L (omega (arith, le, len, d)) h y, d, front_weak (q a) ((c.2 a).3) b w L (omega (arith, le, len)) h g x)
  front_weak (needs n r) c b u L le h g (inl x) = inl x
  front_weak (needs n r) c b u L le h g (inr x) = inr (x.0, front_weak r c.1 b u L le h g x.1)
  front_weak (named k) c b u L le h g x = g k b u le x

  front_strict : {s : Sort} (r : Rule T N K sorts s) → Checks G r → Guarded G r → (b : ℕ) (u : List T) (L : ℕ) → length u + b ≤ L
      → ((k : K) (a : El T N (sorts k)) (u : List T) → length u + deep T G.depth (sorts k) a < L → env k a u → env' k a u) → ((k : K) (b : ℕ) (u : List T) → length u + b < L → fr k b u → fr' k b u)
      → RuleFront G env fr r b u → RuleFront G env' fr' r b u
  front_strict (token f) c gd b u L le h g x = x
  front_strict (token_where f ok) c gd b u L le h g x = x
  front_strict (absent a) c gd b u L le h g x = x
  front_strict (sequence r q) c gd b u L le h g (inl x) = inl (front_strict r c.1 gd.0 b u L le h g x)
  front_strict (sequence r q) c gd b u L le h g (inr (a, v, w, e, y, d, x)) =
      let len = ap length e ∙ length-append v w in
      inr (
        a,
        v,
        w,
        e,
        strict G env env' no_token r c.1 gd.0 a v L (omega (arith, le, len, d)) h y,
        d,
        elim gd.1 [
          | inl j ↦ front_strict q c.2 j b w L (omega (arith, le, len)) h g x
          | inr j ↦ let some = some_token G env env' no_token r c.1 j a v y in
              front_weak q c.2 b w (length w + b) (le_refl _) (λ k a t i p. h k a t (omega (arith, i, le, len, some)) p) (λ k a t i p. g k a t (omega (arith, i, le, len, some)) p) x
        ],
      )
  front_strict (choice r q) c gd b u L le h g (inl x) = inl (front_strict r c.2 gd.0 b u L le h g x)
  front_strict (choice r q) c gd b u L le h g (inr x) = inr (front_strict q c.3 gd.1 b u L le h g x)
  front_strict (view f r) c gd b u L le h g x = front_strict r c.1 gd b u L le h g x
  front_strict (node f r) c gd zero u L le h g x = x
  front_strict (node f r) c gd (suc b) u L le h g x =
      front_weak r c.1 b u (length u + b) (le_refl _) (λ k a t i p. h k a t (omega (arith, i, le)) p) (λ k a t i p. g k a t (omega (arith, i, le)) p) x
  front_strict (many {s = s} r) c gd b u L le h g (xs, v, w, e, m, d, x) =
      let len = ap length e ∙ length-append v w in
      (xs, v, w, e, many_le G s (RuleSpells G env r) (RuleSpells G env' r) L (λ a t l y. strict G env env' no_token r c.2 gd a t L l h y) xs v (omega (arith, le, len, d)) m, d, front_strict r c.2 gd b w L (omega (arith, le, len)) h g x)
  front_strict (suffixes levels r q f) c gd b u L le h g (inl x) = inl (front_strict r c.5 gd b u L le h g x)
  front_strict (suffixes levels r q f) c gd b u L le h g (inr (b', lv, (l, v, w, e, m, d, x))) =
      let len = ap length e ∙ length-append v w in
      let before = some_token G env env' no_token (suffixes levels r q f) c refl l v m in
      inr (
        b',
        lv,
        (
          l,
          v,
          w,
          e,
          strict G env env' no_token (suffixes levels r q f) c gd l v L (omega (arith, le, lv, len, d)) h m,
          d,
          front_weak q c.6 b' w (length w + b') (le_refl _) (λ k a t i p. h k a t (omega (arith, i, le, lv, len, before)) p) (λ k a t i p. g k a t (omega (arith, i, le, lv, len, before)) p) x,
        ),
      )
  front_strict (suffix levels r ok q f) c gd b u L le h g (inl x) = inl (front_strict r c.4 gd b u L le h g x)
  front_strict (suffix levels r ok q f) c gd b u L le h g (inr (b', lv, (l, v, w, e, k, m, d, x))) =
      let len = ap length e ∙ length-append v w in
      let before = some_token G env env' no_token r c.4 c.1 l v m in
      inr (
        b',
        lv,
        (
          l,
          v,
          w,
          e,
          k,
          strict G env env' no_token r c.4 gd l v L (omega (arith, le, lv, len, d)) h m,
          d,
          front_weak q c.5 b' w (length w + b') (le_refl _) (λ k a t i p. h k a t (omega (arith, i, le, lv, len, before)) p) (λ k a t i p. g k a t (omega (arith, i, le, lv, len, before)) p) x,
        ),
      )
  front_strict (starting t r) c gd b u L le h g (inl x) = inl x
  front_strict (starting t r) c gd b u L le h g (inr x) = inr (x.0, front_strict r c.1 gd b u L le h g x.1)
  front_strict (bind r null begins goes_on q) c gd b u L le h g (inl x) = inl (front_strict r c.1 gd.0 b u L le h g x)
  front_strict (bind r null begins goes_on q) c gd b u L le h g (inr (a, v, w, e, y, d, x)) =
      let len = ap length e ∙ length-append v w in
      inr (
        a,
        v,
        w,
        e,
        strict G env env' no_token r c.1 gd.0 a v L (omega (arith, le, len, d)) h y,
        d,
        elim gd.1 [
          | inl j ↦ front_strict (q a) ((c.2 a).3) (j a) b w L (omega (arith, le, len)) h g x
          | inr j ↦ let some = some_token G env env' no_token r c.1 j a v y in
              front_weak (q a) ((c.2 a).3) b w (length w + b) (le_refl _) (λ k a t i p. h k a t (omega (arith, i, le, len, some)) p) (λ k a t i p. g k a t (omega (arith, i, le, len, some)) p) x
        ],
      )
  front_strict (needs n r) c gd b u L le h g (inl x) = inl x
  front_strict (needs n r) c gd b u L le h g (inr x) = inr (x.0, front_strict r c.1 gd b u L le h g x.1)
  front_strict (named k) c gd b u L le h g x = absurd gd

module _ {T N K : Type 0} {sorts : K → Sort} (G : Grammar T N K sorts) (S : Predictive G) where
  pub front_height : (m n : ℕ) (k : K) (b : ℕ) (u : List T) → length u + b < m → DerivesFront G n k b u → DerivesFront G m k b u
  unfolding DerivesFront
  front_height zero n k b u le x = let no : ⊥ = omega (arith, le) in absurd no
  front_height (suc m) zero k b u le x = subst (λ v. DerivesFront G (suc m) k b v) (sym x) ((read_within_reads G S (suc m) b k).nothing)
  front_height (suc m) (suc n) k b u le x =
      front_strict G (Derives G n) (Derives G m) (DerivesFront G n) (DerivesFront G m) (derives_nullable G S n) (G.production k) (S.checks k) (S.guarded k) b u (length u + b) (le_refl _)
      (λ j a v l y. height G S m n j a v (omega (arith, l, le)) y) (λ j c v l y. front_height m n j c v (omega (arith, l, le)) y) x

  pub read_named_reads : (b : ℕ) (k : K) → Reads (Spells G k) (IsFront G k b) (deep T G.depth (sorts k)) b (λ t. G.name_first k (G.code t)) (λ a t. G.name_goes_on k a (G.code t) ≡ true) (G.name_nullable k) (read_named G b k)
  unfolding read_named
  read_named_reads b k = record {
    sound = λ ts a rest h. let n = suc (length ts + b) in let s = (read_within_reads G S n b k).sound ts a rest h in (s.0, s.1, (n, s.2), s.3);
    refusal = λ ts rest h. let n = suc (length ts + b) in let s = (read_within_reads G S n b k).refusal ts rest h in (s.0, s.1, (n, s.2));
    complete = λ a u rest h le off. let n = suc (length (u ++ rest) + b) in
        (read_within_reads G S n b k).complete a u rest (height G S n h.0 k a u (omega (arith, le, length-append u rest)) h.1) le off;
    reach = λ u v h. let n = suc (length (u ++ v) + b) in (read_within_reads G S n b k).reach u v (front_height n h.0 k b u (omega (arith, length-append u v)) h.1);
    starts = λ t u h. (read_within_reads G S h.0 b k).starts t u h.1;
    holds = λ a u h le. (h.0, (read_within_reads G S h.0 b k).holds a u h.1 le);
    closed = λ u v h. (h.0, (read_within_reads G S h.0 b k).closed u v h.1);
    nothing = (0, (read_within_reads G S 0 b k).nothing);
    empty = λ a h. derives_nullable G S h.0 k a h.1;
  }

-- In a grammar without dead ends each front is the beginning of something spelled.
use Rattle.std.proofs.Common.{◌≡◌, ℕ, zero, suc, ◌+◌, Bool, ◌&&◌, List, [], ◌∷◌, ◌++◌, length, Some, None, inl, inr, refl, sym, ap, ◌∙◌, subst, append_assoc, append-nil, arith, le_refl}
use Rattle.grammar.specs.Forms.{ManySpells, StartsIn}
use Rattle.grammar.specs.Rules.{Sort, El, deep, Rule, token, token_where, absent, sequence, choice, view, node, many, suffixes, suffix, starting, bind, needs, named, Grammar}
use Rattle.grammar.specs.Spelling.{RuleSpells, Derives, Spells, RuleFront, DerivesFront, IsFront}
use Rattle.grammar.specs.Checks.{Checks, Predictive}
use Rattle.grammar.specs.Productive.{Productive, NoDeadEnds}
use Rattle.grammar.proofs.Lists.{and_both, if_true}
use Rattle.grammar.proofs.ReadsRules.{derives_nullable}
use Rattle.grammar.proofs.Heights.{weak, height}

many_snoc : {T A : Type 0} (W : A → List T → Type 0) (xs : List A) (v : List T) (a : A) (w : List T) → ManySpells W xs v → W a w → ManySpells W (xs ++ a ∷ []) (v ++ w)
many_snoc W [] v a w m x = (w, [], ap (λ z. z ++ w) m ∙ sym (append-nil w), x, refl)
many_snoc W (c ∷ xs) v a w (v1, v2, e, y, m) x = (v1, v2 ++ w, ap (λ z. z ++ w) e ∙ append_assoc v1 v2 w, y, many_snoc W xs v2 a w m x)

starts_more : {T : Type 0} (g : T → Bool) (u v : List T) → StartsIn g u → StartsIn g (u ++ v)
starts_more g [] v h = absurd h
starts_more g (t ∷ u) v h = h

module _ {T N K : Type 0} {sorts : K → Sort} (G : Grammar T N K sorts) (S : Predictive G) (P : NoDeadEnds G) where
  -- some tokens behind the list make it a whole
  abbrev Completed : {s : Sort} → Rule T N K sorts s → List T → Type 0
  Completed {s} r u = (v : List T) × (a : El T N s) × RuleSpells G (Spells G) r a (u ++ v)

  some_whole : {s : Sort} (r : Rule T N K sorts s) → Productive G r → Completed r []
  some_whole (token f) (t, h) = (t ∷ [], t, (t, refl, if_true (f (G.code t)) (Some t) None h))
  some_whole (token_where f ok) (t, h, h') = (t ∷ [], t, (t, refl, if_true (f (G.code t) && ok t) (Some t) None (and_both (f (G.code t)) (ok t) h h')))
  some_whole (absent a) h = ([], a, (refl, refl))
  some_whole (sequence r q) h = let (v, a, x) = some_whole r h.0 in let (w, c, y) = some_whole q h.1 in (v ++ w, (a, c), (v, w, refl, x, y))
  some_whole (choice r q) h = let (v, a, x) = some_whole r h.0 in (v, a, inl x)
  some_whole (view f r) h = let (v, a, x) = some_whole r h in (v, f a, (a, refl, x))
  some_whole (node f r) h = let (v, a, x) = some_whole r h in (v, f a, (a, refl, x))
  some_whole (many r) h = ([], [], refl)
  some_whole (suffixes levels r q f) h = let (v, a, x) = some_whole r h.0 in (v, a, (0, x))
  some_whole (suffix levels r ok q f) h = let (v, a, x) = some_whole r h.0 in (v, a, inl x)
  some_whole (starting g r) h = let (a, u, s, x) = h.1 in (u, a, (s, x))
  some_whole (bind r null begins goes_on q) h = let (v, a, x) = some_whole r h.0 in let (w, c, y) = some_whole (q a) (h.1 a) in (v ++ w, (a, c), (v, w, refl, x, y))
  some_whole (needs n r) h = some_whole r h
  some_whole (named k) h = let (p, u, x) = P.names k in (u, p, x)

  at_start : {s : Sort} (r : Rule T N K sorts s) (u : List T) → Productive G r → u ≡ [] → Completed r u
  at_start r u h e = subst (Completed r) (sym e) (some_whole r h)

  module _ (n : ℕ) (go : (k : K) (b : ℕ) (u : List T) → DerivesFront G n k b u → (v : List T) × (a : El T N (sorts k)) × Spells G k a (u ++ v)) where
    lift : {s : Sort} (r : Rule T N K sorts s) → Checks G r → (a : El T N s) (u : List T) → RuleSpells G (Derives G n) r a u → RuleSpells G (Spells G) r a u
    lift {s} r c a u x = weak G (Derives G n) (Spells G) (derives_nullable G S n) r c a u (length u + deep T G.depth s a) (le_refl _) (λ k p v le y. (n, y)) x

    front_completed : {s : Sort} (r : Rule T N K sorts s) → Checks G r → Productive G r → (b : ℕ) (u : List T) → RuleFront G (Derives G n) (DerivesFront G n) r b u → Completed r u
    front_completed (token f) c h b u (inl e) = at_start (token f) u h e
    front_completed (token f) c h b u (inr (t, a, e, i)) = ([], a, (t, append-nil u ∙ e, i))
    front_completed (token_where f ok) c h b u (inl e) = at_start (token_where f ok) u h e
    front_completed (token_where f ok) c h b u (inr (t, a, e, i)) = ([], a, (t, append-nil u ∙ e, i))
    front_completed (absent a) c h b u e = at_start (absent a) u h e
    front_completed (sequence r q) c h b u (inl x) =
        let (v, a, y) = front_completed r c.1 h.0 b u x in
        let (w, d, z) = some_whole q h.1 in
        (v ++ w, (a, d), (u ++ v, w, sym (append_assoc u v w), y, z))
    front_completed (sequence r q) c h b u (inr (a, v, w, e, y, d, x)) =
        let (v', a', z) = front_completed q c.2 h.1 b w x in
        (v', (a, a'), (v, w ++ v', ap (λ l. l ++ v') e ∙ append_assoc v w v', lift r c.1 a v y, z))
    front_completed (choice r q) c h b u (inl x) = let (v, a, y) = front_completed r c.2 h.0 b u x in (v, a, inl y)
    front_completed (choice r q) c h b u (inr x) = let (v, a, y) = front_completed q c.3 h.1 b u x in (v, a, inr y)
    front_completed (view f r) c h b u x = let (v, a, y) = front_completed r c.1 h b u x in (v, f a, (a, refl, y))
    front_completed (node f r) c h zero u e = at_start (node f r) u h e
    front_completed (node f r) c h (suc b) u x = let (v, a, y) = front_completed r c.1 h b u x in (v, f a, (a, refl, y))
    front_completed (many r) c h b u (xs, v, w, e, m, d, x) =
        let (v', a, y) = front_completed r c.2 h b w x in
        let whole = many_snoc (RuleSpells G (Spells G) r) xs v a (w ++ v') (lift (many r) c xs v m) y in
        (v', xs ++ a ∷ [], subst (ManySpells (RuleSpells G (Spells G) r) (xs ++ a ∷ [])) (sym (append_assoc v w v') ∙ ap (λ l. l ++ v') (sym e)) whole)
    front_completed (suffixes levels r q f) c h b u (inl x) = let (v, a, y) = front_completed r c.5 h.0 b u x in (v, a, (0, y))
    front_completed (suffixes levels r q f) c h b u (inr (b', lv, (l, v, w, e, m, d, x))) =
        let (v', s, y) = front_completed q c.6 h.1 b' w x in
        let m' = lift (suffixes levels r q f) c l v m in
        (v', f l s, (suc m'.0, (l, s, v, w ++ v', refl, ap (λ z. z ++ v') e ∙ append_assoc v w v', m'.1, y)))
    front_completed (suffix levels r ok q f) c h b u (inl x) = let (v, a, y) = front_completed r c.4 h.0 b u x in (v, a, inl y)
    front_completed (suffix levels r ok q f) c h b u (inr (b', lv, (l, v, w, e, k, m, d, x))) =
        let (v', s, y) = front_completed q c.5 h.1 b' w x in
        (v', f l s, inr (l, s, v, w ++ v', refl, ap (λ z. z ++ v') e ∙ append_assoc v w v', k, lift r c.4 l v m, y))
    front_completed (starting g r) c h b u (inl e) = at_start (starting g r) u h e
    front_completed (starting g r) c h b u (inr (s, x)) =
        let (v, a, y) = front_completed r c.1 h.0 b u x in (v, a, (starts_more (λ t. g (G.code t)) u v s, y))
    front_completed (bind r null begins goes_on q) c h b u (inl x) =
        let (v, a, y) = front_completed r c.1 h.0 b u x in
        let (w, d, z) = some_whole (q a) (h.1 a) in
        (v ++ w, (a, d), (u ++ v, w, sym (append_assoc u v w), y, z))
    front_completed (bind r null begins goes_on q) c h b u (inr (a, v, w, e, y, d, x)) =
        let (v', a', z) = front_completed (q a) ((c.2 a).3) (h.1 a) b w x in
        (v', (a, a'), (v, w ++ v', ap (λ l. l ++ v') e ∙ append_assoc v w v', lift r c.1 a v y, z))
    front_completed (needs n r) c h b u (inl e) = at_start (needs n r) u h e
    front_completed (needs n r) c h b u (inr x) = front_completed r c.1 h b u x.1
    front_completed (named k) c h b u x = go k b u x

  -- what a production spells, its name spells
  by_production : (k : K) (a : El T N (sorts k)) (u : List T) → RuleSpells G (Spells G) (G.production k) a u → Spells G k a u
  unfolding Derives
  by_production k a u x =
      let L = length u + deep T G.depth (sorts k) a in (
        suc (suc L),
        weak G (Spells G) (Derives G (suc L)) (λ j p h. derives_nullable G S h.0 j p h.1) (G.production k) (S.checks k) a u L (le_refl _) (λ j p v le y. height G S (suc L) y.0 j p v (omega (arith, le)) y.1) x,
      )

  completed_within : (n : ℕ) (k : K) (b : ℕ) (u : List T) → DerivesFront G n k b u → (v : List T) × (a : El T N (sorts k)) × Spells G k a (u ++ v)
  unfolding DerivesFront
  completed_within zero k b u e = let (p, v, x) = P.names k in (v, p, subst (λ z. Spells G k p (z ++ v)) (sym e) x)
  completed_within (suc n) k b u x =
      let (v, a, y) = front_completed n (completed_within n) (G.production k) (S.checks k) (P.productions k) b u x in (v, a, by_production k a (u ++ v) y)

  pub completes : (k : K) (b : ℕ) (u : List T) → IsFront G k b u → (v : List T) × (a : El T N (sorts k)) × Spells G k a (u ++ v)
  completes k b u x = completed_within x.0 k b u x.1

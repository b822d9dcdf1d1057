-- The reader of a sound table reads it.
use Rattle.std.proofs.Common.{◌≡◌, ℕ, zero, suc, ◌-◌, ◌≤◌, Bool, true, false, ◌&&◌, ◌||◌, List, [], ◌∷◌, Some, None, inl, inr, refl, sym, ap, ◌∙◌, subst, arith, le_refl, le_trans, true≢false, is_some}
use Rattle.std.specs.Prelude.{nat_le, if◌then◌else◌}
use Rattle.grammar.specs.Forms.{ChainSpells}
use Rattle.grammar.specs.FormReaders.{By, Reads, under}
use Rattle.grammar.specs.Rules.{Sort, El, deep, Rule, token, token_where, absent, sequence, choice, view, node, many, suffixes, suffix, starting, bind, needs, named, Grammar}
use Rattle.grammar.specs.Spelling.{token_in, token_such, RuleSpells, Derives, RuleFront, DerivesFront}
use Rattle.grammar.specs.Checks.{nullable, first, continues, GoesOn, AtLeast, Checks, Predictive}
use Rattle.grammar.specs.Readers.{Reader, read_rule, read_within}
use Rattle.grammar.proofs.Lists.{err_ok, err_inj, cons_nil, nil_cons, append_empty, and_both}
use Rattle.grammar.proofs.Classes.{never, included_at, apart, continues_of}
use Rattle.grammar.proofs.ReadsSequence.{sequence_reads}
use Rattle.grammar.proofs.ReadsBasic.{token_reads, absent_reads, choice_reads, view_reads, no_node_reads}
use Rattle.grammar.proofs.ReadsMany.{many_reads}
use Rattle.grammar.proofs.ReadsStarting.{starting_reads}
use Rattle.grammar.proofs.Weakening.{weaken}
use Rattle.grammar.proofs.ReadsNeeds.{needs_reads}
use Rattle.grammar.proofs.ReadsBind.{bind_reads}
use Rattle.grammar.proofs.ReadsLevels.{suffixes_reads_at, suffix_reads_at}

fits_up : (m n : ℕ) → m ≤ n → nat_le m n ≡ true
fits_up m n h = search (arith, h)

fits_down : (m n : ℕ) → nat_le m n ≡ true → m ≤ n
fits_down m n h = search (arith, h)

picked : {T : Type 0} (code : T → ℕ) (f : ℕ → Bool) (t : T) → is_some (token_in code f t) ≡ true → f (code t) ≡ true
picked code f t = by (f (code t))
  where
    by : (c : Bool) → is_some (if c then Some t else None) ≡ true → c ≡ true
    by true h = refl
    by false h = absurd (true≢false (sym h))

such : {T : Type 0} (code : T → ℕ) (f : ℕ → Bool) (ok : T → Bool) (t : T) → is_some (token_such code f ok t) ≡ true → f (code t) ≡ true
such code f ok t = by (f (code t)) (ok t)
  where
    by : (c d : Bool) → is_some (if c && d then Some t else None) ≡ true → c ≡ true
    by true d h = refl
    by false d h = absurd (true≢false (sym h))

chain_token : {T A S : Type 0} (RuleSpells : A → List T → Type 0) (V : S → List T → Type 0) (f : A → S → A) → ((a : A) → RuleSpells a [] → ⊥) → ((s : S) → V s [] → ⊥) → (k : ℕ) (x : A) → ChainSpells RuleSpells V f k x [] → ⊥
chain_token RuleSpells V f h g zero x m = h x m
chain_token RuleSpells V f h g (suc k) x (l, s, v, w, e1, e2, m, y) = g s (subst (V s) ((append_empty v w e2).1) y)

by_nullable : (n a c : Bool) → (a || (n && c)) ≡ true → (if n then a || c else a) ≡ true
by_nullable true a c h = h
by_nullable false true c h = h
by_nullable false false c h = h

module _ {T N K : Type 0} {sorts : K → Sort} (G : Grammar T N K sorts) where
  pub nullable_sound : {s : Sort} (env : (k : K) → El T N (sorts k) → List T → Type 0) → ((k : K) (a : El T N (sorts k)) → env k a [] → G.name_nullable k ≡ true) → (r : Rule T N K sorts s) → Checks G r → (a : El T N s) → RuleSpells G env r a [] → nullable G r ≡ true
  nullable_sound env h (token f) c a (t, e, x) = nil_cons e
  nullable_sound env h (token_where f ok) c a (t, e, x) = nil_cons e
  nullable_sound env h (absent b) c a x = refl
  nullable_sound env h (sequence r q) c a (v, w, e, x, y) =
      let none = append_empty v w e in
      and_both (nullable G r) (nullable G q) (nullable_sound env h r c.1 a.0 (subst (RuleSpells G env r a.0) none.0 x)) (nullable_sound env h q c.2 a.1 (subst (RuleSpells G env q a.1) none.1 y))
  nullable_sound env h (choice r q) c a (inl x) = absurd (never c.1 (nullable_sound env h r c.2 a x))
  nullable_sound env h (choice r q) c a (inr x) = nullable_sound env h q c.3 a x
  nullable_sound env h (view f r) c a (b, e, x) = nullable_sound env h r c.1 b x
  nullable_sound env h (node f r) c a (b, e, x) = nullable_sound env h r c.1 b x
  nullable_sound env h (many r) c a x = refl
  nullable_sound env h (suffixes levels r q f) c a (k, x) = absurd (chain_token (RuleSpells G env r) (RuleSpells G env q) f (λ b y. never c.2 (nullable_sound env h r c.5 b y)) (λ b y. never c.3 (nullable_sound env h q c.6 b y)) k a x)
  nullable_sound env h (suffix levels r ok q f) c a (inl x) = absurd (never c.1 (nullable_sound env h r c.4 a x))
  nullable_sound env h (suffix levels r ok q f) c a (inr (l, s, v, w, e1, e2, k, x, y)) =
      absurd (never c.1 (nullable_sound env h r c.4 l (subst (RuleSpells G env r l) ((append_empty v w e2).0) x)))
  nullable_sound env h (starting g r) c a x = absurd x.0
  nullable_sound env h (bind r null begins goes_on q) c a (v, w, e, x, y) =
      let none = append_empty v w e in
      and_both (nullable G r) null (nullable_sound env h r c.1 a.0 (subst (RuleSpells G env r a.0) none.0 x)) ((c.2 a.0).2 (nullable_sound env h (q a.0) ((c.2 a.0).3) a.1 (subst (RuleSpells G env (q a.0) a.1) none.1 y)))
  nullable_sound env h (needs n r) c a x = nullable_sound env h r c.1 a x
  nullable_sound env h (named k) c a x = h k a x

  at_least : (env : (k : K) → El T N (sorts k) → List T → Type 0) {s : Sort} (r : Rule T N K sorts s) → Checks G r → (n : ℕ) → AtLeast G r n → (a : El T N s) (u : List T) → RuleSpells G env r a u → n ≤ deep T G.depth s a
  at_least env (token f) c n h a u x = h a
  at_least env (token_where f ok) c n h a u x = h a
  at_least env (absent b) c n h a u x = h a
  at_least env (sequence r q) c n (inl h) a u (v, w, e, x, y) = let le = at_least env r c.1 n h a.0 v x in omega (arith, le)
  at_least env (sequence r q) c n (inr h) a u (v, w, e, x, y) = let le = at_least env q c.2 n h a.1 w y in omega (arith, le)
  at_least env (choice r q) c n h a u (inl x) = at_least env r c.2 n h.0 a u x
  at_least env (choice r q) c n h a u (inr x) = at_least env q c.3 n h.1 a u x
  at_least env {s} (view f r) c n h a u (b, e, x) = let le = at_least env r c.1 n h b u x in omega (arith, le, ap (deep T G.depth s) e ∙ c.0 b)
  at_least env {s} (node f r) c n h a u (b, e, x) = let le = at_least env r c.1 (n - 1) h b u x in omega (arith, le, ap (deep T G.depth s) e ∙ c.0 b)
  at_least env (many r) c n h a u x = h a
  at_least env (suffixes levels r q f) c n h a u x = h a
  at_least env (suffix levels r ok q f) c n h a u x = h a
  at_least env (starting g r) c n h a u x = at_least env r c.1 n h a u x.1
  at_least env (bind r null begins goes_on q) c n h a u x = h a
  at_least env (needs m r) c n h a u x = at_least env r c.1 n h a u x
  at_least env (named k) c n h a u x = h a

  module _ (S : Predictive G) where
    pub derives_nullable : (n : ℕ) (k : K) (a : El T N (sorts k)) → Derives G n k a [] → G.name_nullable k ≡ true
    unfolding Derives
    derives_nullable zero k a x = absurd x
    derives_nullable (suc n) k a x = S.empties k (nullable_sound (Derives G n) (derives_nullable n) (G.production k) (S.checks k) a x)

    module _ (sp : (k : K) → El T N (sorts k) → List T → Type 0) (fr : K → ℕ → List T → Type 0) (env : ℕ → (k : K) → Reader G (El T N (sorts k))) (no_token : (k : K) (a : El T N (sorts k)) → sp k a [] → G.name_nullable k ≡ true)
        (known : (c : ℕ) (k : K) → Reads (sp k) (fr k c) (deep T G.depth (sorts k)) c (λ t. G.name_first k (G.code t)) (λ a t. G.name_goes_on k a (G.code t) ≡ true) (G.name_nullable k) (env c k)) where
      empty_of : {s : Sort} (r : Rule T N K sorts s) → Checks G r → (a : El T N s) → RuleSpells G sp r a [] → nullable G r ≡ true
      empty_of r c a x = nullable_sound sp no_token r c a x

      abbrev Fr : {s : Sort} → Rule T N K sorts s → ℕ → List T → Type 0
      Fr r b = RuleFront G sp fr r b

      abbrev Good : {s : Sort} → Rule T N K sorts s → ℕ → Type 0
      Good {s} r b = Reads (RuleSpells G sp r) (Fr r b) (deep T G.depth s) b (λ t. first G r (G.code t)) (λ a t. GoesOn G r a (G.code t)) (nullable G r) (read_rule G env r b)

      -- a rule that some token spells
      abbrev Some_ : {s : Sort} → Rule T N K sorts s → ℕ → Type 0
      Some_ {s} r b = Reads (RuleSpells G sp r) (Fr r b) (deep T G.depth s) b (λ t. first G r (G.code t)) (λ a t. GoesOn G r a (G.code t)) false (read_rule G env r b)

      some_of : {s : Sort} (r : Rule T N K sorts s) (b : ℕ) → nullable G r ≡ false → Good r b → Some_ r b
      some_of {s} r b e R = subst (λ z. Reads (RuleSpells G sp r) (Fr r b) (deep T G.depth s) b (λ t. first G r (G.code t)) (λ a t. GoesOn G r a (G.code t)) z (read_rule G env r b)) e R

      -- by classes alone
      classes : {s : Sort} (r : Rule T N K sorts s) (b : ℕ) (null : Bool) → Reads (RuleSpells G sp r) (Fr r b) (deep T G.depth s) b (λ t. first G r (G.code t)) (λ a t. GoesOn G r a (G.code t)) null (read_rule G env r b)
          → Reads (RuleSpells G sp r) (Fr r b) (deep T G.depth s) b (λ t. first G r (G.code t)) (By (λ t. continues G r (G.code t))) null (read_rule G env r b)
      classes r b null R = weaken R (λ a u x. x) (λ a u x. x) (λ u x. x) (λ u x. x) (λ t k. k) (λ a t x. continues_of G S.bounded r a (G.code t) x) (λ k. k)

      pub reads : {s : Sort} (r : Rule T N K sorts s) (b : ℕ) → Checks G r → Good r b
      reads (token f) b c = weaken (token_reads (token_in G.code f) (λ a. 0) b (λ a. le_refl 0)) (λ a u x. x) (λ a u x. x) (λ u x. x) (λ u x. x) (picked G.code f) (λ a t k. absurd k) (λ k. k)
      reads (token_where f ok) b c = weaken (token_reads (token_such G.code f ok) (λ a. 0) b (λ a. le_refl 0)) (λ a u x. x) (λ a u x. x) (λ u x. x) (λ u x. x) (such G.code f ok) (λ a t k. absurd k) (λ k. k)
      reads (absent {s = s} a) b c =
          weaken (absent_reads a (deep T G.depth s) b (nat_le (deep T G.depth s a) b) (fits_down _ _) (fits_up _ _)) (λ a u x. x) (λ a u x. x) (λ u x. x) (λ u x. x) (λ t k. absurd (true≢false (sym k))) (λ a t k. absurd k) (λ k. k)
      reads (sequence r q) b c =
          weaken (sequence_reads (reads r b c.1) (reads q b c.2) (λ a t i j. apart G S.within (continues G r) (first G q) c.0 t (continues_of G S.bounded r a (G.code t) i) j))
          (λ a u x. x) (λ a u x. x) (λ u x. x) (λ u x. x) (λ t k. by_nullable (nullable G r) _ _ k) (λ a t k. k) (λ k. k)
      reads (choice r q) b c = choice_reads (some_of r b c.1 (reads r b c.2)) (reads q b c.3) (apart G S.within (first G r) (first G q) c.0)
      reads (view {s = s} {r = r'} f r) b c =
          view_reads f (deep T G.depth r') b (reads r b c.1) (λ a le. le_trans (le_eq (c.0 a)) le) (λ a le. le_trans (le_eq (sym (c.0 a))) le)
        where
          le_eq : {x y : ℕ} → x ≡ y → x ≤ y
          le_eq {x} e = subst (λ z. x ≤ z) e (le_refl x)
      reads (node {s = s} {r = r'} f r) zero c =
          no_node_reads (deep T G.depth r') (λ x u (a, e, y) le. let no : ⊥ = omega (arith, le, ap (deep T G.depth r') e, c.0 a) in no) (λ x y. empty_of (node f r) c x y)
      reads (node {s = s} {r = r'} f r) (suc b) c =
          view_reads f (deep T G.depth r') (suc b) (reads r b c.1) (λ a le. omega (arith, c.0 a, le)) (λ a le. omega (arith, c.0 a, le))
      reads (many r) b c = many_reads (classes r b false (some_of r b c.1 (reads r b c.2))) (apart G S.within (continues G r) (first G r) c.0)
      reads (suffixes {s = s} {r = r'} levels r q f) b c =
          suffixes_reads_at levels b f (some_of r b c.2 (reads r b c.5)) (λ l. some_of q l c.3 (reads q l c.6))
          (λ l t i j. apart G S.within (continues G r) (first G q) c.0 t (continues_of G S.bounded r l (G.code t) i) j)
          (λ x t i j. apart G S.within (continues G q) (first G q) c.1 t (continues_of G S.bounded q x (G.code t) i) j) c.4 (under levels b) refl
      reads (suffix {s = s} {r = r'} levels r ok q f) b c =
          suffix_reads_at levels b f (some_of r b c.1 (reads r b c.4)) (λ l. some_of q l c.2 (reads q l c.5)) ok
          (λ l u t v h le k here. (some_of r b c.1 (reads r b c.4)).complete l u (t ∷ v) h le (λ i. elim c.0 [
            | inl d ↦ apart G S.within (continues G r) (first G q) d t (continues_of G S.bounded r l (G.code t) i) here
            | inr d ↦ d l (G.code t) (S.within t) k i here
          ])) c.3 (under levels b) refl
      reads (starting g r) b c = starting_reads (λ t. g (G.code t)) (some_of r b c.0 (reads r b c.1))
      reads (bind r null begins goes_on q) b c =
          weaken (bind_reads {first2 = λ t. begins (G.code t)} {cont2 = λ t. goes_on (G.code t)} {null2 = null} (classes r b (nullable G r) (reads r b c.1))
          (λ a. let d = c.2 a in weaken (reads (q a) b d.3) (λ x u k. k) (λ x u k. k) (λ u k. k) (λ u k. k)
          (λ t. included_at G (first G (q a)) begins (G.code t) d.0 (S.within t)) (λ x t i. included_at G (continues G (q a)) goes_on (G.code t) d.1 (S.within t) (continues_of G S.bounded (q a) x (G.code t) i)) d.2)
          (apart G S.within (continues G r) begins c.0))
          (λ a u x. x) (λ a u x. x) (λ u x. x) (λ u x. x) (λ t k. by_nullable (nullable G r) _ _ k) (λ a t k. k) (λ k. k)
      reads (needs n r) b c = needs_reads n (reads r b c.1) (λ a u x. at_least sp r c.1 n c.0 a u x)
      reads (named k) b c = known b k

    nothing_read : (k : K) (b : ℕ) → Reads (Derives G 0 k) (DerivesFront G 0 k b) (deep T G.depth (sorts k)) b (λ t. G.name_first k (G.code t)) (λ a t. G.name_goes_on k a (G.code t) ≡ true) (G.name_nullable k) (read_within G 0 b k)
    unfolding Derives DerivesFront read_within
    nothing_read k b = record {
      sound = λ ts x rest h. err_ok h;
      refusal = λ ts rest h. ([], err_inj h, refl);
      complete = λ x u rest h le off. absurd h;
      reach = λ u v h. rw h (le_refl _);
      starts = λ t u h. cons_nil h;
      holds = λ x u h le. absurd h;
      closed = λ u v h. (append_empty u v (sym h)).0;
      nothing = refl;
      empty = λ x h. absurd h;
    }

    -- with n steps, derivations of height n are read, and no others
    pub read_within_reads : (n b : ℕ) (k : K) → Reads (Derives G n k) (DerivesFront G n k b) (deep T G.depth (sorts k)) b (λ t. G.name_first k (G.code t)) (λ a t. G.name_goes_on k a (G.code t) ≡ true) (G.name_nullable k) (read_within G n b k)
    unfolding read_within Derives DerivesFront
    read_within_reads zero b k = nothing_read k b
    read_within_reads (suc n) b k =
        weaken (reads (Derives G n) (DerivesFront G n) (read_within G n) (derives_nullable n) (λ c k. read_within_reads n c k) (G.production k) b (S.checks k))
        (λ a u x. x) (λ a u x. x) (λ u x. x) (λ u x. x) (λ t x. included_at G (first G (G.production k)) (G.name_first k) (G.code t) (S.begins k) (S.within t) x) (λ a t x. S.by_value k a (G.code t) (S.within t) x) (S.empties k)

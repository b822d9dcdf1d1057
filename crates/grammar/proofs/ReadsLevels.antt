-- A rule with parts behind it, each of which makes some levels: there are such, or the rule stands alone.
use Rattle.std.proofs.Common.{◌≡◌, ℕ, zero, suc, ◌+◌, ◌≤◌, ◌<◌, max, Bool, true, false, ◌&&◌, List, [], ◌∷◌, ◌++◌, Option, Some, None, Result, Ok, ◌⊎◌, inl, inr, sym, ap, subst, arith}
use Rattle.std.specs.Prelude.{nat_le}
use Rattle.grammar.specs.Forms.{ChainSpells, SuffixesSpell, BehindSuffixes, SuffixesFront, SuffixSpells, BehindSuffix, SuffixFront}
use Rattle.grammar.specs.FormReaders.{Reads, under, read_suffixes_at, read_suffix_at}
use Rattle.grammar.proofs.Lists.{append_empty, and_split, and_both, some_inj, none_some, off_less}
use Rattle.grammar.proofs.Weakening.{weaken}
use Rattle.grammar.proofs.ReadsSuffixes.{suffixes_reads}
use Rattle.grammar.proofs.ReadsSuffix.{suffix_reads}

pub under_some : (n b c : ℕ) → under n b ≡ Some c → b ≡ n + c
under_some zero b c e = omega (arith, some_inj {a = b} e)
under_some (suc n) zero c e = absurd (none_some e)
under_some (suc n) (suc b) c e = omega (arith, under_some n b c e)

pub under_none : (n b : ℕ) → under n b ≡ None → b < n
under_none zero b e = absurd (none_some (sym e))
under_none (suc n) zero e = omega arith
under_none (suc n) (suc b) e = omega (arith, under_none n b e)

fits_up : (m n : ℕ) → m ≤ n → nat_le m n ≡ true
fits_up m n h = search (arith, h)

fits_down : (m n : ℕ) → nat_le m n ≡ true → m ≤ n
fits_down m n h = search (arith, h)

module _ {T A S : Type 0} {W : A → List T → Type 0} {F : List T → Type 0} {d : A → ℕ} {V : S → List T → Type 0} {G : ℕ → List T → Type 0} {e : S → ℕ}
    {first1 first2 : T → Bool} {cont1 : A → T → Type 0} {cont2 : S → T → Type 0} {p : List T → Result (A × List T) (List T)} {q : ℕ → List T → Result (S × List T) (List T)}
    (levels B : ℕ) (f : A → S → A) (R : Reads W F d B first1 cont1 false p) (Q : (c : ℕ) → Reads V (G c) e c first2 cont2 false (q c)) where
  abbrev pub suffixes_go_on : A → T → Type 0
  suffixes_go_on x t = cont1 x t ⊎ (((l : A) × (s : S) × (x ≡ f l s) × cont2 s t) ⊎ (first2 t ≡ true))

  module _ (apart1 : (l : A) (t : T) → cont1 l t → first2 t ≡ true → ⊥) (apart2 : (s : S) (t : T) → cont2 s t → first2 t ≡ true → ⊥) (over : (l : A) (s : S) → d (f l s) ≡ levels + max (d l) (e s)) where
    abbrev Front : List T → Type 0
    Front = SuffixesFront W V f d levels B F G

    alone : B < levels → (k : ℕ) (x : A) (u : List T) → ChainSpells W V f k x u → d x ≤ B → W x u
    alone few zero x u h le = h
    alone few (suc k) x u (l, s, v, w, e1, e2, h, g) le = let never : ⊥ = omega (arith, few, le, ap d e1, over l s) in absurd never

    no_node : B < levels → (u : List T) → Front u → F u
    no_node few u (inl h) = h
    no_node few u (inr (c, e, h)) = let never : ⊥ = omega (arith, few, e) in absurd never

    token : (k : ℕ) (x : A) → ChainSpells W V f k x [] → false ≡ true
    token zero x h = R.empty x h
    token (suc k) x (l, s, v, w, e1, e2, h, g) = (Q (e s)).empty s (subst (V s) ((append_empty v w e2).1) g)

    few_levels : B < levels → Reads (SuffixesSpell W V f) Front d B first1 suffixes_go_on false p
    few_levels few = record {
      sound = λ ts a rest h. let s = R.sound ts a rest h in (s.0, s.1, (0, s.2), s.3);
      refusal = λ ts rest h. let s = R.refusal ts rest h in (s.0, s.1, inl s.2);
      complete = λ a u rest h le off. R.complete a u rest (alone few h.0 a u h.1 le) le (off_less (λ t k. inl k) rest off);
      reach = λ u v h. R.reach u v (no_node few u h);
      starts = λ t u h. R.starts t u (no_node few (t ∷ u) h);
      holds = λ a u h le. inl (R.holds a u (alone few h.0 a u h.1 le) le);
      closed = λ u v h. inl (R.closed u v (no_node few (u ++ v) h));
      nothing = inl R.nothing;
      empty = λ a h. token h.0 a h.1;
    }

    enough : (c : ℕ) → B ≡ levels + c → Reads (SuffixesSpell W V f) Front d B first1 suffixes_go_on false (read_suffixes_at first2 d f p q (Some c))
    enough c lv = weaken (suffixes_reads B levels lv f (λ l. nat_le (d l) c) R (Q c) apart1 apart2 (λ l. fits_down _ _) (λ l. fits_up _ _) over)
        (λ a u x. x) (λ a u x. x) up down (λ t k. k) (λ a t k. k) (λ k. k)
      where
        up : (u : List T) → F u ⊎ BehindSuffixes W V f d c (G c) u → Front u
        up u (inl h) = inl h
        up u (inr h) = inr (c, lv, h)

        down : (u : List T) → Front u → F u ⊎ BehindSuffixes W V f d c (G c) u
        down u (inl h) = inl h
        down u (inr (c', lv', h)) = let same : c' ≡ c = omega (arith, lv, lv') in inr (subst (λ z. BehindSuffixes W V f d z (G z) u) same h)

    pub suffixes_reads_at : (o : Option ℕ) → under levels B ≡ o → Reads (SuffixesSpell W V f) Front d B first1 suffixes_go_on false (read_suffixes_at first2 d f p q o)
    suffixes_reads_at None e = few_levels (under_none levels B e)
    suffixes_reads_at (Some c) e = enough c (under_some levels B c e)

module _ {T A S : Type 0} {W : A → List T → Type 0} {F : List T → Type 0} {d : A → ℕ} {V : S → List T → Type 0} {G : ℕ → List T → Type 0} {e : S → ℕ}
    {first1 first2 : T → Bool} {cont1 : A → T → Type 0} {cont2 : S → T → Type 0} {p : List T → Result (A × List T) (List T)} {q : ℕ → List T → Result (S × List T) (List T)}
    (levels B : ℕ) (f : A → S → A) (R : Reads W F d B first1 cont1 false p) (Q : (c : ℕ) → Reads V (G c) e c first2 cont2 false (q c))
    (ok : A → Bool) (stops : (l : A) (u : List T) (t : T) (r : List T) → W l u → d l ≤ B → ok l ≡ true → first2 t ≡ true → p (u ++ t ∷ r) ≡ Ok (l, t ∷ r))
    (over : (l : A) (s : S) → ok l ≡ true → d (f l s) ≡ levels + max (d l) (e s)) where
  abbrev pub suffix_goes_on : A → T → Type 0
  suffix_goes_on x t = cont1 x t ⊎ (((l : A) × (s : S) × (x ≡ f l s) × (ok l ≡ true) × cont2 s t) ⊎ ((ok x ≡ true) × (first2 t ≡ true)))

  abbrev Front1 : List T → Type 0
  Front1 = SuffixFront W ok d levels B F G

  alone1 : B < levels → (x : A) (u : List T) → SuffixSpells W ok V f x u → d x ≤ B → W x u
  alone1 few x u (inl h) le = h
  alone1 few x u (inr (l, s, v, w, e1, e2, k, h, g)) le = let never : ⊥ = omega (arith, few, le, ap d e1, over l s k) in absurd never

  no_node1 : B < levels → (u : List T) → Front1 u → F u
  no_node1 few u (inl h) = h
  no_node1 few u (inr (c, e, h)) = let never : ⊥ = omega (arith, few, e) in absurd never

  token1 : (x : A) → SuffixSpells W ok V f x [] → false ≡ true
  token1 x (inl h) = R.empty x h
  token1 x (inr (l, s, v, w, e1, e2, k, h, g)) = R.empty l (subst (W l) ((append_empty v w e2).0) h)

  few_levels1 : B < levels → Reads (SuffixSpells W ok V f) Front1 d B first1 suffix_goes_on false p
  few_levels1 few = record {
    sound = λ ts a rest h. let s = R.sound ts a rest h in (s.0, s.1, inl s.2, s.3);
    refusal = λ ts rest h. let s = R.refusal ts rest h in (s.0, s.1, inl s.2);
    complete = λ a u rest h le off. R.complete a u rest (alone1 few a u h le) le (off_less (λ t k. inl k) rest off);
    reach = λ u v h. R.reach u v (no_node1 few u h);
    starts = λ t u h. R.starts t u (no_node1 few (t ∷ u) h);
    holds = λ a u h le. inl (R.holds a u (alone1 few a u h le) le);
    closed = λ u v h. inl (R.closed u v (no_node1 few (u ++ v) h));
    nothing = inl R.nothing;
    empty = token1;
  }

  enough1 : (c : ℕ) → B ≡ levels + c → Reads (SuffixSpells W ok V f) Front1 d B first1 suffix_goes_on false (read_suffix_at first2 d ok f p q (Some c))
  enough1 c lv = weaken (suffix_reads B levels lv f ok (λ l. ok l && nat_le (d l) c) R (Q c) stops
      (λ l k. let two = and_split (ok l) (nat_le (d l) c) k in (two.0, fits_down _ _ two.1)) (λ l k le. and_both (ok l) _ k (fits_up _ _ le)) (λ l s w k g. over l s k))
      (λ a u x. x) (λ a u x. x) up down (λ t k. k) (λ a t k. k) (λ k. k)
    where
      up : (u : List T) → F u ⊎ BehindSuffix W ok d c (G c) u → Front1 u
      up u (inl h) = inl h
      up u (inr h) = inr (c, lv, h)

      down : (u : List T) → Front1 u → F u ⊎ BehindSuffix W ok d c (G c) u
      down u (inl h) = inl h
      down u (inr (c', lv', h)) = let same : c' ≡ c = omega (arith, lv, lv') in inr (subst (λ z. BehindSuffix W ok d z (G z) u) same h)

  pub suffix_reads_at : (o : Option ℕ) → under levels B ≡ o → Reads (SuffixSpells W ok V f) Front1 d B first1 suffix_goes_on false (read_suffix_at first2 d ok f p q o)
  suffix_reads_at None e = few_levels1 (under_none levels B e)
  suffix_reads_at (Some c) e = enough1 c (under_some levels B c e)

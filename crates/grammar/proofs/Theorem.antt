-- What a reader of a sound table answers, and that tokens spell one tree.
use Rattle.std.proofs.Common.{◌≡◌, ℕ, zero, suc, ◌+◌, ◌-◌, ◌≤◌, max, true, List, [], ◌∷◌, ◌++◌, length, take, Result, Ok, Err, inl, inr, refl, sym, ap, ◌∙◌, subst, append_assoc, append-nil, length-append, arith}
use Rattle.grammar.specs.FormReaders.{remaining, Reads}
use Rattle.grammar.specs.Rules.{Sort, El, deep, Grammar}
use Rattle.grammar.specs.Spelling.{Spells, IsFront}
use Rattle.grammar.specs.Checks.{Predictive}
use Rattle.grammar.specs.Readers.{read_named}
use Rattle.grammar.specs.Reading.{SpellsWithin, FrontUpTo, RefusedAt, whole_list, read_all}
use Rattle.grammar.proofs.Lists.{ok_err, err_ok, ok_inj, err_inj}
use Rattle.grammar.proofs.FrontHeights.{read_named_reads}

take_front : {T : Type 0} (n : ℕ) (u r : List T) → n ≤ length u → (v : List T) × (u ≡ take n (u ++ r) ++ v)
take_front zero u r h = (u, refl)
take_front (suc n) [] r h = let no : ⊥ = omega (arith, h) in absurd no
take_front (suc n) (t ∷ u) r h = let (v, e) = take_front n u r (omega (arith, h)) in (v, ap (λ l. t ∷ l) e)

take_one : {T : Type 0} (u : List T) (t : T) (r : List T) → take (suc (length u)) (u ++ t ∷ r) ≡ u ++ t ∷ []
take_one [] t r = refl
take_one (s ∷ u) t r = ap (λ l. s ∷ l) (take_one u t r)

module _ {T N K : Type 0} {sorts : K → Sort} (G : Grammar T N K sorts) (S : Predictive G) (k : K) where
  module _ (b : ℕ) where
    abbrev R : Reads (Spells G k) (IsFront G k b) (deep T G.depth (sorts k)) b (λ t. G.name_first k (G.code t)) (λ a t. G.name_goes_on k a (G.code t) ≡ true) (G.name_nullable k) (read_named G b k)
    R = read_named_reads G S b k

    -- where the reader stopped, by what is left
    refused_here : (ts u rest : List T) → ts ≡ u ++ rest → IsFront G k b u → remaining (read_named G b k ts) ≡ length rest
        → ((p : El T N (sorts k)) → Spells G k p ts → deep T G.depth (sorts k) p ≤ b → ⊥) → RefusedAt G k b ts (length ts - length rest)
    refused_here ts u rest e f l w = record {
      within = omega (arith, len);
      before = λ n h. let (v, e1) = take_front n u rest (omega (arith, h, at)) in
          subst (λ z. IsFront G k b (take n z)) (sym e) ((R).closed (take n (u ++ rest)) v (subst (IsFront G k b) e1 f));
      no_front = subst (λ n. FrontUpTo G k b ts (suc n) → ⊥) (sym at) (next rest e l);
    }
      where
        len : length ts ≡ length u + length rest
        len = ap length e ∙ length-append u rest

        at : length ts - length rest ≡ length u
        at = omega (arith, len)

        next : (rest : List T) → ts ≡ u ++ rest → remaining (read_named G b k ts) ≡ length rest → FrontUpTo G k b ts (suc (length u)) → ⊥
        next [] e l (inl x) = let no : ⊥ = omega (arith, ap length (e ∙ append-nil u), x.0) in no
        next [] e l (inr x) = w x.1.0 x.1.1 x.1.2
        next (t ∷ r) e l (inr x) = let no : ⊥ = omega (arith, ap length e ∙ length-append u (t ∷ r), x.0) in no
        next (t ∷ r) e l (inl x) =
            let z : IsFront G k b (u ++ t ∷ []) = subst (IsFront G k b) (ap (take (suc (length u))) e ∙ take_one u t r) x.1 in
            let e2 : ts ≡ (u ++ t ∷ []) ++ r = e ∙ sym (append_assoc u (t ∷ []) r) in
            let past : remaining (read_named G b k ts) ≤ length r = subst (λ q. remaining (read_named G b k q) ≤ length r) (sym e2) ((R).reach (u ++ t ∷ []) r z) in
            let no : ⊥ = omega (arith, past, l) in no

    again : (p : El T N (sorts k)) (ts : List T) → Spells G k p ts → deep T G.depth (sorts k) p ≤ b → read_named G b k ts ≡ Ok (p, [])
    again p ts h le = ap (read_named G b k) (sym (append-nil ts)) ∙ (R).complete p ts [] h le tt

    pub read_ok : (ts : List T) (p : El T N (sorts k)) → read_all G k b ts ≡ Ok p → SpellsWithin G k b p ts
    unfolding read_all
    read_ok ts p h = by (read_named G b k ts) refl h
      where
        by : (o : Result (El T N (sorts k) × List T) (List T)) → read_named G b k ts ≡ o → whole_list G k b (length ts) o ≡ Ok p → SpellsWithin G k b p ts
        by (Ok (q, [])) e g =
            let s = (R).sound ts q [] e in
            let same : q ≡ p = ok_inj g in
            record { spells = subst (λ z. Spells G k z ts) same (subst (Spells G k q) (sym (s.1 ∙ append-nil s.0)) s.2); shallow = subst (λ z. deep T G.depth (sorts k) z ≤ b) same s.3 }
        by (Ok (q, t ∷ r)) e g = err_ok g
        by (Err r) e g = err_ok g

    pub read_refusal : (ts : List T) (at : ℕ) → read_all G k b ts ≡ Err at → RefusedAt G k b ts at
    unfolding read_all
    read_refusal ts at h = by (read_named G b k ts) refl h
      where
        by : (o : Result (El T N (sorts k) × List T) (List T)) → read_named G b k ts ≡ o → whole_list G k b (length ts) o ≡ Err at → RefusedAt G k b ts at
        by (Ok (q, [])) e g = ok_err g
        by (Ok (q, t ∷ r)) e g =
            let s = (R).sound ts q (t ∷ r) e in
            subst (RefusedAt G k b ts) (err_inj g)
            (refused_here ts s.0 (t ∷ r) s.1 ((R).holds q s.0 s.2 s.3) (ap remaining e) (λ p x le. let no : ⊥ = omega (arith, ap remaining (sym e ∙ again p ts x le)) in no))
        by (Err r) e g =
            let s = (R).refusal ts r e in
            subst (RefusedAt G k b ts) (err_inj g) (refused_here ts s.0 r s.1 s.2 (ap remaining e) (λ p x le. err_ok (sym e ∙ again p ts x le)))

    pub read_whole : (ts : List T) (p : El T N (sorts k)) → SpellsWithin G k b p ts → read_all G k b ts ≡ Ok p
    unfolding read_all
    read_whole ts p h = ap (whole_list G k b (length ts)) (again p ts h.spells h.shallow)

  -- tokens spell at most one tree
  pub one_tree : (p q : El T N (sorts k)) (ts : List T) → Spells G k p ts → Spells G k q ts → p ≡ q
  one_tree p q ts h g =
      let b = max (deep T G.depth (sorts k) p) (deep T G.depth (sorts k) q) in
      ap (λ z. z.0) (ok_inj (sym (again b p ts h (omega arith)) ∙ again b q ts g (omega arith)))

-- With more levels there are more fronts.
use Rattle.std.proofs.Common.{ℕ, zero, suc, ◌+◌, ◌-◌, ◌≤◌, List, [], inl, inr, refl, sym, subst, arith, le_trans}
use Rattle.grammar.specs.Rules.{Sort, El, Rule, token, token_where, absent, sequence, choice, view, node, many, suffixes, suffix, starting, bind, needs, named, Grammar}
use Rattle.grammar.specs.Spelling.{RuleFront, Derives, DerivesFront, IsFront}

module _ {T N K : Type 0} {sorts : K → Sort} (G : Grammar T N K sorts) where
  module _ (names : (k : K) → El T N (sorts k) → List T → Type 0) (fronts : K → ℕ → List T → Type 0) (none : (k : K) (b : ℕ) → fronts k b []) where
    nothing_in : {s : Sort} (r : Rule T N K sorts s) (b : ℕ) → RuleFront G names fronts r b []
    nothing_in (token f) b = inl refl
    nothing_in (token_where f ok) b = inl refl
    nothing_in (absent a) b = refl
    nothing_in (sequence r q) b = inl (nothing_in r b)
    nothing_in (choice r q) b = inl (nothing_in r b)
    nothing_in (view f r) b = nothing_in r b
    nothing_in (node f r) zero = refl
    nothing_in (node f r) (suc b) = nothing_in r b
    nothing_in (many r) b = ([], [], [], refl, refl, omega arith, nothing_in r b)
    nothing_in (suffixes levels r q f) b = inl (nothing_in r b)
    nothing_in (suffix levels r ok q f) b = inl (nothing_in r b)
    nothing_in (starting g r) b = inl refl
    nothing_in (bind r null begins goes_on q) b = inl (nothing_in r b)
    nothing_in (needs n r) b = inl refl
    nothing_in (named k) b = none k b

    more_in : ((k : K) (b b' : ℕ) (u : List T) → b ≤ b' → fronts k b u → fronts k b' u) → {s : Sort} (r : Rule T N K sorts s) (b b' : ℕ) (u : List T) → b ≤ b' → RuleFront G names fronts r b u → RuleFront G names fronts r b' u
    more_in grow (token f) b b' u le x = x
    more_in grow (token_where f ok) b b' u le x = x
    more_in grow (absent a) b b' u le x = x
    more_in grow (sequence r q) b b' u le (inl x) = inl (more_in grow r b b' u le x)
    more_in grow (sequence r q) b b' u le (inr (a, v, w, e, y, d, x)) = inr (a, v, w, e, y, le_trans d le, more_in grow q b b' w le x)
    more_in grow (choice r q) b b' u le (inl x) = inl (more_in grow r b b' u le x)
    more_in grow (choice r q) b b' u le (inr x) = inr (more_in grow q b b' u le x)
    more_in grow (view f r) b b' u le x = more_in grow r b b' u le x
    more_in grow (node f r) zero b' u le e = subst (RuleFront G names fronts (node f r) b') (sym e) (nothing_in (node f r) b')
    more_in grow (node f r) (suc b) zero u le x = let no : ⊥ = omega (arith, le) in absurd no
    more_in grow (node f r) (suc b) (suc b') u le x = more_in grow r b b' u (omega (arith, le)) x
    more_in grow (many r) b b' u le (xs, v, w, e, m, d, x) = (xs, v, w, e, m, le_trans d le, more_in grow r b b' w le x)
    more_in grow (suffixes levels r q f) b b' u le (inl x) = inl (more_in grow r b b' u le x)
    more_in grow (suffixes levels r q f) b b' u le (inr (c, lv, (l, v, w, e, m, d, x))) =
        let up : c ≤ c + (b' - b) = omega arith in
        inr (c + (b' - b), omega (arith, lv, le), (l, v, w, e, m, le_trans d up, more_in grow q c (c + (b' - b)) w up x))
    more_in grow (suffix levels r ok q f) b b' u le (inl x) = inl (more_in grow r b b' u le x)
    more_in grow (suffix levels r ok q f) b b' u le (inr (c, lv, (l, v, w, e, k, m, d, x))) =
        let up : c ≤ c + (b' - b) = omega arith in
        inr (c + (b' - b), omega (arith, lv, le), (l, v, w, e, k, m, le_trans d up, more_in grow q c (c + (b' - b)) w up x))
    more_in grow (starting g r) b b' u le (inl x) = inl x
    more_in grow (starting g r) b b' u le (inr (s, x)) = inr (s, more_in grow r b b' u le x)
    more_in grow (bind r null begins goes_on q) b b' u le (inl x) = inl (more_in grow r b b' u le x)
    more_in grow (bind r null begins goes_on q) b b' u le (inr (a, v, w, e, y, d, x)) = inr (a, v, w, e, y, le_trans d le, more_in grow (q a) b b' w le x)
    more_in grow (needs n r) b b' u le (inl x) = inl x
    more_in grow (needs n r) b b' u le (inr (d, x)) = inr (le_trans d le, more_in grow r b b' u le x)
    more_in grow (named k) b b' u le x = grow k b b' u le x

  none_derived : (n : ℕ) (k : K) (b : ℕ) → DerivesFront G n k b []
  unfolding DerivesFront
  none_derived zero k b = refl
  none_derived (suc n) k b = nothing_in (Derives G n) (DerivesFront G n) (none_derived n) (G.production k) b

  more_derived : (n : ℕ) (k : K) (b b' : ℕ) (u : List T) → b ≤ b' → DerivesFront G n k b u → DerivesFront G n k b' u
  unfolding DerivesFront
  more_derived zero k b b' u le x = x
  more_derived (suc n) k b b' u le x = more_in (Derives G n) (DerivesFront G n) (none_derived n) (more_derived n) (G.production k) b b' u le x

  pub more_levels : (k : K) (b b' : ℕ) (u : List T) → b ≤ b' → IsFront G k b u → IsFront G k b' u
  more_levels k b b' u le x = (x.0, more_derived x.0 k b b' u le x.1)

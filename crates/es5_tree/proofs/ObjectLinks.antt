-- Chains of links: they end, and a change of a link that makes no cycle lets them end.
use Rattle.std.proofs.Common.{◌≡◌, ◌≢◌, ℕ, zero, suc, ◌+◌, ◌-◌, ◌<◌, ◌≤◌, Bool, true, false, ◌||◌, ◌⊎◌, eqb, List, [], ◌∷◌, length, Option, Some, None, refl, sym, ap, subst, ◌∙◌, inl, inr, arith, ⊎_elim, set, eqb-true, eq-eqb, ◌++◌, length-set, length-append, get_or-set_other, get_or-set_same}
use Rattle.std.proofs.Math.Nat.{eq-or-lt_of_le}
use Rattle.std.proofs.lemmas.Bool.{cases_lt, false≢true}
use Rattle.std.proofs.lemmas.List.{get_or_past, get_or_append_left, get_or_push}
use Rattle.std.specs.List.{list_any, IsDistinct, AllByRecursion}
use Rattle.std.proofs.lemmas.Map.Steps.{length-le_from_distinct_below}
use Rattle.std.proofs.lemmas.Map.Keys.{IsDistinct-cons}
use Rattle.es5_tree.specs.Objects.Cells.{Cell, Object, new_cell}
use Rattle.es5_tree.specs.Objects.Links.{cell_at, link_at, next, after, first_of_chain, chain, in_chain, Within, LinksWithin, NoCycle}

-- ---- where links lead to

pub after_none : (k : ℕ) (cells : List Cell) → after k cells None ≡ None
unfolding after
after_none zero cells = refl
after_none (suc k) cells = after_none k cells

pub after_suc : (k : ℕ) (cells : List Cell) (at : Option ℕ) → after (suc k) cells at ≡ next cells (after k cells at)
unfolding after
after_suc zero cells at = refl
after_suc (suc k) cells at = after_suc k cells (next cells at)

after_zero : (cells : List Cell) (at : Option ℕ) → after 0 cells at ≡ at
unfolding after
after_zero cells at = refl

after_step : (k : ℕ) (cells : List Cell) (o : ℕ) → after (suc k) cells (Some o) ≡ after k cells (link_at cells o)
unfolding after
after_step k cells o = refl

same_number : (m n : ℕ) (cells : List Cell) (at : Option ℕ) → m ≡ n → after m cells at ≡ after n cells at
same_number m n cells at e = ap (λ k. after k cells at) e

pub after_add : (j k : ℕ) (cells : List Cell) (at : Option ℕ) → after (k + j) cells at ≡ after k cells (after j cells at)
after_add j zero cells at = same_number (0 + j) j cells at (omega arith) ∙ sym (after_zero cells (after j cells at))
after_add j (suc k) cells at =
    (same_number (suc k + j) (suc (k + j)) cells at (omega arith) ∙ after_suc (k + j) cells at) ∙ (ap (next cells) (after_add j k cells at) ∙ sym (after_suc k cells (after j cells at)))

past : (m k : ℕ) → m ≤ k → (cells : List Cell) (o : ℕ) → after m cells (Some o) ≡ None → after (suc k) cells (Some o) ≡ Some o → ⊥
past m k le cells o e c =
    let none : after (suc k) cells (Some o) ≡ None =
    same_number (suc k) ((suc k - m) + m) cells (Some o) (omega arith) ∙ (after_add m (suc k - m) cells (Some o) ∙ (ap (after (suc k - m) cells) e ∙ after_none (suc k - m) cells))
    in cc

-- ---- tests

or-true : (a b : Bool) → (a || b) ≡ true → (a ≡ true) ⊎ (b ≡ true)
or-true true b e = inl refl
or-true false b e = inr e

or-false_left : (a b : Bool) → (a || b) ≡ false → a ≡ false
or-false_left true b e = e
or-false_left false b e = refl

or-false_right : (a b : Bool) → (a || b) ≡ false → b ≡ false
or-false_right true b e = cc
or-false_right false b e = e

true_or_false : (a : Bool) → (a ≡ true) ⊎ (a ≡ false)
true_or_false true = inl refl
true_or_false false = inr refl

different : (a b : ℕ) → (a ≡ b → ⊥) → eqb a b ≡ false
different a b h = ⊎_elim (λ same. absurd (h (eqb-true a b same))) (λ e. e) (true_or_false (eqb a b))

never : (a : Option ℕ) → ((x : ℕ) → a ≡ Some x → ⊥) → a ≡ None
never None h = refl
never (Some x) h = absurd (h x refl)

link_of_other : (cells : List Cell) (o : ℕ) (c : Cell) (a : ℕ) → eqb o a ≡ false → link_at (set cells o c) a ≡ link_at cells a
unfolding cell_at
link_of_other cells o c a e =
    let ne : a ≢ o = λ same. false≢true (sym e ∙ eq-eqb o a (sym same)) in
    ap (λ x. x.link) (get_or-set_other cells o a c (new_cell Object None) ne)

-- ---- a chain that ends has no cycle

ended_by : (f m : ℕ) → m ≤ f → (cells : List Cell) (o k : ℕ) → after m cells (Some o) ≡ None → after (suc k) cells (Some o) ≡ Some o → ⊥
ended_by zero m le cells o k e c = past m k (omega arith) cells o e c
ended_by (suc f) m le cells o k e c =
    ⊎_elim
    (λ (big : k < m).
    let back : after (m - suc k) cells (Some o) ≡ None =
    sym (ap (after (m - suc k) cells) c) ∙ (sym (after_add (suc k) (m - suc k) cells (Some o)) ∙ (same_number ((m - suc k) + suc k) m cells (Some o) (omega arith) ∙ e))
    in ended_by f (m - suc k) (omega arith) cells o k back c)
    (λ (small : m ≤ k). past m k small cells o e c)
    (cases_lt k m)

-- each chain comes to an end
abbrev pub Ends : List Cell → Type 0
Ends cells = (o : ℕ) → (m : ℕ) × (after m cells (Some o) ≡ None)

pub no_cycle_from_ends : (cells : List Cell) → Ends cells → NoCycle cells
unfolding NoCycle
no_cycle_from_ends cells h o k c = ended_by (h o).0 (h o).0 (omega arith) cells o k (h o).1 c

-- ---- where there is no cycle, chains end within as many links as there are cells

get_or_past_link : (cells : List Cell) (o : ℕ) → length cells ≤ o → link_at cells o ≡ None
unfolding cell_at
get_or_past_link cells o h = ap (λ c. c.link) (get_or_past cells o (new_cell Object None) h)

apart : (k : ℕ) (cells : List Cell) → NoCycle cells → (o j : ℕ) (at : Option ℕ) → after (suc j) cells (Some o) ≡ at → AllByRecursion (λ y. eqb o y ≡ false) (first_of_chain k cells at)
unfolding first_of_chain NoCycle
apart zero cells h o j at e = tt
apart (suc k) cells h o j None e = tt
apart (suc k) cells h o j (Some y) e = (
  different o y (λ same. h o j (e ∙ ap (λ z. Some z) (sym same))),
  apart k cells h o (suc j) (link_at cells y) (after_suc (suc j) cells (Some o) ∙ ap (next cells) e),
)

distinct_none : IsDistinct eqb []
unfolding IsDistinct
distinct_none = tt

distinct_chain : (k : ℕ) (cells : List Cell) → NoCycle cells → (at : Option ℕ) → IsDistinct eqb (first_of_chain k cells at)
unfolding first_of_chain after
distinct_chain zero cells h at = distinct_none
distinct_chain (suc k) cells h None = distinct_none
distinct_chain (suc k) cells h (Some o) = IsDistinct-cons eqb o _ (apart k cells h o 0 (link_at cells o) refl) (distinct_chain k cells h (link_at cells o))

within_chain : (k : ℕ) (cells : List Cell) → LinksWithin cells → (at : Option ℕ) → Within cells at → (q : ℕ) → list_any (eqb q) (first_of_chain k cells at) ≡ true → q < length cells
unfolding first_of_chain LinksWithin
within_chain zero cells h at w q e = cc
within_chain (suc k) cells h None w q e = cc
within_chain (suc k) cells h (Some o) w q e =
    ⊎_elim
    (λ same. subst (λ z. z < length cells) (sym (eqb-true q o same)) w)
    (λ rest. within_chain k cells h (link_at cells o) (h o) q rest)
    (or-true (eqb q o) _ e)

long_chain : (k : ℕ) (cells : List Cell) (at : Option ℕ) (x : ℕ) → after k cells at ≡ Some x → length (first_of_chain (suc k) cells at) ≡ suc k
unfolding first_of_chain after
long_chain zero cells None x e = cc
long_chain zero cells (Some o) x e = refl
long_chain (suc k) cells None x e = cc (after_none k cells)
long_chain (suc k) cells (Some o) x e = ap suc (long_chain k cells (link_at cells o) x e)

pub chain_ends : (cells : List Cell) → LinksWithin cells → NoCycle cells → (at : Option ℕ) → Within cells at → after (length cells) cells at ≡ None
chain_ends cells w h at in' = never (after (length cells) cells at) (λ x e.
    omega (
      arith,
      long_chain (length cells) cells at x e,
      length-le_from_distinct_below (first_of_chain (suc (length cells)) cells at) (length cells) (distinct_chain (suc (length cells)) cells h at) (within_chain (suc (length cells)) cells w at in'),
    ))

-- ---- more links than there are cells find nothing more

pub whole_chain : (n k : ℕ) (cells : List Cell) (at : Option ℕ) → after n cells at ≡ None → n ≤ k → first_of_chain k cells at ≡ first_of_chain n cells at
unfolding first_of_chain after
whole_chain zero zero cells at e le = refl
whole_chain zero (suc k) cells None e le = refl
whole_chain zero (suc k) cells (Some o) e le = cc
whole_chain (suc n) zero cells at e le = absurd (omega arith)
whole_chain (suc n) (suc k) cells None e le = refl
whole_chain (suc n) (suc k) cells (Some o) e le = ap (λ os. o ∷ os) (whole_chain n k cells (link_at cells o) e (omega arith))

-- ---- a change of one link

-- off the changed cell links lead where they led
off_changed : (k : ℕ) (cells : List Cell) (o : ℕ) (c : Cell) (at : Option ℕ) → list_any (eqb o) (first_of_chain k cells at) ≡ false → after k (set cells o c) at ≡ after k cells at
unfolding first_of_chain after
off_changed zero cells o c at e = refl
off_changed (suc k) cells o c None e = after_none k (set cells o c) ∙ sym (after_none k cells)
off_changed (suc k) cells o c (Some a) e =
    ap (after k (set cells o c)) (link_of_other cells o c a (or-false_left _ _ e)) ∙ off_changed k cells o c (link_at cells a) (or-false_right _ _ e)

ends_after : (k : ℕ) (cells : List Cell) (o : ℕ) (c : Cell) (n : ℕ) → after n (set cells o c) (Some o) ≡ None → (at : Option ℕ) → after k cells at ≡ None → (m : ℕ) × (after m (set cells o c) at ≡ None)
unfolding after
ends_after k cells o c n e None z = (0, refl)
ends_after zero cells o c n e (Some a) z = cc
ends_after (suc k) cells o c n e (Some a) z =
    ⊎_elim
    (λ same. (n, ap (λ b. after n (set cells o c) (Some b)) (sym (eqb-true o a same)) ∙ e))
    (λ other.
    let r = ends_after k cells o c n e (link_at cells a) z
    in (suc r.0, ap (after r.0 (set cells o c)) (link_of_other cells o c a other) ∙ r.1))
    (true_or_false (eqb o a))

link_of_changed : (cells : List Cell) (o : ℕ) (c : Cell) → o < length cells → link_at (set cells o c) o ≡ c.link
unfolding cell_at
link_of_changed cells o c lt = ap (λ x. x.link) (get_or-set_same cells o c (new_cell Object None) lt)

within_longer : (cells more : List Cell) (at : Option ℕ) → length cells ≤ length more → Within cells at → Within more at
within_longer cells more None le w = tt
within_longer cells more (Some o) le w = omega arith

pub links_set : (cells : List Cell) (o : ℕ) (c : Cell) → o < length cells → Within cells c.link → LinksWithin cells → LinksWithin (set cells o c)
unfolding LinksWithin
links_set cells o c lt w h q =
    within_longer cells (set cells o c) (link_at (set cells o c) q) (omega (arith, length-set cells o c))
    (⊎_elim
    (λ same. subst (Within cells) (sym (link_of_changed cells o c lt) ∙ ap (link_at (set cells o c)) (eqb-true o q same)) w)
    (λ other. subst (Within cells) (sym (link_of_other cells o c q other)) (h q))
    (true_or_false (eqb o q)))

-- a link to where the object isn't in the chain makes no cycle
pub no_cycle_set : (cells : List Cell) (o : ℕ) (c : Cell) → LinksWithin cells → NoCycle cells → o < length cells → Within cells c.link → in_chain cells o c.link ≡ false → NoCycle (set cells o c)
unfolding in_chain chain LinksWithin
no_cycle_set cells o c w h lt in' off =
    let up : after (length cells) (set cells o c) c.link ≡ None =
    off_changed (length cells) cells o c c.link off ∙ chain_ends cells w h c.link in' in
    let here : after (suc (length cells)) (set cells o c) (Some o) ≡ None =
    after_step (length cells) (set cells o c) o ∙ (ap (after (length cells) (set cells o c)) (link_of_changed cells o c lt) ∙ up) in
    no_cycle_from_ends (set cells o c) (λ q.
    ⊎_elim
    (λ (small : q < length cells). ends_after (length cells) cells o c (suc (length cells)) here (Some q) (chain_ends cells w h (Some q) small))
    (λ (big : length cells ≤ q). ends_after 1 cells o c (suc (length cells)) here (Some q) (after_step 0 cells q ∙ (after_zero cells (link_at cells q) ∙ get_or_past_link cells q big)))
    (cases_lt q (length cells)))

-- ---- links that stay

same_walk : (k : ℕ) (cells more : List Cell) → ((q : ℕ) → link_at more q ≡ link_at cells q) → (at : Option ℕ) → after k more at ≡ after k cells at
unfolding after
same_walk zero cells more h at = refl
same_walk (suc k) cells more h None = after_none k more ∙ sym (after_none k cells)
same_walk (suc k) cells more h (Some o) = ap (after k more) (h o) ∙ same_walk k cells more h (link_at cells o)

same_links : (cells : List Cell) (o : ℕ) (c : Cell) → o < length cells → c.link ≡ link_at cells o → (q : ℕ) → link_at (set cells o c) q ≡ link_at cells q
same_links cells o c lt e q =
    ⊎_elim
    (λ same. ap (link_at (set cells o c)) (sym (eqb-true o q same)) ∙ (link_of_changed cells o c lt ∙ (e ∙ ap (link_at cells) (eqb-true o q same))))
    (λ other. link_of_other cells o c q other)
    (true_or_false (eqb o q))

-- a changed object that keeps its link
pub links_kept : (cells : List Cell) (o : ℕ) (c : Cell) → o < length cells → c.link ≡ link_at cells o → LinksWithin cells → LinksWithin (set cells o c)
unfolding LinksWithin
links_kept cells o c lt e h q =
    within_longer cells (set cells o c) (link_at (set cells o c) q) (omega (arith, length-set cells o c))
    (subst (Within cells) (sym (same_links cells o c lt e q)) (h q))

pub no_cycle_kept : (cells : List Cell) (o : ℕ) (c : Cell) → o < length cells → c.link ≡ link_at cells o → NoCycle cells → NoCycle (set cells o c)
unfolding NoCycle
no_cycle_kept cells o c lt e h q k back = h q k (sym (same_walk (suc k) cells (set cells o c) (same_links cells o c lt e) (Some q)) ∙ back)

-- ---- one more object

link_before : (cells : List Cell) (c : Cell) (q : ℕ) → q < length cells → link_at (cells ++ c ∷ []) q ≡ link_at cells q
unfolding cell_at
link_before cells c q lt = ap (λ x. x.link) (get_or_append_left cells (c ∷ []) (new_cell Object None) q lt)

link_of_last : (cells : List Cell) (c : Cell) → link_at (cells ++ c ∷ []) (length cells) ≡ c.link
unfolding cell_at
link_of_last cells c = ap (λ x. x.link) (get_or_push cells c (new_cell Object None) (length cells) refl)

pub links_push : (cells : List Cell) (c : Cell) → Within cells c.link → LinksWithin cells → LinksWithin (cells ++ c ∷ [])
unfolding LinksWithin
links_push cells c w h q =
    ⊎_elim
    (λ (small : q < length cells). within_longer cells (cells ++ c ∷ []) (link_at (cells ++ c ∷ []) q) (omega (arith, length-append cells (c ∷ []))) (subst (Within cells) (sym (link_before cells c q small)) (h q)))
    (λ (big : length cells ≤ q).
    ⊎_elim
    (λ (last : length cells ≡ q). within_longer cells (cells ++ c ∷ []) (link_at (cells ++ c ∷ []) q) (omega (arith, length-append cells (c ∷ []))) (subst (Within cells) (sym (link_of_last cells c) ∙ ap (link_at (cells ++ c ∷ [])) last) w))
    (λ (past_end : length cells < q). subst (Within (cells ++ c ∷ [])) (sym (get_or_past_link (cells ++ c ∷ []) q (omega (arith, length-append cells (c ∷ []))))) tt)
    (eq-or-lt_of_le big))
    (cases_lt q (length cells))

walk_before : (k : ℕ) (cells : List Cell) (c : Cell) → LinksWithin cells → (at : Option ℕ) → Within cells at → after k (cells ++ c ∷ []) at ≡ after k cells at
unfolding after LinksWithin
walk_before zero cells c h at w = refl
walk_before (suc k) cells c h None w = after_none k (cells ++ c ∷ []) ∙ sym (after_none k cells)
walk_before (suc k) cells c h (Some o) w = ap (after k (cells ++ c ∷ [])) (link_before cells c o w) ∙ walk_before k cells c h (link_at cells o) (h o)

pub no_cycle_push : (cells : List Cell) (c : Cell) → Within cells c.link → LinksWithin cells → NoCycle cells → NoCycle (cells ++ c ∷ [])
no_cycle_push cells c w in' h =
    let more : List Cell = cells ++ c ∷ [] in
    no_cycle_from_ends (cells ++ c ∷ []) (λ q.
    ⊎_elim
    (λ (small : q < length cells). (length cells, walk_before (length cells) cells c in' (Some q) small ∙ chain_ends cells in' h (Some q) small))
    (λ (big : length cells ≤ q).
    ⊎_elim
    (λ (last : length cells ≡ q). (
      suc (length cells),
      after_step (length cells) more q
          ∙ (ap (after (length cells) more) (ap (link_at more) (sym last) ∙ link_of_last cells c)
          ∙ (walk_before (length cells) cells c in' c.link w ∙ chain_ends cells in' h c.link w)),
    ))
    (λ (past_end : length cells < q). (1, after_step 0 more q ∙ (after_zero more (link_at more q) ∙ get_or_past_link more q (omega (arith, length-append cells (c ∷ []))))))
    (eq-or-lt_of_le big))
    (cases_lt q (length cells)))

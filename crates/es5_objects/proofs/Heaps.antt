-- The heap's cells, its chains, and what a change leaves of its links.
use Rattle.std.proofs.Common.{◌≡◌, ℕ, zero, suc, ◌+◌, ◌-◌, ◌<◌, ◌≤◌, Bool, true, false, ◌||◌, if◌then◌else◌, eqb, List, [], ◌∷◌, ◌++◌, length, get_or, set, Option, Some, None, refl, sym, ap, subst, ◌∙◌, arith, length-append, length-set, eq-eqb, ne_eqb, Result, Ok, Err, OnOk, OnErr}
use Rattle.std.specs.List.{list_any}
use Rattle.std.proofs.lemmas.List.{get_or_default}
use Rattle.es5_tree.specs.Values.{Text, Val, first}
use Rattle.es5_tree.specs.Objects.Cells.{Cell, Object, new_cell, own, put, delete, with_length, with_value, is_array_length, whole}
use Rattle.es5_tree.specs.Objects.Links.{cell_at, link_at, first_of_chain, chain, first_own, get, in_chain, Within, LinksWithin, NoCycle, after}
use Rattle.es5_objects.specs.Heap.{Heap, with_cell}
use Rattle.es5_tree.proofs.ObjectLinks.{links_push, no_cycle_push, after_none}

-- ---- an element of the list is the object of its number

pub cell_is : (cells : List Cell) (o : ℕ) (x : Cell) → x ≡ get_or cells o x → o < length cells → cell_at cells o ≡ x
unfolding cell_at
cell_is cells o x e lt = get_or_default cells o (new_cell Object None) x lt ∙ sym e

-- ---- no object

pub no_links : LinksWithin []
unfolding LinksWithin cell_at
no_links o = tt

pub no_loops : NoCycle []
unfolding NoCycle cell_at after
no_loops o zero e = cc
no_loops o (suc k) e = cc (after_none k [])

-- ---- one more object

pub links_pushed : (cells now : List Cell) (c : Cell) (b : Bool) → now ≡ (if b then cells ++ c ∷ [] else cells) → Within cells c.link → LinksWithin cells → LinksWithin now
links_pushed cells now c true e w h = subst LinksWithin (sym e) (links_push cells c w h)
links_pushed cells now c false e w h = subst LinksWithin (sym e) h

pub no_cycle_pushed : (cells now : List Cell) (c : Cell) (b : Bool) → now ≡ (if b then cells ++ c ∷ [] else cells) → Within cells c.link → LinksWithin cells → NoCycle cells → NoCycle now
no_cycle_pushed cells now c true e w h n = subst NoCycle (sym e) (no_cycle_push cells c w h n)
no_cycle_pushed cells now c false e w h n = subst NoCycle (sym e) n

pub length_pushed : (cells now : List Cell) (c : Cell) (b : Bool) (n : ℕ) → now ≡ (if b then cells ++ c ∷ [] else cells) → length cells < n → length now ≤ n
length_pushed cells now c true n e lt = omega (arith, ap length e, length-append cells (c ∷ []))
length_pushed cells now c false n e lt = omega (arith, ap length e)

-- ---- a walk along the links

pub here_first : (k : ℕ) (cells : List Cell) (o : ℕ) (name : Text) (v : Val) → own (cell_at cells o) name ≡ Some v → first_own cells (first_of_chain (suc k) cells (Some o)) name ≡ Some v
unfolding first_of_chain first_own
here_first k cells o name v e = ap (λ a. first a (λ u. first_own cells (first_of_chain k cells (link_at cells o)) name)) e

pub here_not : (k : ℕ) (cells : List Cell) (o : ℕ) (name : Text) → own (cell_at cells o) name ≡ None → first_own cells (first_of_chain (suc k) cells (Some o)) name ≡ first_own cells (first_of_chain k cells (link_at cells o)) name
unfolding first_of_chain first_own
here_not k cells o name e = ap (λ a. first a (λ u. first_own cells (first_of_chain k cells (link_at cells o)) name)) e

pub no_chain : (k : ℕ) (cells : List Cell) → first_of_chain k cells None ≡ []
unfolding first_of_chain
no_chain zero cells = refl
no_chain (suc k) cells = refl

pub no_turns : (cells : List Cell) (at : Option ℕ) → first_of_chain 0 cells at ≡ []
unfolding first_of_chain
no_turns cells at = refl

pub none_first : (cells : List Cell) (name : Text) → first_own cells [] name ≡ None
unfolding first_own
none_first cells name = refl

pub chain_step : (k : ℕ) (cells : List Cell) (o : ℕ) → first_of_chain (suc k) cells (Some o) ≡ o ∷ first_of_chain k cells (link_at cells o)
unfolding first_of_chain
chain_step k cells o = refl

-- one turn of so many
pub turns_left : (n i : ℕ) → i < n → n - i ≡ suc (n - (i + 1))
turns_left n i lt = omega arith

-- ---- an object of a heap that is seen by its cells

pub located : (cells : List Cell) (n : ℕ) (h : Heap) (o : ℕ) (x : Cell) → record { cells = cells; capacity = n } ≡ h → x ≡ get_or cells o x → o < length h.cells → cell_at h.cells o ≡ x
located cells n h o x e at lt = ap (λ k. cell_at k.cells o) (sym e) ∙ cell_is cells o x at (subst (λ m. o < m) (ap (λ k. length k.cells) (sym e)) lt)

pub inside_of : (cells : List Cell) (n : ℕ) (h : Heap) (o : ℕ) → record { cells = cells; capacity = n } ≡ h → o < length h.cells → o < length cells
inside_of cells n h o e lt = subst (λ m. o < m) (ap (λ k. length k.cells) (sym e)) lt

pub changed : (cells : List Cell) (n : ℕ) (h : Heap) (o : ℕ) (y z : Cell) → record { cells = cells; capacity = n } ≡ h → y ≡ z → record { cells = set cells o y; capacity = n } ≡ with_cell h o z
changed cells n h o y z e same = ap (λ k. with_cell k o y) e ∙ ap (with_cell h o) same

-- ---- an object keeps its link as its properties change

choose_link : (b : Bool) (x y : Cell) (link : Option ℕ) → x.link ≡ link → y.link ≡ link → (if b then x else y).link ≡ link
choose_link true x y link p q = p
choose_link false x y link p q = q

pub put_keeps_link : (c : Cell) (name : Text) (v : Val) → (put c name v).link ≡ c.link
unfolding put with_length with_value
put_keeps_link c name v = choose_link (is_array_length c name) (with_length c (whole v)) (with_value c name v) c.link refl refl

pub delete_keeps_link : (c : Cell) (name : Text) → (delete c name).link ≡ c.link
unfolding delete
delete_keeps_link c name = refl

pub link_after_put : {T E : Type 0} (r : Result T E) (c now : Cell) (name : Text) (v : Val) → OnOk r (now ≡ put c name v) → OnErr r (now ≡ c) → now.link ≡ c.link
link_after_put (Ok x) c now name v e f = ap (λ k. k.link) e ∙ put_keeps_link c name v
link_after_put (Err x) c now name v e f = ap (λ k. k.link) f

pub in_cells : (cells : List Cell) (o : ℕ) (c : Cell) (n : ℕ) → length cells ≤ n → length (set cells o c) ≤ n
in_cells cells o c n le = omega (arith, length-set cells o c)

-- ---- the turns of a walk

no_turn : (n : ℕ) → n ≡ n - 0
no_turn n = omega arith

none_left : (n turn : ℕ) → n ≤ turn → n - turn ≡ 0
none_left n turn le = omega arith

pub walk_starts : (cells : List Cell) (o : ℕ) (name : Text) → get cells o name ≡ first_own cells (first_of_chain (length cells - 0) cells (Some o)) name
unfolding get chain
walk_starts cells o name = ap (λ k. first_own cells (first_of_chain k cells (Some o)) name) (no_turn (length cells))

pub walk_finds : (cells : List Cell) (at turn n : ℕ) (name : Text) (x : Cell) (v : Val) (a : Option Val) → a ≡ first_own cells (first_of_chain (n - turn) cells (Some at)) name
    → turn < n → cell_at cells at ≡ x → own x name ≡ Some v → a ≡ Some v
walk_finds cells at turn n name x v a inv lt e found =
    inv
    ∙ (ap (λ k. first_own cells (first_of_chain k cells (Some at)) name) (turns_left n turn lt)
    ∙ here_first (n - (turn + 1)) cells at name v (ap (λ y. own y name) e ∙ found))

pub walk_goes_on : (cells : List Cell) (at turn n : ℕ) (name : Text) (x : Cell) (link : Option ℕ) (a : Option Val) → a ≡ first_own cells (first_of_chain (n - turn) cells (Some at)) name
    → turn < n → cell_at cells at ≡ x → own x name ≡ None → x.link ≡ link → a ≡ first_own cells (first_of_chain (n - (turn + 1)) cells link) name
walk_goes_on cells at turn n name x link a inv lt e absent to =
    inv
    ∙ (ap (λ k. first_own cells (first_of_chain k cells (Some at)) name) (turns_left n turn lt)
    ∙ (here_not (n - (turn + 1)) cells at name (ap (λ y. own y name) e ∙ absent)
    ∙ ap (λ l. first_own cells (first_of_chain (n - (turn + 1)) cells l) name) (ap (λ y. y.link) e ∙ to)))

pub walk_ends : (cells : List Cell) (k : ℕ) (name : Text) (a : Option Val) → a ≡ first_own cells (first_of_chain k cells None) name → a ≡ None
walk_ends cells k name a inv = inv ∙ (ap (λ os. first_own cells os name) (no_chain k cells) ∙ none_first cells name)

pub walk_over : (cells : List Cell) (turn n : ℕ) (at : Option ℕ) (name : Text) (a : Option Val) → a ≡ first_own cells (first_of_chain (n - turn) cells at) name → n ≤ turn → a ≡ None
walk_over cells turn n at name a inv le =
    inv
    ∙ (ap (λ k. first_own cells (first_of_chain k cells at) name) (none_left n turn le)
    ∙ (ap (λ os. first_own cells os name) (no_turns cells at) ∙ none_first cells name))

-- a link of an object leads to an object
pub link_leads : (cells : List Cell) (at : ℕ) (x : Cell) (next : ℕ) → LinksWithin cells → cell_at cells at ≡ x → x.link ≡ Some next → next < length cells
unfolding LinksWithin
link_leads cells at x next h e to = subst (Within cells) (ap (λ y. y.link) e ∙ to) (h at)

-- ---- whether an object is in a chain

pub search_starts : (cells : List Cell) (o : ℕ) (at : Option ℕ) → in_chain cells o at ≡ list_any (eqb o) (first_of_chain (length cells - 0) cells at)
unfolding in_chain chain
search_starts cells o at = ap (λ k. list_any (eqb o) (first_of_chain k cells at)) (no_turn (length cells))

one_further : (cells : List Cell) (turn n o here : ℕ) → turn < n → list_any (eqb o) (first_of_chain (n - turn) cells (Some here)) ≡ (eqb o here || list_any (eqb o) (first_of_chain (n - (turn + 1)) cells (link_at cells here)))
one_further cells turn n o here lt =
    ap (λ k. list_any (eqb o) (first_of_chain k cells (Some here))) (turns_left n turn lt)
    ∙ ap (list_any (eqb o)) (chain_step (n - (turn + 1)) cells here)

pub search_finds : (cells : List Cell) (turn n o here : ℕ) (a : Bool) → a ≡ list_any (eqb o) (first_of_chain (n - turn) cells (Some here)) → turn < n → here ≡ o → a ≡ true
search_finds cells turn n o here a inv lt e =
    inv ∙ (one_further cells turn n o here lt ∙ ap (λ b. b || list_any (eqb o) (first_of_chain (n - (turn + 1)) cells (link_at cells here))) (eq-eqb o here (sym e)))

pub search_goes_on : (cells : List Cell) (turn n o here : ℕ) (x : Cell) (a : Bool) → a ≡ list_any (eqb o) (first_of_chain (n - turn) cells (Some here)) → turn < n → (here ≡ o → ⊥) → cell_at cells here ≡ x
    → a ≡ list_any (eqb o) (first_of_chain (n - (turn + 1)) cells x.link)
search_goes_on cells turn n o here x a inv lt other e =
    inv
    ∙ (one_further cells turn n o here lt
    ∙ (ap (λ b. b || list_any (eqb o) (first_of_chain (n - (turn + 1)) cells (link_at cells here))) (ne_eqb o here (λ same. other (sym same)))
    ∙ ap (λ y. list_any (eqb o) (first_of_chain (n - (turn + 1)) cells y.link)) e))

pub search_ends : (cells : List Cell) (k o : ℕ) (a : Bool) → a ≡ list_any (eqb o) (first_of_chain k cells None) → a ≡ false
search_ends cells k o a inv = inv ∙ ap (list_any (eqb o)) (no_chain k cells)

pub search_over : (cells : List Cell) (turn n o : ℕ) (at : Option ℕ) (a : Bool) → a ≡ list_any (eqb o) (first_of_chain (n - turn) cells at) → n ≤ turn → a ≡ false
search_over cells turn n o at a inv le =
    inv ∙ (ap (λ k. list_any (eqb o) (first_of_chain k cells at)) (none_left n turn le) ∙ ap (list_any (eqb o)) (no_turns cells at))

pub link_stays_within : (cells : List Cell) (here : ℕ) (x : Cell) → LinksWithin cells → cell_at cells here ≡ x → Within cells x.link
unfolding LinksWithin
link_stays_within cells here x h e = subst (λ y. Within cells y.link) e (h here)

pub within_some : (cells : List Cell) (at : Option ℕ) (here : ℕ) → Within cells at → at ≡ Some here → here < length cells
within_some cells at here w e = subst (Within cells) e w

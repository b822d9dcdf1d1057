-- Walks along the links that count properties or gather array indices, and what isn't among those indices.
use Rattle.std.proofs.Common.{◌≡◌, ℕ, ◌+◌, ◌-◌, ◌<◌, ◌≤◌, Bool, true, false, nat_lt, List, [], ◌∷◌, ◌++◌, length, Option, Some, None, refl, sym, ap, ◌∙◌, arith, append_assoc, append-nil}
use Rattle.es5_tree.specs.Objects.Cells.{Cell, indices}
use Rattle.es5_tree.specs.Objects.Links.{cell_at, link_at, first_of_chain, chain}
use Rattle.es5_objects.specs.Along.{indices_along, count_along}
use Rattle.es5_objects.proofs.Heaps.{no_chain, no_turns, chain_step, turns_left}

no_turn : (n : ℕ) → n ≡ n - 0
no_turn n = omega arith

none_left : (n turn : ℕ) → n ≤ turn → n - turn ≡ 0
none_left n turn le = omega arith

-- ---- the indices

gather_one : (cells : List Cell) (o : ℕ) (os : List ℕ) → indices_along cells (o ∷ os) ≡ indices (cell_at cells o).properties ++ indices_along cells os
unfolding indices_along
gather_one cells o os = refl

gather_none : (cells : List Cell) → indices_along cells [] ≡ []
unfolding indices_along
gather_none cells = refl

pub gather_starts : (cells : List Cell) (o : ℕ) (found : List ℕ) → found ≡ [] → indices_along cells (chain cells (Some o)) ≡ found ++ indices_along cells (first_of_chain (length cells - 0) cells (Some o))
unfolding chain
gather_starts cells o found e =
    ap (λ k. indices_along cells (first_of_chain k cells (Some o))) (no_turn (length cells))
    ∙ ap (λ xs. xs ++ indices_along cells (first_of_chain (length cells - 0) cells (Some o))) (sym e)

pub gather_goes_on : (cells : List Cell) (at turn n : ℕ) (x : Cell) (all found more : List ℕ) (link : Option ℕ)
    → all ≡ found ++ indices_along cells (first_of_chain (n - turn) cells (Some at))
    → turn < n → cell_at cells at ≡ x → x.link ≡ link → more ≡ found ++ indices x.properties
    → all ≡ more ++ indices_along cells (first_of_chain (n - (turn + 1)) cells link)
gather_goes_on cells at turn n x all found more link inv lt here to e =
    let tail : first_of_chain (n - turn) cells (Some at) ≡ at ∷ first_of_chain (n - (turn + 1)) cells link =
    ap (λ k. first_of_chain k cells (Some at)) (turns_left n turn lt)
    ∙ (chain_step (n - (turn + 1)) cells at ∙ ap (λ l. at ∷ first_of_chain (n - (turn + 1)) cells l) (ap (λ y. y.link) here ∙ to)) in
    let os = first_of_chain (n - (turn + 1)) cells link in
    inv
    ∙ (ap (λ xs. found ++ indices_along cells xs) tail
    ∙ (ap (λ xs. found ++ xs) (gather_one cells at os)
    ∙ (ap (λ y. found ++ (indices y.properties ++ indices_along cells os)) here
    ∙ (sym (append_assoc found (indices x.properties) (indices_along cells os))
    ∙ ap (λ xs. xs ++ indices_along cells os) (sym e)))))

pub gather_ends : (cells : List Cell) (k : ℕ) (all found : List ℕ) → all ≡ found ++ indices_along cells (first_of_chain k cells None) → found ≡ all
gather_ends cells k all found inv =
    sym (inv ∙ (ap (λ os. found ++ indices_along cells os) (no_chain k cells) ∙ (ap (λ xs. found ++ xs) (gather_none cells) ∙ append-nil found)))

pub gather_over : (cells : List Cell) (turn n : ℕ) (at : Option ℕ) (all found : List ℕ) → all ≡ found ++ indices_along cells (first_of_chain (n - turn) cells at) → n ≤ turn → found ≡ all
gather_over cells turn n at all found inv le =
    sym (inv
    ∙ (ap (λ k. found ++ indices_along cells (first_of_chain k cells at)) (none_left n turn le)
    ∙ (ap (λ os. found ++ indices_along cells os) (no_turns cells at)
    ∙ (ap (λ xs. found ++ xs) (gather_none cells) ∙ append-nil found))))

-- ---- the count

count_one : (cells : List Cell) (o : ℕ) (os : List ℕ) → count_along cells (o ∷ os) ≡ length (cell_at cells o).properties + count_along cells os
unfolding count_along
count_one cells o os = refl

count_none : (cells : List Cell) → count_along cells [] ≡ 0
unfolding count_along
count_none cells = refl

pub count_starts : (cells : List Cell) (o : ℕ) → count_along cells (chain cells (Some o)) ≡ count_along cells (first_of_chain (length cells - 0) cells (Some o))
unfolding chain
count_starts cells o = ap (λ k. count_along cells (first_of_chain k cells (Some o))) (no_turn (length cells))

tail_counts : (cells : List Cell) (at turn n : ℕ) (x : Cell) (link : Option ℕ) → turn < n → cell_at cells at ≡ x → x.link ≡ link
    → count_along cells (first_of_chain (n - turn) cells (Some at)) ≡ length x.properties + count_along cells (first_of_chain (n - (turn + 1)) cells link)
tail_counts cells at turn n x link lt here to =
    ap (λ k. count_along cells (first_of_chain k cells (Some at))) (turns_left n turn lt)
    ∙ (ap (count_along cells) (chain_step (n - (turn + 1)) cells at)
    ∙ (count_one cells at (first_of_chain (n - (turn + 1)) cells (link_at cells at))
    ∙ ap (λ y. length y.properties + count_along cells (first_of_chain (n - (turn + 1)) cells y.link)) here
    ∙ ap (λ l. length x.properties + count_along cells (first_of_chain (n - (turn + 1)) cells l)) to))

over_at_once : (left a b : ℕ) → left < a → nat_lt left (a + b) ≡ true
over_at_once left a b lt = grind arith

goes_over : (left a b : ℕ) → a ≤ left → nat_lt left (a + b) ≡ nat_lt (left - a) b
goes_over left a b le = grind arith

pub count_stops : (cells : List Cell) (at turn n left : ℕ) (x : Cell) (all : Bool)
    → all ≡ nat_lt left (count_along cells (first_of_chain (n - turn) cells (Some at)))
    → turn < n → cell_at cells at ≡ x → left < length x.properties → true ≡ all
count_stops cells at turn n left x all inv lt here less =
    sym (inv ∙ (ap (nat_lt left) (tail_counts cells at turn n x x.link lt here refl)
    ∙ over_at_once left (length x.properties) (count_along cells (first_of_chain (n - (turn + 1)) cells x.link)) less))

pub count_goes_on : (cells : List Cell) (at turn n left : ℕ) (x : Cell) (link : Option ℕ) (all : Bool)
    → all ≡ nat_lt left (count_along cells (first_of_chain (n - turn) cells (Some at)))
    → turn < n → cell_at cells at ≡ x → x.link ≡ link → length x.properties ≤ left
    → all ≡ nat_lt (left - length x.properties) (count_along cells (first_of_chain (n - (turn + 1)) cells link))
count_goes_on cells at turn n left x link all inv lt here to le =
    inv ∙ (ap (nat_lt left) (tail_counts cells at turn n x link lt here to)
    ∙ goes_over left (length x.properties) (count_along cells (first_of_chain (n - (turn + 1)) cells link)) le)

not_over : (left : ℕ) → nat_lt left 0 ≡ false
not_over left = grind arith

pub count_ends : (cells : List Cell) (k left : ℕ) (all : Bool) → all ≡ nat_lt left (count_along cells (first_of_chain k cells None)) → false ≡ all
count_ends cells k left all inv =
    sym (inv ∙ (ap (λ os. nat_lt left (count_along cells os)) (no_chain k cells) ∙ (ap (nat_lt left) (count_none cells) ∙ not_over left)))

pub count_over : (cells : List Cell) (turn n left : ℕ) (at : Option ℕ) (all : Bool) → all ≡ nat_lt left (count_along cells (first_of_chain (n - turn) cells at)) → n ≤ turn → false ≡ all
count_over cells turn n left at all inv le =
    sym (inv
    ∙ (ap (λ k. nat_lt left (count_along cells (first_of_chain k cells at))) (none_left n turn le)
    ∙ (ap (λ os. nat_lt left (count_along cells os)) (no_turns cells at)
    ∙ (ap (nat_lt left) (count_none cells) ∙ not_over left))))

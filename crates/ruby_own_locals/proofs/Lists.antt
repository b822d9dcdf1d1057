-- What the events say of the lists of names.
use Rattle.std.proofs.Common.{◌≡◌, Bool, true, false, ◌&&◌, ◌||◌, cond, List, [], ◌∷◌, ◌++◌, refl, sym, ap, ◌∙◌, subst, append_assoc}
use Rattle.std.proofs.lemmas.Bool.{false≢true}
use Rattle.opal_base.specs.declared.place.Pos.{Pos}
use Rattle.ruby_meaning.specs.Scoping.Names.{Name, has, with_name}
use Rattle.ruby_meaning.specs.Scoping.Seen.{stands_before, outside}
use Rattle.ruby_own_locals.specs.Events.{Events, end, odd, takes, sets, opens, apart, chain}
use Rattle.ruby_own_locals.specs.Law.{starts, places, Each, InOrder, is_whole}

-- ---- truth values

pub or_assoc : (a b c : Bool) → ((a || b) || c) ≡ (a || (b || c))
or_assoc true b c = refl
or_assoc false b c = refl

pub or_false : (a : Bool) → (a || false) ≡ a
or_false true = refl
or_false false = refl

pub or_swap : (a b : Bool) → (a || b) ≡ (b || a)
or_swap true true = refl
or_swap true false = refl
or_swap false true = refl
or_swap false false = refl

pub and_assoc : (a b c : Bool) → ((a && b) && c) ≡ (a && (b && c))
and_assoc true b c = refl
and_assoc false b c = refl

pub left_true : (a b : Bool) → (a && b) ≡ true → a ≡ true
left_true true b e = refl
left_true false b e = absurd (false≢true e)

pub right_true : (a b : Bool) → (a && b) ≡ true → b ≡ true
right_true true b e = e
right_true false b e = absurd (false≢true e)

-- ---- one after the other

pub whole_chain : (a b : Events) → is_whole (chain a b) ≡ (is_whole a && is_whole b)
whole_chain end b = refl
whole_chain odd b = refl
whole_chain (takes n p r) b = whole_chain r b
whole_chain (sets n p r) b = whole_chain r b
whole_chain (opens p ps ds i r) b = ap (λ w. is_whole i && w) (whole_chain r b) ∙ sym (and_assoc (is_whole i) (is_whole r) (is_whole b))
whole_chain (apart ds i r) b = ap (λ w. is_whole i && w) (whole_chain r b) ∙ sym (and_assoc (is_whole i) (is_whole r) (is_whole b))

pub chain_end : (a : Events) → chain a end ≡ a
chain_end end = refl
chain_end odd = refl
chain_end (takes n p r) = ap (takes n p) (chain_end r)
chain_end (sets n p r) = ap (sets n p) (chain_end r)
chain_end (opens p ps ds i r) = ap (opens p ps ds i) (chain_end r)
chain_end (apart ds i r) = ap (apart ds i) (chain_end r)

-- ---- what scope makes of them

abbrev pub set_name : List (List Name) → List Name → Name → List Name
set_name outer own n = cond (has own n) own (cond (outside outer n) own (with_name own n))

abbrev pub noted : List (List Name) → List Name → Events → List Name
noted outer own end = own
noted outer own odd = own
noted outer own (takes n p r) = noted outer (with_name own n) r
noted outer own (sets n p r) = noted outer (set_name outer own n) r
noted outer own (opens p ps ds i r) = noted outer own r
noted outer own (apart ds i r) = noted outer own r

abbrev pub owns_in : List (List Name) → List Name → Events → List (List Name)
owns_in outer own end = []
owns_in outer own odd = []
owns_in outer own (takes n p r) = owns_in outer (with_name own n) r
owns_in outer own (sets n p r) = owns_in outer (set_name outer own n) r
owns_in outer own (opens p ps ds i r) = (noted (outer ++ own ∷ []) [] i ∷ owns_in (outer ++ own ∷ []) [] i) ++ owns_in outer own r
owns_in outer own (apart ds i r) = (noted [] [] i ∷ owns_in [] [] i) ++ owns_in outer own r

pub noted_chain : (outer : List (List Name)) (own : List Name) (a b : Events) → is_whole a ≡ true → noted outer own (chain a b) ≡ noted outer (noted outer own a) b
noted_chain outer own end b w = refl
noted_chain outer own odd b w = absurd (false≢true w)
noted_chain outer own (takes n p r) b w = noted_chain outer (with_name own n) r b w
noted_chain outer own (sets n p r) b w = noted_chain outer (set_name outer own n) r b w
noted_chain outer own (opens p ps ds i r) b w = noted_chain outer own r b (right_true (is_whole i) (is_whole r) w)
noted_chain outer own (apart ds i r) b w = noted_chain outer own r b (right_true (is_whole i) (is_whole r) w)

pub owns_chain : (outer : List (List Name)) (own : List Name) (a b : Events) → is_whole a ≡ true → owns_in outer own (chain a b) ≡ owns_in outer own a ++ owns_in outer (noted outer own a) b
owns_chain outer own end b w = refl
owns_chain outer own odd b w = absurd (false≢true w)
owns_chain outer own (takes n p r) b w = owns_chain outer (with_name own n) r b w
owns_chain outer own (sets n p r) b w = owns_chain outer (set_name outer own n) r b w
owns_chain outer own (opens p ps ds i r) b w =
    ap (λ l. (noted (outer ++ own ∷ []) [] i ∷ owns_in (outer ++ own ∷ []) [] i) ++ l) (owns_chain outer own r b (right_true (is_whole i) (is_whole r) w))
    ∙ sym (append_assoc (noted (outer ++ own ∷ []) [] i ∷ owns_in (outer ++ own ∷ []) [] i) (owns_in outer own r) (owns_in outer (noted outer own r) b))
owns_chain outer own (apart ds i r) b w =
    ap (λ l. (noted [] [] i ∷ owns_in [] [] i) ++ l) (owns_chain outer own r b (right_true (is_whole i) (is_whole r) w))
    ∙ sym (append_assoc (noted [] [] i ∷ owns_in [] [] i) (owns_in outer own r) (owns_in outer (noted outer own r) b))

-- ---- without what evaluation finds

abbrev pub erase : Events → Events
erase end = end
erase odd = odd
erase (takes n p r) = takes n p (erase r)
erase (sets n p r) = sets n p (erase r)
erase (opens p ps ds i r) = opens p [] [] (erase i) (erase r)
erase (apart ds i r) = apart [] (erase i) (erase r)

pub erase_chain : (a b : Events) → erase (chain a b) ≡ chain (erase a) (erase b)
erase_chain end b = refl
erase_chain odd b = refl
erase_chain (takes n p r) b = ap (takes n p) (erase_chain r b)
erase_chain (sets n p r) b = ap (sets n p) (erase_chain r b)
erase_chain (opens p ps ds i r) b = ap (opens p [] [] (erase i)) (erase_chain r b)
erase_chain (apart ds i r) b = ap (apart [] (erase i)) (erase_chain r b)

pub noted_erase : (outer : List (List Name)) (own : List Name) (a : Events) → noted outer own (erase a) ≡ noted outer own a
noted_erase outer own end = refl
noted_erase outer own odd = refl
noted_erase outer own (takes n p r) = noted_erase outer (with_name own n) r
noted_erase outer own (sets n p r) = noted_erase outer (set_name outer own n) r
noted_erase outer own (opens p ps ds i r) = noted_erase outer own r
noted_erase outer own (apart ds i r) = noted_erase outer own r

owns_both : {A : Type 0} {a a' : A} {l l' m m' : List A} → a ≡ a' → l ≡ l' → m ≡ m' → (a ∷ l) ++ m ≡ (a' ∷ l') ++ m'
owns_both e f g = rw (e, f, g) refl

pub owns_erase : (outer : List (List Name)) (own : List Name) (a : Events) → owns_in outer own (erase a) ≡ owns_in outer own a
owns_erase outer own end = refl
owns_erase outer own odd = refl
owns_erase outer own (takes n p r) = owns_erase outer (with_name own n) r
owns_erase outer own (sets n p r) = owns_erase outer (set_name outer own n) r
owns_erase outer own (opens p ps ds i r) = owns_both (noted_erase (outer ++ own ∷ []) [] i) (owns_erase (outer ++ own ∷ []) [] i) (owns_erase outer own r)
owns_erase outer own (apart ds i r) = owns_both (noted_erase [] [] i) (owns_erase [] [] i) (owns_erase outer own r)

pub whole_erase : (a : Events) → is_whole (erase a) ≡ is_whole a
whole_erase end = refl
whole_erase odd = refl
whole_erase (takes n p r) = whole_erase r
whole_erase (sets n p r) = whole_erase r
whole_erase (opens p ps ds i r) = rw (whole_erase i, whole_erase r) refl
whole_erase (apart ds i r) = rw (whole_erase i, whole_erase r) refl

starts_erase : (a : Events) → starts (erase a) ≡ starts a
starts_erase end = refl
starts_erase odd = refl
starts_erase (takes n p r) = starts_erase r
starts_erase (sets n p r) = starts_erase r
starts_erase (opens p ps ds i r) = rw (starts_erase i, starts_erase r) refl
starts_erase (apart ds i r) = starts_erase r

places_erase : (a : Events) → places (erase a) ≡ places a
places_erase end = refl
places_erase odd = refl
places_erase (takes n p r) = ap (λ l. p ∷ l) (places_erase r)
places_erase (sets n p r) = ap (λ l. p ∷ l) (places_erase r)
places_erase (opens p ps ds i r) = places_erase r
places_erase (apart ds i r) = places_erase r

abbrev Behind : Pos → List Pos → Type 0
Behind p l = Each (λ q. stands_before p q ≡ true) l

abbrev Clear : List Pos → List Pos → Type 0
Clear ps qs = Each (λ q. Each (λ p. stands_before p q ≡ false) ps) qs

pub order_erased : (a : Events) → InOrder a → InOrder (erase a)
order_erased end o = o
order_erased odd o = o
order_erased (takes n p r) o = (subst (Behind p) (sym (starts_erase r)) o.0, order_erased r o.1)
order_erased (sets n p r) o = (subst (Behind p) (sym (starts_erase r)) o.0, order_erased r o.1)
order_erased (opens p ps ds i r) o =
    (subst (λ l. Clear l (p ∷ starts (erase i))) (sym (places_erase r)) (subst (λ l. Clear (places r) (p ∷ l)) (sym (starts_erase i)) o.0), order_erased i o.1, order_erased r o.2)
order_erased (apart ds i r) o = (order_erased i o.0, order_erased r o.1)

pub order_from_erased : (a : Events) → InOrder (erase a) → InOrder a
order_from_erased end o = o
order_from_erased odd o = o
order_from_erased (takes n p r) o = (subst (Behind p) (starts_erase r) o.0, order_from_erased r o.1)
order_from_erased (sets n p r) o = (subst (Behind p) (starts_erase r) o.0, order_from_erased r o.1)
order_from_erased (opens p ps ds i r) o =
    (subst (λ l. Clear l (p ∷ starts i)) (places_erase r) (subst (λ l. Clear (places (erase r)) (p ∷ l)) (starts_erase i) o.0), order_from_erased i o.1, order_from_erased r o.2)
order_from_erased (apart ds i r) o = (order_from_erased i o.0, order_from_erased r o.1)

-- The lists that evaluation finds and those of scope meet, where places are in order.
use Rattle.std.proofs.Common.{◌≡◌, ℕ, Bool, true, false, not, ◌&&◌, ◌||◌, cond, List, [], ◌∷◌, ◌++◌, refl, sym, ap, ◌∙◌, subst}
use Rattle.std.specs.Prelude.{bytes_eq, filter, if◌then◌else◌, ⊤}
use Rattle.std.specs.List.{list_any}
use Rattle.std.proofs.lemmas.List.Folds.{list_any-append}
use Rattle.std.proofs.lemmas.Slice.Eq.{bytes_eq-Decides}
use Rattle.opal_base.specs.declared.place.Pos.{Pos}
use Rattle.ruby_meaning.specs.Scoping.Names.{Name, has, with_name}
use Rattle.ruby_meaning.specs.Scoping.Seen.{stands_before, outside}
use Rattle.ruby_evaluation.specs.Locals.{Declared, declares_before}
use Rattle.ruby_own_locals.specs.Events.{Events, end, odd, takes, sets, opens, apart}
use Rattle.ruby_own_locals.specs.Law.{visible, own_in, found, SameNames, starts, places, Each, InOrder}
use Rattle.ruby_own_locals.proofs.Lists.{or_false, or_swap, set_name, noted, owns_in}

-- the list has the name at such a place
abbrev pub says_at : Name → (Pos → Bool) → Declared → Bool
says_at x at ds = list_any (λ d. if bytes_eq x d.0 then at d.1 else false) ds

-- both have the same names at the same places, apart from the empty name
pub record Alike (a b : Declared) : Type 0 where
  pub same : (u : ℕ) (us : Name) (at : Pos → Bool) → says_at (u ∷ us) at a ≡ says_at (u ∷ us) at b

abbrev pub taken : Events → Declared
taken end = []
taken odd = []
taken (takes n p r) = (n, p) ∷ taken r
taken (sets n p r) = taken r
taken (opens p ps ds i r) = taken r
taken (apart ds i r) = taken r

abbrev pub settings : Events → Declared
settings end = []
settings odd = []
settings (takes n p r) = settings r
settings (sets n p r) = (n, p) ∷ settings r
settings (opens p ps ds i r) = settings r
settings (apart ds i r) = settings r

-- What evaluation finds is what the text says.
abbrev pub Sound : Events → Type 0
Sound end = ⊤
Sound odd = ⊤
Sound (takes n p r) = Sound r
Sound (sets n p r) = Sound r
Sound (opens p ps ds i r) = Alike ps (taken i) × Alike ds (settings i) × Sound i × Sound r
Sound (apart ds i r) = Alike ds (taken i ++ settings i) × Sound i × Sound r

-- ---- names

pub same_names : (x y : Name) → bytes_eq x y ≡ true → x ≡ y
same_names x y e = (bytes_eq-Decides x y).0 e

pub same_self : (x : Name) → bytes_eq x x ≡ true
same_self x = (bytes_eq-Decides x x).1 refl

by_names : (x y : Name) (b c : Bool) → bytes_eq x y ≡ b → bytes_eq y x ≡ c → b ≡ c
by_names x y true true e f = refl
by_names x y false false e f = refl
by_names x y true false e f = sym (sym f ∙ subst (λ z. bytes_eq z x ≡ true) (same_names x y e) (same_self x))
by_names x y false true e f = sym e ∙ subst (λ z. bytes_eq z y ≡ true) (same_names y x f) (same_self y)

same_sym : (x y : Name) → bytes_eq x y ≡ bytes_eq y x
same_sym x y = by_names x y (bytes_eq x y) (bytes_eq y x) refl refl

pub has_with : (own : List Name) (n x : Name) → has (with_name own n) x ≡ (has own x || bytes_eq x n)
unfolding has with_name
has_with own n x = by (has own n) refl where
  by : (b : Bool) → list_any (λ m. bytes_eq m n) own ≡ b → list_any (λ m. bytes_eq m x) (cond b own (own ++ n ∷ [])) ≡ (list_any (λ m. bytes_eq m x) own || bytes_eq x n)
  by false e = list_any-append (λ m. bytes_eq m x) own (n ∷ []) ∙ ap (λ b. list_any (λ m. bytes_eq m x) own || b) (or_false (bytes_eq n x) ∙ same_sym n x)
  by true e = old (bytes_eq x n) refl where
    old : (b : Bool) → bytes_eq x n ≡ b → list_any (λ m. bytes_eq m x) own ≡ (list_any (λ m. bytes_eq m x) own || b)
    old false f = sym (or_false _)
    old true f = subst (λ z. list_any (λ m. bytes_eq m z) own ≡ (list_any (λ m. bytes_eq m z) own || true)) (sym (same_names x n f)) (rw e refl)

and_false : (a : Bool) → (a && false) ≡ false
and_false true = refl
and_false false = refl

has_set : (outer : List (List Name)) (own : List Name) (n x : Name) → has (set_name outer own n) x ≡ (has own x || (not (outside outer x) && bytes_eq x n))
has_set outer own n x = by (bytes_eq x n) refl where
  self : (b c : Bool) → has own n ≡ b → outside outer n ≡ c → has (cond b own (cond c own (with_name own n))) n ≡ (b || (not c && true))
  self true c e f = e
  self false true e f = e
  self false false e f = has_with own n n ∙ rw (e, same_self n) refl

  other : (b c : Bool) → bytes_eq x n ≡ false → has (cond b own (cond c own (with_name own n))) x ≡ has own x
  other true c e = refl
  other false true e = refl
  other false false e = has_with own n x ∙ ap (λ d. has own x || d) e ∙ or_false (has own x)

  by : (b : Bool) → bytes_eq x n ≡ b → has (set_name outer own n) x ≡ (has own x || (not (outside outer x) && b))
  by true e = subst (λ z. has (set_name outer own n) z ≡ (has own z || (not (outside outer z) && true))) (sym (same_names x n e)) (self (has own n) (outside outer n) refl refl)
  by false e = other (has own n) (outside outer n) e ∙ sym (ap (λ d. has own x || d) (and_false (not (outside outer x))) ∙ or_false (has own x))

-- ---- what a scope keeps of what its text says: of the names that it sets, those that no scope around has

abbrev pub kept : Bool → Name → (Pos → Bool) → Events → Bool
kept v x at es = says_at x at (taken es) || (not v && says_at x at (settings es))

abbrev anywhere : Pos → Bool
anywhere p = true

abbrev only_at : Bool → Name → Name → Bool
only_at b x n = if bytes_eq x n then b else false

only_true : (b : Bool) → cond b true false ≡ b
only_true true = refl
only_true false = refl

-- one more parameter, or one more name that is set
more_taken : (a n t s v : Bool) → ((a || n) || (t || (v && s))) ≡ (a || ((n || t) || (v && s)))
more_taken true n t s v = refl
more_taken false true t s v = refl
more_taken false false t s v = refl

more_set : (a n t s v : Bool) → ((a || (v && n)) || (t || (v && s))) ≡ (a || (t || (v && (n || s))))
more_set true n t s v = refl
more_set false n t s false = refl
more_set false false t s true = refl
more_set false true true s true = refl
more_set false true false s true = refl

noted_has : (outer : List (List Name)) (own : List Name) (es : Events) (x : Name) → has (noted outer own es) x ≡ (has own x || kept (outside outer x) x anywhere es)
noted_has outer own end x = sym (ap (λ d. has own x || d) (and_false (not (outside outer x))) ∙ or_false (has own x))
noted_has outer own odd x = sym (ap (λ d. has own x || d) (and_false (not (outside outer x))) ∙ or_false (has own x))
noted_has outer own (takes n p r) x =
    noted_has outer (with_name own n) r x
    ∙ ap (λ d. d || kept (outside outer x) x anywhere r) (has_with own n x)
    ∙ more_taken (has own x) (bytes_eq x n) (says_at x anywhere (taken r)) (says_at x anywhere (settings r)) (not (outside outer x))
    ∙ ap (λ d. has own x || ((d || says_at x anywhere (taken r)) || (not (outside outer x) && says_at x anywhere (settings r)))) (sym (only_true (bytes_eq x n)))
noted_has outer own (sets n p r) x =
    noted_has outer (set_name outer own n) r x
    ∙ ap (λ d. d || kept (outside outer x) x anywhere r) (has_set outer own n x)
    ∙ more_set (has own x) (bytes_eq x n) (says_at x anywhere (taken r)) (says_at x anywhere (settings r)) (not (outside outer x))
    ∙ ap (λ d. has own x || (says_at x anywhere (taken r) || (not (outside outer x) && (d || says_at x anywhere (settings r))))) (sym (only_true (bytes_eq x n)))
noted_has outer own (opens p ps ds i r) x = noted_has outer own r x
noted_has outer own (apart ds i r) x = noted_has outer own r x

-- ---- the list of a block

filtered : (v : Name → Bool) (x : Name) (at : Pos → Bool) (ds : Declared) → says_at x at (filter (λ d. not (v d.0)) ds) ≡ (not (v x) && says_at x at ds)
filtered v x at [] = sym (and_false (not (v x)))
filtered v x at (d ∷ ds) = by (v d.0) refl (filtered v x at ds) where
  here : (b w : Bool) (m : Bool) → bytes_eq x d.0 ≡ b → v d.0 ≡ w → m ≡ (not (v x) && says_at x at ds)
      → (cond w m (cond b (at d.1) false || m)) ≡ (not (v x) && (cond b (at d.1) false || says_at x at ds))
  here true true m e f h = h ∙ rw (ap v (same_names x d.0 e) ∙ f) refl
  here true false m e f h = rw (h, ap v (same_names x d.0 e) ∙ f) refl
  here false true m e f h = h
  here false false m e f h = h

  by : (w : Bool) → v d.0 ≡ w → says_at x at (filter (λ d. not (v d.0)) ds) ≡ (not (v x) && says_at x at ds)
      → says_at x at (cond (not w) (d ∷ filter (λ d. not (v d.0)) ds) (filter (λ d. not (v d.0)) ds)) ≡ (not (v x) && says_at x at (d ∷ ds))
  by true f h = here (bytes_eq x d.0) true _ refl f h
  by false f h = here (bytes_eq x d.0) false _ refl f h

any_says : (x : Name) (ds : Declared) → list_any (λ d. bytes_eq x d.0) ds ≡ says_at x anywhere ds
any_says x [] = refl
any_says x (d ∷ ds) = rw (only_true (bytes_eq x d.0), any_says x ds) refl

-- ---- all of some places

pub each_all : {A : Pos → Type 0} → ((q : Pos) → A q) → (l : List Pos) → Each A l
each_all f [] = tt
each_all f (q ∷ l) = (f q, each_all f l)

each_zip : {A B C : Pos → Type 0} → ((q : Pos) → A q → B q → C q) → (l : List Pos) → Each A l → Each B l → Each C l
each_zip f [] a b = tt
each_zip f (q ∷ l) a b = (f q a.0 b.0, each_zip f l a.1 b.1)

each_left : (A : Pos → Type 0) (l m : List Pos) → Each A (l ++ m) → Each A l
each_left A [] m a = tt
each_left A (q ∷ l) m a = (a.0, each_left A l m a.1)

each_right : (A : Pos → Type 0) (l m : List Pos) → Each A (l ++ m) → Each A m
each_right A [] m a = a
each_right A (q ∷ l) m a = each_right A l m a.1

-- ---- the two lists

abbrev pub SameLists : List Declared → List (List Name) → Type 0
SameLists [] [] = ⊤
SameLists [] (m ∷ ms) = ⊥
SameLists (d ∷ ds) [] = ⊥
SameLists (d ∷ ds) (m ∷ ms) = SameNames d m × SameLists ds ms

same_append : (a b : List Declared) (c d : List (List Name)) → SameLists a c → SameLists b d → SameLists (a ++ b) (c ++ d)
same_append [] b [] d x y = y
same_append [] b (m ∷ ms) d x y = absurd x
same_append (e ∷ es) b [] d x y = absurd x
same_append (e ∷ es) b (m ∷ ms) d x y = (x.0, same_append es b ms d x.1 y)

-- at this place the scopes around have the names that evaluation sees there
abbrev Around : List (List Name) → List Declared → Pos → Type 0
Around outer around q = (u : ℕ) (us : Name) → visible around q (u ∷ us) ≡ outside outer (u ∷ us)

-- before this place the list of the frame has the names so far, and those that follow up to it
abbrev Known : List (List Name) → List Name → Declared → Events → Pos → Type 0
Known outer own frame es q = (u : ℕ) (us : Name) → declares_before q (u ∷ us) frame ≡ (has own (u ∷ us) || kept (outside outer (u ∷ us)) (u ∷ us) (λ p. stands_before p q) es)

abbrev Clear : List Pos → Pos → Type 0
Clear ps q = Each (λ p. stands_before p q ≡ false) ps

if_false : (b c : Bool) → c ≡ false → (cond b c false) ≡ false
if_false true c e = e
if_false false c e = refl

none_taken : (x : Name) (q : Pos) (r : Events) → Clear (places r) q → says_at x (λ p. stands_before p q) (taken r) ≡ false
none_taken x q end c = refl
none_taken x q odd c = refl
none_taken x q (takes n p r) c = rw (if_false (bytes_eq x n) (stands_before p q) c.0) (none_taken x q r c.1)
none_taken x q (sets n p r) c = none_taken x q r c.1
none_taken x q (opens p ps ds i r) c = none_taken x q r c
none_taken x q (apart ds i r) c = none_taken x q r c

none_set : (x : Name) (q : Pos) (r : Events) → Clear (places r) q → says_at x (λ p. stands_before p q) (settings r) ≡ false
none_set x q end c = refl
none_set x q odd c = refl
none_set x q (takes n p r) c = none_set x q r c.1
none_set x q (sets n p r) c = rw (if_false (bytes_eq x n) (stands_before p q) c.0) (none_set x q r c.1)
none_set x q (opens p ps ds i r) c = none_set x q r c
none_set x q (apart ds i r) c = none_set x q r c

none_kept : (v : Bool) (x : Name) (q : Pos) (r : Events) → Clear (places r) q → kept v x (λ p. stands_before p q) r ≡ false
none_kept v x q r c = rw (none_taken x q r c, none_set x q r c) (and_false (not v))

module _ (outer : List (List Name)) (own : List Name) (around : List Declared) (frame : Declared) where
  abbrev inner_outer : List (List Name)
  inner_outer = outer ++ own ∷ []

  around_block : (start : Pos) (ps ds : Declared) (i r : Events) (q : Pos) → Clear (places r) q → Around outer around q × Known outer own frame (opens start ps ds i r) q → Around inner_outer (frame ∷ around) q
  around_block start ps ds i r q c h u us =
      ap (λ b. b || visible around q (u ∷ us)) (h.1 u us ∙ ap (λ b. has own (u ∷ us) || b) (none_kept (outside outer (u ∷ us)) (u ∷ us) q r c))
      ∙ ap (λ b. (has own (u ∷ us) || false) || b) (h.0 u us)
      ∙ or_swap (has own (u ∷ us) || false) (outside outer (u ∷ us))
      ∙ sym (list_any-append (λ names. has names (u ∷ us)) outer (own ∷ []))

  own_says : (start : Pos) (ps ds : Declared) (i : Events) → Around inner_outer (frame ∷ around) start → Alike ps (taken i) → Alike ds (settings i)
      → (u : ℕ) (us : Name) (at : Pos → Bool) → says_at (u ∷ us) at (own_in (frame ∷ around) start ps ds) ≡ kept (outside inner_outer (u ∷ us)) (u ∷ us) at i
  own_says start ps ds i a p d u us at =
      list_any-append _ ps _
      ∙ ap (λ b. b || says_at (u ∷ us) at (filter (λ d. not (visible (frame ∷ around) start d.0)) ds)) (p.same u us at)
      ∙ ap (λ b. says_at (u ∷ us) at (taken i) || b) (filtered (visible (frame ∷ around) start) (u ∷ us) at ds ∙ rw (a u us, d.same u us at) refl)

  taken_known : (n : Name) (p : Pos) (r : Events) (q : Pos) → stands_before p q ≡ true → Known outer own frame (takes n p r) q → Known outer (with_name own n) frame r q
  taken_known n p r q e h u us =
      let x = u ∷ us in
      h u us
      ∙ ap (λ c. has own x || ((cond (bytes_eq x n) c false || says_at x (λ p. stands_before p q) (taken r)) || (not (outside outer x) && says_at x (λ p. stands_before p q) (settings r)))) e
      ∙ ap (λ c. has own x || ((c || says_at x (λ p. stands_before p q) (taken r)) || (not (outside outer x) && says_at x (λ p. stands_before p q) (settings r)))) (only_true (bytes_eq x n))
      ∙ sym (more_taken (has own x) (bytes_eq x n) (says_at x (λ p. stands_before p q) (taken r)) (says_at x (λ p. stands_before p q) (settings r)) (not (outside outer x)))
      ∙ ap (λ c. c || kept (outside outer x) x (λ p. stands_before p q) r) (sym (has_with own n x))

  set_known : (n : Name) (p : Pos) (r : Events) (q : Pos) → stands_before p q ≡ true → Known outer own frame (sets n p r) q → Known outer (set_name outer own n) frame r q
  set_known n p r q e h u us =
      let x = u ∷ us in
      h u us
      ∙ ap (λ c. has own x || (says_at x (λ p. stands_before p q) (taken r) || (not (outside outer x) && (cond (bytes_eq x n) c false || says_at x (λ p. stands_before p q) (settings r))))) e
      ∙ ap (λ c. has own x || (says_at x (λ p. stands_before p q) (taken r) || (not (outside outer x) && (c || says_at x (λ p. stands_before p q) (settings r))))) (only_true (bytes_eq x n))
      ∙ sym (more_set (has own x) (bytes_eq x n) (says_at x (λ p. stands_before p q) (taken r)) (says_at x (λ p. stands_before p q) (settings r)) (not (outside outer x)))
      ∙ ap (λ c. c || kept (outside outer x) x (λ p. stands_before p q) r) (sym (has_set outer own n x))

-- the list of a body that sees no scope around it
pub body_says : (ds : Declared) (i : Events) → Alike ds (taken i ++ settings i) → (u : ℕ) (us : Name) (at : Pos → Bool) → says_at (u ∷ us) at ds ≡ kept false (u ∷ us) at i
body_says ds i a u us at = a.same u us at ∙ list_any-append _ (taken i) (settings i)

pub whole_body : (ds : Declared) (i : Events) → Alike ds (taken i ++ settings i) → SameNames ds (noted [] [] i)
unfolding has
whole_body ds i a u us = any_says (u ∷ us) ds ∙ body_says ds i a u us anywhere ∙ sym (noted_has [] [] i (u ∷ us))

pub meets : (outer : List (List Name)) (own : List Name) (around : List Declared) (frame : Declared) (es : Events) → Sound es → InOrder es
    → Each (Around outer around) (starts es) → Each (Known outer own frame es) (starts es) → SameLists (found (frame ∷ around) es) (owns_in outer own es)
unfolding has
meets outer own around frame end s o a k = tt
meets outer own around frame odd s o a k = tt
meets outer own around frame (takes n p r) s o a k = meets outer (with_name own n) around frame r s o.1 a (each_zip (taken_known outer own around frame n p r) (starts r) o.0 k)
meets outer own around frame (sets n p r) s o a k = meets outer (set_name outer own n) around frame r s o.1 a (each_zip (set_known outer own around frame n p r) (starts r) o.0 k)
meets outer own around frame (opens p ps ds i r) s o a k =
    let l = p ∷ starts i in
    let both = each_zip (λ q x y. (x, y)) l (each_left _ l (starts r) a) (each_left _ l (starts r) k) in
    let inside = each_zip (around_block outer own around frame p ps ds i r) l o.0 both in
    let says = own_says outer own around frame p ps ds i inside.0 s.0 s.1 in
    let frame' = own_in (frame ∷ around) p ps ds in
    same_append (frame' ∷ found (frame' ∷ (frame ∷ around)) i) (found (frame ∷ around) r) (noted (outer ++ own ∷ []) [] i ∷ owns_in (outer ++ own ∷ []) [] i) (owns_in outer own r) (
      λ u us. any_says (u ∷ us) frame' ∙ says u us anywhere ∙ sym (noted_has (outer ++ own ∷ []) [] i (u ∷ us)),
      meets (outer ++ own ∷ []) [] (frame ∷ around) frame' i s.2 o.1 inside.1 (each_all (λ q u us. says u us (λ p. stands_before p q)) (starts i)),
    )
    (meets outer own around frame r s.3 o.2 (each_right _ l (starts r) a) (each_right _ l (starts r) k))
meets outer own around frame (apart ds i r) s o a k =
    same_append (ds ∷ found (ds ∷ []) i) (found (frame ∷ around) r) (noted [] [] i ∷ owns_in [] [] i) (owns_in outer own r)
    (whole_body ds i s.0, meets [] [] [] ds i s.1 o.0 (each_all (λ q u us. refl) (starts i)) (each_all (λ q u us. body_says ds i s.0 u us (λ p. stands_before p q)) (starts i)))
    (meets outer own around frame r s.2 o.1 a k)

-- Lists and answers.
use Rattle.std.proofs.Common.{◌≡◌, ℕ, ◌≤◌, Bool, true, false, ◌&&◌, ◌||◌, List, [], ◌∷◌, ◌++◌, Option, Some, None, Result, Ok, Err, ◌⊎◌, inl, inr, refl, sym, ap, ◌∙◌, subst, le_refl, true≢false}
use Rattle.std.specs.Prelude.{⊤, if◌then◌else◌}
use Rattle.grammar.specs.FormReaders.{NextNot, and_then}

abbrev IsOkT : {A E : Type 0} → Result A E → Type 0
IsOkT (Ok a) = ⊤
IsOkT (Err e) = ⊥

abbrev Same : {A : Type 0} → A → A → Type 0
Same a c = a ≡ c

pub ok_err : {A E C : Type 0} {a : A} {e : E} → Same {A = Result A E} (Ok a) (Err e) → C
ok_err h = absurd (subst IsOkT h tt)

pub err_ok : {A E C : Type 0} {a : A} {e : E} → Same {A = Result A E} (Err e) (Ok a) → C
err_ok h = absurd (subst IsOkT (sym h) tt)

abbrev ok_or' : {A E : Type 0} → A → Result A E → A
ok_or' d (Ok a) = a
ok_or' d (Err e) = d

pub ok_inj : {A E : Type 0} {a c : A} → Same {A = Result A E} (Ok a) (Ok c) → a ≡ c
ok_inj {a = a} h = ap (ok_or' a) h

abbrev err_or' : {A E : Type 0} → E → Result A E → E
err_or' d (Ok a) = d
err_or' d (Err e) = e

pub err_inj : {A E : Type 0} {a c : E} → Same {A = Result A E} (Err a) (Err c) → a ≡ c
err_inj {a = a} h = ap (err_or' a) h

abbrev IsConsT : {T : Type 0} → List T → Type 0
IsConsT [] = ⊥
IsConsT (t ∷ r) = ⊤

pub cons_nil : {T C : Type 0} {t : T} {r : List T} → t ∷ r ≡ [] → C
cons_nil h = absurd (subst IsConsT h tt)

pub nil_cons : {T C : Type 0} {t : T} {r : List T} → [] ≡ t ∷ r → C
nil_cons h = cons_nil (sym h)

abbrev head_or : {T : Type 0} → T → List T → T
head_or d [] = d
head_or d (t ∷ r) = t

abbrev tail_of : {T : Type 0} → List T → List T
tail_of [] = []
tail_of (t ∷ r) = r

pub heads : {T : Type 0} {s t : T} {q r : List T} → s ∷ q ≡ t ∷ r → s ≡ t
heads {s = s} h = ap (head_or s) h

pub tails : {T : Type 0} {s t : T} {q r : List T} → s ∷ q ≡ t ∷ r → q ≡ r
tails h = ap tail_of h

pub bind_ok : {T A B : Type 0} (r : Result (A × List T) (List T)) (f : A → List T → Result (B × List T) (List T)) (y : B × List T) → and_then r f ≡ Ok y → (a : A) × (rest : List T) × (r ≡ Ok (a, rest)) × (f a rest ≡ Ok y)
bind_ok (Ok x) f y e = (x.0, x.1, refl, e)
bind_ok (Err r) f y e = err_ok e

pub bind_err : {T A B : Type 0} (r : Result (A × List T) (List T)) (f : A → List T → Result (B × List T) (List T)) (y : List T) → and_then r f ≡ Err y → (r ≡ Err y) ⊎ ((a : A) × (rest : List T) × (r ≡ Ok (a, rest)) × (f a rest ≡ Err y))
bind_err (Ok x) f y e = inr (x.0, x.1, refl, e)
bind_err (Err r) f y e = inl (ap Err (err_inj e))

-- of two ways to cut one list, one cut lies before the other
pub cut : {T : Type 0} (u v x y : List T) → u ++ v ≡ x ++ y → ((m : List T) × (u ≡ x ++ m) × (y ≡ m ++ v)) ⊎ ((m : List T) × (x ≡ u ++ m) × (v ≡ m ++ y))
cut [] v x y e = inr (x, refl, e)
cut (t ∷ u) v [] y e = inl (t ∷ u, refl, sym e)
cut (t ∷ u) v (s ∷ x) y e = elim (cut u v x y (tails e)) [
  | inl h ↦ inl (h.0, ap (λ l. t ∷ l) h.1 ∙ ap (λ z. z ∷ (x ++ h.0)) (heads e), h.2)
  | inr h ↦ inr (h.0, ap (λ l. s ∷ l) h.1 ∙ ap (λ z. z ∷ (u ++ h.0)) (sym (heads e)), h.2)
]

pub append_empty : {T : Type 0} (v w : List T) → [] ≡ v ++ w → (v ≡ []) × (w ≡ [])
append_empty [] w e = (refl, sym e)
append_empty (t ∷ v) w e = nil_cons e

pub or_split : (a c : Bool) → (a || c) ≡ true → (a ≡ true) ⊎ (c ≡ true)
or_split true c e = inl refl
or_split false c e = inr e

pub or_left : (a c : Bool) → a ≡ true → (a || c) ≡ true
or_left true c e = refl
or_left false c e = absurd (true≢false (sym e))

pub or_right : (a c : Bool) → c ≡ true → (a || c) ≡ true
or_right true c e = refl
or_right false c e = e

pub and_split : (a c : Bool) → (a && c) ≡ true → (a ≡ true) × (c ≡ true)
and_split true c e = (refl, e)
and_split false c e = absurd (true≢false (sym e))

pub and_both : (a c : Bool) → a ≡ true → c ≡ true → (a && c) ≡ true
and_both true c e f = f
and_both false c e f = e

pub cases_if : {A : Type 0} (c : Bool) (x y z : A) → (if c then x else y) ≡ z → ((c ≡ true) × (x ≡ z)) ⊎ ((c ≡ false) × (y ≡ z))
cases_if true x y z e = inl (refl, e)
cases_if false x y z e = inr (refl, e)

pub if_true : {A : Type 0} (c : Bool) (x y : A) → c ≡ true → (if c then x else y) ≡ x
if_true true x y e = refl
if_true false x y e = absurd (true≢false (sym e))

pub if_false : {A : Type 0} (c : Bool) (x y : A) → (c ≡ true → ⊥) → (if c then x else y) ≡ y
if_false true x y e = absurd (e refl)
if_false false x y e = refl

abbrev some_or : {A : Type 0} → A → Option A → A
some_or d (Some a) = a
some_or d None = d

pub some_inj : {A : Type 0} {a c : A} → Some a ≡ Some c → a ≡ c
some_inj {a = a} h = ap (some_or a) h

abbrev IsSomeT : {A : Type 0} → Option A → Type 0
IsSomeT (Some a) = ⊤
IsSomeT None = ⊥

pub none_some : {A C : Type 0} {a : A} → None ≡ Some a → C
none_some h = absurd (subst IsSomeT (sym h) tt)

pub le_of_eq : {m n : ℕ} → m ≡ n → m ≤ n
le_of_eq {m} h = subst (λ k. m ≤ k) h (le_refl m)

pub off_less : {T : Type 0} {c c' : T → Type 0} → ((t : T) → c t → c' t) → (rest : List T) → NextNot c' rest → NextNot c rest
off_less h [] off = tt
off_less h (t ∷ r) off = λ k. off (h t k)

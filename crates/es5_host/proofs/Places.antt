-- The first place of a part in a text.
use Rattle.std.proofs.Common.{◌≡◌, ℕ, suc, ◌+◌, ◌<◌, ◌≤◌, Bool, true, false, nat_eq, if◌then◌else◌, List, [], ◌∷◌, length, get_or, drop, Option, Some, None, refl, sym, ap, ◌∙◌, arith, drop-cons, drop_of_length-le}
use Rattle.std.specs.List.{starts_with}
use Rattle.es5_tree.specs.Intrinsics.Rows.{first_place}

picked : (b : Bool) (x y : Option ℕ) → b ≡ true → (if b then x else y) ≡ x
picked true x y e = refl
picked false x y e = cc

passed : (b : Bool) (x y : Option ℕ) → b ≡ false → (if b then x else y) ≡ y
passed true x y e = cc
passed false x y e = refl

found : (part : List ℕ) (k : ℕ) (s : List ℕ) → starts_with nat_eq s part ≡ true → first_place part k s ≡ Some k
unfolding first_place
found part k [] e = picked (starts_with nat_eq [] part) (Some k) None e
found part k (u ∷ us) e = picked (starts_with nat_eq (u ∷ us) part) (Some k) (first_place part (k + 1) us) e

later : (part : List ℕ) (k u : ℕ) (us : List ℕ) → starts_with nat_eq (u ∷ us) part ≡ false → first_place part k (u ∷ us) ≡ first_place part (k + 1) us
unfolding first_place
later part k u us e = passed (starts_with nat_eq (u ∷ us) part) (Some k) (first_place part (k + 1) us) e

at_end : (part : List ℕ) (k : ℕ) → length part ≡ 0 → first_place part k [] ≡ Some k
unfolding first_place
at_end [] k e = refl
at_end (p ∷ ps) k e = absurd (omega (arith, e))

at_end_not : (part : List ℕ) (k : ℕ) → (length part ≡ 0 → ⊥) → first_place part k [] ≡ None
unfolding first_place
at_end_not [] k h = absurd (h refl)
at_end_not (p ∷ ps) k h = refl

one_more : (i : ℕ) → suc i ≡ i + 1
one_more i = omega arith

cons_at : (text : List ℕ) (at : ℕ) → at < length text → drop at text ≡ get_or text at 0 ∷ drop (at + 1) text
cons_at text at lt = drop-cons text at 0 lt ∙ ap (λ n. get_or text at 0 ∷ drop n text) (one_more at)

pub stands_here : (text part : List ℕ) (at : ℕ) (rest : List ℕ) (b : Bool) (x : Option ℕ) → x ≡ first_place part at (drop at text) → rest ≡ drop at text → b ≡ starts_with nat_eq rest part → b ≡ true → Some at ≡ x
stands_here text part at rest b x inv e t is = sym (inv ∙ found part at (drop at text) (ap (λ r. starts_with nat_eq r part) (sym e) ∙ (sym t ∙ is)))

pub stands_later : (text part : List ℕ) (at : ℕ) (rest : List ℕ) (b : Bool) (x : Option ℕ) → x ≡ first_place part at (drop at text) → at < length text → rest ≡ drop at text → b ≡ starts_with nat_eq rest part → b ≡ false → x ≡ first_place part (at + 1) (drop (at + 1) text)
stands_later text part at rest b x inv lt e t is =
    inv
    ∙ (ap (first_place part at) (cons_at text at lt)
    ∙ later part at (get_or text at 0) (drop (at + 1) text) (ap (λ r. starts_with nat_eq r part) (sym (cons_at text at lt)) ∙ (ap (λ r. starts_with nat_eq r part) (sym e) ∙ (sym t ∙ is))))

over : (text : List ℕ) (at : ℕ) → length text ≤ at → at ≤ length text → (drop at text ≡ []) × (at ≡ length text)
over text at le ge = (drop_of_length-le text le, omega arith)

pub stands_last : (text part : List ℕ) (at : ℕ) (x : Option ℕ) → x ≡ first_place part at (drop at text) → length text ≤ at → at ≤ length text → length part ≡ 0 → Some (length text) ≡ x
stands_last text part at x inv le ge e =
    let o = over text at le ge in
    sym (inv ∙ (ap (first_place part at) o.0 ∙ (at_end part at e ∙ ap Some o.1)))

pub stands_nowhere : (text part : List ℕ) (at : ℕ) (x : Option ℕ) → x ≡ first_place part at (drop at text) → length text ≤ at → at ≤ length text → (length part ≡ 0 → ⊥) → None ≡ x
stands_nowhere text part at x inv le ge e =
    let o = over text at le ge in
    sym (inv ∙ (ap (first_place part at) o.0 ∙ at_end_not part at e))

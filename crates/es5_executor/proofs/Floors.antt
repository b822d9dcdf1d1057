-- Floor division stays within the range: no step has a greater magnitude than the dividend.
use Rattle.std.proofs.Common.{◌≡◌, ℕ, zero, suc, ◌+◌, ◌*◌, ◌/◌, ◌%◌, ◌≤◌, Bool, true, false, refl, ap, ◌∙◌, arith}
use Rattle.std.specs.Prelude.{ℤ, not, ◌&&◌, pos, negsuc, neg_ℤ, ◌-ℤ◌, int_div, int_rem, unsigned_abs, nat_le}
use Rattle.std.specs.Ordering.{int_eq}
use Rattle.std.proofs.lemmas.Bool.{leb-true, le-leb}
use Rattle.std.proofs.lemmas.Int.{ints}
use Rattle.std.proofs.Math.Nat.{mul-mod_left, div-add-mod, mod-le, div-le_self}
use Rattle.es5_evaluation.specs.Values.{largest, is_zero}
use Rattle.es5_executor.specs.Sums.{fits}
use Rattle.es5_executor.specs.Floors.{FloorFacts}

-- ---- within the range by magnitude

and_true : (a : Bool) → (a && true) ≡ true → a ≡ true
and_true true e = refl
and_true false e = e

true_and : (a : Bool) → a ≡ true → (a && true) ≡ true
true_and true e = refl
true_and false e = e

small : (z : ℤ) → fits z ≡ true → unsigned_abs z ≤ largest
small (pos n) e = leb-true n largest e
small (negsuc n) e = let l = leb-true n 9007199254740990 (and_true (nat_le n 9007199254740990) e) in omega (arith, l)

within : (z : ℤ) → unsigned_abs z ≤ largest → fits z ≡ true
within (pos n) l = le-leb n largest l
within (negsuc n) l = true_and (nat_le n 9007199254740990) (le-leb n 9007199254740990 (omega (arith, l)))

abs_neg : (x : ℕ) → unsigned_abs (neg_ℤ (pos x)) ≡ x
abs_neg zero = refl
abs_neg (suc x) = refl

-- ---- rests and quotients

rem_small : (a b : ℤ) → unsigned_abs (int_rem a b) ≤ unsigned_abs a
rem_small (pos n) b = mod-le n (unsigned_abs b)
rem_small (negsuc n) b = let l = mod-le (suc n) (unsigned_abs b) in let e = abs_neg (suc n % unsigned_abs b) in omega (arith, l, e)

quot_small : (a b : ℤ) → unsigned_abs (int_div a b) ≤ unsigned_abs a
quot_small (pos n) (pos d) = div-le_self n d
quot_small (pos n) (negsuc d) = let l = div-le_self n (suc d) in let e = abs_neg (n / suc d) in omega (arith, l, e)
quot_small (negsuc n) (pos d) = let l = div-le_self (suc n) d in let e = abs_neg (suc n / d) in omega (arith, l, e)
quot_small (negsuc n) (negsuc d) = div-le_self (suc n) (suc d)

-- the dividend without its rest
whole_pos : (n k : ℕ) → pos n -ℤ pos (n % k) ≡ pos ((n / k) * k)
whole_pos n k = let e = div-add-mod n k in omega (arith, ints, e)

whole_neg : (n k : ℕ) → negsuc n -ℤ neg_ℤ (pos (suc n % k)) ≡ neg_ℤ (pos ((suc n / k) * k))
whole_neg n k = let e = div-add-mod (suc n) k in omega (arith, ints, e)

none_neg : (x : ℕ) (b : ℤ) → x % unsigned_abs b ≡ 0 → int_rem (neg_ℤ (pos x)) b ≡ pos 0
none_neg zero b e = ap pos e
none_neg (suc x) b e = ap (λ r. neg_ℤ (pos r)) e

rem_none : (a b : ℤ) → int_rem (a -ℤ int_rem a b) b ≡ pos 0
rem_none (pos n) b = let k = unsigned_abs b in ap (λ z. int_rem z b) (whole_pos n k) ∙ ap pos (mul-mod_left (n / k) k)
rem_none (negsuc n) b = let k = unsigned_abs b in ap (λ z. int_rem z b) (whole_neg n k) ∙ none_neg ((suc n / k) * k) b (mul-mod_left (suc n / k) k)

-- both parts make up its magnitude
parts : (a b : ℤ) → unsigned_abs (a -ℤ int_rem a b) + unsigned_abs (int_rem a b) ≡ unsigned_abs a
parts (pos n) b = let k = unsigned_abs b in let w = ap unsigned_abs (whole_pos n k) in let e = div-add-mod n k in omega (arith, w, e)
parts (negsuc n) b =
    let k = unsigned_abs b in
    let w = ap unsigned_abs (whole_neg n k) ∙ abs_neg ((suc n / k) * k) in
    let m = abs_neg (suc n % k) in
    let e = div-add-mod (suc n) k in
    omega (arith, w, m, e)

some_rest : (m : ℤ) → not (int_eq m (pos 0)) ≡ true → 1 ≤ unsigned_abs m
some_rest (pos zero) e = cc
some_rest (pos (suc n)) e = omega arith
some_rest (negsuc n) e = omega arith

one_less : (z : ℤ) → unsigned_abs (z -ℤ pos 1) ≤ suc (unsigned_abs z)
one_less (pos zero) = omega (arith, ints)
one_less (pos (suc n)) = omega (arith, ints)
one_less (negsuc n) = omega (arith, ints)

pub floor_facts : FloorFacts
floor_facts a b fa fb nb =
    let l = small a fa in
    let p = parts a b in
    let q = quot_small (a -ℤ int_rem a b) b in (
      within (int_rem a b) (let r = rem_small a b in omega (arith, r, l)),
      within (a -ℤ int_rem a b) (omega (arith, p, l)),
      ap is_zero (rem_none a b),
      within (int_div (a -ℤ int_rem a b) b) (omega (arith, p, l, q)),
      λ signs rest. within (int_div (a -ℤ int_rem a b) b -ℤ pos 1) (let o = one_less (int_div (a -ℤ int_rem a b) b) in let s = some_rest (int_rem a b) rest in omega (arith, p, l, q, o, s)),
    )

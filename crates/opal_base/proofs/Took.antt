-- Pieces of bytes that were taken one after the other.
use Rattle.std.proofs.Common.{◌≡◌, ℕ, ◌+◌, ◌-◌, ◌≤◌, List, [], ◌++◌, length, take, drop, refl, ap, ◌∙◌, sym, arith, append_assoc, append-nil, length-drop, None, Some}
use Rattle.std.proofs.Math.Seq.{take-add, take-length}
use Rattle.std.proofs.lemmas.List.{take_all}
use Rattle.std.specs.declared.option.Option.{Option}
use Rattle.opal_base.specs.Outside.{appended, TookFront}

-- the slice from i on
pub rest_is : (bytes : List ℕ) (i : ℕ) → take (length bytes - i) (drop i bytes) ≡ drop i bytes
rest_is bytes i = take_all _ _ (let e = length-drop i bytes in omega (arith, e))

pub appended_twice : (told : Option (List ℕ)) (a b : List ℕ) → appended (appended told a) b ≡ appended told (a ++ b)
appended_twice None a b = refl
appended_twice (Some t) a b = ap (λ x. Some x) (append_assoc t a b)

-- the next n bytes behind the first i
pub joined : (s0 s1 s2 : Option (List ℕ)) (bytes : List ℕ) (i n : ℕ) → s1 ≡ appended s0 (take i bytes) → s2 ≡ appended s1 (take n (take (length bytes - i) (drop i bytes))) → s2 ≡ appended s0 (take (i + n) bytes)
joined s0 s1 s2 bytes i n e f = f ∙ ap (λ l. appended s1 (take n l)) (rest_is bytes i) ∙ ap (λ l. appended l (take n (drop i bytes))) e ∙ appended_twice s0 (take i bytes) (take n (drop i bytes)) ∙ ap (λ l. appended s0 l) (sym (take-add i n bytes))

pub within : (bytes : List ℕ) (i n : ℕ) → i ≤ length bytes → n ≤ length (take (length bytes - i) (drop i bytes)) → i + n ≤ length bytes
within bytes i n l m = let e = length-drop i bytes in let f = ap (λ x. length x) (rest_is bytes i) in omega (arith, l, m, e, f)

pub appended_none : (told : Option (List ℕ)) → appended told [] ≡ told
appended_none None = refl
appended_none (Some t) = ap (λ x. Some x) (append-nil t)

pub took_all : (old new : Option (List ℕ)) (text : List ℕ) → new ≡ appended old text → TookFront old new text
took_all old new text e = (length text, omega arith, e ∙ ap (λ x. appended old x) (sym (take-length text)))

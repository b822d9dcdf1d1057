-- What a read from the front of a list of bytes delivers.
use Rattle.std.proofs.Common.{◌≡◌, ℕ, ◌+◌, ◌-◌, List, ◌++◌, length, take, drop, ap, ◌∙◌, sym, arith, min, length-drop, length-append, Some, subst}
use Rattle.std.proofs.Math.Seq.{take-append_seam}
use Rattle.std.proofs.lemmas.List.{take-append-drop, length-take, drop-drop, nil_from_length}
use Rattle.opal_base.specs.Outside.{Delivers}
use Rattle.opal_base.proofs.Took.{rest_is}

-- The first n bytes of the rest, put over the start of the buffer.
front_delivered : (rest buffer front : List ℕ) (n : ℕ) → n ≡ min (length buffer) (length rest) → front ≡ take n rest → Delivers (Some rest) (Some (drop n rest)) (front ++ drop n buffer) n
front_delivered rest buffer front n most is =
    let long : length front ≡ n = omega (arith, most, ap (λ l. length l) is, length-take n rest) in
    let whole = length-append front (drop n buffer) in
    let starts : take n (front ++ drop n buffer) ≡ front = ap (λ k. take k (front ++ drop n buffer)) (sym long) ∙ take-append_seam front (drop n buffer) in
    record {
      bound = omega (arith, long, whole);
      bytes = ap (λ l. Some l) (sym (ap (λ l. l ++ drop n rest) (starts ∙ is) ∙ take-append-drop n rest));
      ended = λ none some. nil_from_length (drop n rest) (let a = length-drop n rest in let b = length-drop n buffer in omega (arith, long, whole, most, none, some, a, b));
    }

-- The same at an index of the bytes, where the rest is the slice from there on.
pub slice_delivered : (bytes source buffer front : List ℕ) (at n : ℕ) → source ≡ bytes → n ≡ min (length buffer) (length (take (length source - at) (drop at source))) → front ≡ take n (take (length source - at) (drop at source)) → Delivers (Some (drop at bytes)) (Some (drop (at + n) bytes)) (front ++ drop n buffer) n
slice_delivered bytes source buffer front at n same most is =
    subst (λ l. Delivers (Some (drop at bytes)) (Some l) (front ++ drop n buffer) n) (drop-drop n at bytes)
    (front_delivered (drop at bytes) buffer front n
    (most ∙ ap (λ l. min (length buffer) (length l)) (rest_is source at ∙ ap (drop at) same))
    (is ∙ ap (take n) (rest_is source at ∙ ap (drop at) same)))

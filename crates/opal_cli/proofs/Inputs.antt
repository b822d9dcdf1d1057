-- What was read of the input, one byte more than the longest at the least, stands for the input.
use Rattle.std.proofs.Common.{◌≡◌, ℕ, ◌≤◌, ◌<◌, ◌+◌, List, [], ◌++◌, length, None, Some, refl, sym, ap, ◌∙◌, subst, arith, length-append, Option}
use Rattle.std.proofs.lemmas.List.{append-nil}
use mathlib.Core.Logic.{inl, inr}
use Rattle.std.specs.Prelude.{IfSome}
use Rattle.std.specs.Str.{IsValidUpTo}
use Rattle.opal_base.specs.Outside.{preceded}
use Rattle.opal_base.specs.Text.{IsDecoded}
use Rattle.opal_cli.specs.Execution.{IsInput, IsInputOf, IsBadInputOf}

pub input_of : (left rest : Option (List ℕ)) (read text : List ℕ) → left ≡ preceded read rest → IfSome rest (λ r. r ≡ []) → length read ≤ 16777216 → IsDecoded read text → IsInputOf left text
input_of None rest read text e r l d = tt
input_of (Some bytes) None read text e r l d = absurd cc
input_of (Some bytes) (Some rest) read text e r l d =
    let s : bytes ≡ read ++ rest = cc in
    let w : read ≡ bytes = sym (s ∙ ap (λ x. read ++ x) r ∙ append-nil read) in
    subst (λ x. IsInput x text) w (record { short = l; decoded = d })

pub bad_of : (left rest : Option (List ℕ)) (read : List ℕ) (offset : ℕ) → left ≡ preceded read rest → IfSome rest (λ r. r ≡ []) → length read ≤ 16777216 → IsValidUpTo read offset → IsBadInputOf left offset
bad_of None rest read offset e r l v = tt
bad_of (Some bytes) None read offset e r l v = absurd cc
bad_of (Some bytes) (Some rest) read offset e r l v =
    let s : bytes ≡ read ++ rest = cc in
    let w : read ≡ bytes = sym (s ∙ ap (λ x. read ++ x) r ∙ append-nil read) in
    subst (λ x. IsBadInputOf (Some x) offset) w (inl (l, v))

pub long_of : (left rest : Option (List ℕ)) (read : List ℕ) → left ≡ preceded read rest → 16777216 < length read → IsBadInputOf left 16777216
long_of None rest read e l = tt
long_of (Some bytes) None read e l = absurd cc
long_of (Some bytes) (Some rest) read e l =
    let s : bytes ≡ read ++ rest = cc in
    let n : length bytes ≡ length read + length rest = ap length s ∙ length-append read rest in
    inr (omega (arith, n), refl)

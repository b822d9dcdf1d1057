use Rattle.std.proofs.Common.{◌≡◌, ◌<◌, ℕ, ◌+◌, ◌*◌, ◌-◌, Bool, true, false, cond, List, [], ◌∷◌, Option, None, refl, sym, ◌∙◌, arith, get_or, length, ◌≤◌}
use Rattle.std.specs.Option.{option_and_then}
use Rattle.std.proofs.lemmas.Bool.Decides.{nat_tests}
use Rattle.opal_cli.specs.Words.{within, number_from, is_digit}
use Rattle.opal_cli.proofs.words.value_within.Goals as goal

too_large : (least most value : ℕ) → most < value → within least most value ≡ None
too_large least most value l = grind (arith, nat_tests)

chosen : (least most : ℕ) (b : Bool) (more : Option ℕ) → option_and_then (within least most) more ≡ None → option_and_then (within least most) (cond b more None) ≡ None
chosen least most true more h = h
chosen least most false more h = refl

-- a number that is too large doesn't get smaller by more digits
grows : (least most value : ℕ) (bytes : List ℕ) → most < value → option_and_then (within least most) (number_from value bytes) ≡ None
grows least most value [] l = too_large least most value l
grows least most value (byte ∷ bytes) l = chosen least most (is_digit byte) _ (grows least most (value * 10 + (byte - 48)) bytes (omega arith))

too_many : (least most value : ℕ) (bytes : List ℕ) → 1 ≤ length bytes → most < value * 10 + (get_or bytes 0 0 - 48) → option_and_then (within least most) (number_from value bytes) ≡ None
too_many least most value [] some l = absurd (omega arith)
too_many least most value (byte ∷ bytes) some l = chosen least most (is_digit byte) _ (grows least most (value * 10 + (byte - 48)) bytes l)

pub returns-then-value-most-clause-is : goal.returns-then-value-most-clause-is
returns-then-value-most-clause-is c =
    sym (too_many c.args.least c.args.most c.digits.value c.digits.rest.now c.in-len1-up.len_at_least c.if-value-most.true) ∙ c.digits.invariant.found

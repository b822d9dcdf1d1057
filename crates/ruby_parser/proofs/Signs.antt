-- Tests of signs.
use Rattle.std.proofs.Common.{◌≡◌, Bool, true, false, List, [], ◌∷◌, None, Option, Some, refl, ap, ◌∙◌}
use Rattle.std.specs.Prelude.{if◌then◌else◌}
use Rattle.ruby_meaning.specs.declared.production.Sign.{Sign}
use Rattle.ruby_meaning.specs.Grammar.Refusals.{has_sign, is_case, is_separator, last_from}
use Rattle.ruby_meaning.specs.Grammar.Seen.{Seen}
use Rattle.ruby_parser.specs.Refusing.{case_from, holds, sign_of}

pub sign_test : (f : Sign → Bool) (o : Option Seen) → holds f (sign_of o) ≡ has_sign f o
sign_test f None = refl
sign_test f (Some t) = refl

passed : (c : Bool) (o : Option Seen) (t : Seen) → has_sign is_case (if c then o else Some t) ≡ (if c then has_sign is_case o else is_case t.sign)
passed true o t = refl
passed false o t = refl

pub case_is : (o : Option Seen) (ts : List Seen) → has_sign is_case (last_from o ts) ≡ case_from (has_sign is_case o) ts
case_is o [] = refl
case_is o (t ∷ ts) = case_is (if is_separator t.sign then o else Some t) ts ∙ ap (λ b. case_from b ts) (passed (is_separator t.sign) o t)

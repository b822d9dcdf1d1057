-- Names of different kinds differ, and so do those of different numbers or locals.
use Rattle.std.proofs.Common.{◌≡◌, ℕ, List, ◌∷◌, sym, ap, ◌∙◌, arith}
use Rattle.es5_tree.specs.Values.{Text}
use Rattle.es5_tree.specs.Objects.Names.{decimal, number_of}
use Rattle.es5_tree.proofs.ObjectProperties.{number_decimal}
use Rattle.ruby_evaluation.specs.Tables.{Name}
use Rattle.both_meanings.specs.Names.{temp, local, IsFrameName}
use Rattle.both_meanings.proofs.Basics.{head_is}

pub tail_same : (a b : ℕ) (x y : List ℕ) → a ∷ b ∷ x ≡ a ∷ b ∷ y → x ≡ y
tail_same a b x y e = cc

pub temps_differ : (m n : ℕ) → (m ≡ n → ⊥) → temp m ≡ temp n → ⊥
temps_differ m n h e = h (sym (number_decimal m) ∙ ap number_of (tail_same 116 36 (decimal m) (decimal n) e) ∙ number_decimal n)

pub local_temp : (x : Name) (n : ℕ) → local x ≡ temp n → ⊥
local_temp x n e = let f : 108 ≡ 116 = head_is 108 116 _ _ e in absurd (omega (arith, f))

-- a name that begins with "$"
pub frame_name : (x y : Text) → x ≡ 36 ∷ y → IsFrameName x
frame_name x y e = record { tail = y; is = e }

pub no_temp : {x : Text} → IsFrameName x → (n : ℕ) → temp n ≡ x → ⊥
no_temp f n i = let e : 116 ≡ 36 = head_is 116 36 _ _ (i ∙ f.is) in absurd (omega (arith, e))

pub no_local : {x : Text} → IsFrameName x → (y : Name) → local y ≡ x → ⊥
no_local f y i = let e : 108 ≡ 36 = head_is 108 36 _ _ (i ∙ f.is) in absurd (omega (arith, e))

-- Rules that need a level.
use Rattle.std.proofs.Common.{◌≡◌, ℕ, zero, suc, ◌<◌, true, List, Result, Err, refl, ap, arith}
use Rattle.std.specs.Prelude.{nat_le, if◌then◌else◌}
use Rattle.std.proofs.lemmas.Bool.Decides.{nat_tests}
use Rattle.grammar.specs.FormReaders.{read_needs}

pub needs_one : {T A : Type 0} (p : List T → Result (A × List T) (List T)) (n : ℕ) (ts : List T) → 0 < n → read_needs 1 n p ts ≡ p ts
needs_one p zero ts h = absurd (omega (arith, h))
needs_one p (suc n) ts h = ap (λ c. if c then p ts else Err ts) (by (suc n) h)
  where
    by : (m : ℕ) → 0 < m → nat_le 1 m ≡ true
    by m h = grind (arith, nat_tests)

pub needs_not_one : {T A : Type 0} (p : List T → Result (A × List T) (List T)) (n : ℕ) (ts : List T) → n ≡ 0 → read_needs 1 n p ts ≡ Err ts
needs_not_one p zero ts h = refl
needs_not_one p (suc n) ts h = absurd (omega (arith, h))

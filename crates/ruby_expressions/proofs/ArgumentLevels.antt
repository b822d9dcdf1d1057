-- How deep one argument is.
use Rattle.std.proofs.Common.{◌≡◌, ℕ, max, ap, arith}
use Rattle.std.specs.Prelude.{nat_le}

pub single_fits : (n b : ℕ) → nat_le (max (max n 0) (max 0 0)) b ≡ nat_le n b
single_fits n b = ap (λ k. nat_le k b) (omega arith)

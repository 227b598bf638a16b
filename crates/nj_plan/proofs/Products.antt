-- Products that fit 64 bits.
use Rattle.std.proofs.Common.{ℕ, ◌*◌, ◌≤◌, ◌^◌, Fits, w64, arith}
use Rattle.std.proofs.lemmas.Nat.{mul-le}

-- words of a front times pads or steps
pub product_fits : (words times : ℕ) → words ≤ 2 ^ 20 → times ≤ 2 ^ 25 → Fits w64 (words * times)
product_fits words times few short = omega (arith, mul-le words times (2 ^ 20) (2 ^ 25) few short)

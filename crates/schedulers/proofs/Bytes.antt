-- The bytes of a number, high byte first.
use Rattle.std.specs.Prelude.{◌≡◌, ℕ, ◌/◌, ◌%◌, ◌^◌, ◌<◌, [], ◌∷◌}
use Rattle.std.specs.Int.{w16, w32, to_be_bytes}
use Rattle.std.proofs.Common.{arith}
use Rattle.schedulers.specs.Hashes.{four_bytes, two_bytes}

-- two for a number of 16 bits
pub two_bytes_are : (n : ℕ) → n < 2 ^ 16 → to_be_bytes w16 n ≡ two_bytes n
two_bytes_are n l =
    let high : n / 256 % 256 ≡ n / 256 = omega arith in λ i. high i ∷ (n % 256) ∷ []

-- four for one of 32 bits
pub four_bytes_are : (n : ℕ) → n < 2 ^ 32 → to_be_bytes w32 n ≡ four_bytes n
four_bytes_are n l =
    let high : n / 2 ^ 24 % 256 ≡ n / 2 ^ 24 = omega arith in
    λ i. high i ∷ (n / 2 ^ 16 % 256) ∷ (n / 2 ^ 8 % 256) ∷ (n % 256) ∷ []

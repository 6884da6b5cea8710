-- Bounds in seconds and counts in steps, where a second has k steps.
use Rattle.std.proofs.Common.{◌≡◌, ℕ, ◌+◌, ◌*◌, ◌<◌, ◌≤◌, min, ◌⊎◌, subst, inl, inr, arith}
use Rattle.std.proofs.Math.Nat.{mul-add, mul-le-mul_left}
use Rattle.std.proofs.lemmas.Bool.{cases_lt}

-- what two bounds keep, their least does
pub times_min : (k a b u : ℕ) → u ≤ k * a → u ≤ k * b → u ≤ k * min a b
times_min k a b u h l = go (cases_lt a b)
  where
    go : (a < b) ⊎ (b ≤ a) → u ≤ k * min a b
    go (inl e) = let f : a ≡ min a b = omega arith in subst (λ z. u ≤ k * z) f h
    go (inr e) = let f : b ≡ min a b = omega arith in subst (λ z. u ≤ k * z) f l

pub times_larger : (k a b u : ℕ) → a ≤ b → u ≤ k * a → u ≤ k * b
times_larger k a b u h l = omega (arith, l, mul-le-mul_left k h)

pub times_sum : (k a b u d : ℕ) → u ≤ k * a → d ≤ k * b → u + d ≤ k * (a + b)
times_sum k a b u d h l = omega (arith, mul-add k a b)

-- with a step at least in a second, fewer seconds are fewer steps
pub times_less : (k a b : ℕ) → 1 ≤ k → a < b → k * a < k * b
times_less k a b h l =
    let m : a + 1 ≤ b = omega arith in omega (arith, mul-le-mul_left k m, mul-add k a 1)

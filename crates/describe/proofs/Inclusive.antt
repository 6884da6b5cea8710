-- The numbers that a range with its last number gives.
use Rattle.std.proofs.Common.{◌≡◌, ℕ, zero, suc, ◌+◌, ◌-◌, Bool, true, false, refl, ap, ◌∙◌, arith}
use Rattle.std.proofs.lemmas.Iterator.{YieldsList}
use Rattle.std.specs.Iterator.{AlwaysYields}
use Rattle.std.specs.List.{range_with_len}
use Rattle.std.specs.Range.{range_inclusive_end, range_inclusive_exhausted, range_inclusive_left, range_inclusive_len, range_inclusive_start, range_inclusive_steps}
use Rattle.std.specs.declared.ops.RangeInclusive.{RangeInclusive}

-- how far one number is below another
abbrev pub gap : ℕ → ℕ → ℕ
gap x y = y - x

-- one number follows another
abbrev pub Follows : ℕ → ℕ → Type 0
Follows x y = y ≡ x + 1

-- a range that has numbers left is not exhausted
not_exhausted : (b : Bool) (x y n : ℕ) → range_inclusive_len gap x y b ≡ suc n → b ≡ false
not_exhausted true x y n h = absurd (omega arith)
not_exhausted false x y n h = refl

-- as many numbers come as are left, from the first on
counts_up : (n : ℕ) (s : RangeInclusive ℕ) (a : ℕ) → range_inclusive_left gap s ≡ n → (range_inclusive_exhausted s ≡ false → range_inclusive_start s ≡ a) → AlwaysYields (range_inclusive_steps gap Follows) (λ x. x) s (range_with_len a n)
counts_up zero s a left first = λ x t k. omega (arith, k.1.1)
counts_up (suc n) s a left first =
    let on : range_inclusive_exhausted s ≡ false = not_exhausted _ _ _ n left in
    let at : range_inclusive_start s ≡ a = first on in (
      (λ t k. omega (arith, k.1.0)),
      λ x t k. (k.1.0 ∙ at, counts_up n t (a + 1) (omega (arith, k.1.1)) (λ e. k.1.2 e ∙ ap (λ z. z + 1) at)),
    )

-- a new range gives the numbers from its first to its last
pub YieldsList-from_inclusive : {s : RangeInclusive ℕ} (a b n : ℕ) → range_inclusive_start s ≡ a → range_inclusive_end s ≡ b → range_inclusive_exhausted s ≡ false → gap a b + 1 - gap b a ≡ n → YieldsList (range_inclusive_steps gap Follows) (λ x. x) s (range_with_len a n)
YieldsList-from_inclusive {s} a b n first last new count =
    let left : range_inclusive_left gap s ≡ n = rw (first, last, new) count in
    record { runs = counts_up n s a left (λ _. first) }

-- A fraction divided through by the greatest common divisor is in lowest terms.
use Rattle.std.proofs.Common.{◌≡◌, ℕ, ◌+◌, ◌*◌, ◌/◌, ◌%◌, ◌<◌, sym, ap, subst, mod-lt, mul-one, arith}
use Prim.Native.Nat.{◌∣◌}
use Rattle.std.specs.Int.{IsGcd}
use native.Mathlib.Nat.{dvd_of_mul-dvd-mul_left, eq-one_of_dvd-one, lt_of_mul-lt-mul_left, mul-div_cancel', mul-dvd-mul_left, pos_of_dvd_of_pos, div-add-mod}

-- the divisor is some, the whole and the fraction are the same time, the fraction is below one, and only 1 divides both of its parts
pub lowest : (steps per d : ℕ) → 0 < per → IsGcd per (steps % per) d → (0 < d) × ((steps / per * (per / d) + steps % per / d) * per ≡ steps * (per / d)) × (steps % per / d < per / d) × ((k : ℕ) → k ∣ steps % per / d → k ∣ per / d → k ≡ 1)
lowest steps per d some g = (above, same, proper, only_one)
  where
    above : 0 < d
    above = pos_of_dvd_of_pos g.0 some

    bottom : d * (per / d) ≡ per
    bottom = mul-div_cancel' d g.0

    top : d * (steps % per / d) ≡ steps % per
    top = mul-div_cancel' d g.1

    same : (steps / per * (per / d) + steps % per / d) * per ≡ steps * (per / d)
    same =
        omega (arith, ap (λ z. steps % per / d * z) bottom, ap (λ z. z * (per / d)) top, ap (λ z. z * (per / d)) (div-add-mod steps per))

    proper : steps % per / d < per / d
    proper = lt_of_mul-lt-mul_left d (omega (arith, bottom, top, mod-lt steps some))

    only_one : (k : ℕ) → k ∣ steps % per / d → k ∣ per / d → k ≡ 1
    only_one k hp hq =
        let low = subst (λ (n : ℕ). d * k ∣ n) top (mul-dvd-mul_left k d hp) in
        let high = subst (λ (n : ℕ). d * k ∣ n) bottom (mul-dvd-mul_left k d hq) in
        eq-one_of_dvd-one (dvd_of_mul-dvd-mul_left k above (subst (λ (n : ℕ). d * k ∣ n) (sym (mul-one d)) (g.2 (d * k) high low)))

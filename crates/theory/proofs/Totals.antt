-- Sums of a function over the numbers below a bound, and quotients.
use Rattle.std.proofs.Common.{◌≡◌, ℕ, zero, suc, ◌+◌, ◌-◌, ◌*◌, ◌/◌, ◌%◌, ◌<◌, ◌≤◌, ◌⊎◌, sym, refl, ap, ◌∙◌, inl, inr, mod-lt, mul-suc, arith}
use native.Mathlib.Nat.{div-add-mod}
use lib.Arith.{digits_div, digits_mod}
use Rattle.std.proofs.lemmas.Bool.{cases_lt}
use Rattle.theory.specs.Settings.{total}

pub total_zero : (f : ℕ → ℕ) → total f 0 ≡ 0
unfolding total
total_zero f = refl

pub total_suc : (f : ℕ → ℕ) (y : ℕ) → total f (suc y) ≡ total f y + f y
unfolding total
total_suc f y = refl

pub total_same : (f g : ℕ → ℕ) (y : ℕ) → ((x : ℕ) → x < y → f x ≡ g x) → total f y ≡ total g y
total_same f g zero e = total_zero f ∙ sym (total_zero g)
total_same f g (suc y) e =
    omega (arith, total_suc f y, total_suc g y, total_same f g y (λ x h. e x (omega arith)), e y (omega arith))

pub total_shift : (f : ℕ → ℕ) (y : ℕ) → total f (suc y) ≡ f 0 + total (λ x. f (suc x)) y
total_shift f zero = omega (arith, total_suc f 0, total_zero f, total_zero (λ x. f (suc x)))
total_shift f (suc y) =
    omega (arith, total_suc f (suc y), total_suc (λ x. f (suc x)) y, total_shift f y)

pub total_add : (f : ℕ → ℕ) (y n : ℕ) → total f (y + n) ≡ total f y + total (λ x. f (y + x)) n
total_add f y zero = omega (arith, total_zero (λ x. f (y + x)), ap (total f) e)
  where
    e : y + 0 ≡ y
    e = omega arith
total_add f y (suc n) =
    omega (arith, total_suc (λ x. f (y + x)) n, total_add f y n, total_suc f (y + n), ap (total f) e)
  where
    e : y + suc n ≡ suc (y + n)
    e = omega arith

pub total_le : (f : ℕ → ℕ) (x y : ℕ) → x ≤ y → total f x ≤ total f y
total_le f x y h = omega (arith, ap (total f) e, total_add f x (y - x))
  where
    e : y ≡ x + (y - x)
    e = omega arith

pub total_lt : (f : ℕ → ℕ) (x y : ℕ) → x < y → f x ≡ 1 → total f x < total f y
total_lt f x y h e = omega (arith, total_suc f x, total_le f (suc x) y h)

pub total_none : (f : ℕ → ℕ) (y : ℕ) → ((x : ℕ) → x < y → f x ≡ 0) → total f y ≡ 0
total_none f zero e = total_zero f
total_none f (suc y) e =
    omega (arith, total_suc f y, total_none f y (λ x h. e x (omega arith)), e y (omega arith))

pub div_from : (D q r x : ℕ) → r < D → x ≡ D * q + r → x / D ≡ q
div_from D q r x h e = ap (λ z. z / D) f ∙ digits_div q h
  where
    f : x ≡ q * D + r
    f = omega arith

pub mod_from : (D q r x : ℕ) → r < D → x ≡ D * q + r → x % D ≡ r
mod_from D q r x h e = ap (λ z. z % D) f ∙ digits_mod q h
  where
    f : x ≡ q * D + r
    f = omega arith

-- the number of marks below x on the line where h comes round every D
abbrev pub position : (ℕ → ℕ) → ℕ → ℕ → ℕ
position h D x = total h D * (x / D) + total h (x % D)

pub position_suc : (h : ℕ → ℕ) (D x : ℕ) → 1 ≤ D → position h D (suc x) ≡ position h D x + h (x % D)
position_suc h D x d = go (cases_lt (suc (x % D)) D)
  where
    split : D * (x / D) + x % D ≡ x
    split = div-add-mod x D

    small : x % D < D
    small = mod-lt x d

    go : (suc (x % D) < D) ⊎ (D ≤ suc (x % D)) → position h D (suc x) ≡ position h D x + h (x % D)
    go (inl l) =
        omega (arith, ap (λ z. total h D * z) q, ap (total h) r, total_suc h (x % D))
      where
        q : suc x / D ≡ x / D
        q = div_from D (x / D) (suc (x % D)) (suc x) l (omega arith)

        r : suc x % D ≡ suc (x % D)
        r = mod_from D (x / D) (suc (x % D)) (suc x) l (omega arith)
    go (inr g) =
        omega (arith, ap (λ z. total h D * z) q, ap (total h) r, total_suc h (x % D), total_zero h, mul-suc (total h D) (x / D), ap (total h) last)
      where
        last : D ≡ suc (x % D)
        last = omega arith

        q : suc x / D ≡ suc (x / D)
        q = div_from D (suc (x / D)) 0 (suc x) d (omega (arith, mul-suc D (x / D)))

        r : suc x % D ≡ 0
        r = mod_from D (suc (x / D)) 0 (suc x) d (omega (arith, mul-suc D (x / D)))

pub position_zero : (h : ℕ → ℕ) (D : ℕ) → 1 ≤ D → position h D 0 ≡ 0
position_zero h D d = omega (arith, ap (λ z. total h D * z) q, ap (total h) r, total_zero h)
  where
    q : 0 / D ≡ 0
    q = div_from D 0 0 0 d (omega arith)

    r : 0 % D ≡ 0
    r = mod_from D 0 0 0 d (omega arith)

pub position_total : (h : ℕ → ℕ) (D x : ℕ) → 1 ≤ D → position h D x ≡ total (λ y. h (y % D)) x
position_total h D zero d = position_zero h D d ∙ sym (total_zero (λ y. h (y % D)))
position_total h D (suc x) d =
    omega (arith, position_suc h D x d, position_total h D x d, total_suc (λ y. h (y % D)) x)

pub position_le : (h : ℕ → ℕ) (D x y : ℕ) → 1 ≤ D → x ≤ y → position h D x ≤ position h D y
position_le h D x y d l =
    omega (arith, position_total h D x d, position_total h D y d, total_le (λ y. h (y % D)) x y l)

pub position_lt : (h : ℕ → ℕ) (D x y : ℕ) → 1 ≤ D → x < y → h (x % D) ≡ 1 → position h D x < position h D y
position_lt h D x y d l e =
    omega (arith, position_total h D x d, position_total h D y d, total_lt (λ y. h (y % D)) x y l e)

-- m whole seconds further there are m times all the marks
pub position_seconds : (h : ℕ → ℕ) (D x m : ℕ) → 1 ≤ D → position h D (x + m * D) ≡ position h D x + total h D * m
position_seconds h D x m d =
    omega (arith, ap (λ z. total h D * z) q, ap (total h) r)
  where
    split : D * (x / D) + x % D ≡ x
    split = div-add-mod x D

    q : (x + m * D) / D ≡ x / D + m
    q = div_from D (x / D + m) (x % D) (x + m * D) (mod-lt x d) (omega arith)

    r : (x + m * D) % D ≡ x % D
    r = mod_from D (x / D + m) (x % D) (x + m * D) (mod-lt x d) (omega arith)

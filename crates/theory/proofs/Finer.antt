-- Finer ticks tell the same: the record does not turn on the fineness.
use Rattle.std.proofs.Common.{◌≡◌, ℕ, zero, suc, ◌+◌, ◌*◌, ◌/◌, ◌%◌, ◌<◌, ◌≤◌, eqb, ◌⊎◌, ◌↔◌, List, sym, ap, ◌∙◌, inl, inr, mod-lt, mul-le-mul_left, mul-suc, arith}
use mathlib.Core.List.{map-map}
use native.Mathlib.Nat.{div-add-mod, mul-div-mul_left, mul-lt-mul_of_pos_left, eq_of_mul-eq-mul_left}
use Rattle.std.proofs.ByRecursion.{All-map}
use Rattle.std.proofs.lemmas.Bool.{cases_lt}
use Rattle.theory.specs.Settings.{total, held, finer}
use Rattle.theory.specs.Records.{record_of, timer_of}
use Rattle.theory.proofs.Totals.{total_zero, total_suc, total_add, total_shift, total_none, mod_from}
use Rattle.theory.proofs.Held.{map_every, all_every, held_map, held_none}
use Rattle.theory.proofs.Waits.{same_record, same_timer}

pub finer_split : (q D c : ℕ) → q * c ≡ q * D * (c / D) + q * (c % D)
finer_split q D c = omega (arith, ap (λ z. q * z) (div-add-mod c D))

pub mod_finer : (q D c : ℕ) → 1 ≤ q → 1 ≤ D → (q * c) % (q * D) ≡ q * (c % D)
mod_finer q D c h d =
    mod_from (q * D) (c / D) (q * (c % D)) (q * c) (mul-lt-mul_of_pos_left (mod-lt c d) h) (finer_split q D c)

pub held_finer : (q D : ℕ) (v : List ℕ) (x : ℕ) → 1 ≤ q → 1 ≤ D → held (q * D) (finer q v) (q * x) ≡ held D v x
held_finer q D v x h d = held_map (λ c. q * c) (q * D) (q * x) D x both v
  where
    both : (c : ℕ) → ((q * c) % (q * D) ≡ q * x) ↔ (c % D ≡ x)
    both c =
        (λ e. eq_of_mul-eq-mul_left q h (c % D) x (sym (mod_finer q D c h d) ∙ e), λ e. mod_finer q D c h d ∙ ap (λ z. q * z) e)

-- between two old ticks no timer stands
pub held_between : (q D : ℕ) (v : List ℕ) (y j : ℕ) → 1 ≤ q → 1 ≤ D → 0 < j → j < q → held (q * D) (finer q v) (q * y + j) ≡ 0
held_between q D v y j h d low high =
    held_none (q * D) (finer q v) (q * y + j) (All-map (λ c. c % (q * D) ≡ q * y + j → ⊥) (λ c. q * c) v (all_every (λ c. (q * c) % (q * D) ≡ q * y + j → ⊥) v each))
  where
    go : (a : ℕ) → (a < suc y) ⊎ (suc y ≤ a) → q * a ≡ q * y + j → ⊥
    go a (inl l) e = omega (arith, mul-le-mul_left {m = a} {n = y} q (omega arith))
    go a (inr g) e = omega (arith, mul-le-mul_left q g, mul-suc q y)

    each : (c : ℕ) → (q * c) % (q * D) ≡ q * y + j → ⊥
    each c e = go (c % D) (cases_lt (c % D) (suc y)) (sym (mod_finer q D c h d) ∙ e)

pub total_finer : (q D : ℕ) (v : List ℕ) (y : ℕ) → 1 ≤ q → 1 ≤ D → total (held (q * D) (finer q v)) (q * y) ≡ total (held D v) y
total_finer q D v zero h d = ap (total (held (q * D) (finer q v))) e ∙ (total_zero (held (q * D) (finer q v)) ∙ sym (total_zero (held D v)))
  where
    e : q * 0 ≡ 0
    e = omega arith
total_finer zero D v (suc y) h d = absurd (omega arith)
total_finer (suc n) D v (suc y) h d =
    omega (arith, ap f (mul-suc (suc n) y), total_add g (suc n * y) (suc n), total_shift (λ x. g (suc n * y + x)) n, rest, first, total_suc (held D v) y, total_finer (suc n) D v y h d)
  where
    g : ℕ → ℕ
    g = held (suc n * D) (finer (suc n) v)

    f : ℕ → ℕ
    f = total g

    e : suc n * y + 0 ≡ suc n * y
    e = omega arith

    first : g (suc n * y + 0) ≡ held D v y
    first = ap g e ∙ held_finer (suc n) D v y h d

    rest : total (λ x. g (suc n * y + suc x)) n ≡ 0
    rest =
        total_none (λ x. g (suc n * y + suc x)) n (λ x l. held_between (suc n) D v y (suc x) h d (omega arith) (omega arith))

pub timer_finer : (q D : ℕ) (v : List ℕ) (c : ℕ) → 1 ≤ q → 1 ≤ D → timer_of (q * D) (finer q v) (q * c) ≡ timer_of D v c
timer_finer q D v c h d =
    same_timer (timer_of (q * D) (finer q v) (q * c)) (timer_of D v c) (mul-div-mul_left c D h) (ap (total (held (q * D) (finer q v))) (mod_finer q D c h d) ∙ total_finer q D v (c % D) h d)

-- the record of a setting is that of the same setting in finer ticks
pub record_of_finer : (D q : ℕ) (v : List ℕ) → 1 ≤ D → 1 ≤ q → record_of (q * D) (finer q v) ≡ record_of D v
record_of_finer D q v d h =
    same_record (record_of (q * D) (finer q v)) (record_of D v) (ap (λ n. eqb n 1) zero_is) (total_finer q D v D h d) (map-map (timer_of (q * D) (finer q v)) (λ c. q * c) v ∙ map_every (λ c. timer_of (q * D) (finer q v) (q * c)) (timer_of D v) v (λ c. timer_finer q D v c h d))
  where
    e : 0 ≡ q * 0
    e = omega arith

    zero_is : held (q * D) (finer q v) 0 ≡ held D v 0
    zero_is = ap (held (q * D) (finer q v)) e ∙ held_finer q D v 0 h d

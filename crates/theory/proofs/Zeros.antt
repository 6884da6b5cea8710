-- Timers that all stand at zero.
use Rattle.std.proofs.Common.{◌≡◌, ℕ, zero, suc, ◌%◌, ◌≤◌, true, replicate, ap, ◌∙◌, arith}
use native.Mathlib.Nat.{zero-mod}
use lib.LanesLaws.{map-replicate}
use Rattle.std.specs.List.{AllByRecursion}
use Rattle.std.proofs.lemmas.Bool.{eq-eqb}
use Rattle.std.proofs.lemmas.List.Elements.{All-replicate, recursion_from_All}
use Rattle.theory.specs.Settings.{total, held}
use Rattle.theory.specs.Records.{timer_of, record_of, fresh}
use Rattle.theory.proofs.Totals.{total_shift, total_none}
use Rattle.theory.proofs.Held.{held_here, held_none}
use Rattle.theory.proofs.Waits.{same_record}
use Rattle.theory.proofs.Resets.{timer_fresh}

pub all_replicate : {A : Type 0} (P : A → Type 0) (n : ℕ) (a : A) → P a → AllByRecursion P (replicate n a)
all_replicate P n a h = recursion_from_All P (replicate n a) (All-replicate P n a h)

zero_held : (D n : ℕ) → 1 ≤ n → held D (replicate n 0) 0 ≡ 1
zero_held D zero h = absurd (omega arith)
zero_held D (suc n) h = held_here D 0 (replicate n 0) 0 (zero-mod D)

zero_alone : (D n x : ℕ) → held D (replicate n 0) (suc x) ≡ 0
zero_alone D n x =
    held_none D (replicate n 0) (suc x) (all_replicate (λ c. c % D ≡ suc x → ⊥) n 0 (λ e. omega (arith, e, zero-mod D)))

one_class : (D n : ℕ) → 1 ≤ D → 1 ≤ n → total (held D (replicate n 0)) D ≡ 1
one_class zero n d h = absurd (omega arith)
one_class (suc E) n d h =
    omega (arith, total_shift (held (suc E) (replicate n 0)) E, zero_held (suc E) n h, total_none (λ x. held (suc E) (replicate n 0) (suc x)) E (λ x l. zero_alone (suc E) n x))

-- timers at zero have one record, however fine the ticks
pub record_of_zeros : (D n : ℕ) → 1 ≤ D → 1 ≤ n → record_of D (replicate n 0) ≡ record { whole = true; classes = 1; timers = replicate n fresh }
record_of_zeros D n d h =
    same_record (record_of D (replicate n 0)) (record { whole = true; classes = 1; timers = replicate n fresh })
    (eq-eqb (held D (replicate n 0) 0) 1 (zero_held D n h)) (one_class D n d h)
    (map-replicate (timer_of D (replicate n 0)) n 0 ∙ ap (replicate n) (timer_fresh D (replicate n 0)))

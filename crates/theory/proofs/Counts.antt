-- What a wait does to the counts of a record.
use Rattle.std.proofs.Common.{◌≡◌, ℕ, zero, suc, ◌+◌, ◌*◌, ◌/◌, ◌%◌, ◌<◌, ◌≤◌, Bool, true, false, cond, eqb, map, length, get_or, sym, refl, ap, ◌∙◌, ap₂, arith, List}
use mathlib.Core.List.{map-map}
use native.Mathlib.Nat.{div-add-mod}
use lib.ListN.{length-map}
use Rattle.std.specs.List.{AllByRecursion}
use Rattle.std.proofs.lemmas.List.{get_or-map}
use Rattle.std.proofs.lemmas.List.Elements.{All-from_recursion}
use Rattle.std.proofs.lemmas.List.Folds.{map_fixed}
use Rattle.std.proofs.ByRecursion.{All-weaker}
use Rattle.std.proofs.lemmas.Bool.Decides.{nat_tests}
use Rattle.theory.specs.Records.{Timer, Record, edge, count, timer_at, timer_no, fresh, wait, single_steps}
use Rattle.theory.proofs.Held.{map_every}
use Rattle.theory.proofs.Waits.{same_record, timer_from_count, wait_whole, wait_classes, wait_timers}

pub edge_bit : (r : Record) → edge r ≤ 1
edge_bit r = go r.whole
  where
    go : (b : Bool) → cond b 0 1 ≤ 1
    go true = omega arith
    go false = omega arith

pub edge_after_wait : (d : ℕ) (r : Record) → edge (wait d r) ≡ (edge r + d) % 2
edge_after_wait d r = ap (λ b. cond b 0 1) (wait_whole d r) ∙ go ((edge r + d) % 2) (omega arith)
  where
    go : (n : ℕ) → n ≤ 1 → cond (eqb n 0) 0 1 ≡ n
    go n h = grind (arith, nat_tests)

pub length_after_wait : (d : ℕ) (r : Record) → length (wait d r).timers ≡ length r.timers
length_after_wait d r =
    ap length (wait_timers d r) ∙ length-map r.timers (λ t. timer_at r.classes (count r t + d))

-- the timer that stands u steps after zero has the count u
pub count_of_place : (s : Record) (k u : ℕ) → s.classes ≡ k → edge s ≡ u % 2 → count s (timer_at k u) ≡ u
count_of_place s k u e p =
    omega (arith, ap (λ z. 2 * z * (u / (2 * k))) e, div-add-mod u (2 * k))

-- a wait of d steps adds d to the count of each timer
pub wait_adds_to_count : (d : ℕ) (r : Record) (t : Timer) → count (wait d r) (timer_at r.classes (count r t + d)) ≡ count r t + d
wait_adds_to_count d r t =
    count_of_place (wait d r) r.classes (count r t + d) (wait_classes d r) (edge_after_wait d r ∙ parity)
  where
    parity : (edge r + d) % 2 ≡ (count r t + d) % 2
    parity = omega arith

pub timer_after_wait : (d : ℕ) (r : Record) (i : ℕ) → i < length r.timers → timer_no (wait d r) i ≡ timer_at r.classes (count r (timer_no r i) + d)
timer_after_wait d r i h =
    ap (λ ts. get_or ts i fresh) (wait_timers d r) ∙ get_or-map (λ t. timer_at r.classes (count r t + d)) r.timers i fresh fresh h

pub count_after_wait : (d : ℕ) (r : Record) (i : ℕ) → i < length r.timers → count (wait d r) (timer_no (wait d r) i) ≡ count r (timer_no r i) + d
count_after_wait d r i h = ap (count (wait d r)) (timer_after_wait d r i h) ∙ wait_adds_to_count d r (timer_no r i)

-- different waits lead to different records
pub wait_injective : (r : Record) (d e : ℕ) → 1 ≤ length r.timers → wait d r ≡ wait e r → d ≡ e
wait_injective r d e h p =
    omega (arith, count_after_wait d r 0 h, count_after_wait e r 0 h, ap (λ s. count s (timer_no s 0)) p)

-- two waits are one wait of the sum
pub wait_wait : (d e : ℕ) (r : Record) → wait e (wait d r) ≡ wait (d + e) r
wait_wait d e r =
    same_record (wait e (wait d r)) (wait (d + e) r) whole_is (wait_classes e (wait d r) ∙ (wait_classes d r ∙ sym (wait_classes (d + e) r))) timers_are
  where
    parity : (edge (wait d r) + e) % 2 ≡ (edge r + (d + e)) % 2
    parity = omega (arith, edge_after_wait d r)

    whole_is : (wait e (wait d r)).whole ≡ (wait (d + e) r).whole
    whole_is = wait_whole e (wait d r) ∙ (ap (λ n. eqb n 0) parity ∙ sym (wait_whole (d + e) r))

    each : (t : Timer) → timer_at (wait d r).classes (count (wait d r) (timer_at r.classes (count r t + d)) + e) ≡ timer_at r.classes (count r t + (d + e))
    each t = ap₂ timer_at (wait_classes d r) sum
      where
        sum : count (wait d r) (timer_at r.classes (count r t + d)) + e ≡ count r t + (d + e)
        sum = omega (arith, wait_adds_to_count d r t)

    timers_are : (wait e (wait d r)).timers ≡ (wait (d + e) r).timers
    timers_are =
        wait_timers e (wait d r) ∙ (ap (map (λ t. timer_at (wait d r).classes (count (wait d r) t + e))) (wait_timers d r) ∙ (map-map (λ t. timer_at (wait d r).classes (count (wait d r) t + e)) (λ t. timer_at r.classes (count r t + d)) r.timers ∙ (map_every (λ t. timer_at (wait d r).classes (count (wait d r) (timer_at r.classes (count r t + d)) + e)) (λ t. timer_at r.classes (count r t + (d + e))) r.timers each ∙ sym (wait_timers (d + e) r))))

-- a timer is read back from its count
pub timer_of_count : (r : Record) (t : Timer) (u : ℕ) → t.rank < r.classes → u ≡ count r t → timer_at r.classes u ≡ t
timer_of_count r t u h e = timer_from_count r.classes t.seconds t.rank (edge r) u h (edge_bit r) e

-- no wait alters nothing
pub wait_none : (r : Record) → AllByRecursion (λ t. t.rank < r.classes) r.timers → wait 0 r ≡ r
wait_none r h =
    same_record (wait 0 r) r (wait_whole 0 r ∙ go r.whole) (wait_classes 0 r) (wait_timers 0 r ∙ map_fixed (λ t. timer_at r.classes (count r t + 0)) r.timers (All-from_recursion _ r.timers (All-weaker (λ t. t.rank < r.classes) (λ t. timer_at r.classes (count r t + 0) ≡ t) (λ t l. timer_of_count r t (count r t + 0) l (omega arith)) r.timers h)))
  where
    go : (b : Bool) → eqb ((cond b 0 1 + 0) % 2) 0 ≡ b
    go true = refl
    go false = refl

pub single_steps_zero : (r : Record) → single_steps 0 r ≡ r
unfolding single_steps
single_steps_zero r = refl

pub single_steps_suc : (d : ℕ) (r : Record) → single_steps (suc d) r ≡ wait 1 (single_steps d r)
unfolding single_steps
single_steps_suc d r = refl

-- a wait is made of waits of one step
pub wait_by_single_steps : (d : ℕ) (r : Record) → AllByRecursion (λ t. t.rank < r.classes) r.timers → wait d r ≡ single_steps d r
wait_by_single_steps zero r h = wait_none r h ∙ sym (single_steps_zero r)
wait_by_single_steps (suc d) r h =
    ap (λ n. wait n r) e ∙ (sym (wait_wait d 1 r) ∙ (ap (wait 1) (wait_by_single_steps d r h) ∙ sym (single_steps_suc d r)))
  where
    e : suc d ≡ d + 1
    e = omega arith

-- after a wait the record is whole exactly if the counts are even
pub whole_after_wait : (d : ℕ) (r : Record) (t : Timer) → (wait d r).whole ≡ eqb ((count r t + d) % 2) 0
whole_after_wait d r t = wait_whole d r ∙ ap (λ n. eqb n 0) parity
  where
    parity : (edge r + d) % 2 ≡ (count r t + d) % 2
    parity = omega arith

-- a function that leaves each entry as it is leaves the list as it is
pub map_itself : {A : Type 0} (f : A → A) (xs : List A) → AllByRecursion (λ x. f x ≡ x) xs → map f xs ≡ xs
map_itself f xs h = map_fixed f xs (All-from_recursion _ xs h)

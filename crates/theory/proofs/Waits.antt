-- Ticks are waits: what one tick and t ticks do to the counts of a setting and to its record.
use Rattle.std.proofs.Common.{◌≡◌, ℕ, zero, suc, ◌+◌, ◌-◌, ◌*◌, ◌/◌, ◌%◌, ◌<◌, ◌≤◌, cond, eqb, List, map, sym, refl, ap, ◌∙◌, ap₂, mod-lt, mod-eq_of_lt, arith}
use mathlib.Core.List.{map-map}
use native.Mathlib.Nat.{zero-mod}
use Rattle.std.proofs.ByRecursion.{All-weaker}
use Rattle.std.proofs.lemmas.Bool.Decides.{nat_tests}
use Rattle.theory.specs.Settings.{total, held, later, steps}
use Rattle.theory.specs.Records.{Timer, Record, timer_of, record_of, edge, count, timer_at, wait}
use Rattle.theory.proofs.Totals.{position, position_total, position_zero, total_shift, total_same, total_suc, total_lt, div_from, mod_from}
use Rattle.theory.proofs.Held.{map_same, all_unmap, all_held, held_bit, held_later, held_later_zero, later_later, later_zero}

-- the count of a timer with x ticks, whether or not there is one
abbrev pub place : ℕ → List ℕ → ℕ → ℕ
place D v x = 2 * position (held D v) D x + (1 - held D v 0)

pub steps_zero : (D : ℕ) (v : List ℕ) → steps D v 0 ≡ 0
unfolding steps
steps_zero D v = refl

pub steps_suc : (D : ℕ) (v : List ℕ) (t : ℕ) → steps D v (suc t) ≡ steps D v t + (held D (later t v) (D - 1) + held D (later t v) 0)
unfolding steps
steps_suc D v t = refl

pub position_later : (D : ℕ) (v : List ℕ) (x : ℕ) → 1 ≤ D → position (held D (later 1 v)) D (suc x) ≡ held D v (D - 1) + position (held D v) D x
position_later D v x d =
    omega (arith, position_total (held D (later 1 v)) D (suc x) d, position_total (held D v) D x d, total_shift (λ y. held D (later 1 v) (y % D)) x, held_later_zero D v d, ap (held D (later 1 v)) (zero-mod D), total_same (λ y. held D (later 1 v) (suc y % D)) (λ y. held D v (y % D)) x (λ y h. held_later D v y d))

-- one tick adds to every count what it crosses
pub one_tick_adds : (D : ℕ) (v : List ℕ) (x : ℕ) → 1 ≤ D → place D (later 1 v) (suc x) ≡ place D v x + (held D v (D - 1) + held D v 0)
one_tick_adds D v x d =
    omega (arith, position_later D v x d, held_later_zero D v d, held_bit D v (D - 1), held_bit D v 0)

pub later_suc : (t : ℕ) (v : List ℕ) → later 1 (later t v) ≡ later (suc t) v
later_suc t v = later_later 1 t v ∙ ap (λ z. later z v) e
  where
    e : t + 1 ≡ suc t
    e = omega arith

-- t ticks add to every count the steps that they cross
pub ticks_add : (D : ℕ) (v : List ℕ) (t x : ℕ) → 1 ≤ D → place D (later t v) (x + t) ≡ place D v x + steps D v t
ticks_add D v zero x d = ap₂ (place D) (later_zero v) e ∙ f
  where
    e : x + 0 ≡ x
    e = omega arith

    f : place D v x ≡ place D v x + steps D v 0
    f = omega (arith, steps_zero D v)
ticks_add D v (suc t) x d =
    ap₂ (place D) (sym (later_suc t v)) e ∙ (one_tick_adds D (later t v) (x + t) d ∙ go (ticks_add D v t x d))
  where
    e : x + suc t ≡ suc (x + t)
    e = omega arith

    go : place D (later t v) (x + t) ≡ place D v x + steps D v t → place D (later t v) (x + t) + (held D (later t v) (D - 1) + held D (later t v) 0) ≡ place D v x + steps D v (suc t)
    go h = omega (arith, steps_suc D v t)

pub classes_one_later : (D : ℕ) (v : List ℕ) → 1 ≤ D → total (held D (later 1 v)) D ≡ total (held D v) D
classes_one_later zero v d = absurd (omega arith)
classes_one_later (suc E) v d =
    omega (arith, total_shift (held (suc E) (later 1 v)) E, total_suc (held (suc E) v) E, first, total_same (λ x. held (suc E) (later 1 v) (suc x)) (held (suc E) v) E rest)
  where
    e : suc E - 1 ≡ E
    e = omega arith

    first : held (suc E) (later 1 v) 0 ≡ held (suc E) v E
    first = held_later_zero (suc E) v d ∙ ap (held (suc E) v) e

    rest : (x : ℕ) → x < E → held (suc E) (later 1 v) (suc x) ≡ held (suc E) v x
    rest x h =
        ap (held (suc E) (later 1 v)) (sym (mod-eq_of_lt s)) ∙ (held_later (suc E) v x d ∙ ap (held (suc E) v) (mod-eq_of_lt l))
      where
        s : suc x < suc E
        s = omega arith

        l : x < suc E
        l = omega arith

pub classes_later : (D : ℕ) (v : List ℕ) (t : ℕ) → 1 ≤ D → total (held D (later t v)) D ≡ total (held D v) D
classes_later D v zero d = ap (λ w. total (held D w) D) (later_zero v)
classes_later D v (suc t) d =
    ap (λ w. total (held D w) D) (sym (later_suc t v)) ∙ (classes_one_later D (later t v) d ∙ classes_later D v t d)

-- records with the same parts are the same
pub same_record : (r s : Record) → r.whole ≡ s.whole → r.classes ≡ s.classes → r.timers ≡ s.timers → r ≡ s
same_record r s p q z = λ i. record { whole = p i; classes = q i; timers = z i }

pub same_timer : (t s : Timer) → t.seconds ≡ s.seconds → t.rank ≡ s.rank → t ≡ s
same_timer t s p q = λ i. record { seconds = p i; rank = q i }

pub wait_whole : (d : ℕ) (r : Record) → (wait d r).whole ≡ eqb ((edge r + d) % 2) 0
unfolding wait
wait_whole d r = refl

pub wait_classes : (d : ℕ) (r : Record) → (wait d r).classes ≡ r.classes
unfolding wait
wait_classes d r = refl

pub wait_timers : (d : ℕ) (r : Record) → (wait d r).timers ≡ map (λ t. timer_at r.classes (count r t + d)) r.timers
unfolding wait
wait_timers d r = refl

-- a count splits into seconds, rank and edge in just one way
pub seconds_from_count : (k s j e : ℕ) → j < k → e ≤ 1 → (2 * k * s + 2 * j + e) / (2 * k) ≡ s
seconds_from_count k s j e h l = div_from (2 * k) s (2 * j + e) (2 * k * s + 2 * j + e) (omega arith) (omega arith)

pub rank_from_count : (k s j e : ℕ) → j < k → e ≤ 1 → (2 * k * s + 2 * j + e) % (2 * k) / 2 ≡ j
rank_from_count k s j e h l =
    ap (λ z. z / 2) (mod_from (2 * k) s (2 * j + e) (2 * k * s + 2 * j + e) (omega arith) (omega arith)) ∙ half
  where
    half : (2 * j + e) / 2 ≡ j
    half = omega arith

pub timer_from_count : (k s j e u : ℕ) → j < k → e ≤ 1 → u ≡ 2 * k * s + 2 * j + e → timer_at k u ≡ record { seconds = s; rank = j }
timer_from_count k s j e u h l p =
    ap (timer_at k) p ∙ same_timer (timer_at k (2 * k * s + 2 * j + e)) (record { seconds = s; rank = j }) (seconds_from_count k s j e h l) (rank_from_count k s j e h l)

pub edge_of : (D : ℕ) (v : List ℕ) → edge (record_of D v) ≡ 1 - held D v 0
edge_of D v = go (held D v 0) (held_bit D v 0)
  where
    go : (n : ℕ) → n ≤ 1 → cond (eqb n 1) 0 1 ≡ 1 - n
    go n h = grind (arith, nat_tests)

pub count_of : (D : ℕ) (v : List ℕ) (c : ℕ) → count (record_of D v) (timer_of D v c) ≡ place D v c
count_of D v c = omega (arith, edge_of D v)

-- the rank of a held remainder is below the number of classes
pub rank_below : (D : ℕ) (v : List ℕ) (c : ℕ) → 1 ≤ D → held D v (c % D) ≡ 1 → total (held D v) (c % D) < total (held D v) D
rank_below D v c d h = total_lt (held D v) (c % D) D (mod-lt c d) h

pub timer_of_place : (D : ℕ) (v : List ℕ) (c : ℕ) → 1 ≤ D → held D v (c % D) ≡ 1 → timer_of D v c ≡ timer_at (total (held D v) D) (place D v c)
timer_of_place D v c d h =
    sym (timer_from_count (total (held D v) D) (c / D) (total (held D v) (c % D)) (1 - held D v 0) (place D v c) (rank_below D v c d h) (omega arith) (omega arith))

pub wait_of_timers : (d D : ℕ) (v : List ℕ) → (wait d (record_of D v)).timers ≡ map (λ c. timer_at (total (held D v) D) (place D v c + d)) v
wait_of_timers d D v =
    wait_timers d (record_of D v) ∙ (map-map (λ t. timer_at (total (held D v) D) (count (record_of D v) t + d)) (timer_of D v) v ∙ (λ i. map (λ c. timer_at (total (held D v) D) (count_of D v c i + d)) v))

-- whether a timer stands at a whole second turns with each step
pub whole_later : (D : ℕ) (v : List ℕ) (t : ℕ) → 1 ≤ D → (edge (record_of D v) + steps D v t) % 2 ≡ 1 - held D (later t v) 0
whole_later D v t d =
    omega (arith, edge_of D v, ticks_add D v t 0 d, ap (place D (later t v)) e, position_zero (held D v) D d)
  where
    e : 0 + t ≡ t
    e = omega arith

-- t ticks are a wait of the steps that they cross
pub ticks_are_a_wait : (D : ℕ) (v : List ℕ) → 1 ≤ D → (t : ℕ) → record_of D (later t v) ≡ wait (steps D v t) (record_of D v)
ticks_are_a_wait D v d t =
    same_record (record_of D (later t v)) (wait (steps D v t) (record_of D v)) whole_is (classes_later D v t d ∙ sym (wait_classes (steps D v t) (record_of D v))) timers_are
  where
    bit : (n m : ℕ) → n ≤ 1 → m ≡ 1 - n → eqb n 1 ≡ eqb m 0
    bit n m h e = grind (arith, nat_tests)

    whole_is : eqb (held D (later t v) 0) 1 ≡ (wait (steps D v t) (record_of D v)).whole
    whole_is =
        bit (held D (later t v) 0) ((edge (record_of D v) + steps D v t) % 2) (held_bit D (later t v) 0) (whole_later D v t d) ∙ sym (wait_whole (steps D v t) (record_of D v))

    one : (c : ℕ) → held D (later t v) ((c + t) % D) ≡ 1 → timer_of D (later t v) (c + t) ≡ timer_at (total (held D v) D) (place D v c + steps D v t)
    one c h =
        timer_of_place D (later t v) (c + t) d h ∙ ap₂ timer_at (classes_later D v t d) (ticks_add D v t c d)

    timers_are : map (timer_of D (later t v)) (later t v) ≡ (wait (steps D v t) (record_of D v)).timers
    timers_are =
        map-map (timer_of D (later t v)) (λ c. c + t) v ∙ (map_same (λ c. timer_of D (later t v) (c + t)) (λ c. timer_at (total (held D v) D) (place D v c + steps D v t)) v (All-weaker (λ c. held D (later t v) ((c + t) % D) ≡ 1) (λ c. timer_of D (later t v) (c + t) ≡ timer_at (total (held D v) D) (place D v c + steps D v t)) one v (all_unmap (λ c. held D (later t v) (c % D) ≡ 1) (λ c. c + t) v (all_held D (later t v)))) ∙ sym (wait_of_timers (steps D v t) D v))

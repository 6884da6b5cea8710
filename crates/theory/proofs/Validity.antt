-- The valid records are the records of settings.
use Rattle.std.proofs.Common.{◌≡◌, ℕ, zero, suc, ◌+◌, ◌-◌, ◌*◌, ◌/◌, ◌%◌, ◌<◌, ◌≤◌, Bool, true, false, cond, eqb, ◌⊎◌, List, map, length, get_or, sym, ap, ◌∙◌, subst, ap₂, inl, inr, arith}
use mathlib.Core.List.{map-map}
use lib.ListN.{length-map}
use Rattle.std.specs.List.{AllByRecursion}
use Rattle.std.proofs.lemmas.List.{get_or-map}
use Rattle.std.proofs.ByRecursion.{All-map, All-weaker, All-from_get_or}
use Rattle.std.proofs.lemmas.Bool.{cases_lt, cases_Bool}
use Rattle.std.proofs.lemmas.List.Elements.{All-from_recursion}
use Rattle.std.proofs.lemmas.List.Folds.{map_fixed}
use Rattle.theory.specs.Settings.{total, held, later, finer, reach, cleared}
use Rattle.theory.specs.Records.{Timer, Record, Valid, record_of, record_in, timer_of, timer_no, fresh, edge, count, wait, reset}
use Rattle.theory.proofs.Totals.{total_zero, total_suc, mod_from, div_from}
use Rattle.theory.proofs.Held.{held_at, held_by_some, held_bit, held_none}
use Rattle.theory.proofs.Waits.{same_record, same_timer, rank_below}
use Rattle.theory.proofs.Counts.{edge_bit}
use Rattle.theory.proofs.Moments.{some_class_of, every_wait_in_half_ticks, moments_are_waits}
use Rattle.theory.proofs.Order.{timer_of_record}
use Rattle.theory.proofs.Resets.{record_of_cleared, length_marked}

-- every number below a sum of zeros and ones is the sum up to a one
pub total_at : (f : ℕ → ℕ) → ((x : ℕ) → f x ≤ 1) → (y j : ℕ) → j < total f y → (x : ℕ) × (x < y) × (f x ≡ 1) × (total f x ≡ j)
total_at f b zero j h = absurd (omega (arith, total_zero f))
total_at f b (suc y) j h = go (cases_lt j (total f y)) (total_at f b y j)
  where
    go : (j < total f y) ⊎ (total f y ≤ j) → (j < total f y → (x : ℕ) × (x < y) × (f x ≡ 1) × (total f x ≡ j)) → (x : ℕ) × (x < suc y) × (f x ≡ 1) × (total f x ≡ j)
    go (inl l) r = let w = r l in (w.0, omega (arith, w.1), w.2, w.3)
    go (inr g) r =
        (y, omega arith, omega (arith, total_suc f y, b y), omega (arith, total_suc f y, b y))

pub length_of : (D : ℕ) (v : List ℕ) → length (record_of D v).timers ≡ length v
length_of D v = length-map v (timer_of D v)

pub ranks_below_of : (D : ℕ) (v : List ℕ) → 1 ≤ D → (i : ℕ) → i < length v → (timer_no (record_of D v) i).rank < (record_of D v).classes
ranks_below_of D v d i h =
    subst (λ t. t.rank < total (held D v) D) (sym (timer_of_record D v i h)) (rank_below D v (get_or v i 0) d (held_at D v i h))

pub ranks_held_of : (D : ℕ) (v : List ℕ) (j : ℕ) → j < (record_of D v).classes → (i : ℕ) × (i < length v) × ((timer_no (record_of D v) i).rank ≡ j)
ranks_held_of D v j h = (w.0, w.1, ap (λ t. t.rank) (timer_of_record D v w.0 w.1) ∙ (ap (total (held D v)) w.2 ∙ x.3))
  where
    x : (x : ℕ) × (x < D) × (held D v x ≡ 1) × (total (held D v) x ≡ j)
    x = total_at (held D v) (held_bit D v) D j h

    w : (i : ℕ) × (i < length v) × (get_or v i 0 % D ≡ x.0)
    w = held_by_some D v x.0 x.2

-- the record of a setting is valid
pub record_of_is_valid : (D : ℕ) (v : List ℕ) → 1 ≤ D → 1 ≤ length v → Valid (record_of D v)
record_of_is_valid D v d h =
    record {
      some_class = some_class_of D v d h;
      ranks_below = λ i l. ranks_below_of D v d i (omega (arith, length_of D v));
      ranks_held = λ j l. let w = ranks_held_of D v j l in (w.0, omega (arith, w.1, length_of D v), w.2);
    }

pub ranks_below_all : (r : Record) → Valid r → AllByRecursion (λ t. t.rank < r.classes) r.timers
ranks_below_all r ok = All-from_get_or (λ t. t.rank < r.classes) r.timers fresh ok.ranks_below

-- the ticks of a record: its counts, at two ticks for each class
abbrev pub ticks_of : Record → List ℕ
ticks_of r = map (count r) r.timers

pub ticks_mod : (r : Record) (t : Timer) → t.rank < r.classes → count r t % (2 * r.classes) ≡ 2 * t.rank + edge r
ticks_mod r t h =
    mod_from (2 * r.classes) t.seconds (2 * t.rank + edge r) (count r t) (omega (arith, edge_bit r)) (omega arith)

pub ticks_div : (r : Record) (t : Timer) → t.rank < r.classes → count r t / (2 * r.classes) ≡ t.seconds
ticks_div r t h =
    div_from (2 * r.classes) t.seconds (2 * t.rank + edge r) (count r t) (omega (arith, edge_bit r)) (omega arith)

pub ticks_held : (r : Record) → Valid r → (j : ℕ) → j < r.classes → held (2 * r.classes) (ticks_of r) (2 * j + edge r) ≡ 1
ticks_held r ok j h = ap (held (2 * r.classes) (ticks_of r)) (sym at) ∙ held_at (2 * r.classes) (ticks_of r) w.0 (omega (arith, length-map r.timers (count r), w.1))
  where
    w : (i : ℕ) × (i < length r.timers) × ((timer_no r i).rank ≡ j)
    w = ok.ranks_held j h

    at : get_or (ticks_of r) w.0 0 % (2 * r.classes) ≡ 2 * j + edge r
    at =
        ap (λ c. c % (2 * r.classes)) (get_or-map (count r) r.timers w.0 fresh 0 w.1) ∙ (ticks_mod r (timer_no r w.0) (ok.ranks_below w.0 w.1) ∙ ap (λ n. 2 * n + edge r) w.2)

pub ticks_not_held : (r : Record) → Valid r → (j : ℕ) → held (2 * r.classes) (ticks_of r) (2 * j + (1 - edge r)) ≡ 0
ticks_not_held r ok j =
    held_none (2 * r.classes) (ticks_of r) (2 * j + (1 - edge r)) (All-map (λ c. c % (2 * r.classes) ≡ 2 * j + (1 - edge r) → ⊥) (count r) r.timers (All-weaker (λ t. t.rank < r.classes) (λ t. count r t % (2 * r.classes) ≡ 2 * j + (1 - edge r) → ⊥) each r.timers (ranks_below_all r ok)))
  where
    each : (t : Timer) → t.rank < r.classes → count r t % (2 * r.classes) ≡ 2 * j + (1 - edge r) → ⊥
    each t h e = omega (arith, ticks_mod r t h, edge_bit r)

pub edge_cases : (r : Record) → ((r.whole ≡ true) × (edge r ≡ 0)) ⊎ ((r.whole ≡ false) × (edge r ≡ 1))
edge_cases r = go (cases_Bool r.whole)
  where
    go : (r.whole ≡ true) ⊎ (r.whole ≡ false) → ((r.whole ≡ true) × (edge r ≡ 0)) ⊎ ((r.whole ≡ false) × (edge r ≡ 1))
    go (inl e) = inl (e, ap (λ b. cond b 0 1) e)
    go (inr e) = inr (e, ap (λ b. cond b 0 1) e)

pub ticks_total : (r : Record) → Valid r → (y : ℕ) → y ≤ r.classes → total (held (2 * r.classes) (ticks_of r)) (2 * y) ≡ y
ticks_total r ok zero h = ap (total f) e ∙ total_zero f
  where
    f : ℕ → ℕ
    f = held (2 * r.classes) (ticks_of r)

    e : 2 * 0 ≡ 0
    e = omega arith
ticks_total r ok (suc y) h = go (edge_cases r) (ticks_total r ok y (omega arith))
  where
    f : ℕ → ℕ
    f = held (2 * r.classes) (ticks_of r)

    twice : 2 * suc y ≡ suc (suc (2 * y))
    twice = omega arith

    one : 2 * y + 1 ≡ suc (2 * y)
    one = omega arith

    none : 2 * y + 0 ≡ 2 * y
    none = omega arith

    full : f (2 * y + edge r) ≡ 1
    full = ticks_held r ok y (omega arith)

    empty : f (2 * y + (1 - edge r)) ≡ 0
    empty = ticks_not_held r ok y

    go : ((r.whole ≡ true) × (edge r ≡ 0)) ⊎ ((r.whole ≡ false) × (edge r ≡ 1)) → total f (2 * y) ≡ y → total f (2 * suc y) ≡ suc y
    go (inl e) k =
        omega (arith, ap (total f) twice, total_suc f (suc (2 * y)), total_suc f (2 * y), full, empty, ap (λ n. f (2 * y + n)) e.1, ap f none, ap (λ n. f (2 * y + (1 - n))) e.1, ap f one)
    go (inr e) k =
        omega (arith, ap (total f) twice, total_suc f (suc (2 * y)), total_suc f (2 * y), full, empty, ap (λ n. f (2 * y + n)) e.1, ap f none, ap (λ n. f (2 * y + (1 - n))) e.1, ap f one)

pub ticks_rank : (r : Record) → Valid r → (j : ℕ) → j < r.classes → total (held (2 * r.classes) (ticks_of r)) (2 * j + edge r) ≡ j
ticks_rank r ok j h = go (edge_cases r)
  where
    f : ℕ → ℕ
    f = held (2 * r.classes) (ticks_of r)

    one : 2 * j + 1 ≡ suc (2 * j)
    one = omega arith

    none : 2 * j + 0 ≡ 2 * j
    none = omega arith

    go : ((r.whole ≡ true) × (edge r ≡ 0)) ⊎ ((r.whole ≡ false) × (edge r ≡ 1)) → total f (2 * j + edge r) ≡ j
    go (inl e) =
        omega (arith, ap (λ n. total f (2 * j + n)) e.1, ap (total f) none, ticks_total r ok j (omega arith))
    go (inr e) =
        omega (arith, ap (λ n. total f (2 * j + n)) e.1, ap (total f) one, total_suc f (2 * j), ticks_total r ok j (omega arith), ticks_not_held r ok j, ap (λ n. f (2 * j + (1 - n))) e.1, ap f none)

pub ticks_whole : (r : Record) → Valid r → eqb (held (2 * r.classes) (ticks_of r) 0) 1 ≡ r.whole
ticks_whole r ok = go (edge_cases r)
  where
    f : ℕ → ℕ
    f = held (2 * r.classes) (ticks_of r)

    go : ((r.whole ≡ true) × (edge r ≡ 0)) ⊎ ((r.whole ≡ false) × (edge r ≡ 1)) → eqb (f 0) 1 ≡ r.whole
    go (inl e) = ap (λ n. eqb n 1) at ∙ sym e.0
      where
        at : f 0 ≡ 1
        at = ap (λ n. f (2 * 0 + n)) (sym e.1) ∙ ticks_held r ok 0 ok.some_class
    go (inr e) = ap (λ n. eqb n 1) at ∙ sym e.0
      where
        at : f 0 ≡ 0
        at = ap (λ n. f (2 * 0 + (1 - n))) (sym e.1) ∙ ticks_not_held r ok 0

-- a valid record is the record of its counts
pub valid_is_of_its_counts : (r : Record) → Valid r → record_of (2 * r.classes) (ticks_of r) ≡ r
valid_is_of_its_counts r ok =
    same_record (record_of (2 * r.classes) (ticks_of r)) r (ticks_whole r ok) (ticks_total r ok r.classes (omega arith)) (map-map (timer_of (2 * r.classes) (ticks_of r)) (count r) r.timers ∙ map_fixed (λ t. timer_of (2 * r.classes) (ticks_of r) (count r t)) r.timers (All-from_recursion _ r.timers (All-weaker (λ t. t.rank < r.classes) (λ t. timer_of (2 * r.classes) (ticks_of r) (count r t) ≡ t) each r.timers (ranks_below_all r ok))))
  where
    each : (t : Timer) → t.rank < r.classes → timer_of (2 * r.classes) (ticks_of r) (count r t) ≡ t
    each t h =
        same_timer (timer_of (2 * r.classes) (ticks_of r) (count r t)) t (ticks_div r t h) (ap (total (held (2 * r.classes) (ticks_of r))) (ticks_mod r t h) ∙ ticks_rank r ok t.rank h)

pub some_timer : (r : Record) → Valid r → 1 ≤ length r.timers
some_timer r ok = omega (arith, (ok.ranks_held 0 ok.some_class).1)

-- every valid record is the record of a setting
pub valid_is_of_a_setting : (r : Record) → Valid r → (D : ℕ) × (v : List ℕ) × (1 ≤ D) × (1 ≤ length v) × (record_of D v ≡ r)
valid_is_of_a_setting r ok =
    (2 * r.classes, ticks_of r, omega (arith, ok.some_class), omega (arith, some_timer r ok, length-map r.timers (count r)), valid_is_of_its_counts r ok)

-- a wait leads from a valid record to a valid one
pub wait_keeps_valid : (d : ℕ) (r : Record) → Valid r → Valid (wait d r)
wait_keeps_valid d r ok = subst Valid same (record_of_is_valid (2 * F) (later w.0 (finer 2 (ticks_of r))) (omega (arith, fine)) (omega (arith, some, length-map (finer 2 (ticks_of r)) (λ c. c + w.0), length-map (ticks_of r) (λ c. 2 * c))))
  where
    F : ℕ
    F = 2 * r.classes

    fine : 1 ≤ F
    fine = omega (arith, ok.some_class)

    some : 1 ≤ length (ticks_of r)
    some = omega (arith, some_timer r ok, length-map r.timers (count r))

    w : (p : ℕ) × (reach F (ticks_of r) p 2 ≡ d)
    w = every_wait_in_half_ticks F (ticks_of r) fine some d

    same : record_in F (ticks_of r) w.0 2 ≡ wait d r
    same = moments_are_waits F (ticks_of r) fine w.0 2 (omega arith) ∙ ap₂ wait w.1 (valid_is_of_its_counts r ok)

-- a reset leads from a valid record to a valid one
pub reset_keeps_valid : (marks : List Bool) (r : Record) → length marks ≡ length r.timers → Valid r → Valid (reset marks r)
reset_keeps_valid marks r l ok = subst Valid same (record_of_is_valid (2 * r.classes) (cleared marks (ticks_of r)) fine (omega (arith, length_marked 0 (λ c. c) marks (ticks_of r), some_timer r ok, length-map r.timers (count r))))
  where
    fine : 1 ≤ 2 * r.classes
    fine = omega (arith, ok.some_class)

    same : record_of (2 * r.classes) (cleared marks (ticks_of r)) ≡ reset marks r
    same = record_of_cleared (2 * r.classes) (ticks_of r) marks fine (l ∙ sym (length-map r.timers (count r))) ∙ ap (reset marks) (valid_is_of_its_counts r ok)

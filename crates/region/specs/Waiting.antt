-- When a wait is refused, and what a wait leads to.
use Rattle.std.specs.Prelude.{ℕ, zero, suc, ◌+◌, ◌*◌, ◌/◌, ◌%◌, ◌<◌, ◌≤◌, Bool, false, cond, ◌||◌, List, length, Ok, Err, Result, nat_lt, slice_index_or}
use Rattle.rows.specs.declared.refusal.Refusal.{Refusal}
use Rattle.rows.specs.declared.tables.TimerRow.{TimerRow}
use Rattle.rows.specs.Refusals.{refusal_no}
use Rattle.theory.specs.Records.{Record, count, timer_no, wait}
use Rattle.region.specs.declared.value.TimerValue.{TimerValue}

-- the seconds that timer i never passes; a timer for which none are given stays at zero
abbrev pub ceiling_no : List TimerRow → ℕ → ℕ
ceiling_no ceilings i = (slice_index_or ceilings i (record { ceiling = 0 })).ceiling

-- true if timer i would stand past its ceiling d steps from now
abbrev pub passes_at : List TimerRow → ℕ → Record → ℕ → Bool
passes_at ceilings d r i = nat_lt (2 * r.classes * ceiling_no ceilings i) (count r (timer_no r i) + d)

-- true if one of the first n timers would stand past its ceiling
unfoldable pub passes_below : List TimerRow → ℕ → Record → ℕ → Bool
passes_below ceilings d r zero = false
passes_below ceilings d r (suc n) = passes_at ceilings d r n || passes_below ceilings d r n

-- true if some timer would stand past its ceiling d steps from now
abbrev pub passes : List TimerRow → ℕ → Record → Bool
passes ceilings d r = passes_below ceilings d r (length r.timers)

-- some timer would stand past its ceiling d steps from now
abbrev pub PastACeiling : List TimerRow → ℕ → Record → Type 0
PastACeiling ceilings d r =
    (i : ℕ) × (i < length r.timers) × (2 * r.classes * ceiling_no ceilings i < count r (timer_no r i) + d)

-- d steps from now every timer stands at 65535 seconds at the most, which its row can say
abbrev pub InTime : ℕ → Record → Type 0
InTime d r = (i : ℕ) → i < length r.timers → count r (timer_no r i) + d ≤ 2 * r.classes * 65535

-- what a wait of d steps answers, and the record after it: one past a ceiling is refused and alters nothing
abbrev pub waited : List TimerRow → ℕ → Record → Result (Unit {0}) Refusal × Record
waited ceilings d r = cond (passes ceilings d r) (Err (refusal_no 10), r) (Ok tt, wait d r)

-- the row of a timer that stands u steps after zero among k classes
abbrev pub row_at : ℕ → ℕ → TimerValue
row_at k u = record { seconds = u / (2 * k); rank = u % (2 * k) / 2 }

-- What a region tells of its timers, and when two regions tell the same.
use Rattle.std.specs.Prelude.{ℕ, min, max, cond, List, length, take, Some, None, Option, nat_lt, slice_index_or}
use Rattle.theory.specs.Records.{Record, count, timer_no}
use Rattle.region.specs.declared.value.TimerValue.{TimerValue}
use Rattle.region.specs.declared.Region.{Region}
use Rattle.region.specs.Views.{blank}

-- how many timers a region has room for: at least one, and at most sixteen
abbrev pub timers_for : ℕ → ℕ
timers_for n = min 16 (max 1 n)

-- the count of timer i, if there is such a timer
abbrev pub count_no : Record → ℕ → Option ℕ
count_no r i = cond (nat_lt i (length r.timers)) (Some (count r (timer_no r i))) None

-- the row of timer i, if there is such a timer
abbrev pub row_no : Region → ℕ → Option TimerValue
row_no r i = cond (nat_lt i r.number) (Some (slice_index_or r.rows i blank)) None

-- the rows of the timers that a region has
abbrev pub values_in : Region → List TimerValue
values_in r = take r.number r.rows

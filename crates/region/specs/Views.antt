-- The rows of a region, read as timers and as a record of them.
use Rattle.std.specs.Prelude.{ℕ, Bool, List, map, take}
use Rattle.theory.specs.Records.{Timer, Record}
use Rattle.region.specs.declared.value.TimerValue.{TimerValue}

-- the timer that a row stands for
abbrev pub timer_in : TimerValue → Timer
timer_in row = record { seconds = row.seconds; rank = row.rank }

-- a row at zero, as every row is that no timer has
abbrev pub blank : TimerValue
blank = record { seconds = 0; rank = 0 }

-- the record that the first n rows show
abbrev pub record_in : Bool → ℕ → ℕ → List TimerValue → Record
record_in is_whole k n shown = record { whole = is_whole; classes = k; timers = map timer_in (take n shown) }

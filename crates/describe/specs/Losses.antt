-- Runs that neither reach nor fail: those that are stuck or unfinished.
use Rattle.std.specs.Prelude.{◌≡◌, ℕ, ◌+◌, ◌*◌, Bool, List, [], ◌++◌, Some, None, Option, cond, count_by, MatchOption, length, map, nat_lt, slice_get}
use Rattle.std.specs.List.{IsFirstBest}
use Rattle.batch.specs.declared.BatchRow.{BatchRow}
use Rattle.describe.specs.declared.losses.Beside.{Beside}
use Rattle.describe.specs.declared.losses.Loss.{Loss}
use Rattle.describe.specs.declared.losses.Named.{Named}
use Rattle.describe.specs.declared.losses.Named.TheVariants as named
use Rattle.schedulers.specs.declared.chooser.Chooser.{Chooser}
use Rattle.schedulers.specs.declared.chooser.Chooser.TheVariants as chooser

-- more than 1 in 100 of the runs are lost
abbrev pub warns : ℕ → ℕ → Bool
warns lost runs = nat_lt runs (lost * 100)

-- the scheduler of that name
abbrev pub chooser_of : Named → Chooser
chooser_of named.Earliest = chooser.Earliest
chooser_of named.Latest = chooser.Latest

-- how many runs of a sampled scheduler are lost
abbrev pub loss_of_row : BatchRow → Loss
loss_of_row row = record { by = chooser.Sampled row.identifier; runs = row.stuck + row.unfinished }

-- how many runs of a scheduler beside them are lost
abbrev pub loss_beside : Beside → Loss
loss_beside b = record { by = chooser_of b.name; runs = b.tally.stuck + b.tally.unfinished }

-- what each scheduler loses: first the sampled ones, then those beside them
abbrev pub losses_of : List BatchRow → List Beside → List Loss
losses_of rows beside = map loss_of_row rows ++ map loss_beside beside

-- the greater of two losses, the first of equals
abbrev pub greater_of : Option Loss → Loss → Option Loss
greater_of None next = Some next
greater_of (Some l) next = cond (nat_lt l.runs next.runs) (Some next) (Some l)

-- the first loses more runs than the second
abbrev pub loses_more : Loss → Loss → Bool
loses_more a b = nat_lt b.runs a.runs

-- the first loss that no other is greater than; none of no losses
abbrev pub IsGreatest : List Loss → Option Loss → Type 0
IsGreatest losses most =
    MatchOption most (losses ≡ []) (λ l. (i : ℕ) × IsFirstBest loses_more losses (length losses) i × (slice_get losses i ≡ Some l))

-- how many of the losses are of more than 1 in 100 of so many runs
abbrev pub warned_of : ℕ → List Loss → ℕ
warned_of runs losses = count_by (λ l. warns l.runs runs) losses

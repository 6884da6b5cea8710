-- What tables with memory of their own hold.
use Rattle.std.specs.Prelude.{replicate}
use Rattle.reader.specs.declared.owned.OwnedTables.{OwnedTables}
use Rattle.reader.specs.Gathered.{rows_held}
use Rattle.rows.specs.declared.section.Counts.{Counts}
use Rattle.rows.specs.Plans.{PlanRows}

-- the rows of the six tables
abbrev pub owned_in : OwnedTables → PlanRows
owned_in t =
    rows_held t.timers.items t.comparisons.items t.stages.items t.changes.items t.outcomes.items t.goals.items

-- tables of as many rows as are counted, with 0 for every number in them
abbrev pub zero_rows : Counts → PlanRows
zero_rows n =
    rows_held
    (replicate n.timers (record { ceiling = 0 }))
    (replicate n.comparisons (record { kind = 0; first = 0; second = 0; filler = 0; constant = 0 }))
    (replicate n.stages (record { mark = 0; first_hold = 0; holds = 0; first_change = 0; changes = 0 }))
    (replicate n.changes (record { first_guard = 0; guards = 0; first_outcome = 0; outcomes = 0 }))
    (replicate n.outcomes (record { weight = 0; stage = 0; resets = 0 }))
    (replicate n.goals (record { first = 0; comparisons = 0 }))

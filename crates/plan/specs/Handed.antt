-- What handed tables hold.
use Rattle.plan.specs.declared.handed.Tables.{Tables}
use Rattle.plan.specs.declared.handed.Handed.{Handed}
use Rattle.std.specs.Prelude.{Option}
use Rattle.rows.specs.declared.fault.Fault.{Fault}
use Rattle.rows.specs.Plans.{PlanRows, counts_of, front}
use Rattle.rows.specs.Verdicts.{tables_fault}

-- the rows of the six tables
abbrev pub held_by : Tables → PlanRows
held_by t = record { timers = t.timers.now; comparisons = t.comparisons.now; stages = t.stages.now; changes = t.changes.now; outcomes = t.outcomes.now; goals = t.goals.now }

-- the rows of handed tables that are counted, as far as there are any
abbrev pub counted_in : Handed → PlanRows
counted_in h = front h.counts (held_by h.tables)

-- the first rule that handed tables break, if they break any: the counts first, then the rows
abbrev pub fault_in : Handed → Option Fault
fault_in h = tables_fault (counts_of (held_by h.tables)) h.counts (counted_in h)

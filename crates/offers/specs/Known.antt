-- The plan that a checked plan's tables hold.
use Rattle.std.specs.Prelude.{ℕ, List, map}
use Rattle.plan.specs.Handed.{held_by}
use Rattle.rows.specs.declared.tables.TimerRow.{TimerRow}
use Rattle.rows.specs.Plans.{PlanRows}
use Rattle.runs.specs.Plans as runs
use Rattle.runs.specs.Tables.{plan_in}
use Rattle.offers.specs.declared.sound_plan.Plan.{Plan}

-- the rows of a plan
abbrev pub rows_of : Plan → PlanRows
rows_of plan = held_by plan.rows

-- the plan in those rows
abbrev pub plan_of : Plan → runs.Plan
plan_of plan = plan_in (rows_of plan)

-- the ceilings of some timers
abbrev pub ceilings_in : List TimerRow → List ℕ
ceilings_in timers = map (λ t. t.ceiling) timers

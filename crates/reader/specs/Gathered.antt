-- What tables that are to be filled hold.
use Rattle.std.specs.Borrow.{MutBor}
use Rattle.std.specs.Prelude.{List}
use Rattle.reader.specs.declared.read.TablesMut.{TablesMut}
use Rattle.rows.specs.declared.tables.TimerRow.{TimerRow}
use Rattle.rows.specs.declared.tables.ComparisonRow.{ComparisonRow}
use Rattle.rows.specs.declared.tables.StageRow.{StageRow}
use Rattle.rows.specs.declared.tables.ChangeRow.{ChangeRow}
use Rattle.rows.specs.declared.tables.OutcomeRow.{OutcomeRow}
use Rattle.rows.specs.declared.tables.GoalRow.{GoalRow}
use Rattle.rows.specs.Plans.{PlanRows}

-- the rows of six tables
abbrev pub rows_held : List TimerRow → List ComparisonRow → List StageRow → List ChangeRow → List OutcomeRow → List GoalRow → PlanRows
rows_held timers comparisons stages changes outcomes goals =
    record { timers = timers; comparisons = comparisons; stages = stages; changes = changes; outcomes = outcomes; goals = goals }

-- the rows that the handed tables hold when the call ends
abbrev pub left_in : MutBor (List TimerRow) × (MutBor (List ComparisonRow) × (MutBor (List StageRow) × (MutBor (List ChangeRow) × (MutBor (List OutcomeRow) × (MutBor (List GoalRow) × Unit {0}))))) → PlanRows
left_in t =
    rows_held t.0.now t.1.0.now t.1.1.0.now t.1.1.1.0.now t.1.1.1.1.0.now t.1.1.1.1.1.0.now

-- the rows that the handed tables hold when the call begins
abbrev pub gathered : TablesMut → PlanRows
gathered t =
    rows_held t.timers.now t.comparisons.now t.stages.now t.changes.now t.outcomes.now t.goals.now

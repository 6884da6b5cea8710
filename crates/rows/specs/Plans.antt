-- A plan as lists of rows, and the file it is kept in.
use Rattle.std.specs.Prelude.{ℕ, ◌/◌, ◌%◌, List, [], ◌∷◌, ◌++◌, length, take, drop}
use Rattle.std.specs.List.{flat_map}
use Rattle.rows.specs.declared.section.Counts.{Counts}
use Rattle.rows.specs.declared.tables.TimerRow.{TimerRow}
use Rattle.rows.specs.declared.tables.ComparisonRow.{ComparisonRow}
use Rattle.rows.specs.declared.tables.StageRow.{StageRow}
use Rattle.rows.specs.declared.tables.ChangeRow.{ChangeRow}
use Rattle.rows.specs.declared.tables.OutcomeRow.{OutcomeRow}
use Rattle.rows.specs.declared.tables.GoalRow.{GoalRow}

-- a plan: the rows of its six sections, in their order
pub record PlanRows : Type 0 where
  pub timers : List TimerRow
  pub comparisons : List ComparisonRow
  pub stages : List StageRow
  pub changes : List ChangeRow
  pub outcomes : List OutcomeRow
  pub goals : List GoalRow

-- how many rows each section has
abbrev pub counts_of : PlanRows → Counts
counts_of p = record { timers = length p.timers; comparisons = length p.comparisons; stages = length p.stages; changes = length p.changes; outcomes = length p.outcomes; goals = length p.goals }

-- the first rows of each table, as many as are counted
abbrev pub front : Counts → PlanRows → PlanRows
front c p = record { timers = take c.timers p.timers; comparisons = take c.comparisons p.comparisons; stages = take c.stages p.stages; changes = take c.changes p.changes; outcomes = take c.outcomes p.outcomes; goals = take c.goals p.goals }

-- the rows of each table past those counted
abbrev pub past : Counts → PlanRows → PlanRows
past c p = record { timers = drop c.timers p.timers; comparisons = drop c.comparisons p.comparisons; stages = drop c.stages p.stages; changes = drop c.changes p.changes; outcomes = drop c.outcomes p.outcomes; goals = drop c.goals p.goals }

-- a number of 16 bits, high byte first
abbrev pub word : ℕ → List ℕ
word n = (n / 256) ∷ (n % 256) ∷ []

-- a timer in the file: its ceiling
abbrev pub timer_bytes : TimerRow → List ℕ
timer_bytes t = word t.ceiling

-- a comparison in the file: four bytes, then its constant
abbrev pub comparison_bytes : ComparisonRow → List ℕ
comparison_bytes c = c.kind ∷ c.first ∷ c.second ∷ c.filler ∷ word c.constant

-- a stage in the file: its mark, its hold, its changes
abbrev pub stage_bytes : StageRow → List ℕ
stage_bytes s = word s.mark ++ word s.first_hold ++ word s.holds ++ word s.first_change ++ word s.changes

-- a change in the file: its guard, its outcomes
abbrev pub change_bytes : ChangeRow → List ℕ
change_bytes c = word c.first_guard ++ word c.guards ++ word c.first_outcome ++ word c.outcomes

-- an outcome in the file: its weight, its stage, its resets
abbrev pub outcome_bytes : OutcomeRow → List ℕ
outcome_bytes o = word o.weight ++ word o.stage ++ word o.resets

-- the goal in the file: its comparisons
abbrev pub goal_bytes : GoalRow → List ℕ
goal_bytes g = word g.first ++ word g.comparisons

-- a section in the file: its count, then its records
abbrev pub section_bytes : {R : Type 0} → (R → List ℕ) → List R → List ℕ
section_bytes bytes rows = word (length rows) ++ flat_map bytes rows

-- the file of a plan
abbrev pub file_of : PlanRows → List ℕ
file_of p =
    section_bytes timer_bytes p.timers
    ++ (section_bytes comparison_bytes p.comparisons
    ++ (section_bytes stage_bytes p.stages
    ++ (section_bytes change_bytes p.changes
    ++ (section_bytes outcome_bytes p.outcomes
    ++ section_bytes goal_bytes p.goals))))

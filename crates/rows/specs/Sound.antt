-- When a plan is sound: every number in its limits, and nothing named that is not there.
use Rattle.std.specs.Prelude.{◌≡◌, ℕ, ◌+◌, ◌^◌, ◌<◌, ◌≤◌, length, take, drop, sum_by}
use Rattle.std.specs.List.{AllByRecursion}
use Rattle.rows.specs.declared.section.Counts.{Counts}
use Rattle.rows.specs.declared.section.SectionName.{SectionName}
use Rattle.rows.specs.declared.tables.TimerRow.{TimerRow}
use Rattle.rows.specs.declared.tables.ComparisonRow.{ComparisonRow}
use Rattle.rows.specs.declared.tables.StageRow.{StageRow}
use Rattle.rows.specs.declared.tables.ChangeRow.{ChangeRow}
use Rattle.rows.specs.declared.tables.OutcomeRow.{OutcomeRow}
use Rattle.rows.specs.declared.tables.GoalRow.{GoalRow}
use Rattle.rows.specs.Plans.{PlanRows, counts_of}
use Rattle.rows.specs.Sections.{count_of, least_of, most_of}

-- n rows from the row `first` on lie inside a section of `count` rows; an empty list names nothing
abbrev pub Inside : ℕ → ℕ → ℕ → Type 0
Inside first n count = 0 < n → first + n ≤ count

-- the sum of the weights of a change's outcomes
abbrev pub weights_of : PlanRows → ChangeRow → ℕ
weights_of p c = sum_by (λ o. o.weight) (take c.outcomes (drop c.first_outcome p.outcomes))

-- a timer may run for a while
pub record SoundTimer (t : TimerRow) : Type 0 where
  pub runs : 0 < t.ceiling

-- a comparison has a known kind, names timers of the plan, and its unused bytes are 0
pub record SoundComparison (p : PlanRows) (c : ComparisonRow) : Type 0 where
  pub known : c.kind < 8
  pub blank : c.filler ≡ 0
  pub single : c.kind < 4 → c.second ≡ 0
  pub timer : c.first < length p.timers
  pub other : 4 ≤ c.kind → c.second < length p.timers

-- a stage has a known mark, and its hold and its changes are in the plan
pub record SoundStage (p : PlanRows) (s : StageRow) : Type 0 where
  pub marked : s.mark < 4
  pub few_holds : s.holds ≤ 32
  pub few_changes : s.changes ≤ 128
  pub hold_inside : Inside s.first_hold s.holds (length p.comparisons)
  pub changes_inside : Inside s.first_change s.changes (length p.changes)

-- a change's guard and outcomes are in the plan, it has an outcome, and its weights sum to 16 bits
pub record SoundChange (p : PlanRows) (c : ChangeRow) : Type 0 where
  pub few_guards : c.guards ≤ 32
  pub some_outcome : 1 ≤ c.outcomes
  pub few_outcomes : c.outcomes ≤ 64
  pub guard_inside : Inside c.first_guard c.guards (length p.comparisons)
  pub outcomes_inside : c.first_outcome + c.outcomes ≤ length p.outcomes
  pub weights : weights_of p c ≤ 65535

-- an outcome can come, leads to a stage of the plan, and resets timers of the plan
pub record SoundOutcome (p : PlanRows) (o : OutcomeRow) : Type 0 where
  pub weighs : 0 < o.weight
  pub stage : o.stage < length p.stages
  pub resets : o.resets < 2 ^ length p.timers

-- the goal's comparisons are in the plan
pub record SoundGoal (p : PlanRows) (g : GoalRow) : Type 0 where
  pub few : g.comparisons ≤ 32
  pub inside : Inside g.first g.comparisons (length p.comparisons)

-- every table has room for the rows that are counted
abbrev pub Fits : Counts → Counts → Type 0
Fits n rooms = (s : SectionName) → count_of n s ≤ count_of rooms s

-- each section has a number of rows within its limits, and each row is sound
pub record Sound (p : PlanRows) : Type 0 where
  pub enough : (s : SectionName) → least_of s ≤ count_of (counts_of p) s
  pub bounded : (s : SectionName) → count_of (counts_of p) s ≤ most_of s
  pub timers : AllByRecursion SoundTimer p.timers
  pub comparisons : AllByRecursion (SoundComparison p) p.comparisons
  pub stages : AllByRecursion (SoundStage p) p.stages
  pub changes : AllByRecursion (SoundChange p) p.changes
  pub outcomes : AllByRecursion (SoundOutcome p) p.outcomes
  pub goals : AllByRecursion (SoundGoal p) p.goals

-- The plan that a plan's tables hold, every list resolved to the rows that it names.
use Rattle.std.specs.Prelude.{ℕ, List, [], ◌∷◌, map, length, take, drop}
use Rattle.region.specs.Resetting.{marks}
use Rattle.rows.specs.declared.tables.ChangeRow.{ChangeRow}
use Rattle.rows.specs.declared.tables.ComparisonRow.{ComparisonRow}
use Rattle.rows.specs.declared.tables.GoalRow.{GoalRow}
use Rattle.rows.specs.declared.tables.OutcomeRow.{OutcomeRow}
use Rattle.rows.specs.declared.tables.StageRow.{StageRow}
use Rattle.rows.specs.Plans.{PlanRows}
use Rattle.rows.specs.Readings.{mark_of, reading_of}
use Rattle.theory.specs.Regions.{Comparison}
use Rattle.runs.specs.Plans.{Outcome, Change, Stage, Plan}
use Rattle.runs.specs.Typed.{comparison_in, counts_as_goal, is_avoided}

-- the comparison that a row reads as
abbrev pub comparison_of_row : ComparisonRow → Comparison
comparison_of_row c = comparison_in (reading_of c)

-- the rows that a list names
abbrev pub listed : {X : Type 0} → ℕ → ℕ → List X → List X
listed first n rows = take n (drop first rows)

-- the comparisons that a list names
abbrev pub comparisons_of : PlanRows → ℕ → ℕ → List Comparison
comparisons_of p first n = map comparison_of_row (listed first n p.comparisons)

-- an outcome, with a mark for each timer that it resets
abbrev pub outcome_of_row : PlanRows → OutcomeRow → Outcome
outcome_of_row p o = record { weight = o.weight; target = o.stage; resets = marks (length p.timers) o.resets }

-- a change, with its guard and its outcomes
abbrev pub change_of_row : PlanRows → ChangeRow → Change
change_of_row p c =
    record { guard = comparisons_of p c.first_guard c.guards; first = c.first_outcome; outcomes = map (outcome_of_row p) (listed c.first_outcome c.outcomes p.outcomes) }

-- a stage: what its mark makes of it, its hold and its changes
abbrev pub stage_of_row : PlanRows → StageRow → Stage
stage_of_row p s =
    record {
      goal = counts_as_goal (mark_of s.mark);
      avoid = is_avoided (mark_of s.mark);
      hold = comparisons_of p s.first_hold s.holds;
      first = s.first_change;
      changes = map (change_of_row p) (listed s.first_change s.changes p.changes);
    }

-- the comparisons of the goal: those of the first row of its section
abbrev pub goal_of : PlanRows → List GoalRow → List Comparison
goal_of p [] = []
goal_of p (g ∷ gs) = comparisons_of p g.first g.comparisons

-- the plan in some tables
abbrev pub plan_in : PlanRows → Plan
plan_in p =
    record { ceilings = map (λ t. t.ceiling) p.timers; stages = map (stage_of_row p) p.stages; goal = goal_of p p.goals }

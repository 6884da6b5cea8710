-- A whole plan file, taken apart.
use Rattle.std.specs.Prelude.{◌≡◌, ℕ, List, [], None}
use Rattle.reader.specs.declared.parts.Parts.{Parts}
use Rattle.reader.specs.Parts.{Cut, bytes_in}
use Rattle.rows.specs.declared.section.Counts.{Counts}
use Rattle.rows.specs.declared.section.SectionName.TheVariants.{Timers, Comparisons, Stages, Changes, Outcomes, Goal}
use Rattle.rows.specs.Files.{change_at, comparison_at, from1, from2, from3, from4, from5, goal_at, outcome_at, rows_in, stage_at, timer_at}
use Rattle.rows.specs.Plans.{PlanRows}
use Rattle.rows.specs.Verdicts.{rows_fault}

-- the plan that stands in the sections
abbrev pub plan_of : Parts → PlanRows
plan_of p =
    record {
      timers = rows_in timer_at 2 (bytes_in p.timers);
      comparisons = rows_in comparison_at 6 (bytes_in p.comparisons);
      stages = rows_in stage_at 10 (bytes_in p.stages);
      changes = rows_in change_at 8 (bytes_in p.changes);
      outcomes = rows_in outcome_at 6 (bytes_in p.outcomes);
      goals = rows_in goal_at 4 (bytes_in p.goals);
    }

-- each section breaks no rule and begins where the one before it ends, and nothing follows the last
pub record Split (rooms : Counts) (b : List ℕ) (p : Parts) : Type 0 where
  pub timers : Cut Timers rooms b p.timers (from1 b)
  pub comparisons : Cut Comparisons rooms (from1 b) p.comparisons (from2 b)
  pub stages : Cut Stages rooms (from2 b) p.stages (from3 b)
  pub changes : Cut Changes rooms (from3 b) p.changes (from4 b)
  pub outcomes : Cut Outcomes rooms (from4 b) p.outcomes (from5 b)
  pub goals : Cut Goal rooms (from5 b) p.goals []

-- a file that breaks no rule, taken apart
pub record Passed (rooms : Counts) (b : List ℕ) (p : Parts) : Type 0 where
  pub split : Split rooms b p
  pub clear : rows_fault (plan_of p) ≡ None

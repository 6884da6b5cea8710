-- The rows of a checked plan.
use Rattle.std.specs.Prelude.{cond, [], ◌∷◌, is_some}
use Rattle.plan.specs.declared.handed.Handed.{Handed}
use Rattle.plan.specs.Handed.{counted_in, fault_in}
use Rattle.rows.specs.Plans.{PlanRows}
use Rattle.rows.specs.Verdicts.{no_goal, no_stage}

-- the rows of the plan in which nothing can happen: one timer, one stage without mark, hold or change, and a goal without comparison
abbrev pub blank_rows : PlanRows
blank_rows = record { timers = record { ceiling = 1 } ∷ []; comparisons = []; stages = no_stage ∷ []; changes = []; outcomes = []; goals = no_goal ∷ [] }

-- the rows that a plan from handed tables has: those counted if nothing is wrong with them, and else the blank ones
abbrev pub checked : Handed → PlanRows
checked h = cond (is_some (fault_in h)) blank_rows (counted_in h)

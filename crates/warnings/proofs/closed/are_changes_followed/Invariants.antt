use Rattle.std.proofs.Common.{ℕ, ◌<◌, get_or}
use Rattle.offers.specs.Known.{plan_of, rows_of}
use Rattle.rows.specs.Verdicts.{no_change}
use Rattle.runs.specs.Tables.{change_of_row}
use Rattle.warnings.specs.Arrivals.{ChangeFollowed}
use Rattle.warnings.proofs.closed.are_changes_followed.Given as goal

abbrev pub invariant-loop-change : goal.invariant-loop-change
invariant-loop-change l =
    (k : ℕ) → k < l.change-index → ChangeFollowed (plan_of l.plan) l.table (λ x. get_or l.leaving.most x 0) (change_of_row (rows_of l.plan) (get_or l.changes k no_change))

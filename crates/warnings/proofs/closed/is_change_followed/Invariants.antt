use Rattle.std.proofs.Common.{ℕ, ◌<◌, get_or}
use Rattle.offers.specs.Known.{plan_of, rows_of}
use Rattle.rows.specs.Verdicts.{no_outcome}
use Rattle.runs.specs.Tables.{outcome_of_row}
use Rattle.warnings.specs.Arrivals.{OutcomeFollowed}
use Rattle.warnings.proofs.closed.is_change_followed.Given as goal

abbrev pub invariant-loop-outcome : goal.invariant-loop-outcome
invariant-loop-outcome l =
    (k : ℕ) → k < l.outcome-index → OutcomeFollowed (plan_of l.plan) l.table (λ x. get_or l.leaving.most x 0) (outcome_of_row (rows_of l.plan) (get_or l.outcome-items k no_outcome))

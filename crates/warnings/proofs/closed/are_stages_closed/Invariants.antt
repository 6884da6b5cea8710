use Rattle.std.proofs.Common.{ℕ, ◌<◌}
use Rattle.offers.specs.Known.{plan_of}
use Rattle.warnings.specs.Arrivals.{StageClosed}
use Rattle.warnings.proofs.closed.are_stages_closed.Given as goal

abbrev pub invariant-loop-stage : goal.invariant-loop-stage
invariant-loop-stage l = (i : ℕ) → i < l.stage → StageClosed (plan_of l.plan) l.table i

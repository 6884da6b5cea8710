use Rattle.std.proofs.Common.{get_or}
use Rattle.region.specs.Resetting.{marks}
use Rattle.warnings.specs.Arrivals.{Covers}
use Rattle.warnings.proofs.closed.is_covered.Given as goal

abbrev pub invariant-loop-timer : goal.invariant-loop-timer
invariant-loop-timer l =
    Covers l.timer (λ x. get_or l.leaving.most x 0) (marks l.timers l.outcome.resets) l.arrival

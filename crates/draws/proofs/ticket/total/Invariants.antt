use Rattle.std.proofs.Common.{◌≡◌, ◌+◌, ◌≤◌, drop}
use Rattle.rows.specs.Plans.{PlanRows}
use Rattle.runs.specs.Plans.{weights}
use Rattle.draws.specs.Tickets.{outcomes_in}
use Rattle.draws.proofs.ticket.total.Given as goal

abbrev pub invariant-loop-outcome : goal.invariant-loop-outcome
invariant-loop-outcome l = record {
  so_far : (p : PlanRows) → l.sum + weights (drop l.outcome-index (outcomes_in p l.outcomes)) ≡ weights (outcomes_in p l.outcomes);
  small : l.sum ≤ 65535;
}

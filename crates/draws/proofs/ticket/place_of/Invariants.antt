use Rattle.std.proofs.Common.{◌≡◌, ◌+◌, drop}
use Rattle.rows.specs.Plans.{PlanRows}
use Rattle.runs.specs.Runs.{picked}
use Rattle.draws.specs.Tickets.{outcomes_in}
use Rattle.draws.proofs.ticket.place_of.Given as goal

abbrev pub invariant-loop-place : goal.invariant-loop-place
invariant-loop-place l =
    (p : PlanRows) → l.place + picked (drop l.place (outcomes_in p l.outcomes)) l.left ≡ picked (outcomes_in p l.outcomes) l.ticket

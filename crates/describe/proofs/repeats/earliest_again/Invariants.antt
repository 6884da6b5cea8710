use Rattle.describe.proofs.InOrder.{LeastSoFar}
use Rattle.describe.proofs.repeats.earliest_again.Given as goal

abbrev pub invariant-loop-i : goal.invariant-loop-i
invariant-loop-i l = LeastSoFar l.sorted l.i l.earliest

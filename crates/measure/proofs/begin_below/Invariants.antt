use Rattle.std.proofs.Common.{◌≤◌}
use Rattle.measure.proofs.begin_below.Given as goal

-- no more rows are counted than are seen
abbrev pub invariant-loop-row : goal.invariant-loop-row
invariant-loop-row g l = l.below ≤ l.row

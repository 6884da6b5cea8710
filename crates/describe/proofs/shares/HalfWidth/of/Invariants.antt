use Rattle.std.proofs.Common.{ℕ, ◌<◌}
use Rattle.describe.specs.Shares.{AreEnough}
use Rattle.describe.proofs.shares.HalfWidth.of.Given as goal

abbrev pub invariant-loop-tenths : goal.invariant-loop-tenths
invariant-loop-tenths l = (k : ℕ) → k < l.tenths → AreEnough l.runs k → ⊥

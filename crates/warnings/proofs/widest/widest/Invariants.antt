use Rattle.std.proofs.Common.{◌≡◌, ℕ, ◌<◌, cond, get_or, length, Some, None}
use Rattle.offers.specs.Known.{plan_of}
use Rattle.warnings.specs.Arrivals.{is_final}
use Rattle.warnings.proofs.widest.widest.Given as goal

abbrev pub invariant-loop-stage : goal.invariant-loop-stage
invariant-loop-stage l = record {
  one_each : length l.table.items ≡ l.stage;
  widest : (i : ℕ) → i < l.stage → get_or l.table.items i None ≡ cond (is_final (plan_of l.plan) i) None (Some l.bounds);
}

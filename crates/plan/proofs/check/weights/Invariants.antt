use Rattle.std.proofs.Common.{◌≡◌, ◌-◌, ◌*◌, ◌≤◌, take, drop, sum_by}
use Rattle.plan.proofs.check.weights.Given as goal

abbrev pub invariant-loop-i : goal.invariant-loop-i
invariant-loop-i g l =
    (l.sum ≡ sum_by (λ o. o.weight) (take (l.i - l.first) (drop l.first (g.R.Records.held l.rows).outcomes)))
    × (l.sum ≤ (l.i - l.first) * 65535)

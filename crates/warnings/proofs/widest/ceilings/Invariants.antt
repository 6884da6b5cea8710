use Rattle.std.proofs.Common.{◌≡◌, ℕ, ◌<◌, length, get_or}
use Rattle.offers.specs.Known.{plan_of}
use Rattle.warnings.proofs.widest.ceilings.Given as goal

abbrev pub invariant-loop-timer : goal.invariant-loop-timer
invariant-loop-timer l = record {
  long : length l.bounds.most ≡ 16;
  filled : (x : ℕ) → x < l.timer → get_or l.bounds.most x 0 ≡ get_or (plan_of l.plan).ceilings x 0;
}

use Rattle.std.proofs.Common.{◌≡◌, ℕ, ◌+◌, ◌<◌, ◌≤◌, length, get_or}
use Rattle.theory.specs.Settings.{total}
use Rattle.region.proofs.reset.places.Given as goal

abbrev pub invariant-loop-rank : goal.invariant-loop-rank
invariant-loop-rank l = record {
  room : length l.places ≡ 17;
  places : (k : ℕ) → k < l.rank + 1 → get_or l.places k 0 ≡ 1 + total (λ x. get_or l.live x 0) k;
  small : get_or l.places l.rank 0 ≤ 1 + l.rank;
}

use Rattle.std.proofs.Common.{◌≡◌, ℕ, ◌<◌, length, get_or}
use Rattle.theory.specs.Records.{ranked}
use Rattle.region.proofs.Marked.{others}
use Rattle.region.proofs.Region.held_ranks.Given as goal

abbrev pub invariant-loop-timer : goal.invariant-loop-timer
invariant-loop-timer l =
    (length l.held ≡ 16) × ((j : ℕ) → j < 16 → get_or l.held j 0 ≡ ranked (others l.timers l.row-items l.timer) j)

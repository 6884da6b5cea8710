use Rattle.std.proofs.Common.{◌≡◌, ℕ, ◌≤◌, map, get_or, take}
use Rattle.theory.specs.Records.{fresh, reranked}
use Rattle.theory.specs.Settings.{marked}
use Rattle.region.specs.Reads.{values_in}
use Rattle.region.specs.Resetting.{marks}
use Rattle.region.specs.Viewed.{viewed}
use Rattle.region.specs.Views.{blank, timer_in}
use Rattle.region.proofs.Region.rows_reset.Given as goal

abbrev pub invariant-loop-timer : goal.invariant-loop-timer
invariant-loop-timer l =
    (map timer_in (take l.timer l.row-items) ≡ marked fresh (reranked (marks l.self.number l.timers) (viewed l.self)) (marks l.timer l.timers) (map timer_in (take l.timer (values_in l.self))))
    × ((k : ℕ) → l.timer ≤ k → get_or l.row-items k blank ≡ get_or (values_in l.self) k blank)

use Rattle.std.proofs.Common.{◌≡◌, ◌*◌, ◌≤◌, drop}
use Rattle.region.specs.Viewed.{viewed}
use Rattle.runs.specs.Runs.{room}
use Rattle.offers.specs.Known.{ceilings_in}
use Rattle.offers.proofs.hold.ceiling_wait.Given as goal

abbrev pub invariant-loop-i : goal.invariant-loop-i
invariant-loop-i l =
    (room (viewed l.region) l.best l.i (drop l.i (ceilings_in l.timers))
    ≡ room (viewed l.region) l.initial.best 0 (ceilings_in l.timers))
    × (l.best ≤ 32 * 65535)

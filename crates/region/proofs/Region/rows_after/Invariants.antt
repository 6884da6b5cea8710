use Rattle.std.proofs.Common.{◌≡◌, ◌++◌, map, take, drop}
use Rattle.region.specs.Reads.{values_in}
use Rattle.region.specs.Viewed.{viewed}
use Rattle.region.proofs.Waited.{later_row}
use Rattle.region.proofs.Region.rows_after.Given as goal

abbrev pub invariant-loop-row : goal.invariant-loop-row
invariant-loop-row l =
    l.row-items ≡ map (later_row (viewed l.self) l.steps) (take l.row-index (values_in l.self)) ++ drop l.row-index (values_in l.self)

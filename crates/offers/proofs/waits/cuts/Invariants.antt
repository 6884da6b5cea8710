use Rattle.std.proofs.Common.{◌≡◌, map, drop}
use Rattle.region.specs.Viewed.{viewed}
use Rattle.runs.specs.Runs.{cuts}
use Rattle.runs.specs.Tables.{comparison_of_row}
use Rattle.offers.specs.Waits.{span_of}
use Rattle.offers.proofs.waits.cuts.Given as goal

abbrev pub invariant-loop-row : goal.invariant-loop-row
invariant-loop-row l =
    cuts (viewed l.region) (drop l.row-index (map comparison_of_row l.list)) (span_of l.left)
    ≡ cuts (viewed l.region) (map comparison_of_row l.list) (span_of l.initial.left)

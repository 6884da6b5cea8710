use Rattle.std.proofs.Common.{◌≡◌, ◌+◌, ◌≤◌, ◌++◌, map, length, drop}
use Rattle.region.specs.Viewed.{viewed}
use Rattle.runs.specs.Runs.{offers_from}
use Rattle.runs.specs.Tables.{change_of_row}
use Rattle.offers.specs.Known.{rows_of}
use Rattle.offers.specs.Lists.{listed}
use Rattle.offers.proofs.sound_plan.Plan.possible_changes.Given as goal

abbrev pub invariant-loop-i : goal.invariant-loop-i
invariant-loop-i l = record {
  told : listed l.list ++ offers_from (viewed l.at.region) l.last (l.row.first_change + l.i) (drop l.i (map (change_of_row (rows_of l.self)) l.changes)) ≡ offers_from (viewed l.at.region) l.last l.row.first_change (map (change_of_row (rows_of l.self)) l.changes);
  few : length (listed l.list) ≤ l.i;
}

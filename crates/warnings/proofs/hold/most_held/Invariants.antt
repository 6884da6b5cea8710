use Rattle.std.proofs.Common.{◌≡◌, fold, map, take}
use Rattle.runs.specs.Tables.{comparison_of_row}
use Rattle.warnings.specs.Limits.{narrowed}
use Rattle.warnings.proofs.hold.most_held.Given as goal

abbrev pub invariant-loop-row : goal.invariant-loop-row
invariant-loop-row l =
    l.most ≡ fold (narrowed l.timer l.arrived) l.ceiling (take l.row-index (map comparison_of_row l.hold))

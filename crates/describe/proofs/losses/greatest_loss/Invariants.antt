use Rattle.std.proofs.Common.{map, ◌++◌, take}
use Rattle.describe.specs.Losses.{IsGreatest, loss_beside, loss_of_row}
use Rattle.describe.proofs.losses.greatest_loss.Given as goal

abbrev pub invariant-loop-row : goal.invariant-loop-row
invariant-loop-row l = IsGreatest (map loss_of_row (take l.row-index l.rows)) l.most

abbrev pub invariant-loop-other : goal.invariant-loop-other
invariant-loop-other l =
    IsGreatest (map loss_of_row l.rows ++ map loss_beside (take l.other-index l.beside)) l.most

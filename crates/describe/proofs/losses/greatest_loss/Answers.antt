use Rattle.std.proofs.Common.{[], map}
use Rattle.describe.specs.Losses.{loss_beside, loss_of_row}
use Rattle.describe.proofs.GreatestLoss.{greatest_with_one_row}
use Rattle.describe.proofs.losses.greatest_loss.Goals as goal

pub loop-row-preserved : goal.loop-row-preserved
loop-row-preserved c =
    greatest_with_one_row loss_of_row [] c.args.rows.now c.loop-row.row-index _ c.loop-row.most c.greater-most.result c.of_row.result c.loop-row-test.true c.of_row.ensures c.greater-most.ensures c.loop-row.invariant

pub loop-other-preserved : goal.loop-other-preserved
loop-other-preserved c =
    greatest_with_one_row loss_beside (map loss_of_row c.args.rows.now) c.args.beside.now c.loop-other.other-index _ c.loop-other.most c.greater-most-in-loop-other.result c.beside.result c.loop-other-test.true c.beside.ensures c.greater-most-in-loop-other.ensures c.loop-other.invariant

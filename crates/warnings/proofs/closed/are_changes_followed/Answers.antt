use Rattle.std.proofs.Common.{get_or, arith}
use Rattle.offers.specs.Known.{plan_of, rows_of}
use Rattle.rows.specs.Verdicts.{no_change}
use Rattle.runs.specs.Tables.{change_of_row}
use Rattle.warnings.specs.Arrivals.{ChangeFollowed}
use Rattle.warnings.proofs.Closing.{all_mapped}
use Rattle.warnings.proofs.closed.are_changes_followed.Goals as goal

pub returns : goal.returns
returns c t =
    let P = ChangeFollowed (plan_of c.args.plan.now) c.args.table.now (λ x. get_or c.args.leaving.now.most x 0) in
    all_mapped P (change_of_row (rows_of c.args.plan.now)) c.args.changes.now no_change (λ k l. c.loop-change.invariant k (omega (arith, l)))

use Rattle.std.proofs.Common.{arith}
use Rattle.offers.specs.Known.{plan_of, rows_of}
use Rattle.runs.proofs.Tables.{plan_sound}
use Rattle.warnings.proofs.Bounding.{widest_closed}
use Rattle.warnings.proofs.widest.widest.Goals as goal

pub returns : goal.returns
returns c =
    let p = plan_of c.args.plan.now in
    let sound = plan_sound (rows_of c.args.plan.now) c.args.plan.now.sound in
    widest_closed p c.loop-stage.table.items c.ceilings-bounds.result sound (omega (arith, c.loop-stage.invariant.one_each)) (λ i l. c.loop-stage.invariant.widest i (omega (arith, l))) c.ceilings-bounds.ensures

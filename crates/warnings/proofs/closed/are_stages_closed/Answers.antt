use Rattle.std.proofs.Common.{IsTrue, rules}
use borrow.Author.Count.{below_more}
use Rattle.offers.specs.Known.{plan_of}
use Rattle.warnings.specs.Arrivals.{StageClosed}
use Rattle.warnings.proofs.closed.are_stages_closed.Goals as goal

pub loop-stage-preserved : goal.loop-stage-preserved
loop-stage-preserved c =
    let closed : IsTrue c.is_stage_closed.result = search rules in
    below_more (StageClosed (plan_of c.args.plan.now) c.args.table.now) c.loop-stage.stage c.loop-stage.invariant (c.is_stage_closed.ensures closed)

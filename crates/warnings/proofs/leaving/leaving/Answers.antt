use Rattle.std.proofs.Common.{arith, ◌∙◌}
use Rattle.std.proofs.lemmas.List.{length-set}
use Rattle.offers.specs.Known.{plan_of}
use Rattle.warnings.specs.Arrivals.{most_on_leaving}
use Rattle.warnings.proofs.Bounding.{set_more}
use Rattle.warnings.proofs.leaving.leaving.Goals as goal

pub loop-timer-preserved : goal.loop-timer-preserved
loop-timer-preserved c =
    let most = c.loop-timer.bounds.most in
    let so_far = c.loop-timer.invariant in
    record {
      long = length-set most c.loop-timer.timer c.most_on_leaving.result ∙ so_far.long;
      filled = set_more most c.loop-timer.timer c.most_on_leaving.result (most_on_leaving (plan_of c.args.plan.now) c.args.stage c.args.arrival.now) (omega arith) so_far.filled c.most_on_leaving.ensures;
    }

use Rattle.std.proofs.Common.{get_or, arith, ◌∙◌}
use Rattle.std.proofs.lemmas.List.{length-set}
use Rattle.offers.specs.Known.{plan_of}
use Rattle.warnings.proofs.Bounding.{set_more}
use Rattle.warnings.proofs.widest.ceilings.Goals as goal

pub loop-timer-preserved : goal.loop-timer-preserved
loop-timer-preserved c =
    let most = c.loop-timer.bounds.most in
    let so_far = c.loop-timer.invariant in
    record {
      long = length-set most c.loop-timer.timer c.ceiling.result ∙ so_far.long;
      filled = set_more most c.loop-timer.timer c.ceiling.result (λ x. get_or (plan_of c.args.plan.now).ceilings x 0) (omega arith) so_far.filled c.ceiling.ensures;
    }

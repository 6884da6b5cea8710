use Rattle.std.proofs.Common.{◌≡◌, [], ◌∷◌, ◌++◌, cond, sym, ap, ◌∙◌, append-nil, rules}
use Rattle.offers.specs.Known.{plan_of}
use Rattle.warnings.specs.declared.Warning.TheVariants.{CeilingMayEndHold}
use Rattle.warnings.proofs.Listed.{ceilings_more}
use Rattle.warnings.proofs.warned.warn_of_ceilings.Goals as goal
use Rattle.warnings.proofs.warned.warn_of_ceilings.Goals.{then-ceiling_may_end_hold+in_ok-push, else-ceiling_may_end_hold}

pub loop-timer-preserved : goal.loop-timer-preserved
loop-timer-preserved c =
    let found = c.loop-timer.found.items in
    let more = ceilings_more (plan_of c.args.plan.now) c.args.stage c.args.arrival.now c.loop-timer.timer c.args.found.now.items found c.ceiling_may_end_hold.result c.loop-timer.invariant c.ceiling_may_end_hold.ensures in
    elim c.if-ceiling_may_end_hold.branch [
      | then-ceiling_may_end_hold+in_ok-push w ↦
          let pushed : c.if-ceiling_may_end_hold.found.items ≡ found ++ CeilingMayEndHold c.args.stage c.loop-timer.timer ∷ [] = search rules in
          pushed ∙ (ap (λ b. found ++ cond b (CeilingMayEndHold c.args.stage c.loop-timer.timer ∷ []) []) (sym w.if-ceiling_may_end_hold.true) ∙ more)
      | else-ceiling_may_end_hold w ↦
          let kept : c.if-ceiling_may_end_hold.found.items ≡ found = search rules in
          kept ∙ (sym (append-nil found) ∙ (ap (λ b. found ++ cond b (CeilingMayEndHold c.args.stage c.loop-timer.timer ∷ []) []) (sym w.if-ceiling_may_end_hold.false) ∙ more))
    ]

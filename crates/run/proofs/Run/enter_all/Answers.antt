use Rattle.std.proofs.Common.{[], ◌∷◌, take, ap, ◌∙◌, subst}
use Rattle.offers.specs.Known as known
use Rattle.run.specs.Calls.{Entered, call_of, calls_of}
use Rattle.run.specs.Views.{plan_for, view_of}
use Rattle.run.proofs.Entering.{calls_more, entered_then}
use Rattle.run.proofs.Run.enter_all.Goals as goal

pub loop-call-preserved : goal.loop-call-preserved
loop-call-preserved g c =
    let run = c.args.self.now in
    let coming = g.D.DrawSource.coming in
    let meaning = g.S.Scheduler.meaning in
    let calls = c.args.calls.now in
    let i = c.loop-call.call-index in
    let call = c.call-item.result in
    let here = subst (λ plan. Entered plan (view_of coming c.loop-call.self) (view_of coming c.enter.new.self) (call_of meaning call ∷ []) c.loop-call.log c.enter.new.log) (ap known.plan_of c.loop-call.invariant.1.plan) c.enter.ensures.entered in
    let both = entered_then (plan_for run) (view_of coming run) (view_of coming c.loop-call.self) (view_of coming c.enter.new.self) (calls_of meaning (take i calls)) (call_of meaning call ∷ []) c.args.log.now c.loop-call.log c.enter.new.log c.loop-call.invariant.0 here in
    let so_far = c.loop-call.invariant.1 in
    let then = c.enter.ensures.keeps_plan_and_source in (
      subst (λ cs. Entered (plan_for run) (view_of coming run) (view_of coming c.enter.new.self) cs c.args.log.now c.enter.new.log) (calls_more meaning calls i call c.loop-call-test.true c.call-item.is) both,
      record { plan = then.plan ∙ so_far.plan; book = then.book ∙ so_far.book; lent = then.lent ∙ so_far.lent },
      c.enter.ensures.same_rows ∙ c.loop-call.invariant.2,
    )

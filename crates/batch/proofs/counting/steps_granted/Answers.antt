use Rattle.std.proofs.Common.{◌≡◌, sym, refl, ap, ◌∙◌, arith}
use Rattle.offers.specs.Known.{plan_of}
use Rattle.run.specs.Views.{plan_for, view_of}
use Rattle.runs.specs.Runs.{step_call}
use Rattle.batch.specs.Batches.{stepped}
use Rattle.batch.proofs.Stepping.{stepped_again, stepped_stops}
use Rattle.batch.proofs.counting.steps_granted.Given as given
use Rattle.batch.proofs.counting.steps_granted.Goals as goal
use Rattle.batch.proofs.counting.steps_granted.Goals.{After-step}

-- a step of the run, as its plan has it
made : (g : given.Over) (c : goal.After-step g) → step_call (plan_for c.args.run.now) (g.S.Scheduler.meaning c.args.scheduler.now) (view_of g.D.DrawSource.coming c.loop-granted.run) ≡ (c.step.result, view_of g.D.DrawSource.coming c.step.new.self)
made g c =
    ap (λ p. step_call (plan_of p) (g.S.Scheduler.meaning c.args.scheduler.now) (view_of g.D.DrawSource.coming c.loop-granted.run)) (sym c.loop-granted.invariant.1.plan) ∙ c.step.ensures.answer

pub loop-granted-init : goal.loop-granted-init
unfolding stepped
loop-granted-init g c = (refl, record { plan = refl; book = refl; lent = refl })

pub returns-then-is_err-clause-stepped : goal.returns-then-is_err-clause-stepped
returns-then-is_err-clause-stepped g c =
    let view = view_of g.D.DrawSource.coming in
    let f = g.S.Scheduler.meaning c.args.scheduler.now in
    let kept = c.step.ensures.refused_unchanged (sym c.if-is_err.ensures.value) in
    stepped_stops (plan_for c.args.run.now) f c.loop-granted.granted c.args.most (view c.args.run.now) (view c.loop-granted.run) (view c.step.new.self) c.step.result c.loop-granted.invariant.0 (made g (goal.at.returns-then-is_err-clause-stepped g c).After-step) (sym c.if-is_err.ensures.value) (ap view kept) (omega arith)

pub loop-granted-preserved : goal.loop-granted-preserved
loop-granted-preserved g c =
    let view = view_of g.D.DrawSource.coming in
    let f = g.S.Scheduler.meaning c.args.scheduler.now in
    let so_far = c.loop-granted.invariant.1 in
    let then = c.step.ensures.keeps_plan_and_source in
    (stepped_again (plan_for c.args.run.now) f c.loop-granted.granted (view c.args.run.now) (view c.loop-granted.run) (view c.step.new.self) c.step.result c.loop-granted.invariant.0 (made g (goal.at.loop-granted-preserved g c).After-step) (sym c.if-is_err.ensures.value), record { plan = then.plan ∙ so_far.plan; book = then.book ∙ so_far.book; lent = then.lent ∙ so_far.lent })

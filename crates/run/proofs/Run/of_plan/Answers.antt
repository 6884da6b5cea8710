use Rattle.std.proofs.Common.{sym, subst, arith}
use Rattle.offers.specs.Known.{plan_of, rows_of}
use Rattle.offers.specs.declared.sound_plan.Plan.{Plan}
use Rattle.offers.proofs.Checking.{plan_sound}
use Rattle.runs.specs.Plans.{Sound}
use Rattle.runs.specs.Runs.{InBounds}
use Rattle.runs.proofs.Agreement.{regions_and_ticks_tell_the_same}
use Rattle.runs.proofs.Bounds.{keeps_in_bounds, zero_in_bounds}
use Rattle.run.proofs.Zeros.{opened_at_zero}
use Rattle.run.proofs.Run.of_plan.Goals as goal

can_be_run : (plan : Plan) → Sound (plan_of plan)
can_be_run plan = plan_sound (rows_of plan) plan.sound

pub invariant_of-result : goal.invariant_of-result
invariant_of-result g c =
    let plan = c.args.plan in
    let sound = can_be_run plan in
    let at = c.opening-at.ensures in
    record { in_bounds = ∣ subst (InBounds (plan_of plan)) (sym (opened_at_zero c.tables.ensures plan.sound at.told)) (zero_in_bounds (plan_of plan) sound) ∣₁; a_stage = omega (arith, at.first_stage, sound.some_stage) }

pub returns-clause-regions_and_ticks_tell_the_same : goal.returns-clause-regions_and_ticks_tell_the_same
returns-clause-regions_and_ticks_tell_the_same g c =
    regions_and_ticks_tell_the_same (plan_of c.args.plan) (g.D.DrawSource.coming c.args.source.now) (can_be_run c.args.plan) (g.D.DrawSource.coming_fits c.args.source.now)

pub returns-clause-every_call_keeps_it_in_bounds : goal.returns-clause-every_call_keeps_it_in_bounds
returns-clause-every_call_keeps_it_in_bounds g c =
    keeps_in_bounds (plan_of c.args.plan) (g.D.DrawSource.coming c.args.source.now) (can_be_run c.args.plan)

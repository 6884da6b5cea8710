use Rattle.std.proofs.Common.{◌<◌, length, ap, ◌∙◌, arith}
use Rattle.std.proofs.lemmas.List.{length-map}
use Rattle.offers.specs.Known.{rows_of}
use Rattle.region.specs.Resetting.{marks}
use Rattle.theory.specs.Records.{reset}
use Rattle.runs.specs.Runs.{judged}
use Rattle.runs.specs.Tables.{stage_of_row}
use Rattle.runs.proofs.Calls.{reset_bounds, reset_made}
use Rattle.run.specs.Views.{plan_for}
use Rattle.run.proofs.Run.arrive.Goals as goal

pub invariant_of-self : goal.invariant_of-self
invariant_of-self g c =
    let p = rows_of c.args.self.now.plan in
    let a_stage : c.args.outcome.stage < length (plan_for c.args.self.now).stages = omega (arith, c.requires.an_outcome.stage, length-map p.stages (stage_of_row p)) in
    record { in_bounds = reset_bounds p c.args.outcome.resets c.requires.an_outcome.resets c.waited-region.ensures.in_bounds c.reset.ensures.answer; a_stage = a_stage }

pub returns-clause-arrived : goal.returns-clause-arrived
returns-clause-arrived g c =
    let run = c.args.self.now in
    let p = rows_of run.plan in
    let made = reset_made p c.args.outcome.resets c.requires.an_outcome.resets c.waited-region.ensures.in_bounds c.reset.ensures.answer ∙ ap (reset (marks (length p.timers) c.args.outcome.resets)) c.waited-region.ensures.later in
    let standing = c.judged-self.ensures ∙ ap (judged (plan_for run) c.args.outcome.stage) made in
    λ i. record { stage = c.args.outcome.stage; region = made i; standing = standing i; coming = g.D.DrawSource.coming run.source.now }

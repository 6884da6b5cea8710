use Rattle.std.proofs.Common.{◌≡◌, ◌∙◌, get_or, is_some, refl, ap, rules}
use Rattle.offers.specs.Known.{rows_of}
use Rattle.rows.specs.Plans.{PlanRows}
use Rattle.rows.specs.Verdicts.{no_outcome}
use Rattle.runs.specs.Plans.{Change}
use Rattle.runs.specs.Tables.{listed, outcome_of_row}
use Rattle.run.specs.Views.{plan_for, view_of}
use Rattle.run.proofs.Drawn.{drawing_made}
use Rattle.run.proofs.Picked.{outcome_at_place, outcome_place, outcome_sound, picked_place, weights_allowed}
use Rattle.run.proofs.Same.{same_source}
use Rattle.run.proofs.Run.change.Given as given
use Rattle.run.proofs.Run.change.Goals as goal
use Rattle.run.proofs.Run.change.Goals.{After-outcomes_of-outcomes}

-- the outcomes in the plan's own rows
outcomes_read : (g : given.Over) (c : After-outcomes_of-outcomes g) → c.outcomes_of-outcomes.result.now ≡ listed c.args.row.first_outcome c.args.row.outcomes (rows_of c.args.self.now.plan).outcomes
outcomes_read g c =
    c.outcomes_of-outcomes.ensures ∙ ap (λ (p : PlanRows). listed c.args.row.first_outcome c.args.row.outcomes p.outcomes) c.tables.ensures

pub returns-in_err-draw-clause-refused_unchanged : goal.returns-in_err-draw-clause-refused_unchanged
returns-in_err-draw-clause-refused_unchanged g c =
    λ _. same_source c.args.self.now c.draw.new.self _ _ (c.in_err-draw.ensures.refused_unchanged refl)

pub unwrap-place-requires : goal.unwrap-place-requires
unwrap-place-requires g c =
    let run = c.args.self.now in
    let p = rows_of run.plan in
    let own = c.outcomes_of-outcomes.result.now in
    let w = weights_allowed p run.at.stage c.args.change c.args.row own run.plan.sound c.requires.of_stage c.requires.its_row (outcomes_read g (goal.at.unwrap-place-requires g c).After-outcomes_of-outcomes) in
    ap is_some (c.pick.ensures.picked p w.0 w.1)

pub arrive-requires-clause-an_outcome : goal.arrive-requires-clause-an_outcome
arrive-requires-clause-an_outcome g c =
    let run = c.args.self.now in
    let own = c.outcomes_of-outcomes.result.now in
    outcome_sound (rows_of run.plan) c.args.row own c.unwrap-place.result run.plan.sound (outcomes_read g (goal.at.arrive-requires-clause-an_outcome g c).After-outcomes_of-outcomes) c.unwrap-place.ensures c.pick.ensures.an_outcome

pub overflow_add-result : goal.overflow_add-result
overflow_add-result g c =
    let run = c.args.self.now in
    let own = c.outcomes_of-outcomes.result.now in
    let l = outcome_place (rows_of run.plan) c.args.row own c.unwrap-place.result run.plan.sound (outcomes_read g (goal.at.overflow_add-result g c).After-outcomes_of-outcomes) c.unwrap-place.ensures c.pick.ensures.an_outcome in
    search rules

pub returns-clause-answer : goal.returns-clause-answer
returns-clause-answer g c =
    let run = c.args.self.now in
    let p = rows_of run.plan in
    let own = c.outcomes_of-outcomes.result.now in
    let n = c.unwrap-place.result in
    let place = picked_place p run.at.stage c.args.change c.args.row own c.in_ok-draw.draw n c.pick.result run.plan.sound c.requires.of_stage c.requires.its_row (outcomes_read g (goal.at.returns-clause-answer g c).After-outcomes_of-outcomes) c.unwrap-place.ensures (c.pick.ensures.picked p) in
    drawing_made (plan_for run) (view_of g.D.DrawSource.coming run) (view_of g.D.DrawSource.coming c.arrive.new.self) c.args.change c.args.wait c.in_ok-draw.draw c.args.row.first_outcome n (outcome_of_row p (get_or own n no_outcome)) (g.D.DrawSource.coming c.draw.new.self) c.in_ok-draw.ensures.answer (ap (λ (k : Change). k.first) c.requires.its_row) place (outcome_at_place p run.at.stage c.args.change c.args.row own n c.requires.its_row (outcomes_read g (goal.at.returns-clause-answer g c).After-outcomes_of-outcomes) c.unwrap-place.ensures c.pick.ensures.an_outcome) c.arrive.ensures.arrived

use Rattle.std.proofs.Common.{◌<◌, length, sym, refl, ap, ◌∙◌, arith, rules}
use Rattle.std.proofs.lemmas.List.{length-take}
use Rattle.run.specs.Views.{plan_for, view_of}
use Rattle.run.proofs.Chosen.{place_in_list, takes_the_choice}
use Rattle.run.proofs.Same.{same_source}
use Rattle.run.proofs.Run.step.Goals as goal

pub bounds-offers-place : goal.bounds-offers-place
bounds-offers-place g c =
    let run = c.args.self.now in
    place_in_list (plan_for run) (view_of g.D.DrawSource.coming run) (g.S.Scheduler.meaning c.args.scheduler.now) c.as_slice-offers.result.now c.choose-place.result (g.met.S.Scheduler.within c.args.scheduler.now) c.as_slice-offers.ensures c.possible_changes-list.ensures.offers c.if-is_empty.ensures c.choose-place.ensures

pub offset_bounds-offers-place : goal.offset_bounds-offers-place
offset_bounds-offers-place g c =
    let list = c.possible_changes-list.result in
    let l : c.choose-place.result.0 < 128 = omega (arith, bounds-offers-place g c, ap length c.as_slice-offers.ensures, length-take list.len list.items, list.few) in
    search rules

-- written out, so that a step that skips its scheduler is refused by this fact first
pub returns-clause-answer : goal.returns-clause-answer
returns-clause-answer g c =
    let run = c.args.self.now in
    takes_the_choice (plan_for run) (view_of g.D.DrawSource.coming run) (g.S.Scheduler.meaning c.args.scheduler.now) c.as_slice-offers.result.now c.choose-place.result (c.take.result, view_of g.D.DrawSource.coming c.take.new.self) (sym c.if-not-is_open.ensures) c.as_slice-offers.ensures c.possible_changes-list.ensures.offers c.if-is_empty.ensures c.choose-place.ensures c.take.ensures.answer

pub returns-clause-refused_unchanged : goal.returns-clause-refused_unchanged
returns-clause-refused_unchanged g c = λ e. c.take.ensures.refused_unchanged e ∙ same_source c.args.self.now c.args.self.now.source.now _ _ refl

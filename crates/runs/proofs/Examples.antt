-- The example plan written out, a plan whose goal is met on the way, and draws that fit.
use Rattle.std.proofs.Common.{◌≡◌, ℕ, [], ◌∷◌, true, false, None, Ok, refl, arith}
use Rattle.theory.specs.Regions.{AtLeast, Above, AtMost, Below, timer_against}
use Rattle.theory.specs.Records.{wait}
use Rattle.runs.specs.Examples.{example_plan}
use Rattle.runs.specs.Plans.{Plan, Stage, Change, Sound, weights}
use Rattle.runs.specs.Runs.{cut, cuts, room, ceiling_wait, hold_span, top, goal_by, making, take_call, opening}
use Rattle.runs.specs.Telling.{DrawsFit}
use Rattle.runs.specs.declared.Answer.TheVariants.{Met}

-- two timers with ceilings of 10 s; from stage 0 a change leads back or to stage 1, which is marked for the goal, and from there one leads back
abbrev pub two_stages : Plan
two_stages =
    record { ceilings = 10 ∷ 10 ∷ []; stages = first ∷ second ∷ []; goal = timer_against 1 AtMost 4 ∷ [] }
  where
    again : Change
    again =
        record { guard = timer_against 0 AtLeast 2 ∷ []; first = 0; outcomes = record { weight = 3; target = 0; resets = true ∷ false ∷ [] } ∷ record { weight = 1; target = 1; resets = true ∷ false ∷ [] } ∷ [] }

    back : Change
    back =
        record { guard = timer_against 0 Above 1 ∷ []; first = 2; outcomes = record { weight = 1; target = 0; resets = true ∷ false ∷ [] } ∷ [] }

    first : Stage
    first = record { goal = false; avoid = false; hold = timer_against 0 AtMost 3 ∷ []; first = 0; changes = again ∷ [] }

    second : Stage
    second = record { goal = true; avoid = false; hold = timer_against 0 AtMost 5 ∷ []; first = 1; changes = back ∷ [] }

-- it is the plan of the example's rows, so all that is proved of that plan is proved of it
two_stages_is_the_example : two_stages ≡ example_plan
two_stages_is_the_example = refl

-- no draws at all fit
pub no_draws_fit : DrawsFit (λ k. None)
no_draws_fit k g e = absurd (let z : ◌≡◌ {A = ℕ} 0 1 = cc in omega arith)

-- the goal is met on the way, though it is on at neither end of the wait
abbrev met_on_the_way : Plan
met_on_the_way =
    record { ceilings = 10 ∷ 10 ∷ []; stages = record { goal = true; avoid = false; hold = timer_against 0 AtMost 3 ∷ []; first = 0; changes = record { guard = timer_against 0 AtLeast 2 ∷ []; first = 0; outcomes = record { weight = 1; target = 0; resets = true ∷ false ∷ [] } ∷ [] } ∷ [] } ∷ []; goal = timer_against 0 Above 1 ∷ timer_against 0 Below 2 ∷ [] }

met_between : ((take_call met_on_the_way (opening met_on_the_way (λ k. None)) 0 4).0 ≡ Ok (Met 4)) × ((take_call met_on_the_way (opening met_on_the_way (λ k. None)) 0 4).1.region ≡ record { whole = true; classes = 1; timers = record { seconds = 2; rank = 0 } ∷ record { seconds = 2; rank = 0 } ∷ [] })
unfolding take_call making goal_by top hold_span ceiling_wait room cuts cut wait
met_between = (refl, refl)

pub two_stages_is_sound : Sound two_stages
unfolding weights
two_stages_is_sound =
    record {
      some_timer = omega arith;
      timers_run = (omega arith, (omega arith, tt));
      some_stage = omega arith;
      stages_sound = (
        record {
          hold_named = (omega arith, tt);
          changes_sound = (
            record { guard_named = (omega arith, tt); some_outcome = omega arith; outcomes_sound = (record { can_come = omega arith; leads = omega arith; one_mark_each = refl }, (record { can_come = omega arith; leads = omega arith; one_mark_each = refl }, tt)); weights_fit = omega arith },
            tt,
          );
        },
        (
          record {
            hold_named = (omega arith, tt);
            changes_sound = (
              record { guard_named = (omega arith, tt); some_outcome = omega arith; outcomes_sound = (record { can_come = omega arith; leads = omega arith; one_mark_each = refl }, tt); weights_fit = omega arith },
              tt,
            );
          },
          tt,
        ),
      );
      goal_named = (omega arith, tt);
    }

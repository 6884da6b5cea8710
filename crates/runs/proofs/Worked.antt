-- The worked examples come out as stated.
use Rattle.std.proofs.Common.{◌≡◌, true, false, [], ◌∷◌, Ok, Err, refl, arith}
use Rattle.rows.specs.Refusals.{refusal_no}
use Rattle.rows.specs.Verdicts.{faultless, first_in, fault_from, record_fault}
use Rattle.theory.specs.Settings.{total, marked, unmarked, any_marked}
use Rattle.theory.specs.Records.{wait, reset, ranked, live}
use Rattle.runs.specs.Plans.{weights, Sound, blank_plan}
use Rattle.runs.specs.Runs.{cut, cuts, room, ceiling_wait, hold_span, top, offers_from, goal_by, picked, Draws, Scheduler, making, take_call, step_call, shown, all_zero, opening}
use Rattle.runs.specs.Examples.{example_rows, example_plan, example_met_rows, example_met, drawn, after_three_takes, TheRulesGiveTheWorkedExamples}
use Rattle.runs.specs.declared.Answer.TheVariants.{Taken, Met, RanOut}
use Rattle.runs.specs.declared.Standing.TheVariants.{Open, Reached, Stuck}
use Rattle.runs.proofs.Tables.{plan_sound}

pub blank_plan_is_sound : Sound blank_plan
blank_plan_is_sound =
    record { some_timer = omega arith; timers_run = (omega arith, tt); some_stage = omega arith; stages_sound = (record { hold_named = tt; changes_sound = tt }, tt); goal_named = tt }

example_faultless : faultless example_rows ≡ true
unfolding faultless first_in fault_from record_fault
example_faultless = refl

example_met_faultless : faultless example_met_rows ≡ true
unfolding faultless first_in fault_from record_fault
example_met_faultless = refl

a_reset : reset (false ∷ true ∷ []) (wait 1 (all_zero 2)) ≡ record { whole = true; classes = 2; timers = record { seconds = 0; rank = 1 } ∷ record { seconds = 0; rank = 0 } ∷ [] }
unfolding wait reset any_marked marked total live ranked unmarked
a_reset = refl

nothing_happens : (f g : Scheduler) (draws : Draws) → ((step_call blank_plan f (opening blank_plan draws)).0 ≡ Ok RanOut) × ((step_call blank_plan f (opening blank_plan draws)).1.standing ≡ Stuck) × ((step_call blank_plan g (step_call blank_plan f (opening blank_plan draws)).1).0 ≡ Err (refusal_no 8))
unfolding step_call goal_by top hold_span ceiling_wait room cuts cut offers_from
nothing_happens f g draws = (refl, refl, refl)

first_offers : (draws : Draws) → shown example_plan (opening example_plan draws) ≡ record { change = 0; lowest = 4; highest = 6 } ∷ []
unfolding shown goal_by offers_from top hold_span ceiling_wait room cuts cut
first_offers draws = refl

to_the_goal : ((take_call example_plan (opening example_plan (drawn (3221225472 ∷ []))) 0 4).0 ≡ Ok (Taken 0 4 1)) × ((take_call example_plan (opening example_plan (drawn (3221225472 ∷ []))) 0 4).1.stage ≡ 1) × ((take_call example_plan (opening example_plan (drawn (3221225472 ∷ []))) 0 4).1.standing ≡ Reached)
unfolding take_call making goal_by picked weights top hold_span ceiling_wait room cuts cut wait reset any_marked marked total live ranked unmarked
to_the_goal = (refl, refl, refl)

by_the_guard : (draws : Draws) → (take_call example_plan (opening example_plan draws) 0 3).0 ≡ Err (refusal_no 11)
unfolding take_call making goal_by top hold_span ceiling_wait room cuts cut
by_the_guard draws = refl

by_the_hold : (draws : Draws) → (take_call example_plan (opening example_plan draws) 0 7).0 ≡ Err (refusal_no 10)
unfolding take_call making goal_by top hold_span ceiling_wait room cuts cut
by_the_hold draws = refl

by_the_stage : (draws : Draws) → (take_call example_plan (opening example_plan draws) 1 4).0 ≡ Err (refusal_no 9)
unfolding take_call making goal_by top hold_span ceiling_wait room cuts cut
by_the_stage draws = refl

three_takes : (after_three_takes.stage ≡ 0) × (after_three_takes.region ≡ record { whole = true; classes = 2; timers = record { seconds = 0; rank = 0 } ∷ record { seconds = 6; rank = 1 } ∷ [] }) × (after_three_takes.standing ≡ Open) × (shown example_plan after_three_takes ≡ record { change = 0; lowest = 8; highest = 12 } ∷ [])
unfolding shown take_call making goal_by picked weights top hold_span ceiling_wait room cuts cut wait reset any_marked marked total live ranked unmarked offers_from
three_takes = (refl, refl, refl, refl)

met_between : ((take_call example_met (opening example_met (drawn [])) 0 4).0 ≡ Ok (Met 4)) × ((take_call example_met (opening example_met (drawn [])) 0 4).1.region ≡ record { whole = true; classes = 1; timers = record { seconds = 2; rank = 0 } ∷ record { seconds = 2; rank = 0 } ∷ [] }) × ((take_call example_met (opening example_met (drawn [])) 0 4).1.standing ≡ Reached) × ((take_call example_met (opening example_met (drawn [])) 0 4).1.coming ≡ drawn [])
unfolding take_call making goal_by top hold_span ceiling_wait room cuts cut wait
met_between = (refl, refl, refl, refl)

pub the_rules_give_the_worked_examples : TheRulesGiveTheWorkedExamples
the_rules_give_the_worked_examples =
    record {
      rows_break_no_rule = (example_faultless, example_met_faultless);
      plans_can_be_run = (plan_sound example_rows example_faultless, plan_sound example_met_rows example_met_faultless, blank_plan_is_sound);
      a_reset_after_a_step = a_reset;
      the_blank_plan_runs_out = nothing_happens;
      offers_at_opening = first_offers;
      tickets_of_draws_one_apart = (refl, refl);
      a_take_to_the_goal = to_the_goal;
      refused_by_the_guard = by_the_guard;
      refused_by_the_hold = by_the_hold;
      refused_by_the_stage = by_the_stage;
      three_takes = three_takes;
      met_on_the_way = met_between;
    }

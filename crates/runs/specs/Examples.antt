-- The worked examples: two small plans as table rows, and what the rules give on them.
use Rattle.std.specs.Prelude.{◌≡◌, ℕ, zero, suc, true, false, List, [], ◌∷◌, Some, None, Ok, Err}
use Rattle.rows.specs.declared.tables.ComparisonRow.{ComparisonRow}
use Rattle.rows.specs.declared.tables.StageRow.{StageRow}
use Rattle.rows.specs.declared.tables.GoalRow.{GoalRow}
use Rattle.rows.specs.Plans.{PlanRows}
use Rattle.rows.specs.Refusals.{refusal_no}
use Rattle.rows.specs.Verdicts.{faultless}
use Rattle.theory.specs.Records.{wait, reset}
use Rattle.runs.specs.Plans.{Plan, Sound, blank_plan}
use Rattle.runs.specs.Ticks.{ticket}
use Rattle.runs.specs.Runs.{Draws, Run, Scheduler, take_call, step_call, shown, Take, after, all_zero, opening}
use Rattle.runs.specs.Tables.{plan_in}
use Rattle.runs.specs.declared.Answer.TheVariants.{Taken, Met, RanOut}
use Rattle.runs.specs.declared.Standing.TheVariants.{Open, Reached, Stuck}

-- a comparison of one timer: its kind, the timer, and the seconds
abbrev pub of_timer : ℕ → ℕ → ℕ → ComparisonRow
of_timer kind i m = record { kind = kind; first = i; second = 0; filler = 0; constant = m }

-- a stage: its mark, the comparison that it holds by, and its change
abbrev pub stage_row : ℕ → ℕ → ℕ → StageRow
stage_row mark hold change =
    record { mark = mark; first_hold = hold; holds = 1; first_change = change; changes = 1 }

-- the rows of both examples: timers x and y may show 10 s at most; a change from stage 0 leads back or to stage 1, and one from stage 1 back to stage 0; each outcome sets x to zero
abbrev pub rows_with : List ComparisonRow → StageRow → GoalRow → PlanRows
rows_with comparisons first goal =
    record {
      timers = record { ceiling = 10 } ∷ record { ceiling = 10 } ∷ [];
      comparisons = comparisons;
      stages = first ∷ stage_row 1 2 1 ∷ [];
      changes = record { first_guard = 1; guards = 1; first_outcome = 0; outcomes = 2 } ∷ record { first_guard = 3; guards = 1; first_outcome = 2; outcomes = 1 } ∷ [];
      outcomes = record { weight = 3; stage = 0; resets = 1 } ∷ record { weight = 1; stage = 1; resets = 1 } ∷ record { weight = 1; stage = 0; resets = 1 } ∷ [];
      goals = goal ∷ [];
    }

-- the rows of the example plan: stage 0 holds while x ≤ 3 and changes once x ≥ 2, stage 1 holds while x ≤ 5 and changes once x > 1; stage 1 is the goal while y ≤ 4
abbrev pub example_rows : PlanRows
example_rows =
    rows_with (of_timer 2 0 3 ∷ of_timer 0 0 2 ∷ of_timer 2 0 5 ∷ of_timer 1 0 1 ∷ of_timer 2 1 4 ∷ []) (stage_row 0 0 0) (record { first = 4; comparisons = 1 })

-- the example plan
abbrev pub example_plan : Plan
example_plan = plan_in example_rows

-- the same rows but for the goal: stage 0 is marked for it too, and it is on while x > 1 and x < 2
abbrev pub example_met_rows : PlanRows
example_met_rows =
    rows_with (of_timer 2 0 3 ∷ of_timer 0 0 2 ∷ of_timer 2 0 5 ∷ of_timer 1 0 1 ∷ of_timer 2 1 4 ∷ of_timer 1 0 1 ∷ of_timer 3 0 2 ∷ []) (stage_row 1 0 0) (record { first = 5; comparisons = 2 })

-- the plan whose goal is met on the way through stage 0
abbrev pub example_met : Plan
example_met = plan_in example_met_rows

-- the draws of a list, and then none
abbrev pub drawn : List ℕ → Draws
drawn [] k = None
drawn (g ∷ gs) zero = Some g
drawn (g ∷ gs) (suc k) = drawn gs k

-- the run on the example plan after three takes: back to stage 0, on to stage 1, and back again
abbrev pub after_three_takes : Run
after_three_takes =
    after example_plan (opening example_plan (drawn (0 ∷ 3221225472 ∷ 0 ∷ []))) (Take 0 4 ∷ Take 0 6 ∷ Take 1 3 ∷ [])

-- what the rules give on the example plans and the blank plan
pub record TheRulesGiveTheWorkedExamples : Type 0 where
  -- the rows of both examples break no rule
  pub rows_break_no_rule : (faultless example_rows ≡ true) × (faultless example_met_rows ≡ true)
  -- the three plans can be run
  pub plans_can_be_run : Sound example_plan × Sound example_met × Sound blank_plan
  -- two timers at zero, one step later, with the second set to zero: the first then leads by part of a second
  pub a_reset_after_a_step : reset (false ∷ true ∷ []) (wait 1 (all_zero 2)) ≡ record { whole = true; classes = 2; timers = record { seconds = 0; rank = 1 } ∷ record { seconds = 0; rank = 0 } ∷ [] }
  -- on the blank plan a step runs out and leaves the run stuck, and the next is refused with 8
  pub the_blank_plan_runs_out : (f g : Scheduler) (draws : Draws) →
      ((step_call blank_plan f (opening blank_plan draws)).0 ≡ Ok RanOut)
      × ((step_call blank_plan f (opening blank_plan draws)).1.standing ≡ Stuck)
      × ((step_call blank_plan g (step_call blank_plan f (opening blank_plan draws)).1).0
      ≡ Err (refusal_no 8))
  -- the example plan opens with one offer: change 0 after 4 to 6 steps
  pub offers_at_opening : (draws : Draws) → shown example_plan (opening example_plan draws) ≡ record { change = 0; lowest = 4; highest = 6 } ∷ []
  -- of four parts, these two draws, one apart, fall into the third and the last
  pub tickets_of_draws_one_apart : (ticket 3221225471 4 ≡ 2) × (ticket 3221225472 4 ≡ 3)
  -- change 0 after 4 steps with the second of these draws leads to stage 1, where the goal is on
  pub a_take_to_the_goal : ((take_call example_plan (opening example_plan (drawn (3221225472 ∷ []))) 0 4).0 ≡ Ok (Taken 0 4 1)) × ((take_call example_plan (opening example_plan (drawn (3221225472 ∷ []))) 0 4).1.stage ≡ 1) × ((take_call example_plan (opening example_plan (drawn (3221225472 ∷ []))) 0 4).1.standing ≡ Reached)
  -- at opening, change 0 after 3 steps is refused with 11: its guard does not allow that wait
  pub refused_by_the_guard : (draws : Draws) →
      (take_call example_plan (opening example_plan draws) 0 3).0 ≡ Err (refusal_no 11)
  -- change 0 after 7 steps is refused with 10: the stage does not hold that long
  pub refused_by_the_hold : (draws : Draws) →
      (take_call example_plan (opening example_plan draws) 0 7).0 ≡ Err (refusal_no 10)
  -- change 1 after 4 steps is refused with 9: it is of another stage
  pub refused_by_the_stage : (draws : Draws) →
      (take_call example_plan (opening example_plan draws) 1 4).0 ≡ Err (refusal_no 9)
  -- three takes lead back to stage 0 with x at zero and y past 6 s; the run is open, and change 0 is offered after 8 to 12 steps
  pub three_takes : (after_three_takes.stage ≡ 0) × (after_three_takes.region ≡ record { whole = true; classes = 2; timers = record { seconds = 0; rank = 0 } ∷ record { seconds = 6; rank = 1 } ∷ [] }) × (after_three_takes.standing ≡ Open) × (shown example_plan after_three_takes ≡ record { change = 0; lowest = 8; highest = 12 } ∷ [])
  -- the goal is met on the way, though it is on at neither end of the wait: the take needs no draw, and the whole wait passes
  pub met_on_the_way : ((take_call example_met (opening example_met (drawn [])) 0 4).0 ≡ Ok (Met 4)) × ((take_call example_met (opening example_met (drawn [])) 0 4).1.region ≡ record { whole = true; classes = 1; timers = record { seconds = 2; rank = 0 } ∷ record { seconds = 2; rank = 0 } ∷ [] }) × ((take_call example_met (opening example_met (drawn [])) 0 4).1.standing ≡ Reached) × ((take_call example_met (opening example_met (drawn [])) 0 4).1.coming ≡ drawn [])

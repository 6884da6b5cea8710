-- Regions and ticks tell the same runs.
use Rattle.std.proofs.Common.{◌≡◌, ℕ, Bool, true, false, cond, leb, List, [], ◌∷◌, Some, None, Ok, Option, refl, ap, ◌∙◌}
use Rattle.runs.specs.Plans.{Plan, Sound}
use Rattle.runs.specs.Runs.{inside, top, goal_by, Draws, Run, is_open, is_of_stage, Outturn, drawing, at_goal, making, waits_for, take_call, Scheduler, offers_of, stepping, step_call, shown, with_draws, Call, Step, Take, Offers, Stands, answered, make}
use Rattle.runs.specs.Telling.{DrawsFit, SameState, RegionsAndTicksTellTheSame}
use Rattle.runs.specs.declared.Answer.TheVariants.{Met}
use Rattle.runs.specs.declared.Offer.{Offer}
use Rattle.runs.proofs.Choosing.{step_answers, steps_choose_alike, first_at_once, first_at_once_in_range}
use Rattle.runs.proofs.Opening.{same_run}
use Rattle.runs.proofs.Whole.{calls_tell_a_tick_run, granted_calls_tell}

-- two outturns with one answer, whatever the runs after them
abbrev SameAnswer : Outturn → Outturn → Type 0
SameAnswer x y = x.0 ≡ y.0

cond_same : (b : Bool) (x y x' y' : Outturn) → SameAnswer x x' → SameAnswer y y' → SameAnswer (cond b x y) (cond b x' y')
cond_same true x y x' y' e f = e
cond_same false x y x' y' e f = f

drawing_same : (plan : Plan) (run : Run) (a b : Draws) (c d : ℕ) (o : Option ℕ) → SameAnswer (drawing plan (with_draws a run) c d o) (drawing plan (with_draws b run) c d o)
drawing_same plan run a b c d None = refl
drawing_same plan run a b c d (Some g) = refl

making_same : (plan : Plan) (run : Run) (a b : Draws) (c d : ℕ) → a 0 ≡ b 0 → SameAnswer (making plan (with_draws a run) c d) (making plan (with_draws b run) c d)
unfolding making
making_same plan run a b c d e =
    cond_same (goal_by plan run.stage run.region d) (Ok (Met d), at_goal (with_draws a run) d) (drawing plan (with_draws a run) c d (a 0)) (Ok (Met d), at_goal (with_draws b run) d) (drawing plan (with_draws b run) c d (b 0)) refl (drawing_same plan run a b c d (a 0) ∙ ap (λ o. (drawing plan (with_draws b run) c d o).0) e)

take_same : (plan : Plan) (run : Run) (a b : Draws) (c d : ℕ) → a 0 ≡ b 0 → SameAnswer (take_call plan (with_draws a run) c d) (take_call plan (with_draws b run) c d)
unfolding take_call
take_same plan run a b c d e =
    cond_same (is_open run.standing) _ _ _ _ (cond_same (is_of_stage plan run.stage c) _ _ _ _ (cond_same (leb d (top plan run.stage run.region)) _ _ _ _ (cond_same (inside d (waits_for plan run c)) _ _ _ _ (making_same plan run a b c d e) refl) refl) refl) refl

stepping_same : (plan : Plan) (f : Scheduler) (run : Run) (a b : Draws) (os : List Offer) → a 0 ≡ b 0 → SameAnswer (stepping plan f (with_draws a run) os) (stepping plan f (with_draws b run) os)
stepping_same plan f run a b [] e = refl
stepping_same plan f run a b (o ∷ os) e = take_same plan run a b _ _ e

step_same : (plan : Plan) (f : Scheduler) (run : Run) (a b : Draws) → a 0 ≡ b 0 → SameAnswer (step_call plan f (with_draws a run)) (step_call plan f (with_draws b run))
unfolding step_call
step_same plan f run a b e =
    cond_same (is_open run.standing) _ _ _ _ (stepping_same plan f run a b (offers_of plan run) e) refl

reply_same : (plan : Plan) (run : Run) (a b : Draws) (call : Call) → a 0 ≡ b 0 → (make plan (with_draws a run) call).0 ≡ (make plan (with_draws b run) call).0
unfolding shown
reply_same plan run a b (Step f) e = ap answered (step_same plan f run a b e)
reply_same plan run a b (Take c d) e = ap answered (take_same plan run a b c d e)
reply_same plan run a b Offers e = refl
reply_same plan run a b Stands e = refl

a_reply_turns_on_the_state_alone : (plan : Plan) (run run' : Run) (call : Call) → SameState run run' → (make plan run call).0 ≡ (make plan run' call).0
a_reply_turns_on_the_state_alone plan run run' call h =
    ap (λ x. (make plan x call).0) (same_run run (with_draws run.coming run') h.same_stage h.same_region h.same_standing refl) ∙ reply_same plan run' run.coming run'.coming call h.next_draw

pub regions_and_ticks_tell_the_same : (plan : Plan) (draws : Draws) → Sound plan → DrawsFit draws → RegionsAndTicksTellTheSame plan draws
regions_and_ticks_tell_the_same plan draws s fit =
    record {
      every_list_of_calls_tells_a_tick_run = calls_tell_a_tick_run plan draws s fit;
      a_reply_turns_on_the_state_alone = a_reply_turns_on_the_state_alone plan;
      every_tick_run_is_told = granted_calls_tell plan draws s;
      a_step_answers_as_its_scheduler_means = step_answers plan;
      steps_at_one_stage_and_region_choose_alike = steps_choose_alike plan;
      some_scheduler = (first_at_once, first_at_once_in_range);
    }

-- A step makes its scheduler's choice.
use Rattle.std.proofs.Common.{◌≡◌, ℕ, ◌≤◌, true, false, cond, ◌⊎◌, List, [], ◌∷◌, length, get_or, Some, None, Ok, Option, sym, refl, ap, ◌∙◌, subst, ap₂, inl, inr, arith}
use Rattle.std.proofs.ByRecursion.{All-get_or}
use Rattle.std.proofs.lemmas.Bool.{cases_Bool, both_ways}
use Rattle.runs.specs.Plans.{Plan, change_of}
use Rattle.runs.specs.Runs.{top, upto, blank_offer, offers_at, goal_by, Run, is_open, Outturn, refused, ran_out, stepping, step_call, take_call, Scheduler, InRange, offers_of, chosen, chosen_wait}
use Rattle.runs.specs.Telling.{HasOffers, goal_by_chosen, StepAnswers, Alike, ChooseAlike, AStepChoosesAsItsSchedulerMeans}
use Rattle.runs.specs.declared.Offer.{Offer}
use Rattle.runs.specs.declared.Answer.{Answer}
use Rattle.runs.specs.declared.Answer.TheVariants.{Taken, Met, RanOut}
use Rattle.runs.proofs.Allowed.{within_cuts}
use Rattle.runs.proofs.Offered.{OfferOfStage, offers_of_stage, offers_in_order, offer_within}
use Rattle.runs.proofs.Taking.{Fits, open_is, not_open_is, take_met, take_no_draw, take_taken}

pub step_call_is : (plan : Plan) (f : Scheduler) (run : Run) → step_call plan f run ≡ cond (is_open run.standing) (stepping plan f run (offers_of plan run)) (refused 8 run)
unfolding step_call
step_call_is plan f run = refl

pub step_not_open : (plan : Plan) (f : Scheduler) (run : Run) → is_open run.standing ≡ false → step_call plan f run ≡ refused 8 run
step_not_open plan f run e =
    step_call_is plan f run ∙ ap (λ b. cond b (stepping plan f run (offers_of plan run)) (refused 8 run)) e

pub step_open : (plan : Plan) (f : Scheduler) (run : Run) → is_open run.standing ≡ true → step_call plan f run ≡ stepping plan f run (offers_of plan run)
step_open plan f run e =
    step_call_is plan f run ∙ ap (λ b. cond b (stepping plan f run (offers_of plan run)) (refused 8 run)) e

-- an open run without offers runs out
pub step_runs_out : (plan : Plan) (f : Scheduler) (run : Run) → is_open run.standing ≡ true → offers_of plan run ≡ [] → step_call plan f run ≡ (Ok RanOut, ran_out plan run)
step_runs_out plan f run e n = step_open plan f run e ∙ ap (stepping plan f run) n

-- an open run with offers does what a take of the choice does
pub step_takes : (plan : Plan) (f : Scheduler) (run : Run) → HasOffers plan run → step_call plan f run ≡ take_call plan run (chosen plan f run) (chosen_wait plan f run)
step_takes plan f run h =
    step_open plan f run (ap is_open h.going_on) ∙ go (offers_of plan run) h.some_offer
  where
    go : (os : List Offer) → 1 ≤ length os → stepping plan f run os ≡ take_call plan run (chosen plan f run) (chosen_wait plan f run)
    go [] l = absurd (omega arith)
    go (o ∷ os) l = refl

-- a step is refused for not being open, runs out, or takes
pub step_cases : (plan : Plan) (f : Scheduler) (run : Run) → (is_open run.standing ≡ false) ⊎ (((is_open run.standing ≡ true) × (offers_of plan run ≡ [])) ⊎ HasOffers plan run)
step_cases plan f run = go (cases_Bool (is_open run.standing))
  where
    more : is_open run.standing ≡ true → (os : List Offer) → offers_of plan run ≡ os → (is_open run.standing ≡ false) ⊎ (((is_open run.standing ≡ true) × (offers_of plan run ≡ [])) ⊎ HasOffers plan run)
    more e [] n = inr (inl (e, n))
    more e (o ∷ os) n =
        inr (inr (record { going_on = open_is run.standing e; some_offer = omega (arith, ap length n) }))

    go : (is_open run.standing ≡ true) ⊎ (is_open run.standing ≡ false) → (is_open run.standing ≡ false) ⊎ (((is_open run.standing ≡ true) × (offers_of plan run ≡ [])) ⊎ HasOffers plan run)
    go (inl e) = more e (offers_of plan run) refl
    go (inr e) = inl e

-- the choice of a scheduler that keeps in range fits
pub choice_fits : (plan : Plan) (f : Scheduler) (run : Run) → InRange f → HasOffers plan run → Fits plan run (chosen plan f run) (chosen_wait plan f run)
choice_fits plan f run k h =
    let i = run.stage in
    let r = run.region in
    let w = k i r (offers_of plan run) h.some_offer (offers_in_order plan i r) in
    let o = All-get_or (OfferOfStage plan i r) (offers_of plan run) (f i r (offers_of plan run)).0 blank_offer w.0 (offers_of_stage plan i r) in
    let a = (offer_within plan i r (get_or (offers_of plan run) (f i r (offers_of plan run)).0 blank_offer) (chosen_wait plan f run) o).0 (w.1, w.2) in
    let b = (within_cuts r (change_of plan i (chosen plan f run)).guard (chosen_wait plan f run) (upto (top plan i r))).0 a in
    record { going_on = h.going_on; of_stage = o.of_stage; in_hold = omega (arith, b.0); allowed = a }

pub step_answers : (plan : Plan) (f : Scheduler) (run : Run) → InRange f → StepAnswers plan f run (step_call plan f run).0
step_answers plan f run k = go (step_cases plan f run)
  where
    at : (z : Outturn) → step_call plan f run ≡ z → StepAnswers plan f run z.0 → StepAnswers plan f run (step_call plan f run).0
    at z e a = subst (λ y. StepAnswers plan f run y.0) (sym e) a

    drawn : HasOffers plan run → (o : Option ℕ) → run.coming 0 ≡ o → goal_by_chosen plan f run ≡ false → StepAnswers plan f run (step_call plan f run).0
    drawn h None n e =
        at (refused 12 run) (step_takes plan f run h ∙ take_no_draw plan run (chosen plan f run) (chosen_wait plan f run) (choice_fits plan f run k h) e n) (inr (refl, h, e, n))
    drawn h (Some g) n e =
        at _ (step_takes plan f run h ∙ take_taken plan run (chosen plan f run) (chosen_wait plan f run) g (choice_fits plan f run k h) e n) (h, e, refl, refl)

    made : HasOffers plan run → (goal_by_chosen plan f run ≡ true) ⊎ (goal_by_chosen plan f run ≡ false) → StepAnswers plan f run (step_call plan f run).0
    made h (inl e) =
        at _ (step_takes plan f run h ∙ take_met plan run (chosen plan f run) (chosen_wait plan f run) (choice_fits plan f run k h) e) (h, e, refl)
    made h (inr e) = drawn h (run.coming 0) refl e

    go : (is_open run.standing ≡ false) ⊎ (((is_open run.standing ≡ true) × (offers_of plan run ≡ [])) ⊎ HasOffers plan run) → StepAnswers plan f run (step_call plan f run).0
    go (inl e) =
        at (refused 8 run) (step_not_open plan f run e) (inl (refl, not_open_is run.standing e))
    go (inr (inl h)) =
        at (Ok RanOut, ran_out plan run) (step_runs_out plan f run h.0 h.1) (open_is run.standing h.0, h.1)
    go (inr (inr h)) = made h (cases_Bool (goal_by_chosen plan f run))

-- what two runs at one stage and region have alike
alike_from : (plan : Plan) (f : Scheduler) (run run' : Run) → run.stage ≡ run'.stage → run.region ≡ run'.region → (a a' : Answer) → StepAnswers plan f run (Ok a) → StepAnswers plan f run' (Ok a') → Alike a a'
alike_from plan f run run' e r = go
  where
    c_alike : chosen plan f run ≡ chosen plan f run'
    c_alike = ap₂ (λ i s. (get_or (offers_at plan i s) (f i s (offers_at plan i s)).0 blank_offer).change) e r

    w_alike : chosen_wait plan f run ≡ chosen_wait plan f run'
    w_alike = ap₂ (λ i s. (f i s (offers_at plan i s)).1) e r

    g_alike : goal_by_chosen plan f run ≡ goal_by_chosen plan f run'
    g_alike = ap₂ (λ i s. goal_by plan i s (f i s (offers_at plan i s)).1) e r

    o_alike : length (offers_of plan run) ≡ length (offers_of plan run')
    o_alike = ap₂ (λ i s. length (offers_at plan i s)) e r

    go : (a a' : Answer) → StepAnswers plan f run (Ok a) → StepAnswers plan f run' (Ok a') → Alike a a'
    go (Taken c d n) (Taken c' d' n') x y = (x.2 ∙ (c_alike ∙ sym y.2), x.3 ∙ (w_alike ∙ sym y.3))
    go (Taken c d n) (Met d') x y = both_ways (goal_by_chosen plan f run) x.1 (g_alike ∙ y.1)
    go (Taken c d n) RanOut x y = omega (arith, x.0.some_offer, o_alike, ap length y.1)
    go (Met d) (Taken c' d' n') x y = both_ways (goal_by_chosen plan f run) (g_alike ∙ y.1) x.1
    go (Met d) (Met d') x y = x.2 ∙ (w_alike ∙ sym y.2)
    go (Met d) RanOut x y = omega (arith, x.0.some_offer, o_alike, ap length y.1)
    go RanOut (Taken c' d' n') x y = omega (arith, y.0.some_offer, o_alike, ap length x.1)
    go RanOut (Met d') x y = omega (arith, y.0.some_offer, o_alike, ap length x.1)
    go RanOut RanOut x y = tt

pub steps_alike : (plan : Plan) (f : Scheduler) (run run' : Run) (a a' : Answer) → InRange f → run.stage ≡ run'.stage → run.region ≡ run'.region → (step_call plan f run).0 ≡ Ok a → (step_call plan f run').0 ≡ Ok a' → Alike a a'
steps_alike plan f run run' a a' k e r x y =
    alike_from plan f run run' e r a a' (subst (StepAnswers plan f run) x (step_answers plan f run k)) (subst (StepAnswers plan f run') y (step_answers plan f run' k))

-- and the change too where the goal was met, once the two chose one change
with_change : (plan : Plan) (f : Scheduler) (run run' : Run) → chosen plan f run ≡ chosen plan f run' → (a a' : Answer) → Alike a a' → ChooseAlike plan f run run' a a'
with_change plan f run run' e (Taken c d n) (Taken c' d' n') h = h
with_change plan f run run' e (Taken c d n) (Met d') h = h
with_change plan f run run' e (Taken c d n) RanOut h = h
with_change plan f run run' e (Met d) (Taken c' d' n') h = h
with_change plan f run run' e (Met d) (Met d') h = (e, h)
with_change plan f run run' e (Met d) RanOut h = h
with_change plan f run run' e RanOut (Taken c' d' n') h = h
with_change plan f run run' e RanOut (Met d') h = h
with_change plan f run run' e RanOut RanOut h = h

pub steps_choose_alike : (plan : Plan) (f : Scheduler) (run run' : Run) (a a' : Answer) → InRange f → run.stage ≡ run'.stage → run.region ≡ run'.region → (step_call plan f run).0 ≡ Ok a → (step_call plan f run').0 ≡ Ok a' → ChooseAlike plan f run run' a a'
steps_choose_alike plan f run run' a a' k e r x y =
    let one_change : chosen plan f run ≡ chosen plan f run' =
    ap₂ (λ i s. (get_or (offers_at plan i s) (f i s (offers_at plan i s)).0 blank_offer).change) e r in
    with_change plan f run run' one_change a a' (steps_alike plan f run run' a a' k e r x y)

-- a scheduler that keeps in range: the first offer, as soon as may be
abbrev pub first_at_once : Scheduler
first_at_once i r os = (0, (get_or os 0 blank_offer).lowest)

pub first_at_once_in_range : InRange first_at_once
first_at_once_in_range i r os l h = (l, omega arith, All-get_or (λ o. o.lowest ≤ o.highest) os 0 blank_offer l h)

pub a_step_chooses_as_its_scheduler_means : AStepChoosesAsItsSchedulerMeans
a_step_chooses_as_its_scheduler_means =
    record { answers = step_answers; alike = steps_alike; some_scheduler = (first_at_once, first_at_once_in_range) }

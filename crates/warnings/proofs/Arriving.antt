-- An open run is in a stage with arrivals, and came there within their bounds.
use Rattle.std.proofs.Common.{◌≡◌, ℕ, suc, ◌+◌, ◌-◌, ◌*◌, ◌^◌, ◌<◌, ◌≤◌, Bool, true, false, cond, ◌&&◌, ◌||◌, eqb, ◌⊎◌, List, [], ◌∷◌, length, get_or, Option, Some, None, sym, refl, ap, ◌∙◌, subst, inl, inr, arith}
use Rattle.std.proofs.ByRecursion.{All-get_or}
use Rattle.std.proofs.lemmas.Bool.{cases_Bool, ne_eqb}
use Rattle.std.proofs.lemmas.List.{get_or-replicate}
use Rattle.theory.specs.Records.{Record, count, fresh, reset, timer_no, wait}
use Rattle.theory.specs.Regions.{Comparison}
use Rattle.theory.proofs.Counts.{count_after_wait, length_after_wait}
use Rattle.theory.proofs.Validity.{wait_keeps_valid}
use Rattle.theory.proofs.Waits.{wait_classes}
use Rattle.runs.specs.Plans.{Change, Outcome, Plan, Sound, blank_change, blank_outcome, change_of, stage_of, weights}
use Rattle.runs.specs.Runs.{Call, Draws, Inv, Offers, Outturn, Run, Scheduler, Stands, Step, Take, after, all_zero, any_in, arrived, at_goal, chosen, chosen_wait, cuts, goal_by, is_open, judged, make, offers_of, opening, picked_by, ran_out, refused, step_call, take_call, top, upto}
use Rattle.runs.specs.Telling.{DrawsFit, HasOffers}
use Rattle.runs.specs.Ticks.{Picks, ticket}
use Rattle.runs.specs.declared.Standing.TheVariants.{Open, Reached, Failed, Stuck}
use Rattle.runs.proofs.Allowed.{cuts_nil}
use Rattle.runs.proofs.Bounds.{make_keeps_inv, opening_inv}
use Rattle.runs.proofs.Choosing.{step_cases, step_not_open, step_runs_out, step_takes}
use Rattle.runs.proofs.Goals.{goal_by_is}
use Rattle.runs.proofs.Picking.{picked_picks, some_weight, ticket_fits}
use Rattle.runs.proofs.Plans.{sound_change, sound_outcome}
use Rattle.runs.proofs.Taking.{Fits, take_cases, take_met, take_no_draw, take_taken}
use Rattle.warnings.specs.Arrivals.{ChangeFollowed, Closed, Covers, OutcomeFollowed, arrivals_in, is_final, most_on_leaving}
use Rattle.warnings.specs.declared.bounds.Bounds.{Bounds}
use Rattle.warnings.proofs.Holding.{shown_on_leaving}
use Rattle.warnings.proofs.Resetting.{reset_under}
use Rattle.warnings.proofs.Counted.{times_larger}

-- whether an arrival is judged open, by whether the goal is on and whether the stage is to be avoided
judged_open : (g a : Bool) → is_open (cond g Reached (cond a Failed Open)) ≡ true → (g ≡ false) × (a ≡ false)
judged_open true a e = cc
judged_open false true e = cc
judged_open false false e = (refl, refl)

-- a goal that is not on now is not always on
not_always_on : (r : Record) (marked : Bool) (goal : List Comparison) → (marked && any_in (cuts r goal (upto 0))) ≡ false → (marked && eqb (length goal) 0) ≡ false
not_always_on r false goal e = refl
not_always_on r true [] e =
    let f : any_in (upto 0) ≡ false = subst (λ x. any_in x ≡ false) (cuts_nil r (upto 0)) e in cc
not_always_on r true (c ∷ goal) e =
    let f : length (c ∷ goal) ≡ 0 → ⊥ = λ z. omega (arith, z) in ne_eqb (length (c ∷ goal)) 0 f

-- a stage that a run arrives in open is not final
pub open_not_final : (plan : Plan) (i : ℕ) (r : Record) → is_open (judged plan i r) ≡ true → is_final plan i ≡ false
open_not_final plan i r e =
    let h = judged_open (goal_by plan i r 0) (stage_of plan i).avoid e in
    subst (λ a. (a || ((stage_of plan i).goal && eqb (length plan.goal) 0)) ≡ false) (sym h.1) (not_always_on r (stage_of plan i).goal plan.goal (sym (goal_by_is plan i r 0) ∙ h.0))

-- a run is in a stage with arrivals, and no timer shows more than their bounds
pub record Arrived (plan : Plan) (table : List (Option Bounds)) (run : Run) : Type 0 where
  pub bounds : Bounds
  pub in_table : arrivals_in table run.stage ≡ Some bounds
  pub within : (x : ℕ) → x < length plan.ceilings → count run.region (timer_no run.region x) ≤ 2 * run.region.classes * get_or bounds.most x 0

-- a run has draws that fit, and has arrived if it is open
pub record Followable (plan : Plan) (table : List (Option Bounds)) (run : Run) : Type 0 where
  pub draws_fit : DrawsFit run.coming
  pub arrived_if_open : is_open run.standing ≡ true → Arrived plan table run

-- a run that is not open
closed_run : (plan : Plan) (table : List (Option Bounds)) (run : Run) → DrawsFit run.coming → is_open run.standing ≡ false → Followable plan table run
closed_run plan table run d e =
    record { draws_fit = d; arrived_if_open = λ f. absurd (let z : ◌≡◌ {A = Bool} true false = sym f ∙ e in let y : ⊥ = cc in y) }

-- a run opens so
pub opening_followable : (plan : Plan) (table : List (Option Bounds)) (draws : Draws) → Closed plan table → DrawsFit draws → Followable plan table (opening plan draws)
opening_followable plan table draws c d = record { draws_fit = d; arrived_if_open = arrived_open }
  where
    n : ℕ
    n = length plan.ceilings

    zeros : (b : Bounds) (x : ℕ) → x < n → count (all_zero n) (timer_no (all_zero n) x) ≤ 2 * (all_zero n).classes * get_or b.most x 0
    zeros b x l =
        let e : timer_no (all_zero n) x ≡ fresh = get_or-replicate n x fresh fresh l in
        let f : count (all_zero n) (timer_no (all_zero n) x) ≡ 0 = ap (count (all_zero n)) e in
        omega (arith, f)

    arrived_open : is_open (judged plan 0 (all_zero n)) ≡ true → Arrived plan table (opening plan draws)
    arrived_open e =
        let a = c.runs_open (open_not_final plan 0 (all_zero n) e) in
        record { bounds = a.0; in_table = a.1; within = zeros a.0 }

-- where an outcome is followed, an open run that comes by it has arrived
pub outcome_arrives : (plan : Plan) (table : List (Option Bounds)) (run : Run) (d : ℕ) (o : Outcome) (from : Bounds) → Inv plan run → d ≤ top plan run.stage run.region → ((x : ℕ) → x < length plan.ceilings → count run.region (timer_no run.region x) ≤ 2 * run.region.classes * get_or from.most x 0) → length o.resets ≡ length plan.ceilings → OutcomeFollowed plan table (most_on_leaving plan run.stage from) o → is_open (judged plan o.target (reset o.resets (wait d run.region))) ≡ true → Arrived plan table (arrived plan run d o)
outcome_arrives plan table run d o from h l within marks followed going =
    record { bounds = to.0; in_table = to.1; within = λ x k. reset_under o.resets w x (get_or to.0.most x 0) (wait_keeps_valid d run.region h.valid) (marks ∙ sym as_many) (omega (arith, as_many, k)) (shown x k) }
  where
    w : Record
    w = wait d run.region

    as_many : length w.timers ≡ length plan.ceilings
    as_many = length_after_wait d run.region ∙ h.as_many

    to : (b : Bounds) × (arrivals_in table o.target ≡ Some b) × Covers (length plan.ceilings) (most_on_leaving plan run.stage from) o.resets b
    to = followed (open_not_final plan o.target (reset o.resets w) going)

    shown : (x : ℕ) → x < length plan.ceilings → get_or o.resets x false ≡ false → count w (timer_no w x) ≤ 2 * w.classes * get_or to.0.most x 0
    shown x k f =
        let here = shown_on_leaving plan run.stage run.region d x from k l (within x k) (h.under x k) in
        let there = times_larger (2 * run.region.classes) (most_on_leaving plan run.stage from x) (get_or to.0.most x 0) (count run.region (timer_no run.region x) + d) (to.2 x k f) here in
        omega (arith, there, count_after_wait d run.region x (omega (arith, h.as_many, k)), ap (λ z. 2 * z * get_or to.0.most x 0) (wait_classes d run.region))

-- the outcome that a draw picks is one of the change's
picked_there : (plan : Plan) (run : Run) (c d g : ℕ) → Sound plan → Fits plan run c d → g < 2 ^ 32 → picked_by g (change_of plan run.stage c) < length (change_of plan run.stage c).outcomes
picked_there plan run c d g s f l =
    let change : Change = change_of plan run.stage c in
    let sound = sound_change plan s run.stage c f.of_stage in
    let some = some_weight plan change.outcomes sound.some_outcome sound.outcomes_sound in
    let picks : Picks change.outcomes (ticket g (weights change.outcomes)) (picked_by g change) =
    picked_picks change.outcomes (ticket g (weights change.outcomes)) (ticket_fits g (weights change.outcomes) l some) in
    picks.an_outcome

pub take_followable : (plan : Plan) (table : List (Option Bounds)) (run : Run) (c d : ℕ) → Sound plan → Closed plan table → Inv plan run → Followable plan table run → Followable plan table (take_call plan run c d).1
take_followable plan table run c d s k h a = go (take_cases plan run c d)
  where
    at : (z : Outturn) → take_call plan run c d ≡ z → Followable plan table z.1 → Followable plan table (take_call plan run c d).1
    at z e f = subst (λ y. Followable plan table y.1) (sym e) f

    change : Change
    change = change_of plan run.stage c

    picked : (g : ℕ) → Fits plan run c d → run.coming 0 ≡ Some g → Followable plan table (arrived plan run d (get_or change.outcomes (picked_by g change) blank_outcome))
    picked g f j =
        let n = picked_by g change in
        let l = picked_there plan run c d g s f (a.draws_fit 0 g j) in
        let o = get_or change.outcomes n blank_outcome in
        let here = a.arrived_if_open (ap is_open f.going_on) in
        let stage = k.stages_closed run.stage h.a_stage in
        let followed = All-get_or (ChangeFollowed plan table (most_on_leaving plan run.stage here.bounds)) (stage_of plan run.stage).changes (c - (stage_of plan run.stage).first) blank_change (omega (arith, f.of_stage)) (stage.changes_followed here.bounds here.in_table) in
        let outcome = All-get_or (OutcomeFollowed plan table (most_on_leaving plan run.stage here.bounds)) change.outcomes n blank_outcome l followed in
        let sound = sound_outcome plan s run.stage c n f.of_stage l in
        record {
          draws_fit = λ m g' e. a.draws_fit (m + 1) g' (later m g' e);
          arrived_if_open = outcome_arrives plan table run d o here.bounds h f.in_hold here.within sound.one_mark_each outcome;
        }
      where
        later : (m g' : ℕ) → run.coming (suc m) ≡ Some g' → run.coming (m + 1) ≡ Some g'
        later m g' e = let i : m + 1 ≡ suc m = omega arith in ap run.coming i ∙ e

    drawn : Fits plan run c d → goal_by plan run.stage run.region d ≡ false → (o : Option ℕ) → run.coming 0 ≡ o → Followable plan table (take_call plan run c d).1
    drawn f e None j = at (refused 12 run) (take_no_draw plan run c d f e j) a
    drawn f e (Some g) j = at _ (take_taken plan run c d g f e j) (picked g f j)

    made : Fits plan run c d → (goal_by plan run.stage run.region d ≡ true) ⊎ (goal_by plan run.stage run.region d ≡ false) → Followable plan table (take_call plan run c d).1
    made f (inl e) = at _ (take_met plan run c d f e) (closed_run plan table (at_goal run d) a.draws_fit refl)
    made f (inr e) = drawn f e (run.coming 0) refl

    go : Fits plan run c d ⊎ ((n : ℕ) × (take_call plan run c d ≡ refused n run)) → Followable plan table (take_call plan run c d).1
    go (inl f) = made f (cases_Bool (goal_by plan run.stage run.region d))
    go (inr z) = at (refused z.0 run) z.1 a

-- a run that ran out is not open
out_not_open : (g : Bool) → is_open (cond g Reached Stuck) ≡ false
out_not_open true = refl
out_not_open false = refl

pub step_followable : (plan : Plan) (table : List (Option Bounds)) (f : Scheduler) (run : Run) → Sound plan → Closed plan table → Inv plan run → Followable plan table run → Followable plan table (step_call plan f run).1
step_followable plan table f run s k h a = go (step_cases plan f run)
  where
    at : (z : Outturn) → step_call plan f run ≡ z → Followable plan table z.1 → Followable plan table (step_call plan f run).1
    at z e g = subst (λ y. Followable plan table y.1) (sym e) g

    go : (is_open run.standing ≡ false) ⊎ (((is_open run.standing ≡ true) × (offers_of plan run ≡ [])) ⊎ HasOffers plan run) → Followable plan table (step_call plan f run).1
    go (inl e) = at (refused 8 run) (step_not_open plan f run e) a
    go (inr (inl e)) =
        at _ (step_runs_out plan f run e.0 e.1) (closed_run plan table (ran_out plan run) a.draws_fit (out_not_open (goal_by plan run.stage run.region (top plan run.stage run.region))))
    go (inr (inr e)) =
        at _ (step_takes plan f run e) (take_followable plan table run (chosen plan f run) (chosen_wait plan f run) s k h a)

pub make_followable : (plan : Plan) (table : List (Option Bounds)) (run : Run) (call : Call) → Sound plan → Closed plan table → Inv plan run → Followable plan table run → Followable plan table (make plan run call).1
make_followable plan table run (Step f) s k h a = step_followable plan table f run s k h a
make_followable plan table run (Take c d) s k h a = take_followable plan table run c d s k h a
make_followable plan table run Offers s k h a = a
make_followable plan table run Stands s k h a = a

-- what is kept by every call: the bounds of runs, and that the run can be followed
pub record KeepsToTable (plan : Plan) (table : List (Option Bounds)) (run : Run) : Type 0 where
  pub in_bounds : Inv plan run
  pub followable : Followable plan table run

pub after_kept : (plan : Plan) (table : List (Option Bounds)) (run : Run) (calls : List Call) → Sound plan → Closed plan table → KeepsToTable plan table run → KeepsToTable plan table (after plan run calls)
after_kept plan table run [] s k a = a
after_kept plan table run (call ∷ calls) s k a =
    after_kept plan table (make plan run call).1 calls s k (record { in_bounds = make_keeps_inv plan run call s a.in_bounds; followable = make_followable plan table run call s k a.in_bounds a.followable })

-- so is every run of the plan
pub every_run_kept : (plan : Plan) (table : List (Option Bounds)) (draws : Draws) (calls : List Call) → Sound plan → Closed plan table → DrawsFit draws → KeepsToTable plan table (after plan (opening plan draws) calls)
every_run_kept plan table draws calls s k d =
    after_kept plan table (opening plan draws) calls s k (record { in_bounds = opening_inv plan draws s; followable = opening_followable plan table draws k d })

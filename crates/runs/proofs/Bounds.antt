-- Every run on a sound plan keeps in its bounds.
use Rattle.std.proofs.Common.{◌≡◌, ℕ, zero, suc, ◌*◌, ◌<◌, ◌≤◌, Bool, true, false, ◌⊎◌, List, [], ◌∷◌, length, get_or, replicate, Some, None, Option, sym, refl, ap, ◌∙◌, subst, inl, inr, arith}
use lib.ListN.{length-replicate}
use Rattle.std.proofs.lemmas.List.{get_or_past, get_or-replicate}
use Rattle.std.proofs.lemmas.Bool.{cases_Bool, cases_lt}
use Rattle.theory.specs.Settings.{marked, any_marked, cleared}
use Rattle.theory.specs.Records.{Record, Valid, fresh, timer_no, count, record_of, wait, reset}
use Rattle.theory.specs.Regions.{AtMost}
use Rattle.theory.proofs.Waits.{wait_classes}
use Rattle.theory.proofs.Counts.{length_after_wait, count_after_wait}
use Rattle.theory.proofs.Order.{timer_against_count}
use Rattle.theory.proofs.Resets.{length_marked, record_of_cleared, reset_none}
use Rattle.theory.proofs.Validity.{length_of, record_of_is_valid, valid_is_of_a_setting, wait_keeps_valid}
use Rattle.runs.specs.Plans.{Plan, Outcome, blank_outcome, Sound, change_of}
use Rattle.runs.specs.Runs.{top, goal_by, picked_by, Run, Draws, is_open, Outturn, refused, arrived, at_goal, ran_out, take_call, step_call, Scheduler, offers_of, chosen, chosen_wait, Call, Step, Take, Offers, Stands, make, after, all_zero, opening, InBounds, Inv}
use Rattle.runs.specs.Telling.{HasOffers, EveryCallKeepsARunInBounds, KeepsInBounds}
use Rattle.runs.proofs.Plans.{sound_outcome}
use Rattle.runs.proofs.Permits.{top_counts}
use Rattle.runs.proofs.Taking.{Fits, take_cases, take_met, take_no_draw, take_taken}
use Rattle.runs.proofs.Choosing.{step_not_open, step_runs_out, step_takes, step_cases}
use Rattle.theory.proofs.Zeros.{record_of_zeros}

pub inv_bounds : (plan : Plan) (run : Run) → Inv plan run → InBounds plan run.region
inv_bounds plan run h = record { valid = h.valid; as_many = h.as_many; under = h.under }

inv_from : (plan : Plan) (run : Run) → InBounds plan run.region → run.stage < length plan.stages → Inv plan run
inv_from plan run h l = record { valid = h.valid; as_many = h.as_many; under = h.under; a_stage = l }

-- timers at zero
pub zero_in_bounds : (plan : Plan) → Sound plan → InBounds plan (all_zero (length plan.ceilings))
zero_in_bounds plan s =
    record { valid = subst Valid (record_of_zeros 1 n (omega arith) s.some_timer) (record_of_is_valid 1 (replicate n 0) (omega arith) (omega (arith, length-replicate n (zero), s.some_timer))); as_many = length-replicate n fresh; under = under }
  where
    n : ℕ
    n = length plan.ceilings

    under : (j : ℕ) → j < n → count (all_zero n) (timer_no (all_zero n) j) ≤ 2 * (all_zero n).classes * get_or plan.ceilings j 0
    under j l =
        let e : timer_no (all_zero n) j ≡ fresh = get_or-replicate n j fresh fresh l in
        let f : count (all_zero n) (timer_no (all_zero n) j) ≡ 0 = ap (count (all_zero n)) e in
        omega (arith, f)

-- a wait of the hold interval
pub wait_in_bounds : (plan : Plan) (i : ℕ) (r : Record) (d : ℕ) → InBounds plan r → d ≤ top plan i r → InBounds plan (wait d r)
wait_in_bounds plan i r d h l =
    record { valid = wait_keeps_valid d r h.valid; as_many = length_after_wait d r ∙ h.as_many; under = λ j k. under j k }
  where
    under : (j : ℕ) → j < length plan.ceilings → count (wait d r) (timer_no (wait d r) j) ≤ 2 * (wait d r).classes * get_or plan.ceilings j 0
    under j k =
        omega (arith, count_after_wait d r j (omega (arith, h.as_many)), top_counts plan i r d j k l (h.under j k), ap (λ z. 2 * z * get_or plan.ceilings j 0) (wait_classes d r))

-- a timer that is set to zero shows no more than before
cleared_no_more : (marks : List Bool) (v : List ℕ) (j : ℕ) → get_or (cleared marks v) j 0 ≤ get_or v j 0
unfolding marked
cleared_no_more [] [] j = omega arith
cleared_no_more [] (c ∷ v) zero = omega arith
cleared_no_more [] (c ∷ v) (suc j) = cleared_no_more [] v j
cleared_no_more (m ∷ marks) [] j = omega arith
cleared_no_more (true ∷ marks) (c ∷ v) zero = omega arith
cleared_no_more (false ∷ marks) (c ∷ v) zero = omega arith
cleared_no_more (m ∷ marks) (c ∷ v) (suc j) = cleared_no_more marks v j

reset_of_setting : (plan : Plan) (marks : List Bool) (D : ℕ) (v : List ℕ) → 1 ≤ D → 1 ≤ length v → length marks ≡ length (record_of D v).timers → InBounds plan (record_of D v) → InBounds plan (reset marks (record_of D v))
reset_of_setting plan marks D v d n e h =
    subst (InBounds plan) (record_of_cleared D v marks d f) (record { valid = record_of_is_valid D (cleared marks v) d (omega (arith, g)); as_many = length_of D (cleared marks v) ∙ (g ∙ (sym (length_of D v) ∙ h.as_many)); under = under })
  where
    f : length marks ≡ length v
    f = e ∙ length_of D v

    g : length (cleared marks v) ≡ length v
    g = length_marked 0 (λ x. x) marks v

    under : (j : ℕ) → j < length plan.ceilings → count (record_of D (cleared marks v)) (timer_no (record_of D (cleared marks v)) j) ≤ 2 * (record_of D (cleared marks v)).classes * get_or plan.ceilings j 0
    under j k =
        let m = get_or plan.ceilings j 0 in
        let a : get_or v j 0 ≤ m * D = (timer_against_count D v j m AtMost d (omega (arith, length_of D v, h.as_many))).1 (h.under j k) in
        (timer_against_count D (cleared marks v) j m AtMost d (omega (arith, g, length_of D v, h.as_many))).0 (omega (arith, a, cleared_no_more marks v j))

-- a reset
pub reset_in_bounds : (plan : Plan) (marks : List Bool) (r : Record) → length marks ≡ length r.timers → InBounds plan r → InBounds plan (reset marks r)
reset_in_bounds plan marks r e h =
    let w = valid_is_of_a_setting r h.valid in
    subst (λ z. InBounds plan (reset marks z)) w.4 (reset_of_setting plan marks w.0 w.1 w.2 w.3 (e ∙ ap (λ z. length z.timers) (sym w.4)) (subst (InBounds plan) (sym w.4) h))

no_mark : any_marked [] ≡ false
unfolding any_marked
no_mark = refl

-- an arrival, whichever outcome is read
arrived_inv : (plan : Plan) (run : Run) (c d n : ℕ) → Sound plan → Inv plan run → Fits plan run c d → Inv plan (arrived plan run d (get_or (change_of plan run.stage c).outcomes n blank_outcome))
arrived_inv plan run c d n s h f = go (cases_lt n (length os))
  where
    os : List Outcome
    os = (change_of plan run.stage c).outcomes

    waited : InBounds plan (wait d run.region)
    waited = wait_in_bounds plan run.stage run.region d (inv_bounds plan run h) f.in_hold

    go : (n < length os) ⊎ (length os ≤ n) → Inv plan (arrived plan run d (get_or os n blank_outcome))
    go (inl l) =
        let o = sound_outcome plan s run.stage c n f.of_stage l in
        inv_from plan (arrived plan run d (get_or os n blank_outcome)) (reset_in_bounds plan (get_or os n blank_outcome).resets (wait d run.region) (o.one_mark_each ∙ sym waited.as_many) waited) o.leads
    go (inr l) =
        subst (λ o. Inv plan (arrived plan run d o)) (sym (get_or_past os n blank_outcome l)) (inv_from plan (arrived plan run d blank_outcome) (subst (InBounds plan) (sym (reset_none [] (wait d run.region) no_mark)) waited) s.some_stage)

pub take_keeps_inv : (plan : Plan) (run : Run) (c d : ℕ) → Sound plan → Inv plan run → Inv plan (take_call plan run c d).1
take_keeps_inv plan run c d s h = go (take_cases plan run c d)
  where
    at : (z : Outturn) → take_call plan run c d ≡ z → Inv plan z.1 → Inv plan (take_call plan run c d).1
    at z e k = subst (λ y. Inv plan y.1) (sym e) k

    drawn : Fits plan run c d → goal_by plan run.stage run.region d ≡ false → (o : Option ℕ) → run.coming 0 ≡ o → Inv plan (take_call plan run c d).1
    drawn f e None j = at (refused 12 run) (take_no_draw plan run c d f e j) h
    drawn f e (Some g) j =
        at _ (take_taken plan run c d g f e j) (arrived_inv plan run c d (picked_by g (change_of plan run.stage c)) s h f)

    made : Fits plan run c d → (goal_by plan run.stage run.region d ≡ true) ⊎ (goal_by plan run.stage run.region d ≡ false) → Inv plan (take_call plan run c d).1
    made f (inl e) =
        at _ (take_met plan run c d f e) (inv_from plan (at_goal run d) (wait_in_bounds plan run.stage run.region d (inv_bounds plan run h) f.in_hold) h.a_stage)
    made f (inr e) = drawn f e (run.coming 0) refl

    go : Fits plan run c d ⊎ ((n : ℕ) × (take_call plan run c d ≡ refused n run)) → Inv plan (take_call plan run c d).1
    go (inl f) = made f (cases_Bool (goal_by plan run.stage run.region d))
    go (inr k) = at (refused k.0 run) k.1 h

pub step_keeps_inv : (plan : Plan) (f : Scheduler) (run : Run) → Sound plan → Inv plan run → Inv plan (step_call plan f run).1
step_keeps_inv plan f run s h = go (step_cases plan f run)
  where
    at : (z : Outturn) → step_call plan f run ≡ z → Inv plan z.1 → Inv plan (step_call plan f run).1
    at z e k = subst (λ y. Inv plan y.1) (sym e) k

    go : (is_open run.standing ≡ false) ⊎ (((is_open run.standing ≡ true) × (offers_of plan run ≡ [])) ⊎ HasOffers plan run) → Inv plan (step_call plan f run).1
    go (inl e) = at (refused 8 run) (step_not_open plan f run e) h
    go (inr (inl k)) =
        at _ (step_runs_out plan f run k.0 k.1) (inv_from plan (ran_out plan run) (inv_bounds plan run h) h.a_stage)
    go (inr (inr k)) =
        at _ (step_takes plan f run k) (take_keeps_inv plan run (chosen plan f run) (chosen_wait plan f run) s h)

pub opening_inv : (plan : Plan) (draws : Draws) → Sound plan → Inv plan (opening plan draws)
opening_inv plan draws s = inv_from plan (opening plan draws) (zero_in_bounds plan s) s.some_stage

pub make_keeps_inv : (plan : Plan) (run : Run) (call : Call) → Sound plan → Inv plan run → Inv plan (make plan run call).1
make_keeps_inv plan run (Step f) s h = step_keeps_inv plan f run s h
make_keeps_inv plan run (Take c d) s h = take_keeps_inv plan run c d s h
make_keeps_inv plan run Offers s h = h
make_keeps_inv plan run Stands s h = h

pub after_keeps_inv : (plan : Plan) (run : Run) (calls : List Call) → Sound plan → Inv plan run → Inv plan (after plan run calls)
after_keeps_inv plan run [] s h = h
after_keeps_inv plan run (call ∷ calls) s h =
    after_keeps_inv plan (make plan run call).1 calls s (make_keeps_inv plan run call s h)

pub every_call_keeps_a_run_in_bounds : EveryCallKeepsARunInBounds
every_call_keeps_a_run_in_bounds =
    record { at_opening = opening_inv; by_a_call = make_keeps_inv; by_calls = λ plan draws calls s. after_keeps_inv plan (opening plan draws) calls s (opening_inv plan draws s) }

pub keeps_in_bounds : (plan : Plan) (draws : Draws) → Sound plan → KeepsInBounds plan draws
keeps_in_bounds plan draws s =
    record { at_opening = opening_inv plan draws s; by_a_call = λ run call h. make_keeps_inv plan run call s h; by_calls = λ calls. after_keeps_inv plan (opening plan draws) calls s (opening_inv plan draws s) }

-- A tick run's event is told by a call, and a take that fits is an event.
use Rattle.std.proofs.Common.{◌≡◌, ℕ, suc, ◌+◌, ◌^◌, ◌<◌, ◌≤◌, Bool, true, false, cond, ◌⊎◌, ◌↔◌, List, [], ◌∷◌, ◌++◌, length, get_or, Some, Ok, sym, refl, ap, ◌∙◌, subst, ap₂, inl, inr, arith}
use Rattle.std.specs.List.{AllByRecursion}
use Rattle.std.proofs.lemmas.Bool.{false_from_ne_true}
use Rattle.theory.specs.Settings.{later, steps, reach}
use Rattle.theory.specs.Records.{Record, record_of, wait, reset}
use Rattle.theory.specs.Regions.{Comparison}
use Rattle.theory.proofs.Waits.{ticks_are_a_wait}
use Rattle.theory.proofs.Moments.{reach_of_ticks}
use Rattle.theory.proofs.Resets.{record_of_cleared, length_marked}
use Rattle.runs.specs.Plans.{Plan, Change, Outcome, blank_outcome, Sound, change_of, weights}
use Rattle.runs.specs.Ticks.{Ticking, OnPermitted, Possible, ticket, used, MayGo, Changes, Meets, RunsOut, Move}
use Rattle.runs.specs.Runs.{top, upto, goal_by, judged, picked_by, Run, Draws, rest_of, is_open, Outturn, arrived, at_goal, ran_out, take_call, step_call, Scheduler, offers_of, shown, Call, Reply, answered, make}
use Rattle.runs.specs.Telling.{Agree, Offered, OffersRight, Followed, TellsEvent, Told, Tells, Grants, AllGranted}
use Rattle.runs.specs.declared.Offer.{Offer}
use Rattle.runs.specs.declared.Answer.{Answer}
use Rattle.runs.specs.declared.Answer.TheVariants.{Taken, Met, RanOut}
use Rattle.runs.specs.declared.Standing.TheVariants.{Reached, Stuck}
use Rattle.runs.proofs.Reach.{Allows, length_later}
use Rattle.runs.proofs.Allowed.{within_cuts, holds_allows}
use Rattle.runs.proofs.Plans.{guard_is_named, named_like, sound_outcome}
use Rattle.runs.proofs.Permits.{permitted_reach, reach_permitted}
use Rattle.runs.proofs.Goals.{within_goal_by, permitted_goal_by, judged_alike}
use Rattle.runs.proofs.Offered.{offered_is_possible}
use Rattle.runs.proofs.Picking.{picks_picked}
use Rattle.runs.proofs.Taking.{Fits, take_met, take_taken}
use Rattle.runs.proofs.Choosing.{step_runs_out}
use Rattle.runs.proofs.Opening.{same_run, run_of, Sized}

-- a go that may be made is a take that fits, after the wait of its ticks
pub go_fits : (plan : Plan) (D : ℕ) (now : Ticking) (t c g : ℕ) (coming : Draws) → Sound plan → 1 ≤ D → Sized plan now → MayGo plan D now t c g → Fits plan (run_of D now coming) c (steps D now.ticks t)
go_fits plan D now t c g coming s d n h =
    record { going_on = h.going_on; of_stage = h.of_stage; in_hold = l; allowed = (within_cuts r guard (steps D now.ticks t) (upto (top plan now.stage r))).1 ((omega arith, omega (arith, l)), subst (λ z. AllByRecursion (Allows r z) guard) (reach_of_ticks D now.ticks t) ((holds_allows D now.ticks t 1 d (omega arith) guard (named_like plan now.ticks guard n (guard_is_named plan s now.stage c))).0 h.guard_true)) }
  where
    r : Record
    r = record_of D now.ticks

    guard : List Comparison
    guard = (change_of plan now.stage c).guard

    l : steps D now.ticks t ≤ top plan now.stage r
    l =
        omega (arith, permitted_reach plan now.stage D now.ticks t 1 s d n (omega arith) h.permitted, reach_of_ticks D now.ticks t)

-- a take that fits, after the wait of some ticks, is a go that may be made
pub fits_go : (plan : Plan) (D : ℕ) (now : Ticking) (t c g : ℕ) (coming : Draws) → Sound plan → 1 ≤ D → Sized plan now → g < 2 ^ 32 → (t ≡ 0) ⊎ (0 < steps D now.ticks t) → Fits plan (run_of D now coming) c (steps D now.ticks t) → MayGo plan D now t c g
fits_go plan D now t c g coming s d n b z h =
    record { going_on = h.going_on; a_draw = b; of_stage = h.of_stage; permitted = reach_permitted plan now.stage D now.ticks t 1 s d n (omega arith) (above z) (omega (arith, h.in_hold, reach_of_ticks D now.ticks t)); guard_true = (holds_allows D now.ticks t 1 d (omega arith) guard (named_like plan now.ticks guard n (guard_is_named plan s now.stage c))).1 (subst (λ k. AllByRecursion (Allows r k) guard) (sym (reach_of_ticks D now.ticks t)) ((within_cuts r guard (steps D now.ticks t) (upto (top plan now.stage r))).0 h.allowed).1) }
  where
    r : Record
    r = record_of D now.ticks

    guard : List Comparison
    guard = (change_of plan now.stage c).guard

    above : (t ≡ 0) ⊎ (0 < steps D now.ticks t) → (t ≡ 0) ⊎ (0 < reach D now.ticks t 1)
    above (inl e) = inl e
    above (inr l) = inr (omega (arith, reach_of_ticks D now.ticks t))

-- a tick run keeps its number of timers
pub changes_sized : (plan : Plan) (D : ℕ) (now : Ticking) (t c g n : ℕ) (then : Ticking) → Sized plan now → Changes plan D now t c g n then → Sized plan then
changes_sized plan D now t c g n then z h =
    ap length h.ticks_then ∙ (length_marked 0 (λ x. x) (get_or (change_of plan now.stage c).outcomes n blank_outcome).resets (later t now.ticks) ∙ (length_later t now.ticks ∙ z))

pub meets_sized : (plan : Plan) (D : ℕ) (now : Ticking) (t c g : ℕ) (then : Ticking) → Sized plan now → Meets plan D now t c g then → Sized plan then
meets_sized plan D now t c g then z h = ap length h.ticks_then ∙ (length_later t now.ticks ∙ z)

pub runs_out_sized : (plan : Plan) (D : ℕ) (now then : Ticking) → Sized plan now → RunsOut plan D now then → Sized plan then
runs_out_sized plan D now then z h = ap length h.ticks_then ∙ z

-- the take that tells a go with its outcome
pub changes_made : (plan : Plan) (D : ℕ) (now : Ticking) (t c g n : ℕ) (then : Ticking) (coming : Draws) → Sound plan → 1 ≤ D → Sized plan now → Changes plan D now t c g n then → coming 0 ≡ Some g → take_call plan (run_of D now coming) c (steps D now.ticks t) ≡ (Ok (Taken c (steps D now.ticks t) ((change_of plan now.stage c).first + n)), run_of D then (rest_of coming))
changes_made plan D now t c g n then coming s d z h e =
    take_taken plan run c w g (go_fits plan D now t c g coming s d z h.may_go) (false_from_ne_true (goal_by plan now.stage run.region w) (λ y. h.never_on ((within_goal_by plan now.stage D now.ticks t s d z).1 y))) e ∙ (ap made pick ∙ ap ended arrives)
  where
    run : Run
    run = run_of D now coming

    w : ℕ
    w = steps D now.ticks t

    change : Change
    change = change_of plan now.stage c

    o : Outcome
    o = get_or change.outcomes n blank_outcome

    made : ℕ → Outturn
    made m = (Ok (Taken c w (change.first + m)), arrived plan run w (get_or change.outcomes m blank_outcome))

    ended : Run → Outturn
    ended x = (Ok (Taken c w (change.first + n)), x)

    pick : picked_by g change ≡ n
    pick = picks_picked change.outcomes (ticket g (weights change.outcomes)) n h.by_draw

    region : reset o.resets (wait w run.region) ≡ record_of D then.ticks
    region =
        sym (ap (record_of D) h.ticks_then ∙ (record_of_cleared D (later t now.ticks) o.resets d ((sound_outcome plan s now.stage c n h.may_go.of_stage h.by_draw.an_outcome).one_mark_each ∙ sym (length_later t now.ticks ∙ z)) ∙ ap (reset o.resets) (ticks_are_a_wait D now.ticks d t)))

    arrives : arrived plan run w o ≡ run_of D then (rest_of coming)
    arrives =
        same_run (arrived plan run w o) (run_of D then (rest_of coming)) (sym h.leads) region (ap₂ (judged plan) (sym h.leads) region ∙ judged_alike plan then.stage D then.ticks then.standing s d (changes_sized plan D now t c g n then z h) h.judged) refl

-- the take that tells a go that meets the goal
pub meets_made : (plan : Plan) (D : ℕ) (now : Ticking) (t c g : ℕ) (then : Ticking) (coming : Draws) → Sound plan → 1 ≤ D → Sized plan now → Meets plan D now t c g then → take_call plan (run_of D now coming) c (steps D now.ticks t) ≡ (Ok (Met (steps D now.ticks t)), run_of D then coming)
meets_made plan D now t c g then coming s d z h =
    take_met plan run c w (go_fits plan D now t c g coming s d z h.may_go) ((within_goal_by plan now.stage D now.ticks t s d z).0 h.on_the_way) ∙ ap ended (same_run (at_goal run w) (run_of D then coming) (sym h.stays) (sym (ap (record_of D) h.ticks_then ∙ ticks_are_a_wait D now.ticks d t)) (sym h.reached) refl)
  where
    run : Run
    run = run_of D now coming

    w : ℕ
    w = steps D now.ticks t

    ended : Run → Outturn
    ended x = (Ok (Met w), x)

none_offered : (os : List Offer) → ((c : ℕ) → Offered os c → ⊥) → os ≡ []
none_offered [] h = refl
none_offered (o ∷ os) h = absurd (h o.change (0, omega arith, refl))

-- the step that tells running out
pub runs_out_made : (plan : Plan) (D : ℕ) (now then : Ticking) (coming : Draws) (f : Scheduler) → Sound plan → 1 ≤ D → Sized plan now → RunsOut plan D now then → step_call plan f (run_of D now coming) ≡ (Ok RanOut, run_of D then coming)
runs_out_made plan D now then coming f s d z h =
    step_runs_out plan f run (ap is_open h.going_on) (none_offered (offers_of plan run) (λ c o. h.nothing_possible c ((offered_is_possible plan now.stage D now.ticks s d z c).0 o))) ∙ ap ended (same_run (ran_out plan run) (run_of D then coming) (sym h.stays) (ap (record_of D) (sym h.ticks_then)) (end h.ends) refl)
  where
    run : Run
    run = run_of D now coming

    ended : Run → Outturn
    ended x = (Ok RanOut, x)

    on : Bool
    on = goal_by plan now.stage run.region (top plan now.stage run.region)

    end : ((then.standing ≡ Reached) × OnPermitted plan now.stage D now.ticks) ⊎ ((then.standing ≡ Stuck) × (OnPermitted plan now.stage D now.ticks → ⊥)) → cond on Reached Stuck ≡ then.standing
    end (inl k) =
        ap (λ b. cond b Reached Stuck) ((permitted_goal_by plan now.stage D now.ticks s d z).0 k.1) ∙ sym k.0
    end (inr k) =
        ap (λ b. cond b Reached Stuck) (false_from_ne_true on (λ y. k.1 ((permitted_goal_by plan now.stage D now.ticks s d z).1 y))) ∙ sym k.0

-- an open run shows its offers, and any other none
pub shown_open : (plan : Plan) (run : Run) → is_open run.standing ≡ true → shown plan run ≡ offers_of plan run
unfolding shown
shown_open plan run e = ap (λ b. cond b (offers_of plan run) []) e

pub shown_not_open : (plan : Plan) (run : Run) → is_open run.standing ≡ false → shown plan run ≡ []
unfolding shown
shown_not_open plan run e = ap (λ b. cond b (offers_of plan run) []) e

-- the run that is read off a tick run agrees with it, and its offers are right
pub agrees : (D : ℕ) (now : Ticking) (coming : Draws) → Agree D now (run_of D now coming)
agrees D now coming = record { same_stage = refl; same_region = refl; same_standing = refl }

pub offers_right : (plan : Plan) (D : ℕ) (now : Ticking) (coming : Draws) → Sound plan → 1 ≤ D → Sized plan now → OffersRight plan D now (run_of D now coming)
offers_right plan D now coming s d z e c =
    subst (λ os. Offered os c ↔ Possible plan now.stage D now.ticks c) (sym (shown_open plan (run_of D now coming) (ap is_open e))) (offered_is_possible plan now.stage D now.ticks s d z c)

-- draws that follow one another
followed_like : (gs : List ℕ) (a b c : Draws) → ((k : ℕ) → a k ≡ b k) → Followed gs b c → Followed gs a c
followed_like [] a b c e h = λ k. e k ∙ h k
followed_like (g ∷ gs) a b c e h =
    (e 0 ∙ h.0, followed_like gs (rest_of a) (rest_of b) c (λ k. e (suc k)) h.1)

pub followed_append : (gs hs : List ℕ) (a b c : Draws) → Followed gs a b → Followed hs b c → Followed (gs ++ hs) a c
followed_append [] hs a b c e h = followed_like hs a b c e h
followed_append (g ∷ gs) hs a b c e h = (e.0, followed_append gs hs (rest_of a) b c e.1 h)

-- a granted call tells the first move, where the later calls tell the others
pub tell_granted : (plan : Plan) (D : ℕ) (now : Ticking) (run : Run) (call : Call) (a : Answer) (run' : Run) (m : Move) (ms : List Move) (calls : List Call) → make plan run call ≡ (answered (Ok a), run') → Agree D now run → OffersRight plan D now run → TellsEvent plan D now run call a m.event → Followed (used m.event) run.coming run'.coming → Tells plan D m.then run' calls ms → Tells plan D now run (call ∷ calls) (m ∷ ms)
tell_granted plan D now run call a run' m ms calls e x y t f rest =
    let P : Reply × Run → Type 0 = λ z. Told plan D now run call z.0 z.1 (m ∷ ms) (λ then left. Tells plan D then z.1 calls left) in
    (x, y, subst P (sym e) (t, f, rest))

-- a call that tells no event leaves the tick run where it is
pub tell_none : (plan : Plan) (D : ℕ) (now : Ticking) (run : Run) (call : Call) (reply : Reply) (ms : List Move) (calls : List Call) → make plan run call ≡ (reply, run) → Agree D now run → OffersRight plan D now run → Told plan D now run call reply run ms (λ then left. Tells plan D then run calls left) → Tells plan D now run (call ∷ calls) ms
tell_none plan D now run call reply ms calls e x y t =
    let P : Reply × Run → Type 0 = λ z. Told plan D now run call z.0 z.1 ms (λ then left. Tells plan D then z.1 calls left) in
    (x, y, subst P (sym e) t)

pub grant : (plan : Plan) (run : Run) (call : Call) (a : Answer) (run' : Run) (calls : List Call) → make plan run call ≡ (answered (Ok a), run') → AllGranted plan run' calls → AllGranted plan run (call ∷ calls)
grant plan run call a run' calls e h =
    let P : Reply × Run → Type 0 = λ z. Grants z.0 × AllGranted plan z.1 calls in subst P (sym e) (tt, h)

-- what a take or a step makes of a run, as a reply and the run after it
abbrev pub replied : Outturn → Reply × Run
replied z = (answered z.0, z.1)

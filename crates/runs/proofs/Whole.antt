-- Whole runs: every tick run is told, and every list of calls tells one.
use Rattle.std.proofs.Common.{◌≡◌, ℕ, zero, suc, ◌+◌, ◌*◌, ◌%◌, ◌^◌, ◌<◌, ◌≤◌, Bool, true, false, ◌⊎◌, List, [], ◌∷◌, ◌++◌, length, get_or, Some, None, Ok, Err, Option, sym, refl, ap, ◌∙◌, subst, inl, inr, arith, pow_pos}
use native.Mathlib.Nat.{pow-succ', mod_self}
use Rattle.std.proofs.lemmas.Bool.{cases_Bool, both_ways}
use Rattle.rows.specs.Refusals.{refusal_no}
use Rattle.theory.specs.Settings.{later, steps, cleared}
use Rattle.theory.specs.Records.{record_of}
use Rattle.theory.proofs.Waits.{steps_zero, ticks_are_a_wait}
use Rattle.theory.proofs.Moments.{waits_in_multiples}
use Rattle.theory.proofs.Resets.{length_marked}
use Rattle.theory.proofs.Multiples.{Multiples, later_keeps_multiples, cleared_keeps_multiples, multiple_of_factor, multiples_of_factor}
use Rattle.runs.specs.Plans.{Plan, Change, Outcome, blank_outcome, Sound, change_of, weights}
use Rattle.runs.specs.Ticks.{Ticking, OnPermitted, ticket, Event, go_changing, go_meeting, run_out, used, Changes, Meets, RunsOut, Happens, Move, Moves, all_used, Begins}
use Rattle.runs.specs.Runs.{top, goal_by, judged, picked_by, Run, Draws, rest_of, is_open, refused, take_call, Scheduler, offers_of, chosen, chosen_wait, shown, Call, Step, Take, Offers, Stands, Reply, answered, offered, standing, make, after}
use Rattle.runs.specs.Telling.{Agree, Offered, OffersRight, Followed, named, TellsEvent, Told, Tells, DrawsFit, TellATickRun, EveryListOfCallsTellsATickRun, AllGranted, OneCallEach, ToldByGrantedCalls, EveryTickRunIsTold, HasOffers}
use Rattle.runs.specs.declared.Offer.{Offer}
use Rattle.runs.specs.declared.Answer.{Answer}
use Rattle.runs.specs.declared.Answer.TheVariants.{Taken, Met, RanOut}
use Rattle.runs.specs.declared.Standing.{Standing}
use Rattle.runs.specs.declared.Standing.TheVariants.{Reached, Stuck}
use Rattle.runs.proofs.Reach.{length_later}
use Rattle.runs.proofs.Plans.{sound_change}
use Rattle.runs.proofs.Goals.{within_goal_by, permitted_goal_by, judged_so}
use Rattle.runs.proofs.Offered.{offered_is_possible}
use Rattle.runs.proofs.Picking.{picked_picks, ticket_fits, some_weight}
use Rattle.runs.proofs.Taking.{Fits, open_is, take_cases, take_no_draw}
use Rattle.runs.proofs.Choosing.{step_not_open, step_takes, step_cases}
use Rattle.runs.proofs.Opening.{run_of, Sized, begins_sized, opens_as_it_begins, beginning, beginning_begins, zeros_are_multiples}
use Rattle.runs.proofs.Telling.{fits_go, changes_sized, meets_sized, runs_out_sized, changes_made, meets_made, runs_out_made, agrees, offers_right, followed_append, tell_granted, tell_none, grant, replied}

-- calls that tell the moves, one each, all granted
abbrev ToldBy : Plan → ℕ → Scheduler → Ticking → Run → List Move → Type 0
ToldBy plan D f now run moves =
    (calls : List Call) × OneCallEach f moves calls × AllGranted plan run calls × Tells plan D now run calls moves

-- every tick run is told, from wherever it is
pub moves_told : (plan : Plan) (D : ℕ) (f : Scheduler) (moves : List Move) (now : Ticking) (coming left : Draws) → Sound plan → 1 ≤ D → Sized plan now → Moves plan D now moves → Followed (all_used moves) coming left → (calls : List Call) × OneCallEach f moves calls × AllGranted plan (run_of D now coming) calls × Tells plan D now (run_of D now coming) calls moves
moves_told plan D f [] now coming left s d z mv fo =
    ([], tt, tt, (agrees D now coming, offers_right plan D now coming s d z, refl))
moves_told plan D f (m ∷ ms) now coming left s d z mv fo =
    go m.event m.then mv.0 fo (λ coming' z' fo'. moves_told plan D f ms m.then coming' left s d z' mv.1 fo')
  where
    go : (e : Event) (y : Ticking) → Happens plan D now e y → Followed (used e ++ all_used ms) coming left → ((coming' : Draws) → Sized plan y → Followed (all_used ms) coming' left → ToldBy plan D f y (run_of D y coming') ms) → ToldBy plan D f now (run_of D now coming) (record { event = e; then = y } ∷ ms)
    go (go_changing t c g n) y h fo' rest =
        let w = steps D now.ticks t in
        let k = rest (rest_of coming) (changes_sized plan D now t c g n y z h) fo'.1 in
        let a : Answer = Taken c w ((change_of plan now.stage c).first + n) in
        let e : make plan (run_of D now coming) (Take c w) ≡ (answered (Ok a), run_of D y (rest_of coming)) = ap replied (changes_made plan D now t c g n y coming s d z h fo'.0) in
        (Take c w ∷ k.0, ((w, refl), k.1), grant plan (run_of D now coming) (Take c w) a (run_of D y (rest_of coming)) k.0 e k.2, tell_granted plan D now (run_of D now coming) (Take c w) a (run_of D y (rest_of coming)) (record { event = go_changing t c g n; then = y }) ms k.0 e (agrees D now coming) (offers_right plan D now coming s d z) (refl, refl, refl, fo'.0, ticks_are_a_wait D now.ticks d t) (fo'.0, λ i. refl) k.3)
    go (go_meeting t c g) y h fo' rest =
        let w = steps D now.ticks t in
        let k = rest coming (meets_sized plan D now t c g y z h) fo' in
        let e : make plan (run_of D now coming) (Take c w) ≡ (answered (Ok (Met w)), run_of D y coming) = ap replied (meets_made plan D now t c g y coming s d z h) in
        (Take c w ∷ k.0, ((w, refl), k.1), grant plan (run_of D now coming) (Take c w) (Met w) (run_of D y coming) k.0 e k.2, tell_granted plan D now (run_of D now coming) (Take c w) (Met w) (run_of D y coming) (record { event = go_meeting t c g; then = y }) ms k.0 e (agrees D now coming) (offers_right plan D now coming s d z) (refl, ticks_are_a_wait D now.ticks d t) (λ i. refl) k.3)
    go run_out y h fo' rest =
        let k = rest coming (runs_out_sized plan D now y z h) fo' in
        let e : make plan (run_of D now coming) (Step f) ≡ (answered (Ok RanOut), run_of D y coming) = ap replied (runs_out_made plan D now y coming f s d z h) in
        (Step f ∷ k.0, (refl, k.1), grant plan (run_of D now coming) (Step f) RanOut (run_of D y coming) k.0 e k.2, tell_granted plan D now (run_of D now coming) (Step f) RanOut (run_of D y coming) (record { event = run_out; then = y }) ms k.0 e (agrees D now coming) (offers_right plan D now coming s d z) tt (λ i. refl) k.3)

pub every_tick_run_is_told : EveryTickRunIsTold
every_tick_run_is_told plan D start moves draws left f s d b mv fo =
    subst (λ run. ToldBy plan D f start run moves) (sym (opens_as_it_begins plan D start draws s d b)) (moves_told plan D f moves start draws left s d (begins_sized plan D start b) mv fo)

-- a tick run that the calls tell, from wherever the run is
abbrev pub TellsSome : Plan → ℕ → Ticking → Run → List Call → Type 0
TellsSome plan D now run calls =
    (moves : List Move) × Moves plan D now moves × Followed (all_used moves) run.coming (after plan run calls).coming × Tells plan D now run calls moves

-- a granted call adds an event
add_event : (plan : Plan) (D : ℕ) (now : Ticking) (run : Run) (call : Call) (a : Answer) (run' : Run) (e : Event) (y : Ticking) (calls : List Call) → make plan run call ≡ (answered (Ok a), run') → Agree D now run → OffersRight plan D now run → Happens plan D now e y → TellsEvent plan D now run call a e → Followed (used e) run.coming run'.coming → TellsSome plan D y run' calls → TellsSome plan D now run (call ∷ calls)
add_event plan D now run call a run' e y calls q x o h t f k =
    (record { event = e; then = y } ∷ k.0, (h, k.1), subst (λ z. Followed (used e ++ all_used k.0) run.coming (after plan z.1 calls).coming) (sym q) (followed_append (used e) (all_used k.0) run.coming run'.coming (after plan run' calls).coming f k.2), tell_granted plan D now run call a run' (record { event = e; then = y }) k.0 calls q x o t f k.3)

-- a call that is no event adds none
add_none : (plan : Plan) (D : ℕ) (now : Ticking) (run : Run) (call : Call) (reply : Reply) (calls : List Call) → make plan run call ≡ (reply, run) → Agree D now run → OffersRight plan D now run → ((ms : List Move) → Tells plan D now run calls ms → Told plan D now run call reply run ms (λ then left. Tells plan D then run calls left)) → TellsSome plan D now run calls → TellsSome plan D now run (call ∷ calls)
add_none plan D now run call reply calls q x o t k =
    (k.0, k.1, subst (λ z. Followed (all_used k.0) run.coming (after plan z.1 calls).coming) (sym q) k.2, tell_none plan D now run call reply k.0 calls q x o (t k.0 k.3))

-- ticks for a wait: none for the wait 0, and a multiple of g else
ticks_for : (g D : ℕ) (v : List ℕ) → 1 ≤ g → 1 ≤ D → 1 ≤ length v → D % (2 * g) ≡ 0 → Multiples (2 * g) v → (d : ℕ) → (p : ℕ) × (steps D v (g * p) ≡ d) × ((g * p ≡ 0) ⊎ (0 < d))
ticks_for g D v h d n e m zero = (0, ap (steps D v) z ∙ steps_zero D v, inl z)
  where
    z : g * 0 ≡ 0
    z = omega arith
ticks_for g D v h d n e m (suc w) =
    let k = waits_in_multiples g D v h d n e m (suc w) in (k.0, k.1, inr (omega arith))

-- how the later calls are told, from any state whose ticks are multiples of g
abbrev Later : Plan → ℕ → ℕ → List Call → Type 0
Later plan D g calls =
    (y : Ticking) (coming : Draws) → Sized plan y → Multiples g y.ticks → DrawsFit coming → TellsSome plan D y (run_of D y coming) calls

-- a call that does what a fitting take does is an event, or refused for want of a draw
fit_told : (plan : Plan) (D g : ℕ) (now : Ticking) (coming : Draws) (call : Call) (c d : ℕ) (calls : List Call) → Sound plan → 1 ≤ g → 1 ≤ D → Sized plan now → D % (2 * g) ≡ 0 → Multiples (2 * g) now.ticks → DrawsFit coming → make plan (run_of D now coming) call ≡ replied (take_call plan (run_of D now coming) c d) → c ≡ named plan (run_of D now coming) call → Fits plan (run_of D now coming) c d → Later plan D g calls → TellsSome plan D now (run_of D now coming) (call ∷ calls)
fit_told plan D g now coming call c d calls s hg hD z e m fit q nm h more =
    made (ticks_for g D now.ticks hg hD (omega (arith, s.some_timer)) e m d)
  where
    run : Run
    run = run_of D now coming

    i : ℕ
    i = now.stage

    change : Change
    change = change_of plan i c

    half : Multiples g now.ticks
    half = multiples_of_factor 2 g now.ticks m

    made : (p : ℕ) × (steps D now.ticks (g * p) ≡ d) × ((g * p ≡ 0) ⊎ (0 < d)) → TellsSome plan D now run (call ∷ calls)
    made k = go (cases_Bool (goal_by plan i run.region w))
      where
        t : ℕ
        t = g * k.0

        w : ℕ
        w = steps D now.ticks t

        above : (t ≡ 0) ⊎ (0 < d) → (t ≡ 0) ⊎ (0 < w)
        above (inl y) = inl y
        above (inr y) = inr (omega (arith, k.1))

        fits : Fits plan run c w
        fits = subst (Fits plan run c) (sym k.1) h

        q' : make plan run call ≡ replied (take_call plan run c w)
        q' = q ∙ ap (λ x. replied (take_call plan run c x)) (sym k.1)

        met : goal_by plan i run.region w ≡ true → TellsSome plan D now run (call ∷ calls)
        met on =
            add_event plan D now run call (Met w) (run_of D y coming) (go_meeting t c 0) y calls (q' ∙ ap replied (meets_made plan D now t c 0 y coming s hD z happens)) (agrees D now coming) (offers_right plan D now coming s hD z) happens (nm, ticks_are_a_wait D now.ticks hD t) (λ j. refl) (more y coming (meets_sized plan D now t c 0 y z happens) (later_keeps_multiples g k.0 now.ticks half) fit)
          where
            y : Ticking
            y = record { stage = i; ticks = later t now.ticks; standing = Reached }

            happens : Meets plan D now t c 0 y
            happens =
                record { may_go = fits_go plan D now t c 0 coming s hD z (omega arith) (above k.2) fits; on_the_way = (within_goal_by plan i D now.ticks t s hD z).1 on; stays = refl; ticks_then = refl; reached = refl }

        drawn : goal_by plan i run.region w ≡ false → (o : Option ℕ) → coming 0 ≡ o → TellsSome plan D now run (call ∷ calls)
        drawn off None j =
            add_none plan D now run call (answered (Err (refusal_no 12))) calls (q' ∙ ap replied (take_no_draw plan run c w fits off j)) (agrees D now coming) (offers_right plan D now coming s hD z) (λ ms x. (refl, x)) (more now coming z half fit)
        drawn off (Some b) j =
            add_event plan D now run call (Taken c w (change.first + n)) (run_of D y (rest_of coming)) (go_changing t c b n) y calls (q' ∙ ap replied (changes_made plan D now t c b n y coming s hD z happens j)) (agrees D now coming) (offers_right plan D now coming s hD z) happens (refl, nm, refl, j, ticks_are_a_wait D now.ticks hD t) (j, λ x. refl) (more y (rest_of coming) (changes_sized plan D now t c b n y z happens) (cleared_keeps_multiples g o.resets (later t now.ticks) (later_keeps_multiples g k.0 now.ticks half)) (λ x. fit (suc x)))
          where
            n : ℕ
            n = picked_by b change

            o : Outcome
            o = get_or change.outcomes n blank_outcome

            v : List ℕ
            v = cleared o.resets (later t now.ticks)

            y : Ticking
            y = record { stage = o.target; ticks = v; standing = judged plan o.target (record_of D v) }

            sized : Sized plan y
            sized = length_marked 0 (λ x. x) o.resets (later t now.ticks) ∙ (length_later t now.ticks ∙ z)

            happens : Changes plan D now t c b n y
            happens =
                record { may_go = fits_go plan D now t c b coming s hD z (fit 0 b j) (above k.2) fits; never_on = λ x. both_ways (goal_by plan i run.region w) off ((within_goal_by plan i D now.ticks t s hD z).0 x); by_draw = picked_picks change.outcomes (ticket b (weights change.outcomes)) (ticket_fits b (weights change.outcomes) (fit 0 b j) (some_weight plan change.outcomes (sound_change plan s i c h.of_stage).some_outcome (sound_change plan s i c h.of_stage).outcomes_sound)); leads = refl; ticks_then = refl; judged = judged_so plan o.target D v s hD sized }

        go : (goal_by plan i run.region w ≡ true) ⊎ (goal_by plan i run.region w ≡ false) → TellsSome plan D now run (call ∷ calls)
        go (inl on) = met on
        go (inr off) = drawn off (coming 0) refl

-- a call that does what a take does
take_told : (plan : Plan) (D g : ℕ) (now : Ticking) (coming : Draws) (call : Call) (c d : ℕ) (calls : List Call) → Sound plan → 1 ≤ g → 1 ≤ D → Sized plan now → D % (2 * g) ≡ 0 → Multiples (2 * g) now.ticks → DrawsFit coming → make plan (run_of D now coming) call ≡ replied (take_call plan (run_of D now coming) c d) → c ≡ named plan (run_of D now coming) call → Later plan D g calls → TellsSome plan D now (run_of D now coming) (call ∷ calls)
take_told plan D g now coming call c d calls s hg hD z e m fit q nm more =
    go (take_cases plan (run_of D now coming) c d)
  where
    run : Run
    run = run_of D now coming

    go : Fits plan run c d ⊎ ((n : ℕ) × (take_call plan run c d ≡ refused n run)) → TellsSome plan D now run (call ∷ calls)
    go (inl h) = fit_told plan D g now coming call c d calls s hg hD z e m fit q nm h more
    go (inr h) =
        add_none plan D now run call (answered (Err (refusal_no h.0))) calls (q ∙ ap replied h.1) (agrees D now coming) (offers_right plan D now coming s hD z) (λ ms x. (refl, x)) (more now coming z (multiples_of_factor 2 g now.ticks m) fit)

-- a step
step_told : (plan : Plan) (D g : ℕ) (now : Ticking) (coming : Draws) (f : Scheduler) (calls : List Call) → Sound plan → 1 ≤ g → 1 ≤ D → Sized plan now → D % (2 * g) ≡ 0 → Multiples (2 * g) now.ticks → DrawsFit coming → Later plan D g calls → TellsSome plan D now (run_of D now coming) (Step f ∷ calls)
step_told plan D g now coming f calls s hg hD z e m fit more = go (step_cases plan f run)
  where
    run : Run
    run = run_of D now coming

    half : Multiples g now.ticks
    half = multiples_of_factor 2 g now.ticks m

    on : Bool
    on = goal_by plan now.stage run.region (top plan now.stage run.region)

    end : (b : Bool) → on ≡ b → (x : Standing) × (((x ≡ Reached) × OnPermitted plan now.stage D now.ticks) ⊎ ((x ≡ Stuck) × (OnPermitted plan now.stage D now.ticks → ⊥)))
    end true j = (Reached, inl (refl, (permitted_goal_by plan now.stage D now.ticks s hD z).1 j))
    end false j =
        (Stuck, inr (refl, λ w. both_ways on j ((permitted_goal_by plan now.stage D now.ticks s hD z).0 w)))

    none : (os : List Offer) → os ≡ [] → (c : ℕ) → Offered os c → ⊥
    none [] j c o = omega (arith, o.1)
    none (x ∷ os) j c o = omega (arith, ap length j)

    runs_out : (is_open run.standing ≡ true) × (offers_of plan run ≡ []) → TellsSome plan D now run (Step f ∷ calls)
    runs_out h =
        add_event plan D now run (Step f) RanOut (run_of D y coming) run_out y calls (ap replied (runs_out_made plan D now y coming f s hD z happens)) (agrees D now coming) (offers_right plan D now coming s hD z) happens tt (λ j. refl) (more y coming z half fit)
      where
        x : (x : Standing) × (((x ≡ Reached) × OnPermitted plan now.stage D now.ticks) ⊎ ((x ≡ Stuck) × (OnPermitted plan now.stage D now.ticks → ⊥)))
        x = end on refl

        y : Ticking
        y = record { stage = now.stage; ticks = now.ticks; standing = x.0 }

        happens : RunsOut plan D now y
        happens =
            record { going_on = open_is run.standing h.0; nothing_possible = λ c p. none (offers_of plan run) h.1 c ((offered_is_possible plan now.stage D now.ticks s hD z c).1 p); stays = refl; ticks_then = refl; ends = x.1 }

    go : (is_open run.standing ≡ false) ⊎ (((is_open run.standing ≡ true) × (offers_of plan run ≡ [])) ⊎ HasOffers plan run) → TellsSome plan D now run (Step f ∷ calls)
    go (inl j) =
        add_none plan D now run (Step f) (answered (Err (refusal_no 8))) calls (ap replied (step_not_open plan f run j)) (agrees D now coming) (offers_right plan D now coming s hD z) (λ ms x. (refl, x)) (more now coming z half fit)
    go (inr (inl h)) = runs_out h
    go (inr (inr h)) =
        take_told plan D g now coming (Step f) (chosen plan f run) (chosen_wait plan f run) calls s hg hD z e m fit (ap replied (step_takes plan f run h)) refl more

-- any call, where the later ones are told
call_told : (plan : Plan) (D g : ℕ) (now : Ticking) (coming : Draws) (call : Call) (calls : List Call) → Sound plan → 1 ≤ g → 1 ≤ D → Sized plan now → D % (2 * g) ≡ 0 → Multiples (2 * g) now.ticks → DrawsFit coming → Later plan D g calls → TellsSome plan D now (run_of D now coming) (call ∷ calls)
call_told plan D g now coming (Step f) calls s hg hD z e m fit more = step_told plan D g now coming f calls s hg hD z e m fit more
call_told plan D g now coming (Take c d) calls s hg hD z e m fit more =
    take_told plan D g now coming (Take c d) c d calls s hg hD z e m fit refl refl more
call_told plan D g now coming Offers calls s hg hD z e m fit more =
    add_none plan D now (run_of D now coming) Offers (offered (shown plan (run_of D now coming))) calls refl (agrees D now coming) (offers_right plan D now coming s hD z) (λ ms x. (refl, x)) (more now coming z (multiples_of_factor 2 g now.ticks m) fit)
call_told plan D g now coming Stands calls s hg hD z e m fit more =
    add_none plan D now (run_of D now coming) Stands (standing now.standing) calls refl (agrees D now coming) (offers_right plan D now coming s hD z) (λ ms x. (refl, x)) (more now coming z (multiples_of_factor 2 g now.ticks m) fit)

-- every list of calls is told from ticks that are multiples of 2 to the number of calls
pub calls_told : (plan : Plan) (D : ℕ) (calls : List Call) (now : Ticking) (coming : Draws) → Sound plan → 1 ≤ D → Sized plan now → D % 2 ^ length calls ≡ 0 → Multiples (2 ^ length calls) now.ticks → DrawsFit coming → TellsSome plan D now (run_of D now coming) calls
calls_told plan D [] now coming s d z e m fit =
    ([], tt, λ k. refl, (agrees D now coming, offers_right plan D now coming s d z, refl))
calls_told plan D (call ∷ calls) now coming s d z e m fit =
    call_told plan D (2 ^ length calls) now coming call calls s (pow_pos (length calls)) d z even (subst (λ g. Multiples g now.ticks) (pow-succ' 2 (length calls)) m) fit (λ y coming' z' m' fit'. calls_told plan D calls y coming' s d z' (multiple_of_factor 2 (2 ^ length calls) D even) m' fit')
  where
    even : D % (2 * 2 ^ length calls) ≡ 0
    even = subst (λ g. D % g ≡ 0) (pow-succ' 2 (length calls)) e

pub every_list_of_calls_tells_a_tick_run : EveryListOfCallsTellsATickRun
every_list_of_calls_tells_a_tick_run plan draws calls s fit =
    let D = 2 ^ length calls in
    let d : 1 ≤ D = pow_pos (length calls) in
    let b = beginning_begins plan D s d in
    let k = subst (λ run. TellsSome plan D (beginning plan D) run calls) (sym (opens_as_it_begins plan D (beginning plan D) draws s d b)) (calls_told plan D calls (beginning plan D) draws s d (begins_sized plan D (beginning plan D) b) (mod_self D) (zeros_are_multiples D (length plan.ceilings)) fit) in
    (D, beginning plan D, k.0, d, b, k.1, k.2, k.3)

-- the same of one plan and its draws, as records
pub calls_tell_a_tick_run : (plan : Plan) (draws : Draws) → Sound plan → DrawsFit draws → (calls : List Call) → TellATickRun plan draws calls
calls_tell_a_tick_run plan draws s fit calls =
    let k = every_list_of_calls_tells_a_tick_run plan draws calls s fit in
    record { fineness = k.0; start = k.1; moves = k.2; some_ticks = k.3; begins = k.4; a_tick_run = k.5; draws_in_order = k.6; told = k.7 }

pub granted_calls_tell : (plan : Plan) (draws : Draws) → Sound plan → (D : ℕ) (start : Ticking) (moves : List Move) (left : Draws) (f : Scheduler) → 1 ≤ D → Begins plan D start → Moves plan D start moves → Followed (all_used moves) draws left → ToldByGrantedCalls plan draws D start moves f
granted_calls_tell plan draws s D start moves left f d b mv fo =
    let k = every_tick_run_is_told plan D start moves draws left f s d b mv fo in
    record { calls = k.0; one_each = k.1; granted = k.2; told = k.3 }

-- What it means that the calls of a run tell a tick run, and what is promised of both.
use Rattle.std.specs.Prelude.{◌≡◌, ℕ, ◌+◌, ◌^◌, ◌<◌, ◌≤◌, Bool, true, false, ◌⊎◌, ◌↔◌, List, [], ◌∷◌, length, Some, None, Ok, Err, Result, ◌≢◌, slice_index_or}
use Rattle.std.specs.List.{AllByRecursion}
use Rattle.rows.specs.declared.refusal.Refusal.{Refusal}
use Rattle.rows.specs.Refusals.{refusal_no}
use Rattle.theory.specs.Settings.{later, reach}
use Rattle.theory.specs.Records.{record_of, record_in, wait}
use Rattle.theory.specs.Regions.{Comparison, NamesBelow}
use Rattle.runs.specs.Plans.{Plan, Sound, change_of}
use Rattle.runs.specs.Ticks.{Ticking, Holds, Permitted, Possible, Event, go_changing, go_meeting, run_out, used, Move, Moves, all_used, Begins}
use Rattle.runs.specs.Runs.{inside, upto, cuts, top, blank_offer, offers_at, goal_by, Draws, rest_of, Run, Scheduler, InRange, offers_of, chosen, chosen_wait, step_call, Call, Step, Take, Offers, Stands, Reply, answered, offered, standing, shown, make, after, opening, Inv}
use Rattle.runs.specs.declared.Offer.{Offer}
use Rattle.runs.specs.declared.Answer.{Answer}
use Rattle.runs.specs.declared.Answer.TheVariants.{Taken, Met, RanOut}
use Rattle.runs.specs.declared.Standing.TheVariants.{Open}

-- a run and a tick run agree: the same stage, the region of the ticks, the same standing
pub record Agree (D : ℕ) (now : Ticking) (run : Run) : Type 0 where
  pub same_stage : run.stage ≡ now.stage
  pub same_region : run.region ≡ record_of D now.ticks
  pub same_standing : run.standing ≡ now.standing

-- some offer of the list is of the change c
abbrev pub Offered : List Offer → ℕ → Type 0
Offered os c = (k : ℕ) × (k < length os) × ((slice_index_or os k blank_offer).change ≡ c)

-- while the run is open, a change is among the offers that it shows exactly if it is possible
abbrev pub OffersRight : Plan → ℕ → Ticking → Run → Type 0
OffersRight plan D now run =
    run.standing ≡ Open → (c : ℕ) → Offered (shown plan run) c ↔ Possible plan now.stage D now.ticks c

-- the draws of the list, followed by those that are left, are the draws to come
abbrev pub Followed : List ℕ → Draws → Draws → Type 0
Followed [] coming left = (k : ℕ) → coming k ≡ left k
Followed (g ∷ gs) coming left = (coming 0 ≡ Some g) × Followed gs (rest_of coming) left

-- the change that a call names or chooses
abbrev pub named : Plan → Run → Call → ℕ
named plan run (Step f) = chosen plan f run
named plan run (Take c d) = c
named plan run Offers = 0
named plan run Stands = 0

-- the region of the ticks after t is the region after the wait d
abbrev pub WaitsAlike : ℕ → Ticking → Run → ℕ → ℕ → Type 0
WaitsAlike D now run t d = record_of D (later t now.ticks) ≡ wait d run.region

-- an answer tells an event: the same change, outcome and draw, or the same change met, or running out
abbrev pub TellsEvent : Plan → ℕ → Ticking → Run → Call → Answer → Event → Type 0
TellsEvent plan D now run call (Taken c d n) (go_changing t c' g n') =
    (c' ≡ c) × (c ≡ named plan run call) × (n ≡ (change_of plan run.stage c).first + n') × (run.coming 0 ≡ Some g) × WaitsAlike D now run t d
TellsEvent plan D now run call (Taken c d n) (go_meeting t c' g) = ⊥
TellsEvent plan D now run call (Taken c d n) run_out = ⊥
TellsEvent plan D now run call (Met d) (go_changing t c g n) = ⊥
TellsEvent plan D now run call (Met d) (go_meeting t c g) = (c ≡ named plan run call) × WaitsAlike D now run t d
TellsEvent plan D now run call (Met d) run_out = ⊥
TellsEvent plan D now run call RanOut (go_changing t c g n) = ⊥
TellsEvent plan D now run call RanOut (go_meeting t c g) = ⊥
TellsEvent plan D now run call RanOut run_out = Unit {0}

-- a granted take or step tells the first of the moves, any other call none; the later calls tell the moves that are left, from where the tick run is then
abbrev pub Told : Plan → ℕ → Ticking → Run → Call → Reply → Run → List Move → (Ticking → List Move → Type 0) → Type 0
Told plan D now run call (answered (Ok a)) then [] rest = ⊥
Told plan D now run call (answered (Ok a)) then (m ∷ ms) rest =
    TellsEvent plan D now run call a m.event × Followed (used m.event) run.coming then.coming × rest m.then ms
Told plan D now run call (answered (Err e)) then ms rest = (then ≡ run) × rest now ms
Told plan D now run call (offered os) then ms rest = (then ≡ run) × rest now ms
Told plan D now run call (standing s) then ms rest = (then ≡ run) × rest now ms

-- the calls tell the moves: run and tick run agree before every call and at the end, the offers are right, and each call tells what it does
abbrev pub Tells : Plan → ℕ → Ticking → Run → List Call → List Move → Type 0
Tells plan D now run [] ms = Agree D now run × OffersRight plan D now run × (ms ≡ [])
Tells plan D now run (call ∷ calls) ms =
    Agree D now run × OffersRight plan D now run × Told plan D now run call (make plan run call).0 (make plan run call).1 ms (λ then left. Tells plan D then (make plan run call).1 calls left)

-- every draw to come has 32 bits
abbrev pub DrawsFit : Draws → Type 0
DrawsFit draws = (k g : ℕ) → draws k ≡ Some g → g < 2 ^ 32

-- every list of calls tells some tick run from its opening, with one fineness for the whole list
abbrev pub EveryListOfCallsTellsATickRun : Type 0
EveryListOfCallsTellsATickRun =
    (plan : Plan) (draws : Draws) (calls : List Call) → Sound plan → DrawsFit draws → (D : ℕ) × (start : Ticking) × (moves : List Move) × (1 ≤ D) × Begins plan D start × Moves plan D start moves × Followed (all_used moves) draws (after plan (opening plan draws) calls).coming × Tells plan D start (opening plan draws) calls moves

-- the calls tell some tick run from its opening, with one fineness for all of them
pub record TellATickRun (plan : Plan) (draws : Draws) (calls : List Call) : Type 0 where
  -- the ticks of a second
  pub fineness : ℕ
  -- where the tick run begins, and what happens in it
  pub start : Ticking
  pub moves : List Move
  pub some_ticks : 1 ≤ fineness
  pub begins : Begins plan fineness start
  pub a_tick_run : Moves plan fineness start moves
  -- the draws that it uses, and then those that the calls leave, are the draws to come
  pub draws_in_order : Followed (all_used moves) draws (after plan (opening plan draws) calls).coming
  pub told : Tells plan fineness start (opening plan draws) calls moves

-- a reply that grants a take or a step
abbrev pub Grants : Reply → Type 0
Grants (answered (Ok a)) = Unit {0}
Grants (answered (Err e)) = ⊥
Grants (offered os) = ⊥
Grants (standing s) = ⊥

-- every call of the list is granted
abbrev pub AllGranted : Plan → Run → List Call → Type 0
AllGranted plan run [] = Unit {0}
AllGranted plan run (call ∷ calls) = Grants (make plan run call).0 × AllGranted plan (make plan run call).1 calls

-- a take for a go, a step by the scheduler for running out
abbrev pub CallFor : Scheduler → Event → Call → Type 0
CallFor f (go_changing t c g n) call = (d : ℕ) × (call ≡ Take c d)
CallFor f (go_meeting t c g) call = (d : ℕ) × (call ≡ Take c d)
CallFor f run_out call = call ≡ Step f

-- one call for each move, and nothing else
abbrev pub OneCallEach : Scheduler → List Move → List Call → Type 0
OneCallEach f [] [] = Unit {0}
OneCallEach f [] (call ∷ calls) = ⊥
OneCallEach f (m ∷ ms) [] = ⊥
OneCallEach f (m ∷ ms) (call ∷ calls) = CallFor f m.event call × OneCallEach f ms calls

-- every tick run whose draws are the first to come is told by granted calls: a take for each go, and a step where it runs out
abbrev pub EveryTickRunIsTold : Type 0
EveryTickRunIsTold =
    (plan : Plan) (D : ℕ) (start : Ticking) (moves : List Move) (draws left : Draws) (f : Scheduler) → Sound plan → 1 ≤ D → Begins plan D start → Moves plan D start moves → Followed (all_used moves) draws left → (calls : List Call) × OneCallEach f moves calls × AllGranted plan (opening plan draws) calls × Tells plan D start (opening plan draws) calls moves

-- granted calls that tell a tick run: a take for each go, and a step by the scheduler where it runs out
pub record ToldByGrantedCalls (plan : Plan) (draws : Draws) (D : ℕ) (start : Ticking) (moves : List Move) (f : Scheduler) : Type 0 where
  pub calls : List Call
  pub one_each : OneCallEach f moves calls
  pub granted : AllGranted plan (opening plan draws) calls
  pub told : Tells plan D start (opening plan draws) calls moves

-- the run is open and has an offer
pub record HasOffers (plan : Plan) (run : Run) : Type 0 where
  pub going_on : run.standing ≡ Open
  pub some_offer : 1 ≤ length (offers_of plan run)

-- the goal is on, or not, by the wait that the scheduler chooses
abbrev pub goal_by_chosen : Plan → Scheduler → Run → Bool
goal_by_chosen plan f run = goal_by plan run.stage run.region (chosen_wait plan f run)

-- what a step may answer, and when: it is refused where the run is not open or a draw is due and none is to come, runs out for want of offers, and else makes the scheduler's choice
abbrev pub StepAnswers : Plan → Scheduler → Run → Result Answer Refusal → Type 0
StepAnswers plan f run (Ok (Taken c d n)) =
    HasOffers plan run × (goal_by_chosen plan f run ≡ false) × (c ≡ chosen plan f run) × (d ≡ chosen_wait plan f run)
StepAnswers plan f run (Ok (Met d)) = HasOffers plan run × (goal_by_chosen plan f run ≡ true) × (d ≡ chosen_wait plan f run)
StepAnswers plan f run (Ok RanOut) = (run.standing ≡ Open) × (offers_of plan run ≡ [])
StepAnswers plan f run (Err e) =
    ((e ≡ refusal_no 8) × (run.standing ≢ Open))
    ⊎ ((e ≡ refusal_no 12)
    × HasOffers plan run
    × (goal_by_chosen plan f run ≡ false)
    × (run.coming 0 ≡ None))

-- two granted steps chose alike: the same change and wait, or the same wait to the goal, or both ran out
abbrev pub Alike : Answer → Answer → Type 0
Alike (Taken c d n) (Taken c' d' n') = (c ≡ c') × (d ≡ d')
Alike (Taken c d n) (Met d') = ⊥
Alike (Taken c d n) RanOut = ⊥
Alike (Met d) (Taken c' d' n') = ⊥
Alike (Met d) (Met d') = d ≡ d'
Alike (Met d) RanOut = ⊥
Alike RanOut (Taken c' d' n') = ⊥
Alike RanOut (Met d') = ⊥
Alike RanOut RanOut = Unit {0}

-- a step is refused with 8 or 12 only, and makes its scheduler's choice; at one stage and region, one scheduler chooses alike
pub record AStepChoosesAsItsSchedulerMeans : Type 0 where
  pub answers : (plan : Plan) (f : Scheduler) (run : Run) → InRange f → StepAnswers plan f run (step_call plan f run).0
  pub alike : (plan : Plan) (f : Scheduler) (run run' : Run) (a a' : Answer) → InRange f → run.stage ≡ run'.stage → run.region ≡ run'.region → (step_call plan f run).0 ≡ Ok a → (step_call plan f run').0 ≡ Ok a' → Alike a a'
  -- and such schedulers there are
  pub some_scheduler : (f : Scheduler) × InRange f

-- two granted steps chose alike: the same change and wait, whether taken or met at the goal, or both ran out
abbrev pub ChooseAlike : Plan → Scheduler → Run → Run → Answer → Answer → Type 0
ChooseAlike plan f run run' (Taken c d n) (Taken c' d' n') = (c ≡ c') × (d ≡ d')
ChooseAlike plan f run run' (Taken c d n) (Met d') = ⊥
ChooseAlike plan f run run' (Taken c d n) RanOut = ⊥
ChooseAlike plan f run run' (Met d) (Taken c' d' n') = ⊥
ChooseAlike plan f run run' (Met d) (Met d') = (chosen plan f run ≡ chosen plan f run') × (d ≡ d')
ChooseAlike plan f run run' (Met d) RanOut = ⊥
ChooseAlike plan f run run' RanOut (Taken c' d' n') = ⊥
ChooseAlike plan f run run' RanOut (Met d') = ⊥
ChooseAlike plan f run run' RanOut RanOut = Unit {0}

-- two runs alike in what a reply may turn on: stage, region, standing and the next draw
pub record SameState (run run' : Run) : Type 0 where
  pub same_stage : run.stage ≡ run'.stage
  pub same_region : run.region ≡ run'.region
  pub same_standing : run.standing ≡ run'.standing
  pub next_draw : run.coming 0 ≡ run'.coming 0

-- on one plan, with these draws to come, regions and ticks tell the same runs
pub record RegionsAndTicksTellTheSame (plan : Plan) (draws : Draws) : Type 0 where
  pub every_list_of_calls_tells_a_tick_run : (calls : List Call) → TellATickRun plan draws calls
  pub a_reply_turns_on_the_state_alone : (run run' : Run) (call : Call) → SameState run run' → (make plan run call).0 ≡ (make plan run' call).0
  -- every tick run whose draws are the first to come is told
  pub every_tick_run_is_told : (D : ℕ) (start : Ticking) (moves : List Move) (left : Draws) (f : Scheduler) → 1 ≤ D → Begins plan D start → Moves plan D start moves → Followed (all_used moves) draws left → ToldByGrantedCalls plan draws D start moves f
  pub a_step_answers_as_its_scheduler_means : (f : Scheduler) (run : Run) → InRange f → StepAnswers plan f run (step_call plan f run).0
  pub steps_at_one_stage_and_region_choose_alike : (f : Scheduler) (run run' : Run) (a a' : Answer) → InRange f → run.stage ≡ run'.stage → run.region ≡ run'.region → (step_call plan f run).0 ≡ Ok a → (step_call plan f run').0 ≡ Ok a' → ChooseAlike plan f run run' a a'
  -- and such schedulers there are
  pub some_scheduler : (f : Scheduler) × InRange f

-- the moment p/q from now lies at the wait d
pub record AtWait (D : ℕ) (v : List ℕ) (d p q : ℕ) : Type 0 where
  pub a_moment : 1 ≤ q
  pub its_wait : reach D v p q ≡ d

-- a list of comparisons allows a wait exactly if each is true at every moment of that wait; and each wait has a moment
pub record AllowedWaitsAreTrueMoments : Type 0 where
  pub exactly : (D : ℕ) (v : List ℕ) (cs : List Comparison) → 1 ≤ D → 1 ≤ length v → AllByRecursion (NamesBelow (length v)) cs → (d : ℕ) → (inside d (cuts (record_of D v) cs (upto d)) ≡ true) ↔ ((p q : ℕ) → AtWait D v d p q → Holds D v p q cs)
  pub moments : (D : ℕ) (v : List ℕ) → 1 ≤ D → 1 ≤ length v → (d : ℕ) → (p : ℕ) × (q : ℕ) × AtWait D v d p q
  -- the moments of a wait are those whose record is the record after the wait
  pub by_record : (D : ℕ) (v : List ℕ) → 1 ≤ D → 1 ≤ length v → (d p q : ℕ) → 1 ≤ q → AtWait D v d p q ↔ (record_in D v p q ≡ wait d (record_of D v))

-- a wait is in the hold interval exactly if some moment of that wait is permitted
abbrev pub TheHoldIntervalIsPermittedTime : Type 0
TheHoldIntervalIsPermittedTime =
    (plan : Plan) (i D : ℕ) (v : List ℕ) → Sound plan → 1 ≤ D → length v ≡ length plan.ceilings → (d : ℕ) → (d ≤ top plan i (record_of D v)) ↔ ((p : ℕ) × (q : ℕ) × AtWait D v d p q × Permitted plan i D v p q)

-- some permitted moment of the wait d makes the guard of the change c true
abbrev pub GuardTrueAt : Plan → ℕ → ℕ → List ℕ → ℕ → ℕ → Type 0
GuardTrueAt plan i D v c d =
    (p : ℕ) × (q : ℕ) × AtWait D v d p q × Permitted plan i D v p q × Holds D v p q (change_of plan i c).guard

-- the first and the last wait for which something holds
pub record FirstAndLast (P : ℕ → Type 0) (first last : ℕ) : Type 0 where
  pub at_first : P first
  pub at_last : P last
  pub none_before : (d : ℕ) → P d → first ≤ d
  pub none_after : (d : ℕ) → P d → d ≤ last

-- a change is offered exactly if it is possible, and an offer's waits are those of the permitted moments that make its guard true
pub record OffersAreThePossibleChanges : Type 0 where
  pub offered : (plan : Plan) (i D : ℕ) (v : List ℕ) → Sound plan → 1 ≤ D → length v ≡ length plan.ceilings → (c : ℕ) → Offered (offers_at plan i (record_of D v)) c ↔ Possible plan i D v c
  pub waits : (plan : Plan) (i D : ℕ) (v : List ℕ) → Sound plan → 1 ≤ D → length v ≡ length plan.ceilings → AllByRecursion (λ o. (d : ℕ) → ((o.lowest ≤ d) × (d ≤ o.highest)) ↔ GuardTrueAt plan i D v o.change d) (offers_at plan i (record_of D v))
  pub ends : (plan : Plan) (i D : ℕ) (v : List ℕ) → Sound plan → 1 ≤ D → length v ≡ length plan.ceilings → AllByRecursion (λ o. FirstAndLast (GuardTrueAt plan i D v o.change) o.lowest o.highest) (offers_at plan i (record_of D v))

-- a run on a sound plan opens within its bounds, and every call keeps it there
pub record EveryCallKeepsARunInBounds : Type 0 where
  pub at_opening : (plan : Plan) (draws : Draws) → Sound plan → Inv plan (opening plan draws)
  pub by_a_call : (plan : Plan) (run : Run) (call : Call) → Sound plan → Inv plan run → Inv plan (make plan run call).1
  pub by_calls : (plan : Plan) (draws : Draws) (calls : List Call) → Sound plan → Inv plan (after plan (opening plan draws) calls)

-- a run on the plan opens within its bounds, and every call keeps it there
pub record KeepsInBounds (plan : Plan) (draws : Draws) : Type 0 where
  pub at_opening : Inv plan (opening plan draws)
  pub by_a_call : (run : Run) (call : Call) → Inv plan run → Inv plan (make plan run call).1
  pub by_calls : (calls : List Call) → Inv plan (after plan (opening plan draws) calls)

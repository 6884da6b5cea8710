-- A run over region records: what may happen next, and what each call answers and leaves.
use Rattle.std.specs.Prelude.{◌≡◌, ℕ, suc, ◌+◌, ◌-◌, ◌*◌, ◌<◌, ◌≤◌, min, max, Bool, true, cond, ◌&&◌, List, [], ◌∷◌, length, get_or, replicate, Some, None, Ok, Err, Option, Result, nat_le, nat_lt, slice_index, slice_index_or, ◌==◌}
use Rattle.std.specs.List.{AllByRecursion}
use Rattle.rows.specs.declared.refusal.Refusal.{Refusal}
use Rattle.rows.specs.Refusals.{refusal_no}
use Rattle.theory.specs.Records.{Record, Valid, fresh, timer_no, count, wait, reset}
use Rattle.theory.specs.Regions.{Relation, AtLeast, Above, AtMost, Below, Comparison, timer_against, lead_against}
use Rattle.runs.specs.Cases.{standing_number}
use Rattle.runs.specs.Plans.{Plan, Change, Outcome, blank_outcome, stage_of, change_of, weights}
use Rattle.runs.specs.Ticks.{ticket}
use Rattle.runs.specs.declared.Offer.{Offer}
use Rattle.runs.specs.declared.Answer.{Answer}
use Rattle.runs.specs.declared.Answer.TheVariants.{Taken, Met, RanOut}
use Rattle.runs.specs.declared.Standing.{Standing}
use Rattle.runs.specs.declared.Standing.TheVariants.{Open, Reached, Failed, Stuck}

-- some waits in a row: those that are at least `from` and below `until`
pub record Span : Type 0 where
  pub from : ℕ
  pub until : ℕ

-- the wait d is in the span
abbrev pub inside : ℕ → Span → Bool
inside d x = nat_le x.from d && nat_lt d x.until

-- some wait is in the span
abbrev pub any_in : Span → Bool
any_in x = nat_lt x.from x.until

-- the waits from 0 through d
abbrev pub upto : ℕ → Span
upto d = record { from = 0; until = d + 1 }

-- the waits of a span that are at least n
abbrev pub from_on : ℕ → Span → Span
from_on n x = record { from = max x.from n; until = x.until }

-- the waits of a span that are below n
abbrev pub before : ℕ → Span → Span
before n x = record { from = x.from; until = min x.until n }

-- the waits of a span after which a timer with the count u stands so to the bound b
abbrev pub bounded : Relation → ℕ → ℕ → Span → Span
bounded AtLeast u b x = from_on (b - u) x
bounded Above u b x = from_on (b + 1 - u) x
bounded AtMost u b x = before (b + 1 - u) x
bounded Below u b x = before (b - u) x

-- whether the first number stands so to the second
abbrev pub says : Relation → ℕ → ℕ → Bool
says AtLeast a b = nat_le b a
says Above a b = nat_lt b a
says AtMost a b = nat_le a b
says Below a b = nat_lt a b

-- the waits of a span that a comparison allows: a timer's lead stays as it is, so it allows all or none
unfoldable pub cut : Record → Comparison → Span → Span
cut r (timer_against i relation m) x = bounded relation (count r (timer_no r i)) (2 * r.classes * m) x
cut r (lead_against i j relation m) x =
    cond (says relation (count r (timer_no r i)) (count r (timer_no r j) + 2 * r.classes * m)) x (before 0 x)

-- the waits of a span that every comparison allows
unfoldable pub cuts : Record → List Comparison → Span → Span
cuts r [] x = x
cuts r (c ∷ cs) x = cuts r cs (cut r c x)

-- the least of `best` and the steps that each timer, from timer i on, has to its ceiling
unfoldable pub room : Record → ℕ → ℕ → List ℕ → ℕ
room r best i [] = best
room r best i (m ∷ ms) = room r (min best (2 * r.classes * m - count r (timer_no r i))) (suc i) ms

-- the longest wait by which no timer passes its ceiling
unfoldable pub ceiling_wait : Plan → Record → ℕ
ceiling_wait plan r = room r (2 * r.classes * slice_index plan.ceilings 0) 0 plan.ceilings

-- the waits by the ceilings that the hold of stage i allows
unfoldable pub hold_span : Plan → ℕ → Record → Span
hold_span plan i r = cuts r (stage_of plan i).hold (upto (ceiling_wait plan r))

-- the hold interval is the waits from 0 to here: the last that hold and ceilings allow, or 0 if the hold does not allow 0
unfoldable pub top : Plan → ℕ → Record → ℕ
top plan i r = cond (inside 0 (hold_span plan i r)) ((hold_span plan i r).until - 1) 0

-- the waits of the hold interval, of which this is the last, that a guard allows
abbrev pub guard_span : Record → ℕ → List Comparison → Span
guard_span r last guard = cuts r guard (upto last)

-- the offer of the change at the place c, after the waits of a span
abbrev pub offer_of : ℕ → Span → Offer
offer_of c x = record { change = c; lowest = x.from; highest = x.until - 1 }

-- the offer that says nothing
abbrev pub blank_offer : Offer
blank_offer = record { change = 0; lowest = 0; highest = 0 }

-- the offers of some changes, the first of which stands at the place c, in order: one for each whose guard allows a wait of the hold interval
unfoldable pub offers_from : Record → ℕ → ℕ → List Change → List Offer
offers_from r last c [] = []
offers_from r last c (change ∷ changes) =
    let rest : List Offer = offers_from r last (suc c) changes in
    cond (any_in (guard_span r last change.guard)) (offer_of c (guard_span r last change.guard) ∷ rest) rest

-- the offers in stage i
abbrev pub offers_at : Plan → ℕ → Record → List Offer
offers_at plan i r = offers_from r (top plan i r) (stage_of plan i).first (stage_of plan i).changes

-- the goal is on at some wait from 0 through d
unfoldable pub goal_by : Plan → ℕ → Record → ℕ → Bool
goal_by plan i r d = (stage_of plan i).goal && any_in (cuts r plan.goal (upto d))

-- how a run stands on arrival in stage i
abbrev pub judged : Plan → ℕ → Record → Standing
judged plan i r = cond (goal_by plan i r 0) Reached (cond (stage_of plan i).avoid Failed Open)

-- the place, among a change's outcomes, of the one that a ticket picks
unfoldable pub picked : List Outcome → ℕ → ℕ
picked [] t = 0
picked (o ∷ os) t = cond (nat_lt t o.weight) 0 (suc (picked os (t - o.weight)))

-- the draws still to come, by place: the one at place 0, if there is one, is the next
abbrev pub Draws : Type 0
Draws = ℕ → Option ℕ

-- the draws after the next one
abbrev pub rest_of : Draws → Draws
rest_of draws = λ k. draws (suc k)

-- where a run is: its stage, its region record, how it stands, and the draws to come
pub record Run : Type 0 where
  pub stage : ℕ
  pub region : Record
  pub standing : Standing
  pub coming : Draws

-- whether a run may go on
abbrev pub is_open : Standing → Bool
is_open s = standing_number s == 0

-- whether the change at the place c is one of stage i
abbrev pub is_of_stage : Plan → ℕ → ℕ → Bool
is_of_stage plan i c = nat_le (stage_of plan i).first c && nat_lt c ((stage_of plan i).first + length (stage_of plan i).changes)

-- what a take or a step answers, with the run after it
abbrev pub Outturn : Type 0
Outturn = Result Answer Refusal × Run

-- a call that is refused with this number alters nothing
abbrev pub refused : ℕ → Run → Outturn
refused n run = (Err (refusal_no n), run)

-- a call that goes on to this if it passes a test, and is else refused with this number
abbrev pub tested : Bool → ℕ → Run → Outturn → Outturn
tested passes n run then = cond passes then (refused n run)

-- the place of the outcome that the draw g picks among those of a change
abbrev pub picked_by : ℕ → Change → ℕ
picked_by g change = picked change.outcomes (ticket g (weights change.outcomes))

-- the run with other draws to come
abbrev pub with_draws : Draws → Run → Run
with_draws draws run =
    record { stage = run.stage; region = run.region; standing = run.standing; coming = draws }

-- the run after the wait d and the outcome o, its draw already made: the wait, the resets, the stage, and the arrival judged
abbrev pub arriving : Plan → Run → ℕ → Outcome → Run
arriving plan run d o =
    record { stage = o.target; region = reset o.resets (wait d run.region); standing = judged plan o.target (reset o.resets (wait d run.region)); coming = run.coming }

-- the run after the wait d and the outcome o: the wait, the resets, the stage, and the arrival judged
abbrev pub arrived : Plan → Run → ℕ → Outcome → Run
arrived plan run d o =
    record { stage = o.target; region = reset o.resets (wait d run.region); standing = judged plan o.target (reset o.resets (wait d run.region)); coming = rest_of run.coming }

-- a take that needs the next draw: refused if none is to come, else the draw picks the outcome
abbrev pub drawing : Plan → Run → ℕ → ℕ → Option ℕ → Outturn
drawing plan run c d None = refused 12 run
drawing plan run c d (Some g) =
    let change : Change = change_of plan run.stage c in
    (Ok (Taken c d (change.first + picked_by g change)), arrived plan run d (slice_index_or change.outcomes (picked_by g change) blank_outcome))

-- the run after the whole wait d, on whose way the goal was met
abbrev pub at_goal : Run → ℕ → Run
at_goal run d =
    record { stage = run.stage; region = wait d run.region; standing = Reached; coming = run.coming }

-- a take that is allowed: it meets the goal if that is on at some step from 0 to the wait, and draws otherwise
unfoldable pub making : Plan → Run → ℕ → ℕ → Outturn
making plan run c d =
    cond (goal_by plan run.stage run.region d) (Ok (Met d), at_goal run d) (drawing plan run c d (run.coming 0))

-- the waits after which the run's offers name the change at the place c
abbrev pub waits_for : Plan → Run → ℕ → Span
waits_for plan run c = guard_span run.region (top plan run.stage run.region) (change_of plan run.stage c).guard

-- the take of the change at the place c after the wait d: the first test that fails refuses it
unfoldable pub take_call : Plan → Run → ℕ → ℕ → Outturn
take_call plan run c d =
    tested (is_open run.standing) 8 run
    (tested (is_of_stage plan run.stage c) 9 run
    (tested (nat_le d (top plan run.stage run.region)) 10 run
    (tested (inside d (waits_for plan run c)) 11 run
    (making plan run c d))))

-- what a scheduler means: from the stage, the region record and the offers, a place in the list and a wait
abbrev pub Scheduler : Type 0
Scheduler = ℕ → Record → List Offer → ℕ × ℕ

-- a scheduler keeps in range: of offers that each have a wait, it chooses one, and a wait within it
abbrev pub InRange : Scheduler → Type 0
InRange f =
    (i : ℕ) (r : Record) (os : List Offer) → 1 ≤ length os → AllByRecursion (λ o. o.lowest ≤ o.highest) os → ((f i r os).0 < length os) × ((get_or os (f i r os).0 blank_offer).lowest ≤ (f i r os).1) × ((f i r os).1 ≤ (get_or os (f i r os).0 blank_offer).highest)

-- the run's offers
abbrev pub offers_of : Plan → Run → List Offer
offers_of plan run = offers_at plan run.stage run.region

-- the change that a scheduler chooses
abbrev pub chosen : Plan → Scheduler → Run → ℕ
chosen plan f run = (get_or (offers_of plan run) (f run.stage run.region (offers_of plan run)).0 blank_offer).change

-- the wait that a scheduler chooses
abbrev pub chosen_wait : Plan → Scheduler → Run → ℕ
chosen_wait plan f run = (f run.stage run.region (offers_of plan run)).1

-- the run after it ran out: timers stay, and the goal is reached if it is on at some wait of the hold interval
abbrev pub ran_out : Plan → Run → Run
ran_out plan run =
    record { stage = run.stage; region = run.region; standing = cond (goal_by plan run.stage run.region (top plan run.stage run.region)) Reached Stuck; coming = run.coming }

-- a step of an open run with these offers: it runs out without any, and else takes what the scheduler chooses
abbrev pub stepping : Plan → Scheduler → Run → List Offer → Outturn
stepping plan f run [] = (Ok RanOut, ran_out plan run)
stepping plan f run (o ∷ os) = take_call plan run (chosen plan f run) (chosen_wait plan f run)

-- the step by a scheduler
unfoldable pub step_call : Plan → Scheduler → Run → Outturn
step_call plan f run =
    tested (is_open run.standing) 8 run (stepping plan f run (offers_of plan run))

-- the calls of a run: a step by a scheduler, a take of a change after a wait, the offers, and how it stands
pub data Call : Type 0 where
  Step : Scheduler → Call
  Take : ℕ → ℕ → Call
  Offers : Call
  Stands : Call

-- what a call replies
pub data Reply : Type 0 where
  answered : Result Answer Refusal → Reply
  offered : List Offer → Reply
  standing : Standing → Reply

-- the offers that a run shows: none unless it is open
unfoldable pub shown : Plan → Run → List Offer
shown plan run = cond (is_open run.standing) (offers_of plan run) []

-- a call's reply, and the run after it
abbrev pub make : Plan → Run → Call → Reply × Run
make plan run (Step f) = (answered (step_call plan f run).0, (step_call plan f run).1)
make plan run (Take c d) = (answered (take_call plan run c d).0, (take_call plan run c d).1)
make plan run Offers = (offered (shown plan run), run)
make plan run Stands = (standing run.standing, run)

-- the run after some calls
abbrev pub after : Plan → Run → List Call → Run
after plan run [] = run
after plan run (call ∷ calls) = after plan (make plan run call).1 calls

-- what is told of a call: its reply, and where the run is after it
pub record Entry : Type 0 where
  pub reply : Reply
  pub stage : ℕ
  pub region : Record
  pub standing : Standing

-- the entry of a reply and the run after it
abbrev pub entry_after : Reply × Run → Entry
entry_after made =
    record { reply = made.0; stage = made.1.stage; region = made.1.region; standing = made.1.standing }

-- what is told of some calls, one after the other
abbrev pub told_of : Plan → Run → List Call → List Entry
told_of plan run [] = []
told_of plan run (call ∷ calls) = entry_after (make plan run call) ∷ told_of plan (make plan run call).1 calls

-- the record of n timers at zero
abbrev pub all_zero : ℕ → Record
all_zero n = record { whole = true; classes = 1; timers = replicate n fresh }

-- the run as it opens: in stage 0, all timers at zero, its arrival judged
abbrev pub opening : Plan → Draws → Run
opening plan draws =
    record { stage = 0; region = all_zero (length plan.ceilings); standing = judged plan 0 (all_zero (length plan.ceilings)); coming = draws }

-- the region is one that the plan's timers can show: a valid record of as many timers, none past its ceiling
pub record InBounds (plan : Plan) (r : Record) : Type 0 where
  pub valid : Valid r
  pub as_many : length r.timers ≡ length plan.ceilings
  pub under : (j : ℕ) → j < length plan.ceilings → count r (timer_no r j) ≤ 2 * r.classes * slice_index plan.ceilings j

-- what every run on a sound plan keeps: a record that its timers can show, no timer past its ceiling, and a stage of the plan
pub record Inv (plan : Plan) (run : Run) : Type 0 where
  pub valid : Valid run.region
  pub as_many : length run.region.timers ≡ length plan.ceilings
  pub under : (j : ℕ) → j < length plan.ceilings → count run.region (timer_no run.region j) ≤ 2 * run.region.classes * slice_index plan.ceilings j
  pub a_stage : run.stage < length plan.stages

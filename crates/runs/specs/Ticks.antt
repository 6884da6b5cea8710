-- A run as stopwatches tell it: every timer is a whole number of ticks, and a second has D ticks.
use Rattle.std.specs.Prelude.{◌≡◌, ℕ, suc, ◌*◌, ◌/◌, ◌^◌, ◌<◌, ◌≤◌, true, false, ◌⊎◌, List, [], ◌∷◌, ◌++◌, length, take, replicate, slice_index_or}
use Rattle.std.specs.List.{AllByRecursion}
use Rattle.theory.specs.Settings.{later, finer, cleared}
use Rattle.theory.specs.Regions.{Comparison, timer_against, AtMost, TrueOf}
use Rattle.runs.specs.Plans.{Plan, Outcome, blank_outcome, stage_of, OfStage, change_of, weights}
use Rattle.runs.specs.declared.Standing.{Standing}
use Rattle.runs.specs.declared.Standing.TheVariants.{Open, Reached, Failed, Stuck}

-- where a run of stopwatches is: its stage, the ticks of each timer, and how it stands
pub record Ticking : Type 0 where
  pub stage : ℕ
  pub ticks : List ℕ
  pub standing : Standing

-- every comparison is true p parts of a tick from now, where a tick is cut into q
abbrev pub Holds : ℕ → List ℕ → ℕ → ℕ → List Comparison → Type 0
Holds D v p q cs = AllByRecursion (TrueOf (q * D) (later p (finer q v))) cs

-- the ceilings as comparisons: each timer, from timer i on, is at most its ceiling
unfoldable pub limits : ℕ → List ℕ → List Comparison
limits i [] = []
limits i (m ∷ ms) = timer_against i AtMost m ∷ limits (suc i) ms

-- the moment p/q is permitted in stage i: it is now, or the hold is true and no timer is past its ceiling from now through p/q
abbrev pub Permitted : Plan → ℕ → ℕ → List ℕ → ℕ → ℕ → Type 0
Permitted plan i D v p q =
    (p ≡ 0) ⊎ ((p' q' : ℕ) → 1 ≤ q' → p' * q ≤ p * q' → Holds D v p' q' (stage_of plan i).hold × Holds D v p' q' (limits 0 plan.ceilings))

-- the goal is on at the moment p/q: the stage is marked for it, and the goal's comparisons are true
abbrev pub On : Plan → ℕ → ℕ → List ℕ → ℕ → ℕ → Type 0
On plan i D v p q = ((stage_of plan i).goal ≡ true) × Holds D v p q plan.goal

-- the goal is on at some moment from now through t ticks
abbrev pub OnWithin : Plan → ℕ → ℕ → List ℕ → ℕ → Type 0
OnWithin plan i D v t = (p : ℕ) × (q : ℕ) × (1 ≤ q) × (p ≤ t * q) × On plan i D v p q

-- the goal is on at some permitted moment
abbrev pub OnPermitted : Plan → ℕ → ℕ → List ℕ → Type 0
OnPermitted plan i D v = (p : ℕ) × (q : ℕ) × (1 ≤ q) × Permitted plan i D v p q × On plan i D v p q

-- the change c may happen: it is of the stage, and some permitted moment makes its guard true
abbrev pub Possible : Plan → ℕ → ℕ → List ℕ → ℕ → Type 0
Possible plan i D v c =
    OfStage plan i c × ((p : ℕ) × (q : ℕ) × (1 ≤ q) × Permitted plan i D v p q × Holds D v p q (change_of plan i c).guard)

-- how a run stands on arrival: at its goal if the goal is on, else failed in a stage to avoid, else it goes on
abbrev pub Judged : Plan → ℕ → ℕ → List ℕ → Standing → Type 0
Judged plan i D v Open = (On plan i D v 0 1 → ⊥) × ((stage_of plan i).avoid ≡ false)
Judged plan i D v Reached = On plan i D v 0 1
Judged plan i D v Failed = (On plan i D v 0 1 → ⊥) × ((stage_of plan i).avoid ≡ true)
Judged plan i D v Stuck = ⊥

-- the ticket of a draw: the draw, out of 2^32, as a part of all the weights
abbrev pub ticket : ℕ → ℕ → ℕ
ticket g all = g * all / 2 ^ 32

-- a ticket picks the first outcome at which the weights so far, its own among them, exceed the ticket
pub record Picks (os : List Outcome) (t n : ℕ) : Type 0 where
  pub an_outcome : n < length os
  pub exceeds : t < weights (take (suc n) os)
  pub first : (j : ℕ) → j < n → weights (take (suc j) os) ≤ t

-- what may happen: a go of t ticks to the change c with the draw g, which brings the change's outcome n or meets the goal on the way and leaves the draw; or the run runs out
pub data Event : Type 0 where
  go_changing : ℕ → ℕ → ℕ → ℕ → Event
  go_meeting : ℕ → ℕ → ℕ → Event
  run_out : Event

-- the draws that an event uses
abbrev pub used : Event → List ℕ
used (go_changing t c g n) = g ∷ []
used (go_meeting t c g) = []
used run_out = []

-- an open run may go t ticks to the change c of its stage if t is permitted and the guard is true then
pub record MayGo (plan : Plan) (D : ℕ) (now : Ticking) (t c g : ℕ) : Type 0 where
  pub going_on : now.standing ≡ Open
  pub a_draw : g < 2 ^ 32
  pub of_stage : OfStage plan now.stage c
  pub permitted : Permitted plan now.stage D now.ticks t 1
  pub guard_true : Holds D now.ticks t 1 (change_of plan now.stage c).guard

-- the goal is never on by then: the draw picks outcome n, its timers are set to zero, and the arrival in its stage is judged
pub record Changes (plan : Plan) (D : ℕ) (now : Ticking) (t c g n : ℕ) (then : Ticking) : Type 0 where
  pub may_go : MayGo plan D now t c g
  pub never_on : OnWithin plan now.stage D now.ticks t → ⊥
  pub by_draw : Picks (change_of plan now.stage c).outcomes (ticket g (weights (change_of plan now.stage c).outcomes)) n
  pub leads : then.stage ≡ (slice_index_or (change_of plan now.stage c).outcomes n blank_outcome).target
  pub ticks_then : then.ticks ≡ cleared (slice_index_or (change_of plan now.stage c).outcomes n blank_outcome).resets (later t now.ticks)
  pub judged : Judged plan then.stage D then.ticks then.standing

-- the goal is on at some moment by then: the run has reached it, t ticks later, in the same stage
pub record Meets (plan : Plan) (D : ℕ) (now : Ticking) (t c g : ℕ) (then : Ticking) : Type 0 where
  pub may_go : MayGo plan D now t c g
  pub on_the_way : OnWithin plan now.stage D now.ticks t
  pub stays : then.stage ≡ now.stage
  pub ticks_then : then.ticks ≡ later t now.ticks
  pub reached : then.standing ≡ Reached

-- an open run with no possible change runs out: it has reached its goal if that is on at some permitted moment, else it is stuck
pub record RunsOut (plan : Plan) (D : ℕ) (now then : Ticking) : Type 0 where
  pub going_on : now.standing ≡ Open
  pub nothing_possible : (c : ℕ) → Possible plan now.stage D now.ticks c → ⊥
  pub stays : then.stage ≡ now.stage
  pub ticks_then : then.ticks ≡ now.ticks
  pub ends : ((then.standing ≡ Reached) × OnPermitted plan now.stage D now.ticks) ⊎ ((then.standing ≡ Stuck) × (OnPermitted plan now.stage D now.ticks → ⊥))

-- the event may happen now, and this is what comes of it
abbrev pub Happens : Plan → ℕ → Ticking → Event → Ticking → Type 0
Happens plan D now (go_changing t c g n) then = Changes plan D now t c g n then
Happens plan D now (go_meeting t c g) then = Meets plan D now t c g then
Happens plan D now run_out then = RunsOut plan D now then

-- an event with what came of it
pub record Move : Type 0 where
  pub event : Event
  pub then : Ticking

-- a tick run: each event may happen in its turn
abbrev pub Moves : Plan → ℕ → Ticking → List Move → Type 0
Moves plan D now [] = Unit {0}
Moves plan D now (m ∷ ms) = Happens plan D now m.event m.then × Moves plan D m.then ms

-- the draws that a tick run uses, in order
abbrev pub all_used : List Move → List ℕ
all_used [] = []
all_used (m ∷ ms) = used m.event ++ all_used ms

-- where a tick run begins: in stage 0, all timers at zero, its arrival judged
pub record Begins (plan : Plan) (D : ℕ) (now : Ticking) : Type 0 where
  pub first_stage : now.stage ≡ 0
  pub all_zero : now.ticks ≡ replicate (length plan.ceilings) 0
  pub judged : Judged plan now.stage D now.ticks now.standing

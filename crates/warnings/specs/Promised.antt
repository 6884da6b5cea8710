-- What warnings promise of the runs of a plan.
use Rattle.std.specs.Prelude.{◌≡◌, ℕ, ◌+◌, ◌*◌, ◌<◌, ◌≤◌, true, false, List, [], length, Contains, slice_index, slice_set}
use Rattle.theory.specs.Records.{Record, count, timer_no}
use Rattle.runs.specs.Plans.{Plan, stage_of}
use Rattle.runs.specs.Runs.{Draws, Run, Call, after, cuts, inside, is_open, offers_of, opening, top, upto}
use Rattle.runs.specs.Telling.{DrawsFit}
use Rattle.warnings.specs.declared.Warning.{Warning}
use Rattle.warnings.specs.declared.Warning.TheVariants.{CeilingMayEndHold, NoWayOut}

-- the hold of stage i allows every wait from 0 through d
abbrev pub HoldsThrough : Plan → ℕ → Record → ℕ → Type 0
HoldsThrough plan i r d =
    (e : ℕ) → e ≤ d → inside e (cuts r (stage_of plan i).hold (upto d)) ≡ true

-- no wait through which the hold of stage i allows a run to stay takes the timer past its ceiling
abbrev pub HoldKeepsUnder : Plan → ℕ → ℕ → Run → Type 0
HoldKeepsUnder plan i timer run =
    (d : ℕ) → HoldsThrough plan i run.region d → count run.region (timer_no run.region timer) + d ≤ 2 * run.region.classes * slice_index plan.ceilings timer

-- every run that is open in stage i, whatever was drawn and called before
abbrev pub EveryRunIn : Plan → ℕ → (Run → Type 0) → Type 0
EveryRunIn plan i P =
    (draws : Draws) (calls : List Call) → DrawsFit draws → is_open (after plan (opening plan draws) calls).standing ≡ true → (after plan (opening plan draws) calls).stage ≡ i → P (after plan (opening plan draws) calls)

-- no run that is in stage i passes the timer's ceiling while the hold allows it to wait: this ceiling never ends the hold interval there
abbrev pub TheHoldEndsBeforeTheCeiling : Plan → ℕ → ℕ → Type 0
TheHoldEndsBeforeTheCeiling plan i timer = EveryRunIn plan i (HoldKeepsUnder plan i timer)

-- the plan with m seconds as the ceiling of one timer
abbrev pub with_ceiling : Plan → ℕ → ℕ → Plan
with_ceiling plan timer m =
    record plan { ceilings = slice_set plan.ceilings timer m }

-- the hold interval of a run in stage i is as long by the plan as it would be under any higher ceiling of the timer
abbrev pub StaysAsLongUnderAHigherCeiling : Plan → ℕ → ℕ → Run → Type 0
StaysAsLongUnderAHigherCeiling plan i timer run =
    (m : ℕ) → slice_index plan.ceilings timer ≤ m → top (with_ceiling plan timer m) i run.region ≡ top plan i run.region

-- a higher ceiling of the timer would let no run that is in stage i stay longer
abbrev pub AHigherCeilingLetsNoRunStayLonger : Plan → ℕ → ℕ → Type 0
AHigherCeilingLetsNoRunStayLonger plan i timer =
    EveryRunIn plan i (StaysAsLongUnderAHigherCeiling plan i timer)

-- no run that is in stage i is ever offered a change
abbrev pub NothingIsEverPossible : Plan → ℕ → Type 0
NothingIsEverPossible plan i = EveryRunIn plan i (λ run. offers_of plan run ≡ [])

-- where a stage and a timer are not warned of, the timer's ceiling never ends the hold interval of a run there
abbrev pub WhereNothingIsWarnedTheHoldEndsBeforeTheCeiling : Plan → List Warning → Type 0
WhereNothingIsWarnedTheHoldEndsBeforeTheCeiling plan found =
    (i timer : ℕ) → i < length plan.stages → timer < length plan.ceilings → (Contains found (CeilingMayEndHold i timer) → ⊥) → TheHoldEndsBeforeTheCeiling plan i timer

-- where a stage and a timer are not warned of, a higher ceiling of the timer would let no run there stay longer
abbrev pub WhereNothingIsWarnedAHigherCeilingLetsNoRunStayLonger : Plan → List Warning → Type 0
WhereNothingIsWarnedAHigherCeilingLetsNoRunStayLonger plan found =
    (i timer : ℕ) → i < length plan.stages → timer < length plan.ceilings → (Contains found (CeilingMayEndHold i timer) → ⊥) → AHigherCeilingLetsNoRunStayLonger plan i timer

-- a stage that is neither a goal nor to be avoided, in which nothing is ever possible
pub record DeadEnd (plan : Plan) (i : ℕ) : Type 0 where
  pub no_goal : (stage_of plan i).goal ≡ false
  pub not_avoided : (stage_of plan i).avoid ≡ false
  pub nothing_is_ever_possible : NothingIsEverPossible plan i

-- every stage that is warned of as without a way out is a dead end
abbrev pub AStageWarnedAsWithoutAWayOutOffersNothing : Plan → List Warning → Type 0
AStageWarnedAsWithoutAWayOutOffersNothing plan found =
    (i : ℕ) → Contains found (NoWayOut i) → DeadEnd plan i

-- every stage without changes that is neither a goal nor to be avoided is warned of
abbrev pub AStageWithoutChangesIsWarned : Plan → List Warning → Type 0
AStageWithoutChangesIsWarned plan found =
    (i : ℕ) → i < length plan.stages → (stage_of plan i).goal ≡ false → (stage_of plan i).avoid ≡ false → (stage_of plan i).changes ≡ [] → Contains found (NoWayOut i)

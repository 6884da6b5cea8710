-- A junction plan as its planner sees it: timers with their ceilings, stages with their changes, and the goal.
use Rattle.std.specs.Prelude.{◌≡◌, ℕ, ◌+◌, ◌-◌, ◌<◌, ◌≤◌, Bool, false, List, [], ◌∷◌, length, slice_index_or}
use Rattle.std.specs.List.{AllByRecursion}
use Rattle.theory.specs.Regions.{Comparison, NamesBelow}

-- one way a change may turn out: how much it weighs, the stage it leads to, and which timers it sets to zero
pub record Outcome : Type 0 where
  pub weight : ℕ
  pub target : ℕ
  pub resets : List Bool

-- a change: when it may be made, the place of its first outcome among all outcomes of the plan, and its outcomes
pub record Change : Type 0 where
  pub guard : List Comparison
  pub first : ℕ
  pub outcomes : List Outcome

-- a stage: whether the goal counts in it, whether it is to be avoided, how long it may last, the place of its first change among all changes of the plan, and its changes
pub record Stage : Type 0 where
  pub goal : Bool
  pub avoid : Bool
  pub hold : List Comparison
  pub first : ℕ
  pub changes : List Change

-- a plan: the most seconds that each timer may show, the stages, and what the timers show when the goal is met
pub record Plan : Type 0 where
  pub ceilings : List ℕ
  pub stages : List Stage
  pub goal : List Comparison

-- an outcome that changes nothing
abbrev pub blank_outcome : Outcome
blank_outcome = record { weight = 0; target = 0; resets = [] }

-- a change with no outcome
abbrev pub blank_change : Change
blank_change = record { guard = []; first = 0; outcomes = [] }

-- a stage in which nothing can happen
abbrev pub blank_stage : Stage
blank_stage = record { goal = false; avoid = false; hold = []; first = 0; changes = [] }

-- the stage with number i, blank where the plan has none
abbrev pub stage_of : Plan → ℕ → Stage
stage_of plan i = slice_index_or plan.stages i blank_stage

-- the change at the place c among all changes of the plan is one of stage i
abbrev pub OfStage : Plan → ℕ → ℕ → Type 0
OfStage plan i c = ((stage_of plan i).first ≤ c) × (c < (stage_of plan i).first + length (stage_of plan i).changes)

-- the change of stage i at the place c among all changes of the plan
abbrev pub change_of : Plan → ℕ → ℕ → Change
change_of plan i c = slice_index_or (stage_of plan i).changes (c - (stage_of plan i).first) blank_change

-- what some outcomes weigh together
unfoldable pub weights : List Outcome → ℕ
weights [] = 0
weights (o ∷ os) = o.weight + weights os

-- every timer that the comparisons name is in the plan
abbrev pub NamedIn : Plan → List Comparison → Type 0
NamedIn plan cs = AllByRecursion (NamesBelow (length plan.ceilings)) cs

-- an outcome can come, leads to a stage of the plan, and says of each timer whether it is set to zero
pub record SoundPlanOutcome (plan : Plan) (o : Outcome) : Type 0 where
  pub can_come : 1 ≤ o.weight
  pub leads : o.target < length plan.stages
  pub one_mark_each : length o.resets ≡ length plan.ceilings

-- a change has an outcome, its weights sum to 16 bits, and its guard names timers of the plan
pub record SoundPlanChange (plan : Plan) (c : Change) : Type 0 where
  pub guard_named : NamedIn plan c.guard
  pub some_outcome : 1 ≤ length c.outcomes
  pub outcomes_sound : AllByRecursion (SoundPlanOutcome plan) c.outcomes
  pub weights_fit : weights c.outcomes ≤ 65535

-- a stage's hold names timers of the plan, and its changes are sound
pub record SoundPlanStage (plan : Plan) (s : Stage) : Type 0 where
  pub hold_named : NamedIn plan s.hold
  pub changes_sound : AllByRecursion (SoundPlanChange plan) s.changes

-- a plan that can be run: it has a timer and a stage, every timer may run a while, and nothing is named that is not there
pub record Sound (plan : Plan) : Type 0 where
  pub some_timer : 1 ≤ length plan.ceilings
  pub timers_run : AllByRecursion (λ m. 1 ≤ m) plan.ceilings
  pub some_stage : 1 ≤ length plan.stages
  pub stages_sound : AllByRecursion (SoundPlanStage plan) plan.stages
  pub goal_named : NamedIn plan plan.goal

-- the plan that stands in for one that cannot be run: one timer, one stage, and nothing can happen
abbrev pub blank_plan : Plan
blank_plan = record { ceilings = 1 ∷ []; stages = blank_stage ∷ []; goal = [] }

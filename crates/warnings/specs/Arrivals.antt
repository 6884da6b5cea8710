-- The table of arrivals: for each stage none, if no open run arrives there, or the most seconds that each timer can show on arrival.
use Rattle.std.specs.Prelude.{◌≡◌, ℕ, ◌<◌, ◌≤◌, Bool, false, ◌&&◌, ◌||◌, List, length, fold, Option, Some, None, ◌==◌, slice_index, slice_index_or}
use Rattle.std.specs.List.{AllByRecursion}
use Rattle.runs.specs.Plans.{Plan, Change, Outcome, stage_of}
use Rattle.warnings.specs.Limits.{narrowed}
use Rattle.warnings.specs.declared.bounds.Bounds.{Bounds}

-- what a table says of stage i
abbrev pub arrivals_in : List (Option Bounds) → ℕ → Option Bounds
arrivals_in table i = slice_index_or table i None

-- whether every run that arrives in stage i ends there: it is to be avoided, or it is marked for a goal that is always on
abbrev pub is_final : Plan → ℕ → Bool
is_final plan i = (stage_of plan i).avoid || ((stage_of plan i).goal && (length plan.goal == 0))

-- the most seconds that timer x can show before stage i is left, if the timers show at most b on arrival
abbrev pub most_on_leaving : Plan → ℕ → Bounds → ℕ → ℕ
most_on_leaving plan i b x = fold (narrowed x (slice_index b.most x)) (slice_index plan.ceilings x) (stage_of plan i).hold

-- the most seconds that timer x can show in a stage of which a table says this: no more than its ceiling, where no open run is found to arrive
abbrev pub most_after : Plan → ℕ → Option Bounds → ℕ → ℕ
most_after plan i None x = slice_index plan.ceilings x
most_after plan i (Some b) x = most_on_leaving plan i b x

-- the most seconds that timer x can show in stage i, by a table
abbrev pub most_shown : Plan → List (Option Bounds) → ℕ → ℕ → ℕ
most_shown plan table i x = most_after plan i (arrivals_in table i) x

-- of n timers, each that is not set to zero shows no more before than the bounds of an arrival
abbrev pub Covers : ℕ → (ℕ → ℕ) → List Bool → Bounds → Type 0
Covers n most resets b =
    (x : ℕ) → x < n → slice_index_or resets x false ≡ false → most x ≤ slice_index b.most x

-- an outcome leads to a final stage, or to one whose bounds cover what the timers can show before
abbrev pub OutcomeFollowed : Plan → List (Option Bounds) → (ℕ → ℕ) → Outcome → Type 0
OutcomeFollowed plan table most o =
    is_final plan o.target ≡ false → (b : Bounds) × (arrivals_in table o.target ≡ Some b) × Covers (length plan.ceilings) most o.resets b

-- each outcome of a change is followed
abbrev pub ChangeFollowed : Plan → List (Option Bounds) → (ℕ → ℕ) → Change → Type 0
ChangeFollowed plan table most c = AllByRecursion (OutcomeFollowed plan table most) c.outcomes

-- each outcome of each change is followed
abbrev pub ChangesFollowed : Plan → List (Option Bounds) → (ℕ → ℕ) → List Change → Type 0
ChangesFollowed plan table most cs = AllByRecursion (ChangeFollowed plan table most) cs

-- the rules of a table for stage i: a final stage has no arrivals, and what the timers can show before a stage with arrivals is left is followed
pub record StageClosed (plan : Plan) (table : List (Option Bounds)) (i : ℕ) : Type 0 where
  pub final_has_none : (b : Bounds) → arrivals_in table i ≡ Some b → is_final plan i ≡ false
  pub changes_followed : (b : Bounds) → arrivals_in table i ≡ Some b → ChangesFollowed plan table (most_on_leaving plan i b) (stage_of plan i).changes

-- the rules of a table: an entry for each stage, arrivals in stage 0 unless it is final, and the rules of each stage
pub record Closed (plan : Plan) (table : List (Option Bounds)) : Type 0 where
  pub one_each : length table ≡ length plan.stages
  pub runs_open : is_final plan 0 ≡ false → (b : Bounds) × (arrivals_in table 0 ≡ Some b)
  pub stages_closed : (i : ℕ) → i < length plan.stages → StageClosed plan table i

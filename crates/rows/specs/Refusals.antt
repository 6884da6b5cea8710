-- The number of each refusal.
use Rattle.std.specs.Prelude.{ℕ, cond, List, [], ◌∷◌, ◌==◌}
use Rattle.rows.specs.declared.refusal.Refusal.{Refusal}
use Rattle.rows.specs.declared.refusal.Refusal.TheVariants.{FileEnds, BytesFollow, CountOffLimits, NotThere, BadWeight, BadField, TableTooSmall, RunNotOpen, ChangeNotOfStage, WaitOutsideHold, GuardForbidsWait, NoDrawToCome, LogFull, BatchOffLimits}

-- the number that a planner sees for a refused call
abbrev pub number_of : Refusal → ℕ
number_of FileEnds = 1
number_of BytesFollow = 2
number_of CountOffLimits = 3
number_of NotThere = 4
number_of BadWeight = 5
number_of BadField = 6
number_of TableTooSmall = 7
number_of RunNotOpen = 8
number_of ChangeNotOfStage = 9
number_of WaitOutsideHold = 10
number_of GuardForbidsWait = 11
number_of NoDrawToCome = 12
number_of LogFull = 13
number_of BatchOffLimits = 14

-- every refusal, in the order of their numbers
abbrev pub refusals : List Refusal
refusals =
    FileEnds
    ∷ BytesFollow
    ∷ CountOffLimits
    ∷ NotThere
    ∷ BadWeight
    ∷ BadField
    ∷ TableTooSmall
    ∷ RunNotOpen
    ∷ ChangeNotOfStage
    ∷ WaitOutsideHold
    ∷ GuardForbidsWait
    ∷ NoDrawToCome
    ∷ LogFull
    ∷ BatchOffLimits
    ∷ []

-- the first of some refusals that has this number; where none has it, the last refusal of all
abbrev pub first_with : ℕ → List Refusal → Refusal
first_with n [] = BatchOffLimits
first_with n (e ∷ more) = cond (number_of e == n) e (first_with n more)

-- the refusal that has this number
abbrev pub refusal_no : ℕ → Refusal
refusal_no n = first_with n refusals

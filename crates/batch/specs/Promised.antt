-- What is promised of every batch.
use Rattle.std.specs.Prelude.{◌≡◌, ℕ, zero, suc, ◌+◌, ◌<◌, ◌≤◌, false, List, [], ◌∷◌, map, replicate, is_ok, sum_by}
use Rattle.std.specs.List.{AllByRecursion}
use Rattle.runs.specs.Plans.{Plan}
use Rattle.runs.specs.Runs.{Draws, Run, Scheduler, Step, after, opening, step_call}
use Rattle.runs.specs.Telling.{AllGranted, TellATickRun}
use Rattle.runs.specs.declared.Standing.{Standing}
use Rattle.runs.specs.declared.Standing.TheVariants.{Open, Reached, Failed, Stuck}
use Rattle.schedulers.specs.Meanings.{sampled_by}
use Rattle.batch.specs.Batches.{Book, all_made, counting, row_with, run_from, runs_made, tally_of}
use Rattle.batch.specs.declared.BatchRow.{BatchRow}
use Rattle.batch.specs.declared.Limits.{Limits}
use Rattle.batch.specs.declared.tally.Tally.{Tally}

-- how many runs a tally counts
abbrev pub runs_in : Tally → ℕ
runs_in t = t.reached + t.failed + t.stuck + t.unfinished

-- every row of a batch counts as many runs as each identifier has
abbrev pub TheFourCountsSumToTheRuns : Plan → Book → Draws → Limits → List ℕ → Type 0
TheFourCountsSumToTheRuns plan book draws limits ids =
    AllByRecursion (λ row. runs_in (tally_of row) ≡ limits.runs) (all_made plan book draws limits ids).rows

-- the same for one scheduler: its tally counts as many runs as the limits say
abbrev pub TheFourCountsOfASchedulerSumToTheRuns : Plan → Book → Draws → Limits → Scheduler → Type 0
TheFourCountsOfASchedulerSumToTheRuns plan book draws limits f =
    runs_in (runs_made plan book draws limits f).tally ≡ limits.runs

-- a sampled scheduler comes to the row that a batch of its identifier alone has
abbrev pub ASampledSchedulerComesToItsRow : Plan → Book → Draws → Limits → Scheduler → Type 0
ASampledSchedulerComesToItsRow plan book draws limits f =
    (id : ℕ) → f ≡ sampled_by id → (all_made plan book draws limits (id ∷ [])).rows ≡ row_with id (runs_made plan book draws limits f).tally ∷ []

-- how many of a scheduler's runs that start rows 0 to n - 1, each with the step limit alone, stand in one way
unfoldable pub standing_so : Plan → Book → Scheduler → ℕ → ℕ → Standing → ℕ
standing_so plan book f steps zero way = 0
standing_so plan book f steps (suc j) way =
    counting way (run_from plan book f steps j).0.standing (standing_so plan book f steps j way)

-- how many steps a scheduler's runs that start rows 0 to n - 1, each with the step limit alone, are granted together
unfoldable pub granted_to : Plan → Book → Scheduler → ℕ → ℕ → ℕ
granted_to plan book f steps zero = 0
granted_to plan book f steps (suc j) =
    granted_to plan book f steps j + (run_from plan book f steps j).1

-- the tally of a scheduler whose n runs have the step limit alone
abbrev pub tally_alone : Plan → Book → Scheduler → ℕ → ℕ → Tally
tally_alone plan book f steps n =
    record { reached = standing_so plan book f steps n Reached; failed = standing_so plan book f steps n Failed; stuck = standing_so plan book f steps n Stuck; unfinished = standing_so plan book f steps n Open }

-- the row of an identifier whose n runs have the step limit alone
abbrev pub row_alone : Plan → Book → ℕ → ℕ → ℕ → BatchRow
row_alone plan book steps n id = row_with id (tally_alone plan book (sampled_by id) steps n)

-- where the allowance covers the steps of all runs, each with the step limit alone, every identifier has the row that it has alone
abbrev pub ABatchWithoutABindingAllowanceCountsEachRunByItself : Plan → Book → Draws → Limits → List ℕ → Type 0
ABatchWithoutABindingAllowanceCountsEachRunByItself plan book draws limits ids =
    sum_by (λ id. granted_to plan book (sampled_by id) limits.steps limits.runs) ids ≤ limits.allowance → (all_made plan book draws limits ids).rows ≡ map (row_alone plan book limits.steps limits.runs) ids

-- where a scheduler's allowance covers the steps of all its runs, each with the step limit alone, it has the tally that it has alone
abbrev pub AnAllowanceThatDoesNotBindCountsEachRunByItself : Plan → Book → Draws → Limits → Scheduler → Type 0
AnAllowanceThatDoesNotBindCountsEachRunByItself plan book draws limits f =
    granted_to plan book f limits.steps limits.runs ≤ limits.allowance → (runs_made plan book draws limits f).tally ≡ tally_alone plan book f limits.steps limits.runs

-- a run, with how many of at most n steps it was granted, is made by that many granted steps; the next is refused if there are fewer than n; and these steps tell a tick run
pub record MadeBySteps (plan : Plan) (draws : Draws) (f : Scheduler) (n : ℕ) (made : Run × ℕ) : Type 0 where
  pub no_more : made.1 ≤ n
  pub its_steps : made.0 ≡ after plan (opening plan draws) (replicate made.1 (Step f))
  pub granted : AllGranted plan (opening plan draws) (replicate made.1 (Step f))
  pub then_refused : made.1 < n → is_ok (step_call plan f made.0).0 ≡ false
  pub told : TellATickRun plan draws (replicate made.1 (Step f))

-- every run that a batch can make is made so, whatever its scheduler, its row of draws and its most steps
abbrev pub EveryRunOfABatchTellsATickRun : Plan → Book → Type 0
EveryRunOfABatchTellsATickRun plan book =
    (f : Scheduler) (n j : ℕ) → MadeBySteps plan (book j) f n (run_from plan book f n j)

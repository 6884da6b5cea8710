-- Every row of a batch, and the tally of every scheduler, counts as many runs as the limits say.
use Rattle.std.proofs.Common.{◌≡◌, ℕ, List, [], ◌∷◌, fold, arith}
use Rattle.std.specs.List.{AllByRecursion}
use Rattle.std.proofs.ByRecursion.{All-push}
use Rattle.runs.specs.Plans.{Plan}
use Rattle.runs.specs.Runs.{Draws, Scheduler}
use Rattle.schedulers.specs.Meanings.{sampled_by}
use Rattle.batch.specs.Batches.{Book, Made, Progress, first_runs, none_yet, one_row, row_with, tally_of}
use Rattle.batch.specs.Promised.{TheFourCountsOfASchedulerSumToTheRuns, TheFourCountsSumToTheRuns, runs_in}
use Rattle.batch.specs.declared.Limits.{Limits}
use Rattle.batch.proofs.Counts.{all_counted}

-- the rows of more identifiers too
rows_sum : (plan : Plan) (book : Book) (limits : Limits) (m : Made) (ids : List ℕ) → AllByRecursion (λ row. runs_in (tally_of row) ≡ limits.runs) m.rows → AllByRecursion (λ row. runs_in (tally_of row) ≡ limits.runs) (fold (one_row plan book limits) m ids).rows
rows_sum plan book limits m [] h = h
rows_sum plan book limits m (id ∷ ids) h =
    let start : Progress = none_yet m.left m.coming in
    let p : Progress = first_runs plan book (sampled_by id) limits.steps limits.runs start in
    let counted : runs_in p.tally ≡ limits.runs = omega (arith, all_counted plan book (sampled_by id) limits.steps limits.runs start) in
    rows_sum plan book limits (one_row plan book limits m id) ids (All-push (λ row. runs_in (tally_of row) ≡ limits.runs) m.rows (row_with id p.tally) h counted)

-- and so all rows of a batch
pub the_four_counts_sum : (plan : Plan) (book : Book) (draws : Draws) (limits : Limits) (ids : List ℕ) → TheFourCountsSumToTheRuns plan book draws limits ids
the_four_counts_sum plan book draws limits ids =
    rows_sum plan book limits (record { rows = []; left = limits.allowance; coming = draws }) ids tt

-- the tally of one scheduler too
pub the_four_counts_of_one_sum : (plan : Plan) (book : Book) (draws : Draws) (limits : Limits) (f : Scheduler) → TheFourCountsOfASchedulerSumToTheRuns plan book draws limits f
the_four_counts_of_one_sum plan book draws limits f =
    omega (arith, all_counted plan book f limits.steps limits.runs (none_yet limits.allowance draws))

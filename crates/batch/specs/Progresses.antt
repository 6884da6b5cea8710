-- A batch on its way, as the code has it.
use Rattle.std.specs.Prelude.{◌≡◌, ℕ}
use Rattle.runs.specs.Runs.{Draws}
use Rattle.logs.specs.declared.Log.{Log}
use Rattle.batch.specs.Batches as batches
use Rattle.batch.specs.declared.BatchRow.{BatchRow}
use Rattle.batch.specs.declared.counting.Progress.{Progress}

-- where the runs of a scheduler are, with these draws to come
abbrev pub progress_of : Draws → Progress → batches.Progress
progress_of draws p = record { tally = p.tally; left = p.left; coming = draws }

-- the rows made joined the log, and so much of the allowance and these draws are left
pub record Entered (made : batches.Made) (log log' : Log BatchRow) (left : ℕ) (coming : Draws) : Type 0 where
  pub joined : batches.Joined made.rows log log'
  pub allowance : left ≡ made.left
  pub draws : coming ≡ made.coming

-- What a warning of lost runs says.
use Rattle.std.specs.Prelude.{◌≡◌, ℕ, ◌<◌, List, Some, length}
use Rattle.describe.specs.Losses.{IsGreatest, warned_of}
use Rattle.describe.specs.declared.losses.Loss.{Loss}
use Rattle.describe.specs.declared.loss_warning.LossWarning.{LossWarning}

-- a warning tells how many schedulers lose more than 1 in 100 of so many runs, and which loses the most
pub record IsLossWarning (runs : ℕ) (losses : List Loss) (w : LossWarning) : Type 0 where
  pub some : 0 < w.warned
  pub counted : w.warned ≡ warned_of runs losses
  pub of_all : w.schedulers ≡ length losses
  pub worst : IsGreatest losses (Some w.worst)
  pub of_runs : w.runs ≡ runs

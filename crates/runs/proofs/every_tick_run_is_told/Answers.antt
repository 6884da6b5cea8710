use Rattle.runs.proofs.Whole.{every_tick_run_is_told}
use Rattle.runs.proofs.every_tick_run_is_told.Goals as goal

-- written out, since search does not find it from the theorem's name
pub returns : goal.returns
returns c = every_tick_run_is_told

use Rattle.runs.specs.Runs.{shown}
use Rattle.commands.proofs.possible.shown_first.Goals as goal

pub returns : goal.returns
unfolding shown
returns c = c.entries_at.ensures

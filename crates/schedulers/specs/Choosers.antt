-- What a named scheduler means.
use Rattle.runs.specs.Runs.{Scheduler}
use Rattle.schedulers.specs.Meanings.{earliest, latest, sampled_by}
use Rattle.schedulers.specs.declared.chooser.Chooser.{Chooser}
use Rattle.schedulers.specs.declared.chooser.Chooser.TheVariants.{Earliest, Latest, Sampled}

-- the scheduler of each name
abbrev pub meaning_of : Chooser → Scheduler
meaning_of Earliest = earliest
meaning_of Latest = latest
meaning_of (Sampled id) = sampled_by id

use Rattle.std.proofs.Common.{◌≡◌}
use Rattle.offers.specs.Known.{plan_of}
use Rattle.batch.specs.Batches.{first_runs}
use Rattle.batch.specs.Progresses.{progress_of}
use Rattle.batch.proofs.job.Job.runs_of.Given as goal

abbrev pub invariant-loop-row : goal.invariant-loop-row
invariant-loop-row g l =
    (progress_of (g.D.DrawSource.coming l.source) l.progress ≡ first_runs (plan_of l.self.plan) (g.D.DrawSource.book l.initial.source) (g.S.Scheduler.meaning l.scheduler) l.self.limits.steps l.row (progress_of (g.D.DrawSource.coming l.initial.source) l.initial.progress))
    × (g.D.DrawSource.book l.source ≡ g.D.DrawSource.book l.initial.source)

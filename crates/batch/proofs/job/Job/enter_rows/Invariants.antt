use Rattle.std.proofs.Common.{◌≡◌, take}
use Rattle.offers.specs.Known.{plan_of}
use Rattle.batch.specs.Batches.{all_made}
use Rattle.batch.specs.Progresses.{Entered}
use Rattle.batch.proofs.job.Job.enter_rows.Given as goal

abbrev pub invariant-loop-identifier : goal.invariant-loop-identifier
invariant-loop-identifier g l =
    Entered (all_made (plan_of l.self.plan) (g.D.DrawSource.book l.initial.source) (g.D.DrawSource.coming l.initial.source) l.self.limits (take l.identifier-index l.identifiers)) l.initial.log l.log l.left (g.D.DrawSource.coming l.source)
    × (g.D.DrawSource.book l.source ≡ g.D.DrawSource.book l.initial.source)
    × (l.log.rows.ghost_name ≡ l.initial.log.rows.ghost_name)

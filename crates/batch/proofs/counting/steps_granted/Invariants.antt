use Rattle.std.proofs.Common.{◌≡◌}
use Rattle.batch.specs.Batches.{stepped}
use Rattle.run.specs.Views.{KeepsPlanAndSource, plan_for, view_of}
use Rattle.batch.proofs.counting.steps_granted.Given as goal

abbrev pub invariant-loop-granted : goal.invariant-loop-granted
invariant-loop-granted g l =
    (stepped (plan_for l.initial.run) (g.S.Scheduler.meaning l.scheduler) l.granted (view_of g.D.DrawSource.coming l.initial.run) ≡ (view_of g.D.DrawSource.coming l.run, l.granted))
    × KeepsPlanAndSource g.D.DrawSource.book l.initial.run l.run

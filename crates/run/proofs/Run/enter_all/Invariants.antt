use Rattle.std.proofs.Common.{◌≡◌, take}
use Rattle.run.specs.Calls.{Entered, calls_of}
use Rattle.run.specs.Views.{KeepsPlanAndSource, plan_for, view_of}
use Rattle.run.proofs.Run.enter_all.Given as goal

abbrev pub invariant-loop-call : goal.invariant-loop-call
invariant-loop-call g l =
    Entered (plan_for l.initial.self) (view_of g.D.DrawSource.coming l.initial.self) (view_of g.D.DrawSource.coming l.self) (calls_of g.S.Scheduler.meaning (take l.call-index l.calls)) l.initial.log l.log
    × KeepsPlanAndSource g.D.DrawSource.book l.initial.self l.self
    × (l.log.rows.ghost_name ≡ l.initial.log.rows.ghost_name)

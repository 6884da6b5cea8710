use Rattle.offers.specs.Checked.{checked}
use Rattle.runs.specs.Tables.{plan_in}
use Rattle.runs.proofs.Agreement.{regions_and_ticks_tell_the_same}
use Rattle.offers.proofs.Checking.{checked_sound}
use Rattle.run.specs.Calls.{calls_of}
use Rattle.run.proofs.replay.replay.Goals as goal

pub returns-then-room-calls-clause-regions_and_ticks_tell_the_same : goal.returns-then-room-calls-clause-regions_and_ticks_tell_the_same
returns-then-room-calls-clause-regions_and_ticks_tell_the_same g c =
    regions_and_ticks_tell_the_same (plan_in (checked c.args.handed)) (g.D.DrawSource.coming c.args.source.now) (checked_sound c.args.handed) (g.D.DrawSource.coming_fits c.args.source.now)

pub returns-then-room-calls-clause-tells_a_tick_run : goal.returns-then-room-calls-clause-tells_a_tick_run
returns-then-room-calls-clause-tells_a_tick_run g c =
    (returns-then-room-calls-clause-regions_and_ticks_tell_the_same g c).every_list_of_calls_tells_a_tick_run (calls_of g.S.Scheduler.meaning c.args.calls.now)

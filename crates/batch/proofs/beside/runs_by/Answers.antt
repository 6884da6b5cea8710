use Rattle.batch.proofs.Telling.{every_run_of_handed}
use Rattle.batch.proofs.beside.runs_by.Goals as goal

pub returns-in_err-admit-clause-every_run_of_a_batch_tells_a_tick_run : goal.returns-in_err-admit-clause-every_run_of_a_batch_tells_a_tick_run
returns-in_err-admit-clause-every_run_of_a_batch_tells_a_tick_run g c =
    every_run_of_handed c.args.handed (g.D.DrawSource.book c.args.source.now) (g.D.DrawSource.book_fits c.args.source.now)

pub returns-clause-every_run_of_a_batch_tells_a_tick_run : goal.returns-clause-every_run_of_a_batch_tells_a_tick_run
returns-clause-every_run_of_a_batch_tells_a_tick_run g c =
    every_run_of_handed c.args.handed (g.D.DrawSource.book c.args.source.now) (g.D.DrawSource.book_fits c.args.source.now)

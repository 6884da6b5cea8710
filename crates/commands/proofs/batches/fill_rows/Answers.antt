use Rattle.std.proofs.Common.{rules}
use Rattle.draws.specs.Either.{book_of, coming_of}
use Rattle.offers.specs.Checked.{checked}
use Rattle.runs.specs.Tables.{plan_in}
use Rattle.commands.proofs.Filled.{rows_filled}
use Rattle.commands.proofs.batches.fill_rows.Goals as goal

pub returns : goal.returns
returns c =
    let filled = rows_filled (plan_in (checked c.args.handed)) (book_of c.args.source.now) (coming_of c.args.source.now) (coming_of c.batch.new.source) c.args.limits c.args.identifiers.now c.new-log.result c.batch.new.log c.batch.result c.batch.ensures.batched c.new-log.ensures.empty (search rules) in
    search (rules, filled)

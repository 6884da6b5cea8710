use Rattle.rows.specs.Files.{rows_in}
use Rattle.rows.proofs.Fills.{Filled}
use Rattle.reader.proofs.fill.fill.Given as goal

abbrev pub invariant-loop-i : goal.invariant-loop-i
invariant-loop-i g l =
    Filled g.R.Row.written g.R.Row.SIZE l.part (rows_in g.R.Row.parsed g.R.Row.SIZE l.part) l.initial.row-items l.row-items l.i

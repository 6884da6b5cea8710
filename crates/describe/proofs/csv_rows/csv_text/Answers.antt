use Rattle.std.proofs.Common.{Some}
use Rattle.csv.specs.Writing.{text_written}
use Rattle.describe.specs.CsvLines.{column_names, line_of}
use Rattle.describe.proofs.LineByLine.{lines_with_one_more}
use Rattle.describe.proofs.csv_rows.csv_text.Goals as goal

pub loop-row-preserved : goal.loop-row-preserved
loop-row-preserved c =
    let so_far = c.loop-row.invariant in
    let told = c.in_ok-write_row.ensures in
    let after = told.2 so_far.0 in
    let next = lines_with_one_more c.args.runs c.args.rows.now c.loop-row.row-index _ (line_of column_names) so_far.1 (text_written (λ v. Some v.items) c.loop-row.writer) (text_written (λ v. Some v.items) c.write_row.new.writer) told.0 c.loop-row-test.true so_far.2 so_far.3 told.1 after.1 in
    (after.0, next.0, next.1, next.2)

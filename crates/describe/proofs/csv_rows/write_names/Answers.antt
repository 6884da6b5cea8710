use Rattle.std.proofs.Common.{ℕ, List, [], ◌∷◌}
use Rattle.describe.specs.CsvLines.{column_names}
use Rattle.describe.proofs.LineByLine.{line_added}
use Rattle.describe.proofs.csv_rows.write_names.Goals as goal

pub returns : goal.returns
returns g c =
    let wrote = c.write_fields.ensures in
    let given : List (List ℕ) = c.as_slice.result.now ∷ c.as_slice-2.result.now ∷ c.as_slice-3.result.now ∷ c.as_slice-4.result.now ∷ c.as_slice-5.result.now ∷ c.as_slice-6.result.now ∷ c.as_slice-7.result.now ∷ [] in
    line_added g.W.Write.contents c.args.writer.now c.write_fields.new.self c.write_fields.result given column_names (cc) wrote.bytes wrote.ended wrote.clean wrote.setup

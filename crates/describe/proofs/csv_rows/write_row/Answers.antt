use Rattle.std.proofs.Common.{ℕ, List, [], ◌∷◌, refl}
use Rattle.std.specs.Fmt.{decimal}
use Rattle.describe.specs.CsvLines.{AddsLine, TellRow}
use Rattle.describe.specs.Numbers.{with_tenths}
use Rattle.describe.proofs.LineByLine.{line_added, row_added}
use Rattle.describe.proofs.csv_rows.write_row.Goals as goal

pub returns : goal.returns
returns g c =
    let row = c.args.row.now in
    let share = c.of.result.tenths in
    let half_width = c.of-2.result.tenths in
    let fields : List (List ℕ) = decimal row.identifier ∷ decimal row.reached ∷ decimal row.failed ∷ decimal row.stuck ∷ decimal row.unfinished ∷ with_tenths share ∷ with_tenths half_width ∷ [] in
    let given : List (List ℕ) = c.as_bytes.result.now ∷ c.as_bytes-2.result.now ∷ c.as_bytes-3.result.now ∷ c.as_bytes-4.result.now ∷ c.as_bytes-5.result.now ∷ c.as_bytes-6.result.now ∷ c.as_bytes-7.result.now ∷ [] in
    let wrote = c.write_fields.ensures in
    row_added c.write_fields.result (TellRow c.args.runs row) (AddsLine g.W.Write.contents c.args.writer.now c.write_fields.new.self) fields
    (record { share = share; half_width = half_width; share_is = c.of.ensures; half_width_is = c.of-2.ensures; fields_are = refl })
    (line_added g.W.Write.contents c.args.writer.now c.write_fields.new.self c.write_fields.result given fields (cc (c.in_ok-identifier.ensures, c.in_ok-reached.ensures, c.in_ok-failed.ensures, c.in_ok-stuck.ensures, c.in_ok-unfinished.ensures, c.in_ok-share.ensures, c.in_ok-half_width.ensures)) wrote.bytes wrote.ended wrote.clean wrote.setup)

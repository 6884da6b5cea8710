use Rattle.std.proofs.Common.{◌≡◌, ℕ, List, ◌++◌, Some, take}
use Rattle.csv.specs.Writing.{text_written}
use Rattle.describe.specs.CsvLines.{AreLines, BetweenLines, column_names, line_of}
use Rattle.describe.proofs.csv_rows.csv_text.Given as goal

abbrev pub invariant-loop-row : goal.invariant-loop-row
invariant-loop-row l =
    BetweenLines l.writer × (lines : List ℕ) × AreLines l.runs (take l.row-index l.rows) lines × (text_written (λ v. Some v.items) l.writer ≡ Some (line_of column_names ++ lines))

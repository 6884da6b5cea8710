-- The rows of a batch as comma-separated values.
use Rattle.std.specs.Prelude.{◌≡◌, ℕ, false, List, [], ◌∷◌, ◌++◌, Option, codes}
use Rattle.std.specs.Fmt.{decimal}
use Rattle.std.specs.Io.KnownBytes.{Appends}
use Rattle.csv.specs.Writing.{default_writer, fields_written, has_written, row_text, text_written, writer_setup}
use Rattle.csv.specs.declared.writer.Writer.{Writer}
use Rattle.batch.specs.declared.BatchRow.{BatchRow}
use Rattle.describe.specs.Numbers.{with_tenths}
use Rattle.describe.specs.Shares.{IsLeastHalfWidth, IsShareOf}

-- the names of the columns
abbrev pub column_names : List (List ℕ)
column_names =
    codes "identifier" ∷ codes "reached" ∷ codes "failed" ∷ codes "stuck" ∷ codes "unfinished" ∷ codes "share_percent" ∷ codes "half_width_percent" ∷ []

-- the fields tell a row: its identifier, its four counts, its share and the half-width of that
pub record TellRow (runs : ℕ) (row : BatchRow) (fields : List (List ℕ)) : Type 0 where
  pub share : ℕ
  pub half_width : ℕ
  pub share_is : IsShareOf row.reached runs share
  pub half_width_is : IsLeastHalfWidth runs half_width
  pub fields_are : fields ≡ decimal row.identifier ∷ decimal row.reached ∷ decimal row.failed ∷ decimal row.stuck ∷ decimal row.unfinished ∷ with_tenths share ∷ with_tenths half_width ∷ []

-- a line of fields, as the usual writer of comma-separated values writes it
unfoldable pub line_of : List (List ℕ) → List ℕ
line_of fields = row_text default_writer fields

-- a text has one line for each row, in order
abbrev pub AreLines : ℕ → List BatchRow → List ℕ → Type 0
AreLines runs [] text = text ≡ []
AreLines runs (row ∷ rows) text =
    (fields : List (List ℕ)) × (rest : List ℕ) × TellRow runs row fields × (text ≡ line_of fields ++ rest) × AreLines runs rows rest

-- a text names its columns in a first line, and then has the lines of the rows
abbrev pub IsCsvOf : ℕ → List BatchRow → List ℕ → Type 0
IsCsvOf runs rows text =
    (lines : List ℕ) × AreLines runs rows lines × (text ≡ line_of column_names ++ lines)

-- a writer of the usual kind has ended a line and begun none
pub record BetweenLines {W : Type 0} (w : Writer W) : Type 0 where
  pub usual : writer_setup w ≡ default_writer
  pub no_field : fields_written w ≡ 0
  pub nothing : has_written w ≡ false

-- between two lines, a writer writes one more
abbrev pub AddsLine : {W : Type 0} → (W → Option (List ℕ)) → Writer W → Writer W → List (List ℕ) → Type 0
AddsLine contents w w' fields =
    BetweenLines w → BetweenLines w' × Appends (text_written contents w) (text_written contents w') (line_of fields)

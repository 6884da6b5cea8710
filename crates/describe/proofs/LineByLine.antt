-- A writer of comma-separated values, line by line.
use Rattle.std.proofs.Common.{◌≡◌, ◌≢◌, ℕ, ◌+◌, ◌<◌, false, Some, None, Option, Ok, Err, Result, OnOk, List, [], ◌∷◌, ◌++◌, length, get_or, take, refl, sym, ap, subst, ◌∙◌, append-nil, append_assoc}
use Rattle.std.proofs.lemmas.List.{take_more}
use Rattle.std.specs.Io.KnownBytes.{Appends}
use Rattle.csv.specs.Writing.{default_writer, fields_written, has_written, row_text, text_written, writer_setup}
use Rattle.csv.specs.declared.writer.QuoteStyle.TheVariants as style
use Rattle.csv.specs.declared.writer.Writer.{Writer}
use Rattle.csv.specs.declared.writer.WriterBuilder.{WriterBuilder}
use Rattle.batch.specs.declared.BatchRow.{BatchRow}
use Rattle.describe.specs.CsvLines.{AddsLine, AreLines, TellRow, line_of}

-- the usual writer looks at no numbers
usual_style : (setup : WriterBuilder) → setup ≡ default_writer → setup.style ≢ style.NonNumeric
usual_style setup usual = subst (λ (s : WriterBuilder). s.style ≢ style.NonNumeric) (sym usual) (λ e. cc e)

-- what a written record says of a line
pub line_added : {W E : Type 0} (contents : W → Option (List ℕ)) (w w' : Writer W) (r : Result (Unit {0}) E) (given fields : List (List ℕ)) → given ≡ fields
    → OnOk r (fields_written w ≡ 0 → has_written w ≡ false → (writer_setup w).style ≢ style.NonNumeric → Appends (text_written contents w) (text_written contents w') (row_text (writer_setup w) given))
    → OnOk r (fields_written w' ≡ 0) → OnOk r (has_written w' ≡ false) → OnOk r (writer_setup w' ≡ writer_setup w)
    → OnOk r (AddsLine contents w w' fields)
unfolding line_of
line_added contents w w' (Ok x) given fields same bytes ended clean setup = λ b.
    let text = bytes b.no_field b.nothing (usual_style (writer_setup w) b.usual) in
    let usual = subst (λ (s : WriterBuilder). Appends (text_written contents w) (text_written contents w') (row_text s given)) b.usual text in (
      record { usual = setup ∙ b.usual; no_field = ended; nothing = clean },
      subst (λ (z : List (List ℕ)). Appends (text_written contents w) (text_written contents w') (row_text default_writer z)) same usual,
    )
line_added contents w w' (Err e) given fields same bytes ended clean setup = tt

-- a line that tells a row is added
pub row_added : {E : Type 0} (r : Result (Unit {0}) E) (P Q : List (List ℕ) → Type 0) (fields : List (List ℕ)) → P fields → OnOk r (Q fields) → OnOk r ((x : List (List ℕ)) × P x × Q x)
row_added (Ok x) P Q fields told added = (fields, told, added)
row_added (Err e) P Q fields told added = tt

one_line_more : (runs : ℕ) (rows : List BatchRow) (lines : List ℕ) (row : BatchRow) (fields : List (List ℕ)) → AreLines runs rows lines → TellRow runs row fields → AreLines runs (rows ++ row ∷ []) (lines ++ line_of fields)
one_line_more runs [] lines row fields none told =
    (fields, [], told, ap (λ z. z ++ line_of fields) none ∙ sym (append-nil (line_of fields)), refl)
one_line_more runs (first ∷ rows) lines row fields h told =
    (h.0, h.1 ++ line_of fields, h.2, ap (λ z. z ++ line_of fields) h.3 ∙ append_assoc (line_of h.0) h.1 (line_of fields), one_line_more runs rows h.1 row fields h.4 told)

-- what a writer that has written a text has written after some bytes more
pub text_then : (t : Option (List ℕ)) (text more : List ℕ) → Appends (Some text) t more → t ≡ Some (text ++ more)
text_then None text more h = absurd h
text_then (Some u) text more h = ap Some h

-- a text of a head and of lines, with the line of one row more
pub lines_with_one_more : (runs : ℕ) (rows : List BatchRow) (i : ℕ) (d : BatchRow) (head lines : List ℕ) (t t' : Option (List ℕ)) (fields : List (List ℕ)) → i < length rows → AreLines runs (take i rows) lines → t ≡ Some (head ++ lines) → TellRow runs (get_or rows i d) fields → Appends t t' (line_of fields)
    → (more : List ℕ) × AreLines runs (take (i + 1) rows) more × (t' ≡ Some (head ++ more))
lines_with_one_more runs rows i d head lines t t' fields low h written told added =
    let next = text_then t' (head ++ lines) (line_of fields) (subst (λ (z : Option (List ℕ)). Appends z t' (line_of fields)) written added) in
    let longer = one_line_more runs (take i rows) lines (get_or rows i d) fields h told in (
      lines ++ line_of fields,
      subst (λ (z : List BatchRow). AreLines runs z (lines ++ line_of fields)) (sym (take_more rows i d low)) longer,
      next ∙ ap Some (append_assoc head lines (line_of fields)),
    )

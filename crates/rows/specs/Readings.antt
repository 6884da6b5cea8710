-- The numbers of relations and marks, and what a row with such numbers means.
use Rattle.std.specs.Prelude.{ℕ, ◌+◌, ◌%◌, cond, ◌==◌, nat_lt}
use Rattle.rows.specs.declared.reading.Comparison.{Comparison}
use Rattle.rows.specs.declared.reading.Mark.{Mark}
use Rattle.rows.specs.declared.reading.Mark.TheVariants.{Unmarked, Goal, Avoid, Both}
use Rattle.rows.specs.declared.reading.Relation.{Relation}
use Rattle.rows.specs.declared.reading.Relation.TheVariants.{AtLeast, Above, AtMost, Below}
use Rattle.rows.specs.declared.reading.Subject.TheVariants.{Timer, Lead}
use Rattle.rows.specs.declared.tables.ComparisonRow.{ComparisonRow}

-- the number of each relation
abbrev pub relation_number : Relation → ℕ
relation_number AtLeast = 0
relation_number Above = 1
relation_number AtMost = 2
relation_number Below = 3

-- the number of each mark
abbrev pub mark_number : Mark → ℕ
mark_number Unmarked = 0
mark_number Goal = 1
mark_number Avoid = 2
mark_number Both = 3

-- the row of a comparison: kinds 0 to 3 for one timer, 4 to 7 for a lead
abbrev pub row_of : Comparison → ComparisonRow
row_of c = elim c.subject [
  | Timer i ↦ record { kind = relation_number c.relation; first = i; second = 0; filler = 0; constant = c.constant }
  | Lead i j ↦ record { kind = 4 + relation_number c.relation; first = i; second = j; filler = 0; constant = c.constant }
]

-- the relation of a kind
abbrev pub relation_of : ℕ → Relation
relation_of kind = cond (kind % 4 == 0) AtLeast (cond (kind % 4 == 1) Above (cond (kind % 4 == 2) AtMost Below))

-- the comparison of a row
abbrev pub reading_of : ComparisonRow → Comparison
reading_of r =
    record {
      subject = cond (nat_lt r.kind 4) (Timer r.first) (Lead r.first r.second);
      relation = relation_of r.kind;
      constant = r.constant;
    }

-- the mark of a number
abbrev pub mark_of : ℕ → Mark
mark_of n = cond (n == 0) Unmarked (cond (n == 1) Goal (cond (n == 2) Avoid Both))

-- What a typed comparison says of a region, and what a mark makes of a stage.
use Rattle.std.specs.Prelude.{Bool, true, false}
use Rattle.rows.specs.declared.reading.Comparison.{Comparison}
use Rattle.rows.specs.declared.reading.Mark.{Mark}
use Rattle.rows.specs.declared.reading.Mark.TheVariants.{Unmarked, Goal, Avoid, Both}
use Rattle.rows.specs.declared.reading.Relation.{Relation}
use Rattle.rows.specs.declared.reading.Relation.TheVariants.{AtLeast, Above, AtMost, Below}
use Rattle.rows.specs.declared.reading.Subject.TheVariants.{Timer, Lead}
use Rattle.theory.specs.Regions as regions

-- the way of comparing that a relation names
abbrev pub relation_in : Relation → regions.Relation
relation_in AtLeast = regions.AtLeast
relation_in Above = regions.Above
relation_in AtMost = regions.AtMost
relation_in Below = regions.Below

-- what a comparison says: of one timer, or of a lead
abbrev pub comparison_in : Comparison → regions.Comparison
comparison_in c = elim c.subject [
  | Timer i ↦ regions.timer_against i (relation_in c.relation) c.constant
  | Lead i j ↦ regions.lead_against i j (relation_in c.relation) c.constant
]

-- whether the goal counts in a stage with this mark
abbrev pub counts_as_goal : Mark → Bool
counts_as_goal Unmarked = false
counts_as_goal Goal = true
counts_as_goal Avoid = false
counts_as_goal Both = true

-- whether a stage with this mark is to be avoided
abbrev pub is_avoided : Mark → Bool
is_avoided Unmarked = false
is_avoided Goal = false
is_avoided Avoid = true
is_avoided Both = true

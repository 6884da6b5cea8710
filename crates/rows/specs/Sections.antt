-- The numbers of the six sections of a plan file.
use Rattle.std.specs.Prelude.{ℕ, List, [], ◌∷◌, codes}
use Rattle.rows.specs.declared.section.Counts.{Counts}
use Rattle.rows.specs.declared.section.SectionName.{SectionName}
use Rattle.rows.specs.declared.section.SectionName.TheVariants.{Timers, Comparisons, Stages, Changes, Outcomes, Goal}

-- the sections, in the order of the file
abbrev pub section_names : List SectionName
section_names = Timers ∷ Comparisons ∷ Stages ∷ Changes ∷ Outcomes ∷ Goal ∷ []

-- the bytes of one record
abbrev pub size_of : SectionName → ℕ
size_of Timers = 2
size_of Comparisons = 6
size_of Stages = 10
size_of Changes = 8
size_of Outcomes = 6
size_of Goal = 4

-- the fewest records that a section may have
abbrev pub least_of : SectionName → ℕ
least_of Timers = 1
least_of Comparisons = 0
least_of Stages = 1
least_of Changes = 0
least_of Outcomes = 0
least_of Goal = 1

-- the most records that a section may have
abbrev pub most_of : SectionName → ℕ
most_of Timers = 16
most_of Comparisons = 4096
most_of Stages = 256
most_of Changes = 1024
most_of Outcomes = 4096
most_of Goal = 1

-- as many rows of each section as a plan may have
abbrev pub largest : Counts
largest =
    record {
      timers = most_of Timers;
      comparisons = most_of Comparisons;
      stages = most_of Stages;
      changes = most_of Changes;
      outcomes = most_of Outcomes;
      goals = most_of Goal;
    }

-- the number of rows of one section
abbrev pub count_of : Counts → SectionName → ℕ
count_of c Timers = c.timers
count_of c Comparisons = c.comparisons
count_of c Stages = c.stages
count_of c Changes = c.changes
count_of c Outcomes = c.outcomes
count_of c Goal = c.goals

-- the name of a section, as a planner is told it
abbrev pub text_of : SectionName → List ℕ
text_of Timers = codes "timers"
text_of Comparisons = codes "comparisons"
text_of Stages = codes "stages"
text_of Changes = codes "changes"
text_of Outcomes = codes "outcomes"
text_of Goal = codes "goal"

-- The plan that stands in the bytes of a file, and the first rule that the file breaks.
use Rattle.std.specs.Prelude.{◌≡◌, ℕ, ◌+◌, ◌*◌, ◌/◌, cond, List, [], ◌∷◌, map, length, take, drop, Some, None, Option, nat_lt, slice_index}
use Rattle.std.specs.List.{range_with_len}
use Rattle.rows.specs.declared.fault.Fault.{Fault}
use Rattle.rows.specs.declared.fault.Where.TheVariants.{File, Section}
use Rattle.rows.specs.declared.section.Counts.{Counts}
use Rattle.rows.specs.declared.section.SectionName.{SectionName}
use Rattle.rows.specs.declared.section.SectionName.TheVariants.{Timers, Comparisons, Stages, Changes, Outcomes, Goal}
use Rattle.rows.specs.declared.tables.TimerRow.{TimerRow}
use Rattle.rows.specs.declared.tables.ComparisonRow.{ComparisonRow}
use Rattle.rows.specs.declared.tables.StageRow.{StageRow}
use Rattle.rows.specs.declared.tables.ChangeRow.{ChangeRow}
use Rattle.rows.specs.declared.tables.OutcomeRow.{OutcomeRow}
use Rattle.rows.specs.declared.tables.GoalRow.{GoalRow}
use Rattle.rows.specs.Plans.{PlanRows, counts_of, front, past, file_of}
use Rattle.rows.specs.Refusals.{refusal_no}
use Rattle.rows.specs.Sections.{section_names, size_of, count_of}
use Rattle.rows.specs.Sound.{Sound}
use Rattle.rows.specs.Verdicts.{Rule, first_broken, fault_at, or_else, off_limits, rows_fault}

-- the number of 16 bits at the byte i, high byte first
abbrev pub word_at : List ℕ → ℕ → ℕ
word_at b i = 256 * slice_index b i + slice_index b (i + 1)

-- the timer that begins at the byte i
abbrev pub timer_at : List ℕ → ℕ → TimerRow
timer_at b i = record { ceiling = word_at b i }

-- the comparison that begins at the byte i
abbrev pub comparison_at : List ℕ → ℕ → ComparisonRow
comparison_at b i =
    record { kind = slice_index b i; first = slice_index b (i + 1); second = slice_index b (i + 2); filler = slice_index b (i + 3); constant = word_at b (i + 4) }

-- the stage that begins at the byte i
abbrev pub stage_at : List ℕ → ℕ → StageRow
stage_at b i =
    record { mark = word_at b i; first_hold = word_at b (i + 2); holds = word_at b (i + 4); first_change = word_at b (i + 6); changes = word_at b (i + 8) }

-- the change that begins at the byte i
abbrev pub change_at : List ℕ → ℕ → ChangeRow
change_at b i =
    record { first_guard = word_at b i; guards = word_at b (i + 2); first_outcome = word_at b (i + 4); outcomes = word_at b (i + 6) }

-- the outcome that begins at the byte i
abbrev pub outcome_at : List ℕ → ℕ → OutcomeRow
outcome_at b i = record { weight = word_at b i; stage = word_at b (i + 2); resets = word_at b (i + 4) }

-- the goal that begins at the byte i
abbrev pub goal_at : List ℕ → ℕ → GoalRow
goal_at b i = record { first = word_at b i; comparisons = word_at b (i + 2) }

-- the records of a part of the file, each of some bytes, one after the other
abbrev pub rows_in : {R : Type 0} → (List ℕ → ℕ → R) → ℕ → List ℕ → List R
rows_in row size b = map (λ k. row b (k * size)) (range_with_len 0 (length b / size))

-- how many bytes the records of a section take whose count begins the bytes
abbrev pub record_bytes : SectionName → List ℕ → ℕ
record_bytes s b = size_of s * word_at b 0

-- the bytes of its records
unfoldable pub part_in : SectionName → List ℕ → List ℕ
part_in s b = take (record_bytes s b) (drop 2 b)

-- the bytes that follow it
unfoldable pub after : SectionName → List ℕ → List ℕ
after s b = drop (2 + record_bytes s b) b

-- the bytes from the comparisons on
abbrev pub from1 : List ℕ → List ℕ
from1 b = after Timers b

-- the bytes from the stages on
abbrev pub from2 : List ℕ → List ℕ
from2 b = after Comparisons (from1 b)

-- the bytes from the changes on
abbrev pub from3 : List ℕ → List ℕ
from3 b = after Stages (from2 b)

-- the bytes from the outcomes on
abbrev pub from4 : List ℕ → List ℕ
from4 b = after Changes (from3 b)

-- the bytes from the goal on
abbrev pub from5 : List ℕ → List ℕ
from5 b = after Outcomes (from4 b)

-- the plan in a file, section by section
abbrev pub plan_in : List ℕ → PlanRows
plan_in b =
    record {
      timers = rows_in timer_at 2 (part_in Timers b);
      comparisons = rows_in comparison_at 6 (part_in Comparisons (from1 b));
      stages = rows_in stage_at 10 (part_in Stages (from2 b));
      changes = rows_in change_at 8 (part_in Changes (from3 b));
      outcomes = rows_in outcome_at 6 (part_in Outcomes (from4 b));
      goals = rows_in goal_at 4 (part_in Goal (from5 b));
    }

-- the rules of a section that begins the bytes, and whose table has some room
abbrev pub layout_rules : SectionName → ℕ → List ℕ → List Rule
layout_rules s room b =
    (nat_lt (length b) 2, 1)
    ∷ (off_limits s (word_at b 0), 3)
    ∷ (nat_lt room (word_at b 0), 7)
    ∷ (nat_lt (length b) (2 + record_bytes s b), 1)
    ∷ []

-- the first broken rule of such a section
unfoldable pub part_fault : SectionName → Counts → List ℕ → Option Fault
part_fault s rooms b = fault_at (Section s) (first_broken (layout_rules s (count_of rooms s) b))

-- the first fault in how the bytes are laid out: section by section, then what follows them
abbrev pub layout_fault : Counts → List SectionName → List ℕ → Option Fault
layout_fault rooms [] b =
    cond (nat_lt 0 (length b)) (Some (record { refusal = refusal_no 2; at = File })) None
layout_fault rooms (s ∷ more) b = or_else (part_fault s rooms b) (layout_fault rooms more (after s b))

-- what is wrong with a file that is read into tables of some room, if anything is: the layout first, then the records
abbrev pub file_fault : Counts → List ℕ → Option Fault
file_fault rooms b = or_else (layout_fault rooms section_names b) (rows_fault (plan_in b))

-- what reading a file into tables comes to: the file is that of a sound plan, which the first rows now hold, and the other rows stay
pub record Read (bytes : List ℕ) (before later : PlanRows) (n : Counts) : Type 0 where
  -- the file breaks no rule where it is read into the tables as they were handed
  pub breaks_none : file_fault (counts_of before) bytes ≡ None
  pub file : bytes ≡ file_of (front n later)
  pub sound : Sound (front n later)
  pub counted : counts_of (front n later) ≡ n
  -- every table has as many rows as it had
  pub same_sizes : counts_of later ≡ counts_of before
  pub kept : past n later ≡ past n before

-- Which rule a plan breaks first. The rules are gone through in a fixed order, and the first broken one gives the refusal.
use Rattle.std.specs.Prelude.{ℕ, zero, suc, ◌+◌, ◌^◌, Bool, cond, not, ◌&&◌, ◌||◌, List, [], ◌∷◌, length, is_some, Some, None, Option, ◌==◌, nat_le, nat_lt, slice_index_or}
use Rattle.rows.specs.declared.fault.Fault.{Fault}
use Rattle.rows.specs.declared.fault.Where.{Where}
use Rattle.rows.specs.declared.fault.Where.TheVariants.{Section, Record}
use Rattle.rows.specs.declared.refusal.Refusal.{Refusal}
use Rattle.rows.specs.declared.section.Counts.{Counts}
use Rattle.rows.specs.declared.section.SectionName.{SectionName}
use Rattle.rows.specs.declared.section.SectionName.TheVariants.{Timers, Comparisons, Stages, Changes, Outcomes, Goal}
use Rattle.rows.specs.declared.tables.TimerRow.{TimerRow}
use Rattle.rows.specs.declared.tables.ComparisonRow.{ComparisonRow}
use Rattle.rows.specs.declared.tables.StageRow.{StageRow}
use Rattle.rows.specs.declared.tables.ChangeRow.{ChangeRow}
use Rattle.rows.specs.declared.tables.OutcomeRow.{OutcomeRow}
use Rattle.rows.specs.declared.tables.GoalRow.{GoalRow}
use Rattle.rows.specs.Plans.{PlanRows, counts_of}
use Rattle.rows.specs.Refusals.{refusal_no}
use Rattle.rows.specs.Sections.{section_names, least_of, most_of, count_of}
use Rattle.rows.specs.Sound.{weights_of}

-- whether a rule is broken, and the number of the refusal for that
abbrev pub Rule : Type 0
Rule = Bool × ℕ

-- the refusal of the first broken rule
abbrev pub first_broken : List Rule → Option Refusal
first_broken [] = None
first_broken (rule ∷ rules) = cond rule.0 (Some (refusal_no rule.1)) (first_broken rules)

-- the first of two answers that is there
abbrev pub or_else : Option Fault → Option Fault → Option Fault
or_else None later = later
or_else (Some f) later = Some f

-- a refusal with its place
abbrev pub fault_at : Where → Option Refusal → Option Fault
fault_at place None = None
fault_at place (Some refusal) = Some (record { refusal = refusal; at = place })

-- the refusal of the first broken rule, without its place
abbrev pub refusal_told : Option Fault → Option Refusal
refusal_told None = None
refusal_told (Some f) = Some f.refusal

-- n rows from `first` on, at least one, pass the end of a section of `count` rows
abbrev pub missing : ℕ → ℕ → ℕ → Bool
missing first n count = nat_lt 0 n && nat_lt count (first + n)

-- the rules of a timer
abbrev pub timer_rules : TimerRow → List Rule
timer_rules t = ((t.ceiling == 0), 6) ∷ []

-- the rules of a comparison, where the sections have some counts
abbrev pub comparison_rules : Counts → ComparisonRow → List Rule
comparison_rules n c =
    (nat_lt 7 c.kind, 6)
    ∷ (not (c.filler == 0), 6)
    ∷ (nat_lt c.kind 4 && not (c.second == 0), 6)
    ∷ (nat_le n.timers c.first, 4)
    ∷ (nat_le 4 c.kind && nat_le n.timers c.second, 4)
    ∷ []

-- the rules of a stage
abbrev pub stage_rules : Counts → StageRow → List Rule
stage_rules n s =
    (nat_lt 3 s.mark, 6)
    ∷ (nat_lt 32 s.holds, 3)
    ∷ (nat_lt 128 s.changes, 3)
    ∷ (missing s.first_hold s.holds n.comparisons, 4)
    ∷ (missing s.first_change s.changes n.changes, 4)
    ∷ []

-- the rules of a change
abbrev pub change_rules : PlanRows → ChangeRow → List Rule
change_rules p c =
    (nat_lt 32 c.guards, 3)
    ∷ ((c.outcomes == 0), 3)
    ∷ (nat_lt 64 c.outcomes, 3)
    ∷ (missing c.first_guard c.guards (length p.comparisons), 4)
    ∷ (missing c.first_outcome c.outcomes (length p.outcomes), 4)
    ∷ (nat_lt 65535 (weights_of p c), 5)
    ∷ []

-- the rules of an outcome
abbrev pub outcome_rules : Counts → OutcomeRow → List Rule
outcome_rules n o =
    (nat_le n.stages o.stage, 4)
    ∷ (nat_le (2 ^ n.timers) o.resets, 4)
    ∷ ((o.weight == 0), 5)
    ∷ []

-- the rules of the goal
abbrev pub goal_rules : Counts → GoalRow → List Rule
goal_rules n g =
    (nat_lt 32 g.comparisons, 3) ∷ (missing g.first g.comparisons n.comparisons, 4) ∷ []

-- what stands where there is no timer
abbrev pub no_timer : TimerRow
no_timer = record { ceiling = 0 }

-- a comparison that says nothing
abbrev pub no_comparison : ComparisonRow
no_comparison = record { kind = 0; first = 0; second = 0; filler = 0; constant = 0 }

-- a stage that says nothing
abbrev pub no_stage : StageRow
no_stage = record { mark = 0; first_hold = 0; holds = 0; first_change = 0; changes = 0 }

-- a change that says nothing
abbrev pub no_change : ChangeRow
no_change = record { first_guard = 0; guards = 0; first_outcome = 0; outcomes = 0 }

-- an outcome that says nothing
abbrev pub no_outcome : OutcomeRow
no_outcome = record { weight = 0; stage = 0; resets = 0 }

-- a goal that says nothing
abbrev pub no_goal : GoalRow
no_goal = record { first = 0; comparisons = 0 }

-- the rules of one record
abbrev pub record_rules : PlanRows → SectionName → ℕ → List Rule
record_rules p Timers i = timer_rules (slice_index_or p.timers i no_timer)
record_rules p Comparisons i = comparison_rules (counts_of p) (slice_index_or p.comparisons i no_comparison)
record_rules p Stages i = stage_rules (counts_of p) (slice_index_or p.stages i no_stage)
record_rules p Changes i = change_rules p (slice_index_or p.changes i no_change)
record_rules p Outcomes i = outcome_rules (counts_of p) (slice_index_or p.outcomes i no_outcome)
record_rules p Goal i = goal_rules (counts_of p) (slice_index_or p.goals i no_goal)

-- the first broken rule of one record, with its place
unfoldable pub record_fault : PlanRows → SectionName → ℕ → Option Fault
record_fault p s i = fault_at (Record s i) (first_broken (record_rules p s i))

-- the first fault among n records from the record i on
unfoldable pub fault_from : PlanRows → SectionName → ℕ → ℕ → Option Fault
fault_from p s i zero = None
fault_from p s i (suc n) = or_else (record_fault p s i) (fault_from p s (i + 1) n)

-- the first fault that a look at some sections, one after the other, finds
unfoldable pub first_in : (SectionName → Option Fault) → List SectionName → Option Fault
first_in look [] = None
first_in look (s ∷ more) = or_else (look s) (first_in look more)

-- the first fault in the records of one section
abbrev pub section_fault : PlanRows → SectionName → Option Fault
section_fault p s = fault_from p s 0 (count_of (counts_of p) s)

-- the first fault in the records of a plan
abbrev pub rows_fault : PlanRows → Option Fault
rows_fault p = first_in (section_fault p) section_names

-- a count is off the limits of its section
abbrev pub off_limits : SectionName → ℕ → Bool
off_limits s n = nat_lt n (least_of s) || nat_lt (most_of s) n

-- the rules of a count: within the limits of its section, and no more than its table has room for
abbrev pub room_rules : SectionName → ℕ → ℕ → List Rule
room_rules s room count = (off_limits s count, 3) ∷ (nat_lt room count, 7) ∷ []

-- the rules of the count of a section, where the tables have some rooms
abbrev pub count_rules : Counts → Counts → SectionName → List Rule
count_rules rooms n s = room_rules s (count_of rooms s) (count_of n s)

-- the first broken rule of one count
abbrev pub count_fault : Counts → Counts → SectionName → Option Fault
count_fault rooms n s = fault_at (Section s) (first_broken (count_rules rooms n s))

-- what is wrong with handed tables, if anything is: the counts first, then the rows
abbrev pub tables_fault : Counts → Counts → PlanRows → Option Fault
tables_fault rooms n p = or_else (first_in (count_fault rooms n) section_names) (rows_fault p)

-- whether a plan breaks no rule
unfoldable pub faultless : PlanRows → Bool
faultless p = not (is_some (tables_fault (counts_of p) (counts_of p) p))

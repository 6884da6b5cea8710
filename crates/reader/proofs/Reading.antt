-- What the filled tables hold after a file that breaks no rule.
use Rattle.std.proofs.Common.{◌≡◌, ℕ, ◌*◌, ◌/◌, ◌<◌, ◌≤◌, List, [], ◌++◌, length, take, drop, None, sym, refl, ap, ◌∙◌, subst, arith}
use native.Mathlib.Nat.{div-eq_of_eq-mul_right}
use Rattle.std.proofs.lemmas.List.{drop_at, take_at}
use Rattle.std.specs.List.{flat_map}
use Rattle.rows.specs.declared.section.Counts.{Counts}
use Rattle.rows.specs.declared.section.SectionName.{SectionName}
use Rattle.rows.specs.declared.section.SectionName.TheVariants.{Timers, Comparisons, Stages, Changes, Outcomes, Goal}
use Rattle.rows.specs.Files.{Read, after, change_at, comparison_at, goal_at, outcome_at, file_fault, part_in, rows_in, stage_at, timer_at, word_at, from1, from2, from3, from4, from5}
use Rattle.rows.specs.Plans.{PlanRows, change_bytes, comparison_bytes, counts_of, file_of, front, goal_bytes, outcome_bytes, past, section_bytes, stage_bytes, timer_bytes, word}
use Rattle.rows.specs.Sections.{count_of, least_of, most_of, size_of}
use Rattle.rows.specs.Sound.{Sound}
use Rattle.rows.proofs.Files.{file_from_cuts, length_rows_in, part_within}
use Rattle.rows.proofs.Soundness.{sound_from_rows}
use Rattle.reader.specs.declared.parts.Parts.{Parts}
use Rattle.reader.specs.declared.section.Section.{Section}
use Rattle.reader.specs.Filling.{Begins, Records}
use Rattle.reader.specs.Parts.{Cut, bytes_in}
use Rattle.reader.specs.Split.{Passed, Split, plan_of}

-- the rows of a section that was cut off: their number, its limits, and that no part of a record is left
pub record Counted (s : SectionName) (rooms : Counts) (b part : List ℕ) (n : ℕ) : Type 0 where
  pub count : n ≡ word_at b 0
  pub enough : least_of s ≤ n
  pub bounded : n ≤ most_of s
  pub fits : n ≤ count_of rooms s
  pub whole : Records (size_of s) part

pub cut_counted : {R : Type 0} (s : SectionName) (row : List ℕ → ℕ → R) (rooms : Counts) (b : List ℕ) (x : Section) (rest : List ℕ) → 0 < size_of s → Cut s rooms b x rest → Counted s rooms b (bytes_in x) (length (rows_in row (size_of s) (bytes_in x)))
cut_counted s row rooms b x rest some cut =
    let long : length (bytes_in x) ≡ size_of s * word_at b 0 = ap length cut.part ∙ cut.sized in
    let times : length (bytes_in x) / size_of s ≡ word_at b 0 = div-eq_of_eq-mul_right some long in
    let count = length_rows_in row (size_of s) (bytes_in x) ∙ times in
    let limits = part_within s rooms b cut.passes in
    record {
      count = count;
      enough = omega arith;
      bounded = omega arith;
      fits = omega arith;
      whole = long ∙ ap (λ k. size_of s * k) (sym times);
    }

-- the bytes begin with the section of the rows
section_first : {R : Type 0} (s : SectionName) (row : List ℕ → ℕ → R) (written : R → List ℕ) (rooms : Counts) (b : List ℕ) (x : Section) (rest : List ℕ) → 0 < size_of s → Cut s rooms b x rest → flat_map written (rows_in row (size_of s) (bytes_in x)) ≡ bytes_in x → b ≡ section_bytes written (rows_in row (size_of s) (bytes_in x)) ++ after s b
section_first s row written rooms b x rest some cut bytes =
    let counted = cut_counted s row rooms b x rest some cut in
    cut.whole
    ∙ ap (λ n. word n ++ (part_in s b ++ after s b)) (sym counted.count)
    ∙ ap (λ z. word (length (rows_in row (size_of s) (bytes_in x))) ++ (z ++ after s b)) (sym (bytes ∙ cut.part))

-- all that is known of the six sections
pub record Sections (rooms : Counts) (b : List ℕ) (p : Parts) : Type 0 where
  pub timers : Counted Timers rooms b (bytes_in p.timers) (length (plan_of p).timers)
  pub comparisons : Counted Comparisons rooms (from1 b) (bytes_in p.comparisons) (length (plan_of p).comparisons)
  pub stages : Counted Stages rooms (from2 b) (bytes_in p.stages) (length (plan_of p).stages)
  pub changes : Counted Changes rooms (from3 b) (bytes_in p.changes) (length (plan_of p).changes)
  pub outcomes : Counted Outcomes rooms (from4 b) (bytes_in p.outcomes) (length (plan_of p).outcomes)
  pub goals : Counted Goal rooms (from5 b) (bytes_in p.goals) (length (plan_of p).goals)

pub split_counted : (rooms : Counts) (b : List ℕ) (p : Parts) → Split rooms b p → Sections rooms b p
split_counted rooms b p split =
    record {
      timers = cut_counted Timers timer_at rooms b p.timers (from1 b) (omega arith) split.timers;
      comparisons = cut_counted Comparisons comparison_at rooms (from1 b) p.comparisons (from2 b) (omega arith) split.comparisons;
      stages = cut_counted Stages stage_at rooms (from2 b) p.stages (from3 b) (omega arith) split.stages;
      changes = cut_counted Changes change_at rooms (from3 b) p.changes (from4 b) (omega arith) split.changes;
      outcomes = cut_counted Outcomes outcome_at rooms (from4 b) p.outcomes (from5 b) (omega arith) split.outcomes;
      goals = cut_counted Goal goal_at rooms (from5 b) p.goals [] (omega arith) split.goals;
    }

enough_rows : (rooms : Counts) (b : List ℕ) (p : Parts) → Sections rooms b p → (s : SectionName) → least_of s ≤ count_of (counts_of (plan_of p)) s
enough_rows rooms b p h Timers = h.timers.enough
enough_rows rooms b p h Comparisons = h.comparisons.enough
enough_rows rooms b p h Stages = h.stages.enough
enough_rows rooms b p h Changes = h.changes.enough
enough_rows rooms b p h Outcomes = h.outcomes.enough
enough_rows rooms b p h Goal = h.goals.enough

bounded_rows : (rooms : Counts) (b : List ℕ) (p : Parts) → Sections rooms b p → (s : SectionName) → count_of (counts_of (plan_of p)) s ≤ most_of s
bounded_rows rooms b p h Timers = h.timers.bounded
bounded_rows rooms b p h Comparisons = h.comparisons.bounded
bounded_rows rooms b p h Stages = h.stages.bounded
bounded_rows rooms b p h Changes = h.changes.bounded
bounded_rows rooms b p h Outcomes = h.outcomes.bounded
bounded_rows rooms b p h Goal = h.goals.bounded

-- a file that breaks no rule holds a sound plan
pub passed_sound : (rooms : Counts) (b : List ℕ) (p : Parts) → Passed rooms b p → Sound (plan_of p)
passed_sound rooms b p h =
    let counted = split_counted rooms b p h.split in
    sound_from_rows (plan_of p) (enough_rows rooms b p counted) (bounded_rows rooms b p counted) h.clear

-- so each table has room for the rows of its section, which are whole records, as the code holds their bytes
pub table_fits : {R : Type 0} (s : SectionName) (row : List ℕ → ℕ → R) (rooms : Counts) (b part d : List ℕ) → Counted s rooms b part (length (rows_in row (size_of s) part)) → d ≡ part → Records (size_of s) d × (length (rows_in row (size_of s) d) ≤ count_of rooms s)
table_fits s row rooms b part d counted same =
    subst (λ (z : List ℕ). Records (size_of s) z × (length (rows_in row (size_of s) z) ≤ count_of rooms s)) (sym same)
    (counted.whole, let fits = counted.fits in omega arith)

-- the same table, told of equal bytes
pub begins_at : {R : Type 0} (row : List ℕ → ℕ → R) (written : R → List ℕ) (size : ℕ) (b d : List ℕ) (before later : List R) → b ≡ d → Begins written b (rows_in row size b) before later → Begins written d (rows_in row size d) before later
begins_at row written size b d before later e h = subst (λ (z : List ℕ). Begins written z (rows_in row size z) before later) e h

-- every table begins with the rows of its section
pub record Filled (p : Parts) (before later : PlanRows) : Type 0 where
  pub timers : Begins timer_bytes (bytes_in p.timers) (plan_of p).timers before.timers later.timers
  pub comparisons : Begins comparison_bytes (bytes_in p.comparisons) (plan_of p).comparisons before.comparisons later.comparisons
  pub stages : Begins stage_bytes (bytes_in p.stages) (plan_of p).stages before.stages later.stages
  pub changes : Begins change_bytes (bytes_in p.changes) (plan_of p).changes before.changes later.changes
  pub outcomes : Begins outcome_bytes (bytes_in p.outcomes) (plan_of p).outcomes before.outcomes later.outcomes
  pub goals : Begins goal_bytes (bytes_in p.goals) (plan_of p).goals before.goals later.goals

front_of : {R : Type 0} (written : R → List ℕ) (part : List ℕ) (rows before later : List R) → Begins written part rows before later → take (length rows) later ≡ rows
front_of written part rows before later h =
    ap (take (length rows)) h.filled ∙ take_at rows (drop (length rows) before) (length rows) refl

past_of : {R : Type 0} (written : R → List ℕ) (part : List ℕ) (rows before later : List R) → Begins written part rows before later → drop (length rows) later ≡ drop (length rows) before
past_of written part rows before later h =
    ap (drop (length rows)) h.filled ∙ drop_at rows (drop (length rows) before) (length rows) refl

filled_front : (p : Parts) (before later : PlanRows) → Filled p before later → front (counts_of (plan_of p)) later ≡ plan_of p
filled_front p before later h =
    let e0 = front_of timer_bytes (bytes_in p.timers) (plan_of p).timers before.timers later.timers h.timers in
    let e1 = front_of comparison_bytes (bytes_in p.comparisons) (plan_of p).comparisons before.comparisons later.comparisons h.comparisons in
    let e2 = front_of stage_bytes (bytes_in p.stages) (plan_of p).stages before.stages later.stages h.stages in
    let e3 = front_of change_bytes (bytes_in p.changes) (plan_of p).changes before.changes later.changes h.changes in
    let e4 = front_of outcome_bytes (bytes_in p.outcomes) (plan_of p).outcomes before.outcomes later.outcomes h.outcomes in
    let e5 = front_of goal_bytes (bytes_in p.goals) (plan_of p).goals before.goals later.goals h.goals in
    λ i. record { timers = e0 i; comparisons = e1 i; stages = e2 i; changes = e3 i; outcomes = e4 i; goals = e5 i }

filled_past : (p : Parts) (before later : PlanRows) → Filled p before later → past (counts_of (plan_of p)) later ≡ past (counts_of (plan_of p)) before
filled_past p before later h =
    let e0 = past_of timer_bytes (bytes_in p.timers) (plan_of p).timers before.timers later.timers h.timers in
    let e1 = past_of comparison_bytes (bytes_in p.comparisons) (plan_of p).comparisons before.comparisons later.comparisons h.comparisons in
    let e2 = past_of stage_bytes (bytes_in p.stages) (plan_of p).stages before.stages later.stages h.stages in
    let e3 = past_of change_bytes (bytes_in p.changes) (plan_of p).changes before.changes later.changes h.changes in
    let e4 = past_of outcome_bytes (bytes_in p.outcomes) (plan_of p).outcomes before.outcomes later.outcomes h.outcomes in
    let e5 = past_of goal_bytes (bytes_in p.goals) (plan_of p).goals before.goals later.goals h.goals in
    λ i. record { timers = e0 i; comparisons = e1 i; stages = e2 i; changes = e3 i; outcomes = e4 i; goals = e5 i }

-- the bytes are the file of the plan that stands in the parts
filled_file : (rooms : Counts) (b : List ℕ) (p : Parts) (before later : PlanRows) → Split rooms b p → Filled p before later → b ≡ file_of (plan_of p)
filled_file rooms b p before later s h =
    file_from_cuts (plan_of p) b
    (record {
      timers = section_first Timers timer_at timer_bytes rooms b p.timers (from1 b) (omega arith) s.timers h.timers.bytes;
      comparisons = section_first Comparisons comparison_at comparison_bytes rooms (from1 b) p.comparisons (from2 b) (omega arith) s.comparisons h.comparisons.bytes;
      stages = section_first Stages stage_at stage_bytes rooms (from2 b) p.stages (from3 b) (omega arith) s.stages h.stages.bytes;
      changes = section_first Changes change_at change_bytes rooms (from3 b) p.changes (from4 b) (omega arith) s.changes h.changes.bytes;
      outcomes = section_first Outcomes outcome_at outcome_bytes rooms (from4 b) p.outcomes (from5 b) (omega arith) s.outcomes h.outcomes.bytes;
      goals =
          section_first Goal goal_at goal_bytes rooms (from5 b) p.goals [] (omega arith) s.goals h.goals.bytes
          ∙ ap (λ z. section_bytes goal_bytes (plan_of p).goals ++ z) (sym s.goals.left);
    })

-- a file whose sections and records break no rule breaks none
passed_clear : (rooms : Counts) (b : List ℕ) (p : Parts) → Passed rooms b p → file_fault rooms b ≡ None
passed_clear rooms b p h =
    let split = h.split in
    grind arith

-- so the file was read
pub filled_read : (b : List ℕ) (p : Parts) (before later : PlanRows) (n : Counts) → Passed (counts_of before) b p → Filled p before later → counts_of later ≡ counts_of before → n ≡ counts_of (plan_of p) → Read b before later n
filled_read b p before later n h filled sizes e =
    let rows = filled_front p before later filled in
    subst (λ (m : Counts). Read b before later m) (sym e)
    (record {
      breaks_none = passed_clear (counts_of before) b p h;
      file = filled_file (counts_of before) b p before later h.split filled ∙ ap file_of (sym rows);
      sound = subst Sound (sym rows) (passed_sound (counts_of before) b p h);
      counted = ap counts_of rows;
      same_sizes = sizes;
      kept = filled_past p before later filled;
    })

-- the bytes of a section, as the code holds them, are whole records and fit the table
pub part_fits : {R : Type 0} (row : List ℕ → ℕ → R) (size : ℕ) (b d : List ℕ) (room : ℕ) → b ≡ d → Records size d → length (rows_in row size d) ≤ room → Records size b × (length b / size ≤ room)
part_fits row size b d room e whole fits = (
  subst (λ (z : List ℕ). Records size z) (sym e) whole,
  subst (λ (z : List ℕ). length z / size ≤ room) (sym e) (omega (arith, length_rows_in row size d)),
)

-- Reading a file gives the plan back that it is the file of.
use Rattle.std.proofs.Common.{◌≡◌, ℕ, zero, suc, ◌+◌, ◌*◌, ◌/◌, ◌%◌, ◌<◌, ◌≤◌, List, [], ◌∷◌, ◌++◌, map, length, get_or, take, drop, Some, None, Option, sym, refl, ap, ◌∙◌, add_assoc, mul-le-mul_right, suc-mul, mul-zero, zero-mul, mul-suc, div-mul-le_self, arith}
use native.Mathlib.Nat.{div-add-mod, div-eq_of_eq-mul_right}
use Rattle.std.proofs.lemmas.List.{append-nil, length-append, length-drop, length-take-le, take_at, drop_at, take-append-drop, drop-drop, at_drop_more, get_or-append-add, ext_get_or}
use Rattle.std.proofs.lemmas.List.FromFn.{length-map-range_with_len, get_or-map-range_with_len}
use Rattle.std.proofs.lemmas.Bool.Decides.{nat_tests}
use Rattle.std.specs.List.{range_with_len, flat_map}
use Rattle.rows.specs.declared.fault.Fault.{Fault}
use Rattle.rows.specs.declared.fault.Where.TheVariants.{Section}
use Rattle.rows.specs.declared.refusal.Refusal.{Refusal}
use Rattle.rows.specs.declared.section.Counts.{Counts}
use Rattle.rows.specs.declared.section.SectionName.{SectionName}
use Rattle.rows.specs.declared.section.SectionName.TheVariants.{Timers, Comparisons, Stages, Changes, Outcomes, Goal}
use Rattle.rows.specs.Files.{word_at, timer_at, comparison_at, stage_at, change_at, outcome_at, goal_at, rows_in, record_bytes, part_in, after, layout_rules, part_fault, file_fault, plan_in, from1, from2, from3, from4, from5}
use Rattle.rows.specs.Sections.{size_of, least_of, most_of, count_of}
use Rattle.rows.specs.Sound.{Fits, Sound}
use Rattle.rows.specs.Verdicts.{first_broken, fault_at, rows_fault, no_timer, no_comparison, no_stage, no_change, no_outcome, no_goal}
use Rattle.rows.proofs.Soundness.{kept_at, none_at, no_row_fault}
use Rattle.rows.specs.Plans.{PlanRows, counts_of, file_of, section_bytes, word, timer_bytes, comparison_bytes, stage_bytes, change_bytes, outcome_bytes, goal_bytes}

-- two bytes are the number that they spell
pub word_of_bytes : (h l : ℕ) → l < 256 → word (256 * h + l) ≡ h ∷ l ∷ []
word_of_bytes h l small =
    let high : (256 * h + l) / 256 ≡ h = omega arith in
    let low : (256 * h + l) % 256 ≡ l = omega arith in
    cc

-- a row is read where it was written, whatever follows, and what stands before it does not matter
pub record Reads {R : Type 0} (row : List ℕ → ℕ → R) (bytes : R → List ℕ) (size : ℕ) : Type 0 where
  pub sized : (r : R) → length (bytes r) ≡ size
  pub front : (r : R) (more : List ℕ) → row (bytes r ++ more) 0 ≡ r
  pub later : (before more : List ℕ) (i : ℕ) → row (before ++ more) (length before + i) ≡ row more i

word_later : (before more : List ℕ) (i : ℕ) → word_at (before ++ more) (length before + i) ≡ word_at more i
word_later before more i =
    let a = get_or-append-add before more i 0 in
    let b = get_or-append-add before more (i + 1) 0 in
    let e : length before + i + 1 ≡ length before + (i + 1) = omega arith in
    let c : get_or (before ++ more) (length before + i + 1) 0 ≡ get_or more (i + 1) 0 = cc in
    cc

word_later_by : (before more : List ℕ) (i k : ℕ) → word_at (before ++ more) (length before + i + k) ≡ word_at more (i + k)
word_later_by before more i k =
    ap (word_at (before ++ more)) (add_assoc (length before) i k) ∙ word_later before more (i + k)

byte_later_by : (before more : List ℕ) (i k : ℕ) → get_or (before ++ more) (length before + i + k) 0 ≡ get_or more (i + k) 0
byte_later_by before more i k =
    ap (λ j. get_or (before ++ more) j 0) (add_assoc (length before) i k) ∙ get_or-append-add before more (i + k) 0

pub reads_timer : Reads timer_at timer_bytes 2
reads_timer =
    record {
      sized = λ r. refl;
      front = λ r more. let e = div-add-mod r.ceiling 256 in λ i. record { ceiling = e i };
      later = λ before more i. let e = word_later before more i in λ j. record { ceiling = e j };
    }

pub reads_comparison : Reads comparison_at comparison_bytes 6
reads_comparison =
    record {
      sized = λ r. refl;
      front = λ r more.
          let e = div-add-mod r.constant 256 in
          λ i. record { kind = r.kind; first = r.first; second = r.second; filler = r.filler; constant = e i };
      later = λ before more i.
          let a = get_or-append-add before more i 0 in
          let b = byte_later_by before more i 1 in
          let c = byte_later_by before more i 2 in
          let d = byte_later_by before more i 3 in
          let e = word_later_by before more i 4 in
          λ j. record { kind = a j; first = b j; second = c j; filler = d j; constant = e j };
    }

pub reads_stage : Reads stage_at stage_bytes 10
reads_stage =
    record {
      sized = λ r. refl;
      front = λ r more.
          let a = div-add-mod r.mark 256 in
          let b = div-add-mod r.first_hold 256 in
          let c = div-add-mod r.holds 256 in
          let d = div-add-mod r.first_change 256 in
          let e = div-add-mod r.changes 256 in
          λ i. record { mark = a i; first_hold = b i; holds = c i; first_change = d i; changes = e i };
      later = λ before more i.
          let a = word_later before more i in
          let b = word_later_by before more i 2 in
          let c = word_later_by before more i 4 in
          let d = word_later_by before more i 6 in
          let e = word_later_by before more i 8 in
          λ j. record { mark = a j; first_hold = b j; holds = c j; first_change = d j; changes = e j };
    }

pub reads_change : Reads change_at change_bytes 8
reads_change =
    record {
      sized = λ r. refl;
      front = λ r more.
          let a = div-add-mod r.first_guard 256 in
          let b = div-add-mod r.guards 256 in
          let c = div-add-mod r.first_outcome 256 in
          let d = div-add-mod r.outcomes 256 in
          λ i. record { first_guard = a i; guards = b i; first_outcome = c i; outcomes = d i };
      later = λ before more i.
          let a = word_later before more i in
          let b = word_later_by before more i 2 in
          let c = word_later_by before more i 4 in
          let d = word_later_by before more i 6 in
          λ j. record { first_guard = a j; guards = b j; first_outcome = c j; outcomes = d j };
    }

pub reads_outcome : Reads outcome_at outcome_bytes 6
reads_outcome =
    record {
      sized = λ r. refl;
      front = λ r more.
          let a = div-add-mod r.weight 256 in
          let b = div-add-mod r.stage 256 in
          let c = div-add-mod r.resets 256 in
          λ i. record { weight = a i; stage = b i; resets = c i };
      later = λ before more i.
          let a = word_later before more i in
          let b = word_later_by before more i 2 in
          let c = word_later_by before more i 4 in
          λ j. record { weight = a j; stage = b j; resets = c j };
    }

pub reads_goal : Reads goal_at goal_bytes 4
reads_goal =
    record {
      sized = λ r. refl;
      front = λ r more.
          let a = div-add-mod r.first 256 in
          let b = div-add-mod r.comparisons 256 in
          λ i. record { first = a i; comparisons = b i };
      later = λ before more i.
          let a = word_later before more i in
          let b = word_later_by before more i 2 in
          λ j. record { first = a j; comparisons = b j };
    }

-- rows one after the other take as many bytes as they are, times their size
pub length_joined : {R : Type 0} (row : List ℕ → ℕ → R) (bytes : R → List ℕ) (size : ℕ) → Reads row bytes size → (rows : List R) → length (flat_map bytes rows) ≡ size * length rows
length_joined row bytes size reads [] = sym (mul-zero size)
length_joined row bytes size reads (r ∷ rows) =
    let one = reads.sized r in
    let rest = length_joined row bytes size reads rows in
    let all = length-append (bytes r) (flat_map bytes rows) in
    let times = mul-suc size (length rows) in
    omega arith

row_among : {R : Type 0} (row : List ℕ → ℕ → R) (bytes : R → List ℕ) (size : ℕ) → Reads row bytes size → (rows : List R) (i : ℕ) (d : R) → i < length rows → row (flat_map bytes rows) (i * size) ≡ get_or rows i d
row_among row bytes size reads [] i d h = absurd (omega arith)
row_among row bytes size reads (r ∷ rows) zero d h =
    ap (row (bytes r ++ flat_map bytes rows)) (zero-mul size) ∙ reads.front r (flat_map bytes rows)
row_among row bytes size reads (r ∷ rows) (suc i) d h =
    let one = reads.sized r in
    let times = suc-mul i size in
    let place : suc i * size ≡ length (bytes r) + i * size = omega arith in
    ap (row (bytes r ++ flat_map bytes rows)) place
    ∙ reads.later (bytes r) (flat_map bytes rows) (i * size)
    ∙ row_among row bytes size reads rows i d (omega arith)

-- the rows that were written one after the other are the rows read
pub rows_in_joined : {R : Type 0} (row : List ℕ → ℕ → R) (bytes : R → List ℕ) (size : ℕ) → 0 < size → Reads row bytes size → (rows : List R) (d : R) → rows_in row size (flat_map bytes rows) ≡ rows
rows_in_joined {R} row bytes size some reads rows d =
    let n : length (flat_map bytes rows) / size ≡ length rows =
    div-eq_of_eq-mul_right some (length_joined row bytes size reads rows) in
    let among : ℕ → R = λ k. row (flat_map bytes rows) (k * size) in
    ap (λ m. map among (range_with_len 0 m)) n
    ∙ ext_get_or d (map among (range_with_len 0 (length rows))) rows (length-map-range_with_len among 0 (length rows))
    (λ i h.
    let long = length-map-range_with_len among 0 (length rows) in
    let small : i < length rows = omega arith in
    get_or-map-range_with_len among 0 (length rows) i i d small (omega arith) ∙ row_among row bytes size reads rows i d small)

-- a section that begins the bytes: its count, its records and what follows them are found again
pub record Laid (s : SectionName) (n : ℕ) (part more b : List ℕ) : Type 0 where
  pub count : word_at b 0 ≡ n
  pub part_is : part_in s b ≡ part
  pub more_is : after s b ≡ more
  pub long : length b ≡ 2 + size_of s * n + length more

pub section_laid : (s : SectionName) (n : ℕ) (part more : List ℕ) → length part ≡ size_of s * n → Laid s n part more (word n ++ part ++ more)
unfolding part_in after
section_laid s n part more sized =
    let count : word_at (word n ++ part ++ more) 0 ≡ n = div-add-mod n 256 in
    let bytes : record_bytes s (word n ++ part ++ more) ≡ length part = ap (λ k. size_of s * k) count ∙ sym sized in
    let all = length-append part more in
    record {
      count = count;
      part_is = ap (λ k. take k (part ++ more)) bytes ∙ take_at part more (length part) refl;
      more_is = ap (λ k. drop (2 + k) (word n ++ part ++ more)) bytes ∙ two_more (n / 256) (n % 256) (part ++ more) (length part) ∙ drop_at part more (length part) refl;
      long = omega arith;
    }
  where
    two_more : (h l : ℕ) (b : List ℕ) (k : ℕ) → drop (2 + k) (h ∷ l ∷ b) ≡ drop k b
    two_more h l b k = let e : 2 + k ≡ suc (suc k) = omega arith in ap (λ j. drop j (h ∷ l ∷ b)) e

-- and it breaks no rule where its count is within the limits and its table has the room
pub laid_passes : (s : SectionName) (n : ℕ) (part more b : List ℕ) (rooms : Counts) → Laid s n part more b → least_of s ≤ n → n ≤ most_of s → n ≤ count_of rooms s → part_fault s rooms b ≡ None
unfolding part_fault
laid_passes s n part more b rooms laid low high room =
    let count = laid.count in
    let long = laid.long in
    let bytes : record_bytes s b ≡ size_of s * n = ap (λ k. size_of s * k) count in
    none_at (Section s) (layout_rules s (count_of rooms s) b)
    (grind (arith, nat_tests), (grind (arith, nat_tests), (grind (arith, nat_tests), (grind (arith, nat_tests), tt))))

-- the section of some rows, with more bytes behind it, is found again
laid_rows : {R : Type 0} (s : SectionName) (row : List ℕ → ℕ → R) (bytes : R → List ℕ) → Reads row bytes (size_of s) → (rows : List R) (more : List ℕ) → Laid s (length rows) (flat_map bytes rows) more (section_bytes bytes rows ++ more)
laid_rows s row bytes reads rows more =
    section_laid s (length rows) (flat_map bytes rows) more (length_joined row bytes (size_of s) reads rows)

found_rows : {R : Type 0} (s : SectionName) (row : List ℕ → ℕ → R) (bytes : R → List ℕ) → 0 < size_of s → Reads row bytes (size_of s) → (rows : List R) (d : R) (more b : List ℕ) → b ≡ section_bytes bytes rows ++ more → rows_in row (size_of s) (part_in s b) ≡ rows
found_rows s row bytes some reads rows d more b e =
    ap (λ z. rows_in row (size_of s) (part_in s z)) e
    ∙ ap (rows_in row (size_of s)) (laid_rows s row bytes reads rows more).part_is
    ∙ rows_in_joined row bytes (size_of s) some reads rows d

found_rest : {R : Type 0} (s : SectionName) (row : List ℕ → ℕ → R) (bytes : R → List ℕ) → Reads row bytes (size_of s) → (rows : List R) (more b : List ℕ) → b ≡ section_bytes bytes rows ++ more → after s b ≡ more
found_rest s row bytes reads rows more b e = ap (after s) e ∙ (laid_rows s row bytes reads rows more).more_is

found_passes : {R : Type 0} (s : SectionName) (row : List ℕ → ℕ → R) (bytes : R → List ℕ) → Reads row bytes (size_of s) → (rows : List R) (more b : List ℕ) (rooms : Counts) → b ≡ section_bytes bytes rows ++ more → least_of s ≤ length rows → length rows ≤ most_of s → length rows ≤ count_of rooms s → part_fault s rooms b ≡ None
found_passes s row bytes reads rows more b rooms e low high room =
    ap (part_fault s rooms) e
    ∙ laid_passes s (length rows) (flat_map bytes rows) more (section_bytes bytes rows ++ more) rooms
    (laid_rows s row bytes reads rows more) low high room

-- the bytes are the sections of a plan, one after the other, and nothing else
pub record Cuts (p : PlanRows) (b : List ℕ) : Type 0 where
  pub timers : b ≡ section_bytes timer_bytes p.timers ++ from1 b
  pub comparisons : from1 b ≡ section_bytes comparison_bytes p.comparisons ++ from2 b
  pub stages : from2 b ≡ section_bytes stage_bytes p.stages ++ from3 b
  pub changes : from3 b ≡ section_bytes change_bytes p.changes ++ from4 b
  pub outcomes : from4 b ≡ section_bytes outcome_bytes p.outcomes ++ from5 b
  pub goals : from5 b ≡ section_bytes goal_bytes p.goals ++ []

again : {R : Type 0} (s : SectionName) (row : List ℕ → ℕ → R) (bytes : R → List ℕ) → Reads row bytes (size_of s) → (rows : List R) (more b : List ℕ) → b ≡ section_bytes bytes rows ++ more → b ≡ section_bytes bytes rows ++ after s b
again s row bytes reads rows more b e =
    e ∙ ap (λ z. section_bytes bytes rows ++ z) (sym (found_rest s row bytes reads rows more b e))

pub file_cuts : (p : PlanRows) → Cuts p (file_of p)
file_cuts p =
    let b : List ℕ = file_of p in
    let b5 : List ℕ = section_bytes goal_bytes p.goals in
    let b4 : List ℕ = section_bytes outcome_bytes p.outcomes ++ b5 in
    let b3 : List ℕ = section_bytes change_bytes p.changes ++ b4 in
    let b2 : List ℕ = section_bytes stage_bytes p.stages ++ b3 in
    let b1 : List ℕ = section_bytes comparison_bytes p.comparisons ++ b2 in
    let e1 : from1 b ≡ b1 = found_rest Timers timer_at timer_bytes reads_timer p.timers b1 b refl in
    let e2 : from2 b ≡ b2 = found_rest Comparisons comparison_at comparison_bytes reads_comparison p.comparisons b2 (from1 b) e1 in
    let e3 : from3 b ≡ b3 = found_rest Stages stage_at stage_bytes reads_stage p.stages b3 (from2 b) e2 in
    let e4 : from4 b ≡ b4 = found_rest Changes change_at change_bytes reads_change p.changes b4 (from3 b) e3 in
    let e5 : from5 b ≡ b5 = found_rest Outcomes outcome_at outcome_bytes reads_outcome p.outcomes b5 (from4 b) e4 in
    record {
      timers = again Timers timer_at timer_bytes reads_timer p.timers b1 b refl;
      comparisons = again Comparisons comparison_at comparison_bytes reads_comparison p.comparisons b2 (from1 b) e1;
      stages = again Stages stage_at stage_bytes reads_stage p.stages b3 (from2 b) e2;
      changes = again Changes change_at change_bytes reads_change p.changes b4 (from3 b) e3;
      outcomes = again Outcomes outcome_at outcome_bytes reads_outcome p.outcomes b5 (from4 b) e4;
      goals = e5 ∙ sym (append-nil b5);
    }

-- such bytes are the file of the plan
pub file_from_cuts : (p : PlanRows) (b : List ℕ) → Cuts p b → b ≡ file_of p
file_from_cuts p b c =
    let e5 = c.goals ∙ append-nil (section_bytes goal_bytes p.goals) in
    let e4 = c.outcomes ∙ ap (λ z. section_bytes outcome_bytes p.outcomes ++ z) e5 in
    let e3 = c.changes ∙ ap (λ z. section_bytes change_bytes p.changes ++ z) e4 in
    let e2 = c.stages ∙ ap (λ z. section_bytes stage_bytes p.stages ++ z) e3 in
    let e1 = c.comparisons ∙ ap (λ z. section_bytes comparison_bytes p.comparisons ++ z) e2 in
    c.timers ∙ ap (λ z. section_bytes timer_bytes p.timers ++ z) e1

-- and the plan is what stands in them
pub plan_in_cuts : (p : PlanRows) (b : List ℕ) → Cuts p b → plan_in b ≡ p
plan_in_cuts p b c =
    let r0 = found_rows Timers timer_at timer_bytes (omega arith) reads_timer p.timers no_timer (from1 b) b c.timers in
    let r1 = found_rows Comparisons comparison_at comparison_bytes (omega arith) reads_comparison p.comparisons no_comparison (from2 b) (from1 b) c.comparisons in
    let r2 = found_rows Stages stage_at stage_bytes (omega arith) reads_stage p.stages no_stage (from3 b) (from2 b) c.stages in
    let r3 = found_rows Changes change_at change_bytes (omega arith) reads_change p.changes no_change (from4 b) (from3 b) c.changes in
    let r4 = found_rows Outcomes outcome_at outcome_bytes (omega arith) reads_outcome p.outcomes no_outcome (from5 b) (from4 b) c.outcomes in
    let r5 = found_rows Goal goal_at goal_bytes (omega arith) reads_goal p.goals no_goal [] (from5 b) c.goals in
    λ i. record { timers = r0 i; comparisons = r1 i; stages = r2 i; changes = r3 i; outcomes = r4 i; goals = r5 i }

-- the file of a sound plan that fits the tables has no fault
pub no_file_fault : (p : PlanRows) (rooms : Counts) (b : List ℕ) → Cuts p b → Sound p → Fits (counts_of p) rooms → file_fault rooms b ≡ None
no_file_fault p rooms b c sound fits =
    let low = sound.enough in
    let high = sound.bounded in
    let f0 = found_passes Timers timer_at timer_bytes reads_timer p.timers (from1 b) b rooms c.timers (low Timers) (high Timers) (fits Timers) in
    let f1 = found_passes Comparisons comparison_at comparison_bytes reads_comparison p.comparisons (from2 b) (from1 b) rooms c.comparisons (low Comparisons) (high Comparisons) (fits Comparisons) in
    let f2 = found_passes Stages stage_at stage_bytes reads_stage p.stages (from3 b) (from2 b) rooms c.stages (low Stages) (high Stages) (fits Stages) in
    let f3 = found_passes Changes change_at change_bytes reads_change p.changes (from4 b) (from3 b) rooms c.changes (low Changes) (high Changes) (fits Changes) in
    let f4 = found_passes Outcomes outcome_at outcome_bytes reads_outcome p.outcomes (from5 b) (from4 b) rooms c.outcomes (low Outcomes) (high Outcomes) (fits Outcomes) in
    let f5 = found_passes Goal goal_at goal_bytes reads_goal p.goals [] (from5 b) rooms c.goals (low Goal) (high Goal) (fits Goal) in
    let e6 = found_rest Goal goal_at goal_bytes reads_goal p.goals [] (from5 b) c.goals in
    let rows = ap rows_fault (plan_in_cuts p b c) ∙ no_row_fault p sound in
    simp (f0, f1, f2, f3, f4, f5, e6, rows)

-- a part of the bytes, byte by byte and number by number

pub take_two : (b : List ℕ) (i : ℕ) → i + 2 ≤ length b → take 2 (drop i b) ≡ get_or b i 0 ∷ get_or b (i + 1) 0 ∷ []
take_two b i h =
    at_drop_more (take 2) b i 0 (omega arith) ∙ ap (λ z. get_or b i 0 ∷ z) (at_drop_more (take 1) b (i + 1) 0 (omega arith))

-- the verdict on one section, from what a check of its rules found
pub part_checked : (s : SectionName) (rooms : Counts) (b : List ℕ) (room : ℕ) (checked : Option Refusal) (o : Option Fault) → room ≡ count_of rooms s → checked ≡ first_broken (layout_rules s room b) → o ≡ fault_at (Section s) checked → part_fault s rooms b ≡ o
unfolding part_fault
part_checked s rooms b room checked o e found h =
    sym (h ∙ ap (fault_at (Section s)) (found ∙ ap (λ n. first_broken (layout_rules s n b)) e))

pub part_in_is : (s : SectionName) (b : List ℕ) → take (size_of s * word_at b 0) (drop 2 b) ≡ part_in s b
unfolding part_in
part_in_is s b = refl

pub after_in : (s : SectionName) (b : List ℕ) → drop (size_of s * word_at b 0) (drop 2 b) ≡ after s b
unfolding after
after_in s b = drop-drop (size_of s * word_at b 0) 2 b

-- a section whose bytes are all there takes up the front of the bytes
pub part_sized : (s : SectionName) (b : List ℕ) → 2 + size_of s * word_at b 0 ≤ length b → length (part_in s b) ≡ size_of s * word_at b 0
unfolding part_in
part_sized s b h = length-take-le (size_of s * word_at b 0) (drop 2 b) (simp length-drop (omega arith))

pub part_whole : (s : SectionName) (b : List ℕ) → word (word_at b 0) ≡ take 2 (drop 0 b) → b ≡ word (word_at b 0) ++ (part_in s b ++ after s b)
part_whole s b e =
    sym (take-append-drop 2 b)
    ∙ ap (λ z. z ++ drop 2 b) (sym e)
    ∙ ap (λ z. word (word_at b 0) ++ z)
    (sym (take-append-drop (size_of s * word_at b 0) (drop 2 b)) ∙ ap (λ z. z ++ drop (size_of s * word_at b 0) (drop 2 b)) (part_in_is s b) ∙ ap (λ z. part_in s b ++ z) (after_in s b))

-- how many rows stand in a part
pub length_rows_in : {R : Type 0} (row : List ℕ → ℕ → R) (size : ℕ) (b : List ℕ) → length (rows_in row size b) ≡ length b / size
length_rows_in row size b = length-map-range_with_len (λ k. row b (k * size)) 0 (length b / size)

-- such a row ends within the part
pub row_ends : {R : Type 0} (row : List ℕ → ℕ → R) (size : ℕ) (b : List ℕ) (i : ℕ) → i < length (rows_in row size b) → i * size + size ≤ length b
row_ends row size b i h =
    let all = length_rows_in row size b in
    let there : i < length b / size = omega arith in
    let times = mul-le-mul_right size there in
    let whole = div-mul-le_self (length b) size in
    let more = suc-mul i size in
    omega arith

-- and is read at its place
pub row_read : {R : Type 0} (row : List ℕ → ℕ → R) (size : ℕ) (b : List ℕ) (i : ℕ) (d : R) → i < length (rows_in row size b) → get_or (rows_in row size b) i d ≡ row b (i * size)
row_read row size b i d h =
    let all = length_rows_in row size b in
    get_or-map-range_with_len (λ k. row b (k * size)) 0 (length b / size) i i d (omega arith) (omega arith)

-- a section that breaks no rule has a count within its limits that fits its table
pub part_within : (s : SectionName) (rooms : Counts) (b : List ℕ) → part_fault s rooms b ≡ None → (least_of s ≤ word_at b 0) × (word_at b 0 ≤ most_of s) × (word_at b 0 ≤ count_of rooms s)
unfolding part_fault
part_within s rooms b h =
    let kept = kept_at (Section s) (layout_rules s (count_of rooms s) b) h in
    (grind (arith, nat_tests), grind (arith, nat_tests), grind (arith, nat_tests))

-- and all its bytes are there
pub part_long : (s : SectionName) (rooms : Counts) (b : List ℕ) → part_fault s rooms b ≡ None → 2 + size_of s * word_at b 0 ≤ length b
unfolding part_fault
part_long s rooms b h =
    let kept = kept_at (Section s) (layout_rules s (count_of rooms s) b) h in
    grind (arith, nat_tests)

-- a file with a fault is not that of a sound plan that fits the tables
pub fault_is_no_plan : (rooms : Counts) (b : List ℕ) (f : Fault) → file_fault rooms b ≡ Some f → (p : PlanRows) → Sound p → Fits (counts_of p) rooms → b ≡ file_of p → ⊥
fault_is_no_plan rooms b f h p sound fits e =
    let clear : file_fault rooms b ≡ None = ap (file_fault rooms) e ∙ no_file_fault p rooms (file_of p) (file_cuts p) sound fits in
    let z : ◌≡◌ {A = ℕ} 0 1 = cc in
    omega arith

-- and no two plans have one file
pub one_plan_a_file : (p q : PlanRows) → file_of p ≡ file_of q → p ≡ q
one_plan_a_file p q e =
    sym (plan_in_cuts p (file_of p) (file_cuts p)) ∙ ap plan_in e ∙ plan_in_cuts q (file_of q) (file_cuts q)

pub take_word : (n : ℕ) (b : List ℕ) (i : ℕ) → i + 2 ≤ length b → take (suc (suc n)) (drop i b) ≡ take 2 (drop i b) ++ take n (drop (i + 2) b)
take_word n b i h =
    let e : i + 1 + 1 ≡ i + 2 = omega arith in
    at_drop_more (take (suc (suc n))) b i 0 (omega arith)
    ∙ ap (λ z. get_or b i 0 ∷ z) (at_drop_more (take (suc n)) b (i + 1) 0 (omega arith) ∙ ap (λ j. get_or b (i + 1) 0 ∷ take n (drop j b)) e)
    ∙ ap (λ z. z ++ take n (drop (i + 2) b)) (sym (take_two b i h))

-- a number and the bytes behind it, put together
pub word_then : (w : ℕ) (ws : List ℕ) (n : ℕ) (b : List ℕ) (i j : ℕ) → i + 2 ≡ j → j ≤ length b → word w ≡ take 2 (drop i b) → ws ≡ take n (drop j b) → word w ++ ws ≡ take (suc (suc n)) (drop i b)
word_then w ws n b i j e h first rest =
    let same : take n (drop j b) ≡ take n (drop (i + 2) b) = ap (λ k. take n (drop k b)) (sym e) in
    let all = take_word n b i (omega arith) in
    ap (λ z. z ++ ws) first ∙ ap (λ z. take 2 (drop i b) ++ z) (rest ∙ same) ∙ sym all

-- a byte and the bytes behind it, put together
pub byte_then : (ws : List ℕ) (n : ℕ) (b : List ℕ) (i j : ℕ) → i + 1 ≡ j → j ≤ length b → ws ≡ take n (drop j b) → get_or b i 0 ∷ ws ≡ take (suc n) (drop i b)
byte_then ws n b i j e h rest =
    let same : take n (drop j b) ≡ take n (drop (i + 1) b) = ap (λ k. take n (drop k b)) (sym e) in
    ap (λ z. get_or b i 0 ∷ z) (rest ∙ same) ∙ sym (at_drop_more (take (suc n)) b i 0 (omega arith))

-- a row among those that fit some bytes ends within them
pub row_within : (i size n : ℕ) → i < n / size → i * size + size ≤ n
row_within i size n h =
    let times = mul-le-mul_right size h in
    let whole = div-mul-le_self n size in
    let more = suc-mul i size in
    omega arith

-- How the file of a sound plan begins, and how long it is at least.
use Rattle.std.proofs.Common.{◌≡◌, ℕ, ◌+◌, ◌/◌, ◌%◌, ◌≤◌, false, List, [], ◌∷◌, ◌++◌, length, refl, ap, ◌∙◌, arith, length-append}
use Rattle.std.specs.List.{flat_map}
use Rattle.rows.specs.Plans.{PlanRows, file_of, section_bytes, timer_bytes, comparison_bytes, stage_bytes, change_bytes, outcome_bytes, goal_bytes}
use Rattle.rows.specs.Sound.{Sound}
use Rattle.rows.specs.declared.section.SectionName.TheVariants.{Timers, Stages, Goal}
use Rattle.describe.specs.Kinds.{is_plain_text}
use Rattle.describe.proofs.PlainText.{no_text_begins_with_zero}

-- a section with a record has its count, and that record at least
section_at_least : {R : Type 0} (bytes : R → List ℕ) (size : ℕ) → ((r : R) → length (bytes r) ≡ size) → (rows : List R) → 1 ≤ length rows → 2 + size ≤ length (section_bytes bytes rows)
section_at_least bytes size sized [] one = absurd (omega (arith, one))
section_at_least bytes size sized (r ∷ rows) one =
    omega (arith, sized r, length-append (bytes r) (flat_map bytes rows))

count_at_least : {R : Type 0} (bytes : R → List ℕ) (rows : List R) → 2 ≤ length (section_bytes bytes rows)
count_at_least bytes rows = omega arith

-- the file of a sound plan has at least 28 bytes
pub plan_has_28_bytes : (p : PlanRows) → Sound p → 28 ≤ length (file_of p)
plan_has_28_bytes p s =
    let timers = section_bytes timer_bytes p.timers in
    let comparisons = section_bytes comparison_bytes p.comparisons in
    let stages = section_bytes stage_bytes p.stages in
    let changes = section_bytes change_bytes p.changes in
    let outcomes = section_bytes outcome_bytes p.outcomes in
    let goals = section_bytes goal_bytes p.goals in
    omega (
      arith,
      section_at_least timer_bytes 2 (λ r. refl) p.timers (s.enough Timers),
      count_at_least comparison_bytes p.comparisons,
      section_at_least stage_bytes 10 (λ r. refl) p.stages (s.enough Stages),
      count_at_least change_bytes p.changes,
      count_at_least outcome_bytes p.outcomes,
      section_at_least goal_bytes 4 (λ r. refl) p.goals (s.enough Goal),
      length-append timers (comparisons ++ (stages ++ (changes ++ (outcomes ++ goals)))),
      length-append comparisons (stages ++ (changes ++ (outcomes ++ goals))),
      length-append stages (changes ++ (outcomes ++ goals)),
      length-append changes (outcomes ++ goals),
      length-append outcomes goals,
    )

-- the bytes of a plan's file behind the first
abbrev behind : PlanRows → List ℕ
behind p =
    (length p.timers % 256) ∷ (flat_map timer_bytes p.timers
    ++ (section_bytes comparison_bytes p.comparisons
    ++ (section_bytes stage_bytes p.stages
    ++ (section_bytes change_bytes p.changes
    ++ (section_bytes outcome_bytes p.outcomes
    ++ section_bytes goal_bytes p.goals)))))

-- the file of a sound plan begins with a zero byte
plan_begins_with_zero : (p : PlanRows) → Sound p → file_of p ≡ 0 ∷ behind p
plan_begins_with_zero p s =
    let few : length p.timers ≤ 16 = s.bounded Timers in
    let zero : length p.timers / 256 ≡ 0 = omega arith in
    ap (λ z. z ∷ behind p) zero

-- and so it is no text
pub plan_is_no_text : (p : PlanRows) → Sound p → is_plain_text (file_of p) ≡ false
plan_is_no_text p s =
    ap is_plain_text (plan_begins_with_zero p s) ∙ no_text_begins_with_zero (behind p)

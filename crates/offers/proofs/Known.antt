-- What is known of a checked plan's rows, and the steps of a loop over its timers.
use Rattle.std.proofs.Common.{◌≡◌, ℕ, suc, ◌+◌, ◌-◌, ◌*◌, ◌<◌, ◌≤◌, min, true, ◌⊎◌, List, length, get_or, drop, ap, ◌∙◌, inl, inr, arith, [], ◌∷◌, map, take, sym, refl}
use Rattle.std.proofs.ByRecursion.{All-get_or}
use Rattle.std.proofs.lemmas.List.{get_or-map, get_or_past, length-map}
use Rattle.std.proofs.lemmas.Bool.{cases_lt}
use Rattle.rows.specs.declared.section.SectionName.TheVariants.{Timers, Changes, Goal}
use Rattle.rows.specs.declared.tables.StageRow.{StageRow}
use Rattle.rows.specs.declared.tables.TimerRow.{TimerRow}
use Rattle.rows.specs.Plans.{PlanRows}
use Rattle.rows.specs.Sound.{SoundStage}
use Rattle.rows.specs.Verdicts.{faultless, no_stage, no_timer, no_goal}
use Rattle.rows.proofs.Soundness.{sound_from_faultless}
use Rattle.theory.specs.Records.{Record, count, timer_no}
use Rattle.theory.specs.Regions.{Comparison}
use Rattle.runs.specs.Runs.{Span, cuts, room, upto}
use Rattle.runs.proofs.Allowed.{cuts_narrow}
use Rattle.runs.proofs.Permits.{room_all, room_more}
use Rattle.offers.specs.Known.{ceilings_in}
use Rattle.rows.specs.declared.tables.ComparisonRow.{ComparisonRow}
use Rattle.rows.specs.declared.tables.GoalRow.{GoalRow}
use Rattle.runs.specs.Plans.{blank_stage, stage_of}
use Rattle.runs.specs.Tables.{comparison_of_row, comparisons_of, goal_of, plan_in, stage_of_row}

pub some_timer : (p : PlanRows) → faultless p ≡ true → 0 < length p.timers
some_timer p s = (sound_from_faultless p s).enough Timers

pub some_goal : (p : PlanRows) → faultless p ≡ true → 0 < length p.goals
some_goal p s = (sound_from_faultless p s).enough Goal

pub few_changes : (p : PlanRows) → faultless p ≡ true → length p.changes ≤ 1024
few_changes p s = (sound_from_faultless p s).bounded Changes

-- the row of a stage has a known mark and few changes
pub stage_row_fits : (p : PlanRows) (i : ℕ) (row : StageRow) → faultless p ≡ true → row ≡ get_or p.stages i no_stage → (row.mark < 4) × (row.changes ≤ 128)
stage_row_fits p i row s e = go (cases_lt i (length p.stages))
  where
    go : (i < length p.stages) ⊎ (length p.stages ≤ i) → (row.mark < 4) × (row.changes ≤ 128)
    go (inl h) =
        let sound : SoundStage p (get_or p.stages i no_stage) = All-get_or (SoundStage p) p.stages i no_stage h (sound_from_faultless p s).stages in
        (omega (arith, sound.marked, ap (λ z. z.mark) e), omega (arith, sound.few_changes, ap (λ z. z.changes) e))
    go (inr h) =
        let none : row ≡ no_stage = e ∙ get_or_past p.stages i no_stage h in
        (omega (arith, ap (λ z. z.mark) none), omega (arith, ap (λ z. z.changes) none))

-- a loop over timers: one more, and the end
pub next_timer : (r : Record) (timers : List TimerRow) (i best b : ℕ) → i < length timers → b ≡ min best (2 * r.classes * (get_or timers i no_timer).ceiling - count r (timer_no r i)) → room r b (i + 1) (drop (i + 1) (ceilings_in timers)) ≡ room r best i (drop i (ceilings_in timers))
next_timer r timers i best b h e =
    let l : i < length (ceilings_in timers) = omega (arith, length-map timers (λ (t : TimerRow). t.ceiling)) in
    let here : get_or (ceilings_in timers) i 0 ≡ (get_or timers i no_timer).ceiling = get_or-map (λ (t : TimerRow). t.ceiling) timers i no_timer 0 h in
    let more = room_more r best i 0 (ceilings_in timers) l in
    let n : i + 1 ≡ suc i = omega arith in
    cc

pub no_more_timers : (r : Record) (timers : List TimerRow) (i best : ℕ) → length timers ≤ i → room r best i (drop i (ceilings_in timers)) ≡ best
no_more_timers r timers i best h =
    room_all r best i (ceilings_in timers) (omega (arith, length-map timers (λ (t : TimerRow). t.ceiling)))

-- waits that are cut stay below the end
pub until_narrowed : (r : Record) (cs : List Comparison) (w : ℕ) (x y : Span) → x ≡ upto w → y ≡ cuts r cs x → y.until ≤ w + 1
until_narrowed r cs w x y e f =
    omega (arith, (cuts_narrow r cs x).1, ap (λ z. z.until) e, ap (λ z. z.until) f)

-- the row of a stage that the plan does not have
pub stage_missing : (p : PlanRows) (i : ℕ) → length p.stages ≤ i → stage_of_row p no_stage ≡ stage_of (plan_in p) i
stage_missing p i h = sym (get_or_past (map (stage_of_row p) p.stages) i blank_stage (omega (arith, length-map p.stages (stage_of_row p))))

pub stage_row_sound : (p : PlanRows) (i : ℕ) → faultless p ≡ true → i < length p.stages → SoundStage p (get_or p.stages i no_stage)
stage_row_sound p i s h = All-get_or (SoundStage p) p.stages i no_stage h (sound_from_faultless p s).stages

goal_first : (p : PlanRows) (gs : List GoalRow) → 0 < length gs → comparisons_of p (get_or gs 0 no_goal).first (get_or gs 0 no_goal).comparisons ≡ goal_of p gs
goal_first p [] h = absurd (omega arith)
goal_first p (g ∷ gs) h = refl

-- the comparisons of the goal are those of the first goal row
pub goal_by_part : (p : PlanRows) (part : List ComparisonRow) → faultless p ≡ true → part ≡ take (get_or p.goals 0 no_goal).comparisons (drop (get_or p.goals 0 no_goal).first p.comparisons) → map comparison_of_row part ≡ (plan_in p).goal
goal_by_part p part s e = ap (map comparison_of_row) e ∙ goal_first p p.goals (some_goal p s)

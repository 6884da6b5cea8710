-- A plan passes every rule exactly if it is sound.
use Rattle.std.proofs.Common.{◌≡◌, ℕ, zero, suc, ◌+◌, ◌<◌, ◌≤◌, Bool, true, false, cond, not, ◌⊎◌, List, [], ◌∷◌, get_or, is_ok, is_some, Ok, Err, Some, None, Decides, Option, Result, sym, refl, ap, ◌∙◌, subst, inl, inr, arith}
use Rattle.std.proofs.ByRecursion.{All-get_or, All-from_get_or}
use Rattle.std.proofs.lemmas.List.{length-take-le}
use Rattle.std.proofs.lemmas.Bool.{cases_order}
use Rattle.std.proofs.lemmas.Bool.Decides.{nat_tests, Decides-at}
use Rattle.std.specs.List.{AllByRecursion}
use Rattle.std.specs.Result.{result_err}
use Rattle.rows.specs.declared.fault.Fault.{Fault}
use Rattle.rows.specs.declared.fault.Where.{Where}
use Rattle.rows.specs.declared.fault.Where.TheVariants.{Record, Section}
use Rattle.rows.specs.declared.refusal.Refusal.{Refusal}
use Rattle.rows.specs.declared.section.Counts.{Counts}
use Rattle.rows.specs.declared.section.SectionName.{SectionName}
use Rattle.rows.specs.declared.section.SectionName.TheVariants.{Timers, Comparisons, Stages, Changes, Outcomes, Goal}
use Rattle.rows.specs.declared.tables.TimerRow.{TimerRow}
use Rattle.rows.specs.declared.tables.ComparisonRow.{ComparisonRow}
use Rattle.rows.specs.declared.tables.StageRow.{StageRow}
use Rattle.rows.specs.declared.tables.ChangeRow.{ChangeRow}
use Rattle.rows.specs.declared.tables.OutcomeRow.{OutcomeRow}
use Rattle.rows.specs.declared.tables.GoalRow.{GoalRow}
use Rattle.rows.specs.Plans.{PlanRows, counts_of, front}
use Rattle.rows.specs.Refusals.{refusal_no}
use Rattle.rows.specs.Sections.{count_of, least_of, most_of, section_names}
use Rattle.rows.specs.Sound.{Fits, Sound, SoundTimer, SoundComparison, SoundStage, SoundChange, SoundOutcome, SoundGoal}
use Rattle.rows.specs.Verdicts.{Rule, first_broken, fault_at, or_else, refusal_told, record_fault, record_rules, fault_from, first_in, section_fault, rows_fault, count_rules, count_fault, faultless, tables_fault, timer_rules, comparison_rules, stage_rules, change_rules, outcome_rules, goal_rules, no_timer, no_comparison, no_stage, no_change, no_outcome, no_goal}
use Rattle.rows.proofs.Faults.{fault_from_none, fault_from_suc, first_in_none, first_in_cons}

-- no rule is broken
abbrev pub Kept : List Rule → Type 0
Kept rules = AllByRecursion (λ r. r.0 ≡ false) rules

passed : (b : Bool) (e : Refusal) (o : Option Refusal) → cond b (Some e) o ≡ None → (b ≡ false) × (o ≡ None)
passed true e o h = absurd (let z : ◌≡◌ {A = ℕ} 0 1 = cc in omega arith)
passed false e o h = (refl, h)

pub kept_from_none : (rules : List Rule) → first_broken rules ≡ None → Kept rules
kept_from_none [] e = tt
kept_from_none (rule ∷ rules) e =
    let h = passed rule.0 (refusal_no rule.1) (first_broken rules) e in (h.0, kept_from_none rules h.1)

pub none_from_kept : (rules : List Rule) → Kept rules → first_broken rules ≡ None
none_from_kept [] h = refl
none_from_kept (rule ∷ rules) h =
    ap (λ b. cond b (Some (refusal_no rule.1)) (first_broken rules)) h.0 ∙ none_from_kept rules h.1

pub fault_at_none : (w : Where) (o : Option Refusal) → fault_at w o ≡ None → o ≡ None
fault_at_none w None h = refl
fault_at_none w (Some e) h = absurd (let z : ◌≡◌ {A = ℕ} 0 1 = cc in omega arith)

-- a place has no fault exactly if its rules are kept

pub kept_at : (w : Where) (rules : List Rule) → fault_at w (first_broken rules) ≡ None → Kept rules
kept_at w rules h = kept_from_none rules (fault_at_none w (first_broken rules) h)

pub none_at : (w : Where) (rules : List Rule) → Kept rules → fault_at w (first_broken rules) ≡ None
none_at w rules h = ap (fault_at w) (none_from_kept rules h)

-- each kind of record keeps its rules exactly if it is sound

timer_sound : (t : TimerRow) → Kept (timer_rules t) → SoundTimer t
timer_sound t h = record { runs = grind (arith, nat_tests) }

timer_keeps : (t : TimerRow) → SoundTimer t → Kept (timer_rules t)
timer_keeps t s = (grind (arith, nat_tests), tt)

comparison_sound : (p : PlanRows) (c : ComparisonRow) → Kept (comparison_rules (counts_of p) c) → SoundComparison p c
comparison_sound p c h =
    record {
      known = grind (arith, nat_tests);
      blank = grind (arith, nat_tests);
      single = grind (arith, nat_tests);
      timer = grind (arith, nat_tests);
      other = grind (arith, nat_tests);
    }

comparison_keeps : (p : PlanRows) (c : ComparisonRow) → SoundComparison p c → Kept (comparison_rules (counts_of p) c)
comparison_keeps p c s =
    (grind (arith, nat_tests), (grind (arith, nat_tests), (grind (arith, nat_tests), (grind (arith, nat_tests), (grind (arith, nat_tests), tt)))))

stage_sound : (p : PlanRows) (s : StageRow) → Kept (stage_rules (counts_of p) s) → SoundStage p s
stage_sound p s h =
    record {
      marked = grind (arith, nat_tests);
      few_holds = grind (arith, nat_tests);
      few_changes = grind (arith, nat_tests);
      hold_inside = grind (arith, nat_tests);
      changes_inside = grind (arith, nat_tests);
    }

stage_keeps : (p : PlanRows) (s : StageRow) → SoundStage p s → Kept (stage_rules (counts_of p) s)
stage_keeps p s h =
    (grind (arith, nat_tests), (grind (arith, nat_tests), (grind (arith, nat_tests), (grind (arith, nat_tests), (grind (arith, nat_tests), tt)))))

change_sound : (p : PlanRows) (c : ChangeRow) → Kept (change_rules p c) → SoundChange p c
change_sound p c h =
    record {
      few_guards = grind (arith, nat_tests);
      some_outcome = grind (arith, nat_tests);
      few_outcomes = grind (arith, nat_tests);
      guard_inside = grind (arith, nat_tests);
      outcomes_inside = grind (arith, nat_tests);
      weights = grind (arith, nat_tests);
    }

change_keeps : (p : PlanRows) (c : ChangeRow) → SoundChange p c → Kept (change_rules p c)
change_keeps p c s =
    (grind (arith, nat_tests), (grind (arith, nat_tests), (grind (arith, nat_tests), (grind (arith, nat_tests), (grind (arith, nat_tests), (grind (arith, nat_tests), tt))))))

outcome_sound : (p : PlanRows) (o : OutcomeRow) → Kept (outcome_rules (counts_of p) o) → SoundOutcome p o
outcome_sound p o h =
    record { weighs = grind (arith, nat_tests); stage = grind (arith, nat_tests); resets = grind (arith, nat_tests) }

outcome_keeps : (p : PlanRows) (o : OutcomeRow) → SoundOutcome p o → Kept (outcome_rules (counts_of p) o)
outcome_keeps p o s = (grind (arith, nat_tests), (grind (arith, nat_tests), (grind (arith, nat_tests), tt)))

goal_sound : (p : PlanRows) (g : GoalRow) → Kept (goal_rules (counts_of p) g) → SoundGoal p g
goal_sound p g h = record { few = grind (arith, nat_tests); inside = grind (arith, nat_tests) }

goal_keeps : (p : PlanRows) (g : GoalRow) → SoundGoal p g → Kept (goal_rules (counts_of p) g)
goal_keeps p g s = (grind (arith, nat_tests), (grind (arith, nat_tests), tt))

-- no fault in two places is no fault in either

or_else_none : (a b : Option Fault) → or_else a b ≡ None → (a ≡ None) × (b ≡ None)
or_else_none None b h = (refl, h)
or_else_none (Some f) b h = absurd (let z : ◌≡◌ {A = ℕ} 0 1 = cc in omega arith)

none_or_else : (a b : Option Fault) → a ≡ None → b ≡ None → or_else a b ≡ None
none_or_else a b e f = ap (λ z. or_else z b) e ∙ f

record_kept : (p : PlanRows) (s : SectionName) (i : ℕ) → record_fault p s i ≡ None → Kept (record_rules p s i)
unfolding record_fault
record_kept p s i h = kept_at (Record s i) (record_rules p s i) h

kept_record : (p : PlanRows) (s : SectionName) (i : ℕ) → Kept (record_rules p s i) → record_fault p s i ≡ None
unfolding record_fault
kept_record p s i h = none_at (Record s i) (record_rules p s i) h

-- a section has no fault exactly if each of its records keeps its rules

section_kept : (p : PlanRows) (s : SectionName) (i n : ℕ) → fault_from p s i n ≡ None → (k : ℕ) → i ≤ k → k < i + n → Kept (record_rules p s k)
section_kept p s i zero h k low high = absurd (omega arith)
section_kept p s i (suc n) h k low high =
    let both = or_else_none (record_fault p s i) (fault_from p s (i + 1) n) (sym (fault_from_suc p s i n) ∙ h) in
    go both (cases_order i k) (λ l. section_kept p s (i + 1) n both.1 k l (omega arith))
  where
    go : (record_fault p s i ≡ None) × (fault_from p s (i + 1) n ≡ None) → (i ≡ k) ⊎ ((i < k) ⊎ (k < i)) → (i + 1 ≤ k → Kept (record_rules p s k)) → Kept (record_rules p s k)
    go both (inl e) later = subst (λ (j : ℕ). Kept (record_rules p s j)) e (record_kept p s i both.0)
    go both (inr (inl l)) later = later (omega arith)
    go both (inr (inr l)) later = absurd (omega arith)

kept_section : (p : PlanRows) (s : SectionName) (i n : ℕ) → ((k : ℕ) → k < i + n → Kept (record_rules p s k)) → fault_from p s i n ≡ None
kept_section p s i zero h = fault_from_none p s i
kept_section p s i (suc n) h =
    fault_from_suc p s i n
    ∙ none_or_else (record_fault p s i) (fault_from p s (i + 1) n) (kept_record p s i (h i (omega arith)))
    (kept_section p s (i + 1) n (λ k l. h k (omega arith)))

-- some sections have no fault exactly if each of them has none

sections_none : (look : SectionName → Option Fault) (names : List SectionName) → first_in look names ≡ None → AllByRecursion (λ s. look s ≡ None) names
sections_none look [] h = tt
sections_none look (s ∷ more) h =
    let both = or_else_none (look s) (first_in look more) (sym (first_in_cons look s more) ∙ h) in
    (both.0, sections_none look more both.1)

none_sections : (look : SectionName → Option Fault) (names : List SectionName) → ((s : SectionName) → look s ≡ None) → first_in look names ≡ None
none_sections look [] h = first_in_none look
none_sections look (s ∷ more) h =
    first_in_cons look s more ∙ none_or_else (look s) (first_in look more) (h s) (none_sections look more h)

-- what holds of all six sections, one after the other
each_section : (P : SectionName → Type 0) → AllByRecursion P section_names → (s : SectionName) → P s
each_section P h Timers = h.0
each_section P h Comparisons = h.1.0
each_section P h Stages = h.1.1.0
each_section P h Changes = h.1.1.1.0
each_section P h Outcomes = h.1.1.1.1.0
each_section P h Goal = h.1.1.1.1.1.0

-- counts without a fault are within their limits, and fit their tables
pub counts_within : (rooms n : Counts) → first_in (count_fault rooms n) section_names ≡ None → (s : SectionName) → (least_of s ≤ count_of n s) × (count_of n s ≤ most_of s) × (count_of n s ≤ count_of rooms s)
counts_within rooms n h s =
    let counted = each_section (λ s. count_fault rooms n s ≡ None) (sections_none (count_fault rooms n) section_names h) s in
    let kept = kept_at (Section s) (count_rules rooms n s) counted in
    (grind (arith, nat_tests), grind (arith, nat_tests), grind (arith, nat_tests))

-- rows without a fault, as many as are allowed, make a sound plan
pub sound_from_rows : (p : PlanRows) → ((s : SectionName) → least_of s ≤ count_of (counts_of p) s) → ((s : SectionName) → count_of (counts_of p) s ≤ most_of s) → rows_fault p ≡ None → Sound p
sound_from_rows p enough bounded none =
    let clear : (s : SectionName) → section_fault p s ≡ None = each_section (λ s. section_fault p s ≡ None) (sections_none (section_fault p) section_names none) in
    let rules : (s : SectionName) (k : ℕ) → k < count_of (counts_of p) s → Kept (record_rules p s k) = λ s k l. section_kept p s 0 (count_of (counts_of p) s) (clear s) k (omega arith) (omega arith) in
    record {
      enough = enough;
      bounded = bounded;
      timers = All-from_get_or SoundTimer p.timers no_timer (λ k l. timer_sound (get_or p.timers k no_timer) (rules Timers k l));
      comparisons = All-from_get_or (SoundComparison p) p.comparisons no_comparison (λ k l. comparison_sound p (get_or p.comparisons k no_comparison) (rules Comparisons k l));
      stages = All-from_get_or (SoundStage p) p.stages no_stage (λ k l. stage_sound p (get_or p.stages k no_stage) (rules Stages k l));
      changes = All-from_get_or (SoundChange p) p.changes no_change (λ k l. change_sound p (get_or p.changes k no_change) (rules Changes k l));
      outcomes = All-from_get_or (SoundOutcome p) p.outcomes no_outcome (λ k l. outcome_sound p (get_or p.outcomes k no_outcome) (rules Outcomes k l));
      goals = All-from_get_or (SoundGoal p) p.goals no_goal (λ k l. goal_sound p (get_or p.goals k no_goal) (rules Goal k l));
    }

-- no fault in handed tables means that they fit and the plan in them is sound
pub sound_from_none : (rooms n : Counts) (p : PlanRows) → counts_of p ≡ n → tables_fault rooms n p ≡ None → Fits n rooms × Sound p
sound_from_none rooms n p e h =
    let both = or_else_none (first_in (count_fault rooms n) section_names) (rows_fault p) h in
    let limits = counts_within rooms n both.0 in (
      (λ s. (limits s).2),
      sound_from_rows p
          (λ s. let l = limits s in let same = ap (λ z. count_of z s) e in omega arith)
          (λ s. let l = limits s in let same = ap (λ z. count_of z s) e in omega arith)
          both.1,
    )

record_keeps : (p : PlanRows) → Sound p → (s : SectionName) (k : ℕ) → k < count_of (counts_of p) s → Kept (record_rules p s k)
record_keeps p h Timers k l = timer_keeps (get_or p.timers k no_timer) (All-get_or SoundTimer p.timers k no_timer l h.timers)
record_keeps p h Comparisons k l = comparison_keeps p (get_or p.comparisons k no_comparison) (All-get_or (SoundComparison p) p.comparisons k no_comparison l h.comparisons)
record_keeps p h Stages k l = stage_keeps p (get_or p.stages k no_stage) (All-get_or (SoundStage p) p.stages k no_stage l h.stages)
record_keeps p h Changes k l = change_keeps p (get_or p.changes k no_change) (All-get_or (SoundChange p) p.changes k no_change l h.changes)
record_keeps p h Outcomes k l = outcome_keeps p (get_or p.outcomes k no_outcome) (All-get_or (SoundOutcome p) p.outcomes k no_outcome l h.outcomes)
record_keeps p h Goal k l = goal_keeps p (get_or p.goals k no_goal) (All-get_or (SoundGoal p) p.goals k no_goal l h.goals)

pub no_row_fault : (p : PlanRows) → Sound p → rows_fault p ≡ None
no_row_fault p h =
    none_sections (section_fault p) section_names
    (λ s. kept_section p s 0 (count_of (counts_of p) s) (λ k l. record_keeps p h s k (omega arith)))

-- a sound plan in tables that have room for it has no fault
pub none_from_sound : (rooms n : Counts) (p : PlanRows) → counts_of p ≡ n → Fits n rooms → Sound p → tables_fault rooms n p ≡ None
none_from_sound rooms n p e fits h =
    let kept : (s : SectionName) → Kept (count_rules rooms n s) = λ s.
    let same = ap (λ z. count_of z s) e in
    let low = h.enough s in
    let high = h.bounded s in
    let room = fits s in
    (grind (arith, nat_tests), (grind (arith, nat_tests), tt)) in
    none_or_else (first_in (count_fault rooms n) section_names) (rows_fault p)
    (none_sections (count_fault rooms n) section_names
    (λ s. none_at (Section s) (count_rules rooms n s) (kept s)))
    (no_row_fault p h)

-- a plan breaks no rule exactly if it is sound

none_from_test : (o : Option Fault) → not (is_some o) ≡ true → o ≡ None
none_from_test None h = refl
none_from_test (Some f) h = absurd (let z : ◌≡◌ {A = ℕ} 0 1 = cc in omega arith)

pub sound_from_faultless : (p : PlanRows) → faultless p ≡ true → Sound p
unfolding faultless
sound_from_faultless p h =
    (sound_from_none (counts_of p) (counts_of p) p refl (none_from_test (tables_fault (counts_of p) (counts_of p) p) h)).1

pub faultless_from_sound : (p : PlanRows) → Sound p → faultless p ≡ true
unfolding faultless
faultless_from_sound p h =
    ap (λ o. not (is_some o)) (none_from_sound (counts_of p) (counts_of p) p refl (λ s. omega arith) h)

-- cutting tables that fit keeps the counts
pub front_counts : (n : Counts) (p : PlanRows) → Fits n (counts_of p) → counts_of (front n p) ≡ n
front_counts n p h =
    let a = length-take-le n.timers p.timers (h Timers) in
    let b = length-take-le n.comparisons p.comparisons (h Comparisons) in
    let c = length-take-le n.stages p.stages (h Stages) in
    let d = length-take-le n.changes p.changes (h Changes) in
    let e = length-take-le n.outcomes p.outcomes (h Outcomes) in
    let f = length-take-le n.goals p.goals (h Goal) in
    λ i. record { timers = a i; comparisons = b i; stages = c i; changes = d i; outcomes = e i; goals = f i }

-- whether handed tables have no fault is whether they fit and hold a sound plan
pub verdict_decides : (n : Counts) (p : PlanRows) → Decides (not (is_some (tables_fault (counts_of p) n (front n p)))) (Fits n (counts_of p) × Sound (front n p))
verdict_decides n p = (
  (λ t.
      let none = none_from_test (tables_fault (counts_of p) n (front n p)) t in
      let counted = or_else_none (first_in (count_fault (counts_of p) n) section_names) (rows_fault (front n p)) none in
      let fits : Fits n (counts_of p) = λ s. (counts_within (counts_of p) n counted.0 s).2 in
      sound_from_none (counts_of p) n (front n p) (front_counts n p fits) none),
  (λ h. ap (λ o. not (is_some o)) (none_from_sound (counts_of p) n (front n p) (front_counts n p h.0) h.0 h.1)),
)

-- the same, at a check that answers the refusal for the first broken rule
pub checked_decides : (n : Counts) (p : PlanRows) (r : Result (Unit {0}) Refusal) → result_err r ≡ refusal_told (tables_fault (counts_of p) n (front n p)) → Decides (is_ok r) (Fits n (counts_of p) × Sound (front n p))
checked_decides n p r e =
    Decides-at (is_ok r) (not (is_some (tables_fault (counts_of p) n (front n p))))
    (passes r ∙ ap (λ x. not (is_some x)) e ∙ told (tables_fault (counts_of p) n (front n p)))
    (verdict_decides n p)
  where
    passes : (r : Result (Unit {0}) Refusal) → is_ok r ≡ not (is_some (result_err r))
    passes (Ok _) = refl
    passes (Err _) = refl

    told : (o : Option Fault) → not (is_some (refusal_told o)) ≡ not (is_some o)
    told None = refl
    told (Some _) = refl

-- the same, at an answer that tells the verdict
pub decides_from_verdict : (n : Counts) (p : PlanRows) (r : Bool) (o : Option Fault) → tables_fault (counts_of p) n (front n p) ≡ o → not (is_some o) ≡ r → Decides r (Fits n (counts_of p) × Sound (front n p))
decides_from_verdict n p r o e t =
    Decides-at r (not (is_some (tables_fault (counts_of p) n (front n p)))) (sym (ap (λ z. not (is_some z)) e ∙ t)) (verdict_decides n p)

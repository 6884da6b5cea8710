-- Sound tables hold a sound plan.
use Rattle.std.proofs.Common.{◌≡◌, ℕ, ◌+◌, ◌≤◌, true, ltb, List, [], ◌∷◌, map, length, drop, sum_by, sym, ap, ◌∙◌, arith}
use Rattle.std.specs.List.{AllByRecursion}
use Rattle.std.proofs.ByRecursion.{All-drop, All-map, All-take, All-weaker}
use Rattle.std.proofs.lemmas.List.{length-drop, length-map, length-take}
use Rattle.std.proofs.lemmas.List.Sums.{sum_by-cons}
use Rattle.std.proofs.lemmas.Bool.{cond_both, ltb-false}
use Rattle.region.proofs.Marked.{length_marks}
use Rattle.rows.specs.declared.tables.ChangeRow.{ChangeRow}
use Rattle.rows.specs.declared.tables.ComparisonRow.{ComparisonRow}
use Rattle.rows.specs.declared.tables.GoalRow.{GoalRow}
use Rattle.rows.specs.declared.tables.OutcomeRow.{OutcomeRow}
use Rattle.rows.specs.declared.tables.StageRow.{StageRow}
use Rattle.rows.specs.declared.tables.TimerRow.{TimerRow}
use Rattle.rows.specs.declared.section.SectionName.TheVariants.{Timers, Stages}
use Rattle.rows.specs.declared.reading.Subject.TheVariants.{Timer, Lead}
use Rattle.rows.specs.Plans.{PlanRows}
use Rattle.rows.specs.Readings.{relation_of}
use Rattle.rows.specs.Sound.{SoundTimer, SoundComparison, SoundStage, SoundChange, SoundOutcome}
use Rattle.rows.specs.Sound.{Sound as SoundRows}
use Rattle.rows.specs.Verdicts.{faultless}
use Rattle.rows.proofs.Soundness.{sound_from_faultless}
use Rattle.theory.specs.Regions.{NamesBelow}
use Rattle.runs.specs.Plans.{weights, NamedIn, Sound, SoundPlanStage, SoundPlanChange, SoundPlanOutcome}
use Rattle.runs.specs.Tables.{comparison_of_row, listed, comparisons_of, outcome_of_row, change_of_row, stage_of_row, goal_of, plan_in}
use Rattle.runs.specs.Typed.{comparison_in}
use Rattle.runs.proofs.Plans.{weights_nil, weights_cons}

-- as many ceilings as timer rows
ceilings_counted : (p : PlanRows) → length (plan_in p).ceilings ≡ length p.timers
ceilings_counted p = length-map p.timers (λ t. t.ceiling)

-- what holds of every row holds of those that a list names
all_listed : {X : Type 0} (P : X → Type 0) (first n : ℕ) (rows : List X) → AllByRecursion P rows → AllByRecursion P (listed first n rows)
all_listed P first n rows h = All-take P n (drop first rows) (All-drop P first rows h)

comparison_named : (p : PlanRows) (c : ComparisonRow) → SoundComparison p c → NamesBelow (length (plan_in p).ceilings) (comparison_of_row c)
comparison_named p c h =
    cond_both (ltb c.kind 4) (Timer c.first) (Lead c.first c.second)
    (λ s. NamesBelow (length (plan_in p).ceilings) (comparison_in (record { subject = s; relation = relation_of c.kind; constant = c.constant })))
    (λ e. omega (arith, ceilings_counted p, h.timer))
    (λ e. (omega (arith, ceilings_counted p, h.timer), omega (arith, ceilings_counted p, h.other (ltb-false c.kind 4 e))))

-- the comparisons of any list name timers of the plan
comparisons_named : (p : PlanRows) → SoundRows p → (first n : ℕ) → NamedIn (plan_in p) (comparisons_of p first n)
comparisons_named p s first n =
    All-map (NamesBelow (length (plan_in p).ceilings)) comparison_of_row (listed first n p.comparisons) (all_listed (λ c. NamesBelow (length (plan_in p).ceilings) (comparison_of_row c)) first n p.comparisons (All-weaker (SoundComparison p) (λ c. NamesBelow (length (plan_in p).ceilings) (comparison_of_row c)) (comparison_named p) p.comparisons s.comparisons))

outcome_sound : (p : PlanRows) (o : OutcomeRow) → SoundOutcome p o → SoundPlanOutcome (plan_in p) (outcome_of_row p o)
outcome_sound p o h =
    record {
      can_come = h.weighs;
      leads = omega (arith, h.stage, length-map p.stages (stage_of_row p));
      one_mark_each = length_marks (length p.timers) o.resets ∙ sym (ceilings_counted p);
    }

-- the weights of some outcome rows, and of the outcomes they stand for
weights_as_summed : (p : PlanRows) (os : List OutcomeRow) → weights (map (outcome_of_row p) os) ≡ sum_by (λ o. o.weight) os
weights_as_summed p [] = weights_nil
weights_as_summed p (o ∷ os) =
    weights_cons (outcome_of_row p o) (map (outcome_of_row p) os) ∙ (ap (λ n. o.weight + n) (weights_as_summed p os) ∙ sym (sum_by-cons (λ (x : OutcomeRow). x.weight) o os))

change_sound : (p : PlanRows) → SoundRows p → (c : ChangeRow) → SoundChange p c → SoundPlanChange (plan_in p) (change_of_row p c)
change_sound p s c h =
    record {
      guard_named = comparisons_named p s c.first_guard c.guards;
      some_outcome = omega (arith, length-map rows (outcome_of_row p), length-take c.outcomes (drop c.first_outcome p.outcomes), length-drop c.first_outcome p.outcomes, h.some_outcome, h.outcomes_inside);
      outcomes_sound = All-map (SoundPlanOutcome (plan_in p)) (outcome_of_row p) rows (all_listed (λ o. SoundPlanOutcome (plan_in p) (outcome_of_row p o)) c.first_outcome c.outcomes p.outcomes (All-weaker (SoundOutcome p) (λ o. SoundPlanOutcome (plan_in p) (outcome_of_row p o)) (outcome_sound p) p.outcomes s.outcomes));
      weights_fit = omega (arith, weights_as_summed p rows, h.weights);
    }
  where
    rows : List OutcomeRow
    rows = listed c.first_outcome c.outcomes p.outcomes

stage_sound : (p : PlanRows) → SoundRows p → (x : StageRow) → SoundPlanStage (plan_in p) (stage_of_row p x)
stage_sound p s x =
    record {
      hold_named = comparisons_named p s x.first_hold x.holds;
      changes_sound = All-map (SoundPlanChange (plan_in p)) (change_of_row p) (listed x.first_change x.changes p.changes) (all_listed (λ c. SoundPlanChange (plan_in p) (change_of_row p c)) x.first_change x.changes p.changes (All-weaker (SoundChange p) (λ c. SoundPlanChange (plan_in p) (change_of_row p c)) (change_sound p s) p.changes s.changes));
    }

goal_named : (p : PlanRows) → SoundRows p → (gs : List GoalRow) → NamedIn (plan_in p) (goal_of p gs)
goal_named p s [] = tt
goal_named p s (g ∷ gs) = comparisons_named p s g.first g.comparisons

pub tables_sound : (p : PlanRows) → SoundRows p → Sound (plan_in p)
tables_sound p s =
    record {
      some_timer = omega (arith, ceilings_counted p, s.enough Timers);
      timers_run = All-map (λ m. 1 ≤ m) (λ (t : TimerRow). t.ceiling) p.timers (All-weaker SoundTimer (λ t. 1 ≤ t.ceiling) (λ t h. h.runs) p.timers s.timers);
      some_stage = omega (arith, length-map p.stages (stage_of_row p), s.enough Stages);
      stages_sound = All-map (SoundPlanStage (plan_in p)) (stage_of_row p) p.stages (All-weaker (SoundStage p) (λ x. SoundPlanStage (plan_in p) (stage_of_row p x)) (λ x h. stage_sound p s x) p.stages s.stages);
      goal_named = goal_named p s p.goals;
    }

-- rows that break no rule hold a plan that can be run
pub plan_sound : (p : PlanRows) → faultless p ≡ true → Sound (plan_in p)
plan_sound p h = tables_sound p (sound_from_faultless p h)

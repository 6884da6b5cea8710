-- The outcomes of a change of a checked plan, as the code finds them in its rows.
use Rattle.std.proofs.Common.{◌≡◌, ℕ, ◌+◌, ◌<◌, ◌≤◌, true, List, map, length, get_or, drop, Some, Option, MatchOption, sym, ap, ◌∙◌, subst, arith}
use Rattle.std.specs.List.{AllByRecursion}
use Rattle.std.proofs.ByRecursion.{All-get_or, All-drop, All-take}
use Rattle.std.proofs.lemmas.Option.{MatchOption-at_some}
use Rattle.std.proofs.lemmas.List.{get_or-map, length-drop, length-take}
use Rattle.rows.specs.declared.section.SectionName.TheVariants.{Outcomes}
use Rattle.rows.specs.declared.tables.ChangeRow.{ChangeRow}
use Rattle.rows.specs.declared.tables.OutcomeRow.{OutcomeRow}
use Rattle.rows.specs.Plans.{PlanRows}
use Rattle.rows.specs.Sound.{SoundOutcome}
use Rattle.rows.specs.Verdicts.{faultless, no_outcome}
use Rattle.rows.proofs.Soundness.{sound_from_faultless}
use Rattle.offers.proofs.Checking.{plan_sound}
use Rattle.runs.specs.Plans.{Change, blank_outcome, OfStage, change_of, weights}
use Rattle.runs.specs.Runs.{picked, picked_by}
use Rattle.runs.specs.Ticks.{ticket}
use Rattle.runs.specs.Tables.{change_of_row, listed, outcome_of_row, plan_in}
use Rattle.runs.proofs.Picking.{some_weight}
use Rattle.runs.proofs.Plans.{sound_change}

-- the outcomes of the change at the place c of stage i, from its row
pub outcomes_are : (p : PlanRows) (i c : ℕ) (row : ChangeRow) (own : List OutcomeRow) → change_of_row p row ≡ change_of (plan_in p) i c → own ≡ listed row.first_outcome row.outcomes p.outcomes → map (outcome_of_row p) own ≡ (change_of (plan_in p) i c).outcomes
outcomes_are p i c row own e o = ap (map (outcome_of_row p)) o ∙ ap (λ (k : Change). k.outcomes) e

-- their weights sum to a number from 1 to 65535
pub weights_allowed : (p : PlanRows) (i c : ℕ) (row : ChangeRow) (own : List OutcomeRow) → faultless p ≡ true → OfStage (plan_in p) i c → change_of_row p row ≡ change_of (plan_in p) i c → own ≡ listed row.first_outcome row.outcomes p.outcomes → (1 ≤ weights (map (outcome_of_row p) own)) × (weights (map (outcome_of_row p) own) ≤ 65535)
weights_allowed p i c row own s h r o =
    let sound = sound_change (plan_in p) (plan_sound p s) i c h in
    let w = ap weights (outcomes_are p i c row own r o) in
    (omega (arith, w, some_weight (plan_in p) (change_of (plan_in p) i c).outcomes sound.some_outcome sound.outcomes_sound), omega (arith, w, sound.weights_fit))

-- a place that is found is one of theirs
place_there : (own : List OutcomeRow) (n : ℕ) {found : Option ℕ} → found ≡ Some n → MatchOption found (Unit {0}) (λ k. k < length own) → n < length own
place_there own n e h = MatchOption-at_some (Unit {0}) (λ k. k < length own) n e h

-- the outcome there is sound
pub outcome_sound : (p : PlanRows) (row : ChangeRow) (own : List OutcomeRow) (n : ℕ) {found : Option ℕ} → faultless p ≡ true → own ≡ listed row.first_outcome row.outcomes p.outcomes → found ≡ Some n → MatchOption found (Unit {0}) (λ k. k < length own) → SoundOutcome p (get_or own n no_outcome)
outcome_sound p row own n s o f l =
    All-get_or (SoundOutcome p) own n no_outcome (place_there own n f l) (subst (AllByRecursion (SoundOutcome p)) (sym o) (All-take (SoundOutcome p) row.outcomes (drop row.first_outcome p.outcomes) (All-drop (SoundOutcome p) row.first_outcome p.outcomes (sound_from_faultless p s).outcomes)))

-- and has its place in 16 bits
pub outcome_place : (p : PlanRows) (row : ChangeRow) (own : List OutcomeRow) (n : ℕ) {found : Option ℕ} → faultless p ≡ true → own ≡ listed row.first_outcome row.outcomes p.outcomes → found ≡ Some n → MatchOption found (Unit {0}) (λ k. k < length own) → row.first_outcome + n < 4096
outcome_place p row own n s o f l =
    omega (arith, place_there own n f l, ap length o, length-take row.outcomes (drop row.first_outcome p.outcomes), length-drop row.first_outcome p.outcomes, (sound_from_faultless p s).bounded Outcomes)

-- the place that the code finds is the one that the draw picks
pub picked_place : (p : PlanRows) (i c : ℕ) (row : ChangeRow) (own : List OutcomeRow) (g n : ℕ) (found : Option ℕ) → faultless p ≡ true → OfStage (plan_in p) i c → change_of_row p row ≡ change_of (plan_in p) i c → own ≡ listed row.first_outcome row.outcomes p.outcomes → found ≡ Some n → (1 ≤ weights (map (outcome_of_row p) own) → weights (map (outcome_of_row p) own) ≤ 65535 → found ≡ Some (picked (map (outcome_of_row p) own) (ticket g (weights (map (outcome_of_row p) own))))) → n ≡ picked_by g (change_of (plan_in p) i c)
picked_place p i c row own g n found s h r o f k =
    let w = weights_allowed p i c row own s h r o in
    let there = k w.0 w.1 in
    let same : n ≡ picked (map (outcome_of_row p) own) (ticket g (weights (map (outcome_of_row p) own))) = cc in
    same ∙ ap (λ os. picked os (ticket g (weights os))) (outcomes_are p i c row own r o)

-- and so is the outcome
pub outcome_at_place : (p : PlanRows) (i c : ℕ) (row : ChangeRow) (own : List OutcomeRow) (n : ℕ) {found : Option ℕ} → change_of_row p row ≡ change_of (plan_in p) i c → own ≡ listed row.first_outcome row.outcomes p.outcomes → found ≡ Some n → MatchOption found (Unit {0}) (λ k. k < length own) → outcome_of_row p (get_or own n no_outcome) ≡ get_or (change_of (plan_in p) i c).outcomes n blank_outcome
outcome_at_place p i c row own n r o f l =
    sym (get_or-map (outcome_of_row p) own n no_outcome blank_outcome (place_there own n f l)) ∙ ap (λ os. get_or os n blank_outcome) (outcomes_are p i c row own r o)

-- the same of any rows that are read as the outcomes of the change
pub own_weights_allowed : (p : PlanRows) (i c : ℕ) (own : List OutcomeRow) → faultless p ≡ true → OfStage (plan_in p) i c → map (outcome_of_row p) own ≡ (change_of (plan_in p) i c).outcomes → (1 ≤ weights (map (outcome_of_row p) own)) × (weights (map (outcome_of_row p) own) ≤ 65535)
own_weights_allowed p i c own s h e =
    let sound = sound_change (plan_in p) (plan_sound p s) i c h in
    let w = ap weights e in
    (omega (arith, w, some_weight (plan_in p) (change_of (plan_in p) i c).outcomes sound.some_outcome sound.outcomes_sound), omega (arith, w, sound.weights_fit))

-- the place that a draw picks among such rows
pub own_place_picked : (p : PlanRows) (i c : ℕ) (own : List OutcomeRow) (g n : ℕ) (found : Option ℕ) → faultless p ≡ true → OfStage (plan_in p) i c → map (outcome_of_row p) own ≡ (change_of (plan_in p) i c).outcomes → found ≡ Some n → (1 ≤ weights (map (outcome_of_row p) own) → weights (map (outcome_of_row p) own) ≤ 65535 → found ≡ Some (picked (map (outcome_of_row p) own) (ticket g (weights (map (outcome_of_row p) own))))) → n ≡ picked_by g (change_of (plan_in p) i c)
own_place_picked p i c own g n found s h e f k =
    let w = own_weights_allowed p i c own s h e in
    let there = k w.0 w.1 in
    let same : n ≡ picked (map (outcome_of_row p) own) (ticket g (weights (map (outcome_of_row p) own))) = cc in
    same ∙ ap (λ os. picked os (ticket g (weights os))) e

-- and the outcome there
pub own_outcome_at : (p : PlanRows) (i c : ℕ) (own : List OutcomeRow) (n : ℕ) → map (outcome_of_row p) own ≡ (change_of (plan_in p) i c).outcomes → n < length own → outcome_of_row p (get_or own n no_outcome) ≡ get_or (change_of (plan_in p) i c).outcomes n blank_outcome
own_outcome_at p i c own n e l =
    sym (get_or-map (outcome_of_row p) own n no_outcome blank_outcome l) ∙ ap (λ os. get_or os n blank_outcome) e

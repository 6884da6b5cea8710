-- What a sound plan gives of each of its parts.
use Rattle.std.proofs.Common.{◌≡◌, ℕ, suc, ◌+◌, ◌-◌, ◌<◌, ◌≤◌, ◌⊎◌, List, [], ◌∷◌, length, get_or, sym, refl, subst, inl, inr, arith}
use Rattle.std.specs.List.{AllByRecursion}
use Rattle.std.proofs.ByRecursion.{All-get_or}
use Rattle.std.proofs.lemmas.List.{get_or_past}
use Rattle.std.proofs.lemmas.Bool.{cases_lt}
use Rattle.theory.specs.Regions.{Comparison, NamesBelow, timer_against, AtMost}
use Rattle.runs.specs.Plans.{Plan, Outcome, blank_stage, blank_change, blank_outcome, stage_of, OfStage, change_of, weights, NamedIn, Sound, SoundPlanStage, SoundPlanChange, SoundPlanOutcome}
use Rattle.runs.specs.Ticks.{limits}

pub weights_nil : weights [] ≡ 0
unfolding weights
weights_nil = refl

pub weights_cons : (o : Outcome) (os : List Outcome) → weights (o ∷ os) ≡ o.weight + weights os
unfolding weights
weights_cons o os = refl

pub limits_nil : (i : ℕ) → limits i [] ≡ []
unfolding limits
limits_nil i = refl

pub limits_cons : (i m : ℕ) (ms : List ℕ) → limits i (m ∷ ms) ≡ timer_against i AtMost m ∷ limits (suc i) ms
unfolding limits
limits_cons i m ms = refl

-- the ceilings name the timers they are of
pub limits_named : (n i : ℕ) (ms : List ℕ) → i + length ms ≤ n → AllByRecursion (NamesBelow n) (limits i ms)
limits_named n i [] h = subst (AllByRecursion (NamesBelow n)) (sym (limits_nil i)) tt
limits_named n i (m ∷ ms) h =
    subst (AllByRecursion (NamesBelow n)) (sym (limits_cons i m ms)) (omega arith, limits_named n (suc i) ms (omega arith))

-- every stage, blank ones among them, is sound
pub sound_stage : (plan : Plan) → Sound plan → (i : ℕ) → SoundPlanStage plan (stage_of plan i)
sound_stage plan s i = go (cases_lt i (length plan.stages))
  where
    go : (i < length plan.stages) ⊎ (length plan.stages ≤ i) → SoundPlanStage plan (stage_of plan i)
    go (inl h) = All-get_or (SoundPlanStage plan) plan.stages i blank_stage h s.stages_sound
    go (inr h) =
        subst (SoundPlanStage plan) (sym (get_or_past plan.stages i blank_stage h)) (record { hold_named = tt; changes_sound = tt })

pub hold_is_named : (plan : Plan) → Sound plan → (i : ℕ) → NamedIn plan (stage_of plan i).hold
hold_is_named plan s i = (sound_stage plan s i).hold_named

-- a change of the stage is sound
pub sound_change : (plan : Plan) → Sound plan → (i c : ℕ) → OfStage plan i c → SoundPlanChange plan (change_of plan i c)
sound_change plan s i c h =
    All-get_or (SoundPlanChange plan) (stage_of plan i).changes (c - (stage_of plan i).first) blank_change (omega arith) (sound_stage plan s i).changes_sound

-- any change read there names timers of the plan
pub guard_is_named : (plan : Plan) → Sound plan → (i c : ℕ) → NamedIn plan (change_of plan i c).guard
guard_is_named plan s i c =
    go (cases_lt (c - (stage_of plan i).first) (length (stage_of plan i).changes))
  where
    go : (c - (stage_of plan i).first < length (stage_of plan i).changes) ⊎ (length (stage_of plan i).changes ≤ c - (stage_of plan i).first) → NamedIn plan (change_of plan i c).guard
    go (inl h) =
        (All-get_or (SoundPlanChange plan) (stage_of plan i).changes (c - (stage_of plan i).first) blank_change h (sound_stage plan s i).changes_sound).guard_named
    go (inr h) =
        subst (λ x. NamedIn plan x.guard) (sym (get_or_past (stage_of plan i).changes (c - (stage_of plan i).first) blank_change h)) tt

pub sound_outcome : (plan : Plan) → Sound plan → (i c n : ℕ) → OfStage plan i c → n < length (change_of plan i c).outcomes → SoundPlanOutcome plan (get_or (change_of plan i c).outcomes n blank_outcome)
sound_outcome plan s i c n h l =
    All-get_or (SoundPlanOutcome plan) (change_of plan i c).outcomes n blank_outcome l (sound_change plan s i c h).outcomes_sound

-- what names timers of the plan names timers of any list as long
pub named_like : (plan : Plan) (v : List ℕ) (cs : List Comparison) → length v ≡ length plan.ceilings → NamedIn plan cs → AllByRecursion (NamesBelow (length v)) cs
named_like plan v cs e h = subst (λ n. AllByRecursion (NamesBelow n) cs) (sym e) h

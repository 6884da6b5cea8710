-- The theorems, from the lemmas.
use Rattle.std.proofs.Common.{◌≡◌, ℕ, zero, suc, ◌*◌, ◌≤◌, ◌⊎◌, List, length, sym, refl, ap, ◌∙◌, inl, inr, arith}
use Rattle.theory.specs.Settings.{reach}
use Rattle.theory.specs.Records.{record_of, record_in, wait}
use Rattle.theory.specs.Theorems.{EqualRecordsAreOneRegion, EveryRecordHasItsRegion, AWaitCrossesWhatTimeCrosses, OneStepIsTheNextRegion, StepsAtOnceAreSingleSteps, ResettingTheTimersResetsTheRecord, FinerTicksTellTheSame}
use Rattle.theory.proofs.Waits.{ticks_are_a_wait}
use Rattle.theory.proofs.Finer.{record_of_finer}
use Rattle.theory.proofs.Counts.{wait_injective, wait_wait, wait_none, wait_by_single_steps}
use Rattle.theory.proofs.Moments.{moments_are_waits, reach_in_order, reach_of_ticks, waits_in_half_ticks, every_wait_in_half_ticks}
use Rattle.theory.proofs.Resets.{record_of_cleared}
use Rattle.theory.proofs.Validity.{length_of, record_of_is_valid, ranks_below_all, valid_is_of_a_setting, wait_keeps_valid, reset_keeps_valid}
use Rattle.theory.proofs.Regions.{region_gives_record, record_gives_comparisons, comparisons_give_region}

pub equal_records_are_one_region : EqualRecordsAreOneRegion
equal_records_are_one_region D E v w d f l =
    ((λ e. comparisons_give_region D v E w d f l (record_gives_comparisons D v E w d f l e), region_gives_record D v E w d f), (record_gives_comparisons D v E w d f l, λ a. region_gives_record D v E w d f (comparisons_give_region D v E w d f l a)))

pub every_record_has_its_region : EveryRecordHasItsRegion
every_record_has_its_region =
    record { of_a_setting = valid_is_of_a_setting; settings = record_of_is_valid; waits = wait_keeps_valid; resets = reset_keeps_valid }

pub a_wait_crosses_what_time_crosses : AWaitCrossesWhatTimeCrosses
a_wait_crosses_what_time_crosses =
    record {
      ticks = ticks_are_a_wait;
      moments = moments_are_waits;
      in_order = reach_in_order;
      whole_ticks = reach_of_ticks;
      none_left_out = λ D v h t d l. let w = waits_in_half_ticks D v h t d l in (w.0, 2, omega arith, w.1, w.2);
      every_wait = λ D v h l d. let w = every_wait_in_half_ticks D v h l d in (w.0, 2, omega arith, w.1);
    }

-- the record of a setting is that of no wait at all
pub wait_none_of : (D : ℕ) (v : List ℕ) → 1 ≤ D → 1 ≤ length v → wait 0 (record_of D v) ≡ record_of D v
wait_none_of D v d l = wait_none (record_of D v) (ranks_below_all (record_of D v) (record_of_is_valid D v d l))

pub one_step_is_the_next_region : OneStepIsTheNextRegion
one_step_is_the_next_region D v d l = (w.0, 2, record { a_moment = omega arith; one_step = moments_are_waits D v d w.0 2 (omega arith) ∙ ap (λ n. wait n (record_of D v)) w.1; another = other; none_between = before })
  where
    w : (p : ℕ) × (reach D v p 2 ≡ 1)
    w = every_wait_in_half_ticks D v d l 1

    other : wait 1 (record_of D v) ≡ record_of D v → ⊥
    other e =
        omega (arith, wait_injective (record_of D v) 1 0 (omega (arith, length_of D v)) (e ∙ sym (wait_none_of D v d l)))

    before : (p' q' : ℕ) → 1 ≤ q' → p' * 2 ≤ w.0 * q' → (record_in D v p' q' ≡ record_of D v) ⊎ (record_in D v p' q' ≡ wait 1 (record_of D v))
    before p' q' h k =
        go (reach D v p' q') refl (omega (arith, reach_in_order D v d p' q' w.0 2 h (omega arith) k, w.1))
      where
        go : (n : ℕ) → reach D v p' q' ≡ n → n ≤ 1 → (record_in D v p' q' ≡ record_of D v) ⊎ (record_in D v p' q' ≡ wait 1 (record_of D v))
        go zero e b =
            inl (moments_are_waits D v d p' q' h ∙ (ap (λ n. wait n (record_of D v)) e ∙ wait_none_of D v d l))
        go (suc n) e b = inr (moments_are_waits D v d p' q' h ∙ ap (λ n. wait n (record_of D v)) one)
          where
            one : reach D v p' q' ≡ 1
            one = omega arith

pub steps_at_once_are_single_steps : StepsAtOnceAreSingleSteps
steps_at_once_are_single_steps =
    record { one_by_one = λ d r ok. wait_by_single_steps d r (ranks_below_all r ok); two_waits = λ d e r ok. sym (wait_wait d e r) }

pub resetting_the_timers_resets_the_record : ResettingTheTimersResetsTheRecord
resetting_the_timers_resets_the_record = record_of_cleared

pub finer_ticks_tell_the_same : FinerTicksTellTheSame
finer_ticks_tell_the_same = record_of_finer

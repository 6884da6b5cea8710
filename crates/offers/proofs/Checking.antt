-- The rows of a checked plan break no rule, and the plan in them can be run.
use Rattle.std.proofs.Common.{◌≡◌, true, is_some, refl, ap, ◌∙◌}
use Rattle.std.proofs.lemmas.Bool.{cond_both, not_from_false}
use Rattle.plan.specs.declared.handed.Handed.{Handed}
use Rattle.plan.specs.Handed.{counted_in, fault_in, held_by}
use Rattle.rows.specs.Plans.{PlanRows}
use Rattle.rows.specs.Verdicts.{fault_from, faultless, first_in, record_fault}
use Rattle.rows.proofs.Soundness.{faultless_from_sound, verdict_decides}
use Rattle.runs.specs.Plans.{Sound}
use Rattle.runs.specs.Tables.{plan_in}
pub use Rattle.runs.proofs.Tables.{plan_sound}
use Rattle.offers.specs.Checked.{blank_rows, checked}

blank_faultless : faultless blank_rows ≡ true
unfolding faultless first_in fault_from record_fault
blank_faultless = refl

pub checked_faultless : (h : Handed) → faultless (checked h) ≡ true
checked_faultless h =
    cond_both (is_some (fault_in h)) blank_rows (counted_in h) (λ q. faultless q ≡ true) (λ e. blank_faultless) (λ e. faultless_from_sound (counted_in h) ((verdict_decides h.counts (held_by h.tables)).0 (not_from_false (is_some (fault_in h)) e)).1)

pub as_checked_faultless : (h : Handed) (q : PlanRows) → q ≡ checked h → faultless q ≡ true
as_checked_faultless h q e = ap faultless e ∙ checked_faultless h

-- so the plan in them can be run
pub checked_sound : (h : Handed) → Sound (plan_in (checked h))
checked_sound h = plan_sound (checked h) (checked_faultless h)

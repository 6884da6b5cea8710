-- The timers of a checked plan at zero.
use Rattle.std.proofs.Common.{◌≡◌, true, length, replicate, ap, ◌∙◌, arith}
use Rattle.std.proofs.lemmas.List.{length-map}
use Rattle.region.specs.Reads.{timers_for}
use Rattle.rows.specs.declared.section.SectionName.TheVariants.{Timers}
use Rattle.rows.specs.declared.tables.TimerRow.{TimerRow}
use Rattle.rows.specs.Plans.{PlanRows}
use Rattle.rows.specs.Verdicts.{faultless}
use Rattle.rows.proofs.Soundness.{sound_from_faultless}
use Rattle.theory.specs.Records.{Record, fresh}
use Rattle.runs.specs.Runs.{all_zero}
use Rattle.runs.specs.Tables.{plan_in}

-- a region opened for as many timers as a checked plan has is that of the plan's timers at zero
pub opened_at_zero : {p held : PlanRows} {r : Record} → held ≡ p → faultless p ≡ true → r ≡ record { whole = true; classes = 1; timers = replicate (timers_for (length held.timers)) fresh } → r ≡ all_zero (length (plan_in p).ceilings)
opened_at_zero {p} {held} e s t =
    let sound = sound_from_faultless p s in
    let n : timers_for (length held.timers) ≡ length (plan_in p).ceilings = omega (arith, ap (λ q. length q.timers) e, length-map p.timers (λ (x : TimerRow). x.ceiling), sound.enough Timers, sound.bounded Timers) in
    t ∙ ap all_zero n

use Rattle.std.proofs.Common.{◌≡◌, ℕ, ◌-◌, ◌*◌, min, get_or, sym, ap, ◌∙◌, arith}
use Rattle.std.proofs.lemmas.List.{get_or-map}
use Rattle.region.specs.Viewed.{viewed}
use Rattle.rows.specs.declared.tables.TimerRow.{TimerRow}
use Rattle.rows.specs.Verdicts.{no_timer}
use Rattle.theory.specs.Records.{Record, count, timer_no}
use Rattle.runs.specs.Runs.{room}
use Rattle.offers.specs.Known.{ceilings_in}
use Rattle.offers.proofs.Known.{next_timer, no_more_timers}
use Rattle.offers.proofs.hold.ceiling_wait.Goals as goal

pub loop-i-preserved : goal.loop-i-preserved
loop-i-preserved c =
    let r : Record = viewed c.args.region.now in
    let i : ℕ = c.loop-i.i in
    let least : c.min-best.result ≡ min c.loop-i.best (2 * r.classes * (get_or c.args.timers.now i no_timer).ceiling - count r (timer_no r i)) = cc in
    (next_timer r c.args.timers.now i c.loop-i.best c.min-best.result c.loop-i-test.true least ∙ c.loop-i.invariant.0, omega arith)

pub returns : goal.returns
returns c =
    let r : Record = viewed c.args.region.now in
    let first = ap (λ (x : ℕ). 2 * r.classes * x) (sym (get_or-map (λ (t : TimerRow). t.ceiling) c.args.timers.now 0 no_timer 0 c.requires)) in
    record {
      least = sym (no_more_timers r c.args.timers.now c.loop-i.i c.loop-i.best c.loop-i-test.false) ∙ (c.loop-i.invariant.0 ∙ ap (λ (x : ℕ). room r x 0 (ceilings_in c.args.timers.now)) (c.steps-best.ensures.steps ∙ first));
      few = c.loop-i.invariant.1;
    }

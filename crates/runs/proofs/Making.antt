-- How a granted take is carried out: the goal or the draw, then the wait and the resets.
use Rattle.std.proofs.Common.{◌≡◌, ℕ, ◌*◌, ◌^◌, ◌<◌, ◌≤◌, false, List, map, length, get_or, Ok, Err, ap, ◌∙◌, arith}
use Rattle.std.proofs.lemmas.List.{get_or-map, length-map}
use Rattle.std.proofs.lemmas.Bool.{cond-false, false_from_ne_true, lt-leb}
use Rattle.rows.specs.declared.refusal.Refusal.TheVariants.{NotThere}
use Rattle.rows.specs.declared.tables.TimerRow.{TimerRow}
use Rattle.rows.specs.Plans.{PlanRows}
use Rattle.region.specs.Resetting.{marks, names_missing, reset_by}
use Rattle.region.specs.Waiting.{ceiling_no, passes, PastACeiling}
use Rattle.region.proofs.Waited.{decides_passes}
use Rattle.theory.specs.Records.{Record, reset}
use Rattle.runs.specs.Plans.{Plan}
use Rattle.runs.specs.Runs.{top, InBounds}
use Rattle.runs.proofs.Permits.{top_counts}

-- no timer passes its ceiling in the hold interval
pub wait_not_past : (plan : Plan) (timers : List TimerRow) (i d : ℕ) (r : Record) → plan.ceilings ≡ map (λ t. t.ceiling) timers → InBounds plan r → d ≤ top plan i r → passes timers d r ≡ false
wait_not_past plan timers i d r e h l = false_from_ne_true (passes timers d r) (λ b. none ((decides_passes timers d r).0 b))
  where
    long : length plan.ceilings ≡ length timers
    long = ap length e ∙ length-map timers (λ (t : TimerRow). t.ceiling)

    same : (j : ℕ) → j < length timers → get_or plan.ceilings j 0 ≡ ceiling_no timers j
    same j k = ap (λ ms. get_or ms j 0) e ∙ get_or-map (λ (t : TimerRow). t.ceiling) timers j (record { ceiling = 0 }) 0 k

    none : PastACeiling timers d r → ⊥
    none p =
        let j : ℕ = p.0 in
        let k : j < length plan.ceilings = omega (arith, p.1, h.as_many) in
        omega (arith, p.2, top_counts plan i r d j k l (h.under j k), ap (λ m. 2 * r.classes * m) (same j (omega (arith, long))))

-- a reset that names timers of the plan only is granted
pub reset_names_no_missing : (p : PlanRows) (bits : ℕ) (r : Record) → bits < 2 ^ length p.timers → length r.timers ≡ length p.timers → reset_by bits r ≡ (Ok tt, reset (marks (length p.timers) bits) r)
reset_names_no_missing p bits r l e =
    cond-false (names_missing bits r) (Err NotThere, r) (Ok tt, reset (marks (length r.timers) bits) r) (lt-leb (2 ^ length r.timers) bits (omega (arith, ap (λ n. 2 ^ n) e))) ∙ ap (λ n. (Ok tt, reset (marks n bits) r)) e

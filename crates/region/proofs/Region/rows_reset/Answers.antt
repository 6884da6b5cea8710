use Rattle.std.proofs.Common.{◌≡◌, ℕ, ◌<◌, cond, List, length, get_or, take, refl, ap, ◌∙◌, arith}
use Rattle.std.proofs.lemmas.List.{get_or-set_other}
use Rattle.theory.specs.Records.{Timer, fresh, reranked}
use Rattle.theory.specs.Settings.{marked}
use Rattle.region.specs.declared.value.TimerValue.{TimerValue}
use Rattle.region.specs.Reads.{values_in}
use Rattle.region.specs.Resetting.{bit_no, marks}
use Rattle.region.specs.Viewed.{viewed}
use Rattle.region.specs.Views.{blank, timer_in}
use Rattle.region.proofs.Placed.{rows_reset_more}
use Rattle.region.proofs.Shown.{lengths, rank_below}
use Rattle.region.proofs.Region.rows_reset.Goals as goal
use Rattle.region.proofs.Region.rows_reset.Goals.{In-loop-timer}

within : (c : In-loop-timer) → c.loop-timer.timer < length (values_in c.args.self.now)
within c = omega (arith, lengths)

-- the row at hand is still as it was
row_is : (c : In-loop-timer) → get_or c.loop-timer.row-items c.loop-timer.timer blank ≡ get_or (values_in c.args.self.now) c.loop-timer.timer blank
row_is c = c.loop-timer.invariant.1 c.loop-timer.timer (omega arith)

pub loop-timer-init : goal.loop-timer-init
unfolding marked
loop-timer-init c =
    let r = c.args.self.now in
    let n : c.timers.result ≡ r.number = omega (arith, lengths) in
    (refl, λ k h. ap (λ m. get_or (take m r.rows) k blank) n)

pub row_reset-requires : goal.row_reset-requires
row_reset-requires c =
    let r = c.args.self.now in
    let at = (goal.at.row_reset-requires c).In-loop-timer in
    omega (arith, ap (λ (x : TimerValue). x.rank) (row_is at), rank_below (values_in r) (viewed r) c.loop-timer.timer refl (within at) r.valid)

pub loop-timer-preserved : goal.loop-timer-preserved
loop-timer-preserved c =
    let r = c.args.self.now in
    let at = (goal.at.loop-timer-preserved c).In-loop-timer in
    let ys : List TimerValue = c.loop-timer.row-items in
    let i : ℕ = c.loop-timer.timer in
    let f : Timer → Timer = reranked (marks r.number c.args.timers) (viewed r) in
    let here : timer_in c.row_reset.result ≡ cond (bit_no c.args.timers i) fresh (f (timer_in (get_or (values_in r) i blank))) =
    c.row_reset.ensures (marks r.number c.args.timers) c.requires
    ∙ ap (λ (x : TimerValue). cond c.names.result fresh (f (timer_in x))) (row_is at)
    ∙ ap (λ b. cond b fresh (f (timer_in (get_or (values_in r) i blank)))) c.names.ensures in (
      rows_reset_more fresh f c.args.timers (values_in r) ys i c.row_reset.result (within at) (omega (arith, lengths)) c.loop-timer.invariant.0 here,
      λ k h. get_or-set_other ys i k c.row_reset.result blank (omega arith) ∙ c.loop-timer.invariant.1 k (omega arith),
    )

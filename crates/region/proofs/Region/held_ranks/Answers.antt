use Rattle.std.proofs.Common.{ℕ, ◌<◌, cond, eqb, List, length, get_or, set, sym, refl, ap, ◌∙◌, arith}
use Rattle.std.proofs.lemmas.List.{get_or-replicate, length-set}
use Rattle.region.specs.declared.value.TimerValue.{TimerValue}
use Rattle.region.specs.Viewed.{viewed}
use Rattle.region.specs.Views.{blank}
use Rattle.region.proofs.Marked.{get_d_written, named_more, other_more, others_none}
use Rattle.region.proofs.Shown.{rank_below}
use Rattle.region.proofs.Region.held_ranks.Goals as goal
use Rattle.region.proofs.Region.held_ranks.Goals.{In-loop-timer, then-not-names, else-not-names}

-- the rank at hand is one of the classes
rank_in : (c : In-loop-timer) → (get_or c.values-row-items.result.now c.loop-timer.timer blank).rank < c.args.self.now.classes
rank_in c =
    rank_below c.values-row-items.result.now (viewed c.args.self.now) c.loop-timer.timer c.values-row-items.ensures.timers c.loop-timer-test.true c.args.self.now.valid

pub loop-timer-init : goal.loop-timer-init
loop-timer-init c =
    (refl, λ j h. get_or-replicate {A = ℕ} 16 j 0 0 h ∙ sym (others_none c.args.timers c.values-row-items.result.now j))

pub bounds-held-from : goal.bounds-held-from
bounds-held-from c = omega (arith, rank_in (goal.at.bounds-held-from c).In-loop-timer)

pub loop-timer-preserved : goal.loop-timer-preserved
loop-timer-preserved c =
    let r = c.args.self.now in
    let bits : ℕ = c.args.timers in
    let xs : List TimerValue = c.values-row-items.result.now in
    let i : ℕ = c.loop-timer.timer in
    let held : List ℕ = c.loop-timer.held in
    let k : ℕ = (get_or xs i blank).rank in
    let within : i < length xs = c.loop-timer-test.true in
    let below : k < length held = omega (arith, c.loop-timer.invariant.0, rank_in (goal.at.loop-timer-preserved c).In-loop-timer) in
    elim c.if-not-names.branch [
      | then-not-names w ↦ (
        ap length w.held-is ∙ length-set held w.from.result 1 ∙ c.loop-timer.invariant.0,
        λ j h. ap (λ (zs : List ℕ). get_or zs j 0) (w.held-is ∙ ap (λ n. set held n 1) w.from.ensures)
            ∙ get_d_written held k 1 j below
            ∙ ap (λ (n : ℕ). cond (eqb k j) 1 n) (c.loop-timer.invariant.1 j h)
            ∙ sym (other_more bits xs i j within (sym c.names.ensures ∙ w.if-not-names.true)),
      )
      | else-not-names w ↦ (
        ap length w.held-is ∙ c.loop-timer.invariant.0,
        λ j h. ap (λ (zs : List ℕ). get_or zs j 0) w.held-is
            ∙ c.loop-timer.invariant.1 j h
            ∙ sym (named_more bits xs i j within (sym c.names.ensures ∙ w.if-not-names.false)),
      )
    ]

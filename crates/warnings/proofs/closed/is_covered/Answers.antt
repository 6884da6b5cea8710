use Rattle.std.proofs.Common.{◌≡◌, true, get_or, ◌∙◌, rules, arith}
use Rattle.std.proofs.lemmas.Bool.{both_ways, ltb-false}
use Rattle.region.specs.Resetting.{marks}
use Rattle.warnings.proofs.Closing.{covers_more, not_named}
use Rattle.warnings.proofs.closed.is_covered.Goals as goal
use Rattle.warnings.proofs.closed.is_covered.Goals.{else-not-names-via-then-not-names+else-of_timer, else-not-names-via-else-not-names}

pub loop-timer-preserved : goal.loop-timer-preserved
loop-timer-preserved c =
    let x = c.loop-timer.timer in
    covers_more x (λ y. get_or c.args.leaving.now.most y 0) (marks c.args.timers c.args.outcome.resets) c.args.arrival.now c.loop-timer.invariant (elim c.else-not-names.branch [
      | else-not-names-via-then-not-names+else-of_timer w ↦ λ e. omega (arith, ltb-false, w.of_timer.ensures, w.of_timer-then-not-names.ensures, w.if-of_timer.false)
      | else-not-names-via-else-not-names w ↦ λ e. let named : c.names.result ≡ true = search rules in absurd (both_ways c.names.result (c.names.ensures ∙ not_named c.args.timers c.args.outcome.resets c.loop-timer.timer c.loop-timer-test.true e) named)
    ])

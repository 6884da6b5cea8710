use Rattle.std.proofs.Common.{length, sym, ◌∙◌}
use Rattle.std.proofs.lemmas.Bool.{eqb-true}
use Rattle.reader.proofs.Splits.{split_from_cuts}
use Rattle.reader.proofs.parts.split.Goals as goal

pub returns : goal.returns
returns c =
    split_from_cuts c.args.rooms.now c.args.bytes.now
    (record { timers = c.in_ok-timers.timers; comparisons = c.in_ok-comparisons.comparisons; stages = c.in_ok-stages.stages; changes = c.in_ok-changes.changes; outcomes = c.in_ok-outcomes.outcomes; goals = c.in_ok-goals.goals })
    c.in_ok-timers.rest.now
    c.in_ok-comparisons.rest.now
    c.in_ok-stages.rest.now
    c.in_ok-changes.rest.now
    c.in_ok-outcomes.rest.now
    c.in_ok-goals.rest.now
    c.in_ok-timers.ensures
    c.in_ok-comparisons.ensures
    c.in_ok-stages.ensures
    c.in_ok-changes.ensures
    c.in_ok-outcomes.ensures
    c.in_ok-goals.ensures
    (eqb-true (length c.in_ok-goals.rest.now) 0 (sym c.is_empty.ensures ∙ c.if-not-is_empty.false))

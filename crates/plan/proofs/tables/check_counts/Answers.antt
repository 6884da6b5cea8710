use Rattle.std.proofs.Common.{◌∙◌}
use Rattle.rows.specs.Verdicts.{count_fault}
use Rattle.rows.proofs.Faults.{count_step, exit_told, no_section}
use Rattle.plan.proofs.tables.check_counts.Goals as goal

pub returns-in_err-placed : goal.returns-in_err-placed
returns-in_err-placed c =
    rw (exit_told c.from_residual.result c.from_residual.ensures.1)
    (count_step c.args.rooms.now c.args.n.now _ _ _ _ _ c.loop-section-test.true c.of.ensures c.of-in-loop-section.ensures c.check_count-checked.ensures c.in_err-placed.ensures ∙ c.loop-section.invariant)

pub loop-section-preserved : goal.loop-section-preserved
loop-section-preserved c =
    count_step c.args.rooms.now c.args.n.now _ _ _ _ _ c.loop-section-test.true c.of.ensures c.of-in-loop-section.ensures c.check_count-checked.ensures c.in_ok-placed.ensures ∙ c.loop-section.invariant

pub returns : goal.returns
returns c =
    no_section (count_fault c.args.rooms.now c.args.n.now) c.loop-section.section-index c.loop-section-test.false
    ∙ c.loop-section.invariant

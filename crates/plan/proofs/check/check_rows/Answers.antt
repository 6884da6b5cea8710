use Rattle.std.proofs.Common.{Some, None, ◌∙◌}
use Rattle.rows.specs.Plans.{PlanRows}
use Rattle.rows.specs.Verdicts.{section_fault}
use Rattle.rows.proofs.Faults.{exit_told, section_step, no_section}
use Rattle.plan.proofs.check.check_rows.Goals as goal

pub returns-in_err-check_section : goal.returns-in_err-check_section
returns-in_err-check_section g c =
    let p : PlanRows = g.R.Records.held c.args.rows.now in
    rw (exit_told c.from_residual.result c.from_residual.ensures.1)
    (section_step (section_fault p) c.loop-section.section-index (Some c.in_err-check_section.field-0.0) c.loop-section-test.true c.in_err-check_section.ensures ∙ c.loop-section.invariant)

pub loop-section-preserved : goal.loop-section-preserved
loop-section-preserved g c =
    let p : PlanRows = g.R.Records.held c.args.rows.now in
    section_step (section_fault p) c.loop-section.section-index None c.loop-section-test.true c.in_ok-check_section.ensures ∙ c.loop-section.invariant

pub returns : goal.returns
returns g c =
    let p : PlanRows = g.R.Records.held c.args.rows.now in
    no_section (section_fault p) c.loop-section.section-index c.loop-section-test.false ∙ c.loop-section.invariant

use Rattle.std.proofs.Common.{Some, None, ◌∙◌, arith}
use Rattle.std.specs.Result.{result_err}
use Rattle.rows.specs.Plans.{PlanRows}
use Rattle.rows.proofs.Faults.{exit_told, record_step, no_record}
use Rattle.plan.proofs.check.check_section.Goals as goal

pub returns-in_err-placed : goal.returns-in_err-placed
returns-in_err-placed g c =
    let p : PlanRows = g.R.Records.held c.args.rows.now in
    rw (exit_told c.from_residual.result c.from_residual.ensures.1)
    (record_step p c.args.section c.loop-i.i c.of-i-end.result (result_err c.check_record.result) (Some c.in_err-placed.field-0.0) (omega arith) c.check_record.ensures c.in_err-placed.ensures ∙ c.loop-i.invariant.1)

pub loop-i-preserved : goal.loop-i-preserved
loop-i-preserved g c =
    let p : PlanRows = g.R.Records.held c.args.rows.now in (
      c.loop-i.invariant.0,
      record_step p c.args.section c.loop-i.i c.of-i-end.result (result_err c.check_record.result) None (omega arith) c.check_record.ensures c.in_ok-placed.ensures ∙ c.loop-i.invariant.1,
    )

pub returns : goal.returns
returns g c =
    let p : PlanRows = g.R.Records.held c.args.rows.now in
    no_record p c.args.section c.loop-i.i c.of-i-end.result (omega arith) ∙ c.loop-i.invariant.1

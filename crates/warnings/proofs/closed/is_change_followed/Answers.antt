use Rattle.std.proofs.Common.{List, map, take, drop, get_or, ap, ◌∙◌, subst, arith}
use Rattle.std.specs.List.{AllByRecursion}
use Rattle.offers.specs.Known.{plan_of, rows_of}
use Rattle.rows.specs.declared.tables.OutcomeRow.{OutcomeRow}
use Rattle.rows.specs.Plans.{PlanRows}
use Rattle.rows.specs.Verdicts.{no_outcome}
use Rattle.runs.specs.Tables.{outcome_of_row}
use Rattle.warnings.specs.Arrivals.{OutcomeFollowed}
use Rattle.warnings.proofs.Closing.{all_mapped}
use Rattle.warnings.proofs.closed.is_change_followed.Goals as goal

pub returns : goal.returns
returns c t =
    let p : PlanRows = rows_of c.args.plan.now in
    let P = OutcomeFollowed (plan_of c.args.plan.now) c.args.table.now (λ x. get_or c.args.leaving.now.most x 0) in
    let rows = c.outcomes_of-outcome-items.result.now in
    let same = c.outcomes_of-outcome-items.ensures ∙ ap (λ (q : PlanRows). take c.args.change.outcomes (drop c.args.change.first_outcome q.outcomes)) c.tables.ensures in
    subst (λ (os : List OutcomeRow). AllByRecursion P (map (outcome_of_row p) os)) same (all_mapped P (outcome_of_row p) rows no_outcome (λ k l. c.loop-outcome.invariant k (omega (arith, l))))

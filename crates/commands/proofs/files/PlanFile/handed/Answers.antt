use Rattle.std.proofs.Common.{ap, ◌∙◌}
use Rattle.rows.specs.Verdicts.{faultless}
use Rattle.commands.proofs.Whole.{checked_whole}
use Rattle.commands.proofs.files.PlanFile.handed.Goals as goal

pub returns-clause-the_plan_read_is_the_plan_that_runs : goal.returns-clause-the_plan_read_is_the_plan_that_runs
returns-clause-the_plan_read_is_the_plan_that_runs c =
    let sound = ap faultless c.tables-tables.ensures ∙ c.args.self.now.sound in
    checked_whole (record { tables = c.tables-tables.result; counts = c.counts.result }) c.counts.ensures sound ∙ c.tables-tables.ensures

use Rattle.plan.specs.Handed.{held_by}
use Rattle.offers.proofs.Checking.{as_checked_faultless, plan_sound}
use Rattle.offers.proofs.sound_plan.Plan.of_tables.Goals as goal

pub returns-clause-can_be_run : goal.returns-clause-can_be_run
returns-clause-can_be_run c =
    let rows = held_by c.checked_rows.result in plan_sound rows (as_checked_faultless c.args.handed rows c.checked_rows.ensures)

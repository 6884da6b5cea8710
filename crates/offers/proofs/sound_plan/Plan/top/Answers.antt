use Rattle.runs.proofs.Permits.{the_hold_interval_is_permitted_time}
use Rattle.offers.proofs.sound_plan.Plan.top.Goals as goal

pub returns-then-has-clause-the_hold_interval_is_permitted_time : goal.returns-then-has-clause-the_hold_interval_is_permitted_time
returns-then-has-clause-the_hold_interval_is_permitted_time c = the_hold_interval_is_permitted_time

pub returns-else-has-clause-the_hold_interval_is_permitted_time : goal.returns-else-has-clause-the_hold_interval_is_permitted_time
returns-else-has-clause-the_hold_interval_is_permitted_time c = the_hold_interval_is_permitted_time

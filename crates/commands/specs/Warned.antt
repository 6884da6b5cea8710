-- What is promised of the warnings of a plan.
use Rattle.std.specs.Prelude.{List}
use Rattle.runs.specs.Plans.{Plan}
use Rattle.warnings.specs.Promised as warnings
use Rattle.warnings.specs.declared.Warning.{Warning}

-- a planner can rest on these warnings: no ceiling that is not warned of ends a hold, and the stages without a way out are dead ends
pub record WarnsWell (plan : Plan) (found : List Warning) : Type 0 where
  pub holds_end : warnings.WhereNothingIsWarnedTheHoldEndsBeforeTheCeiling plan found
  pub no_longer_stay : warnings.WhereNothingIsWarnedAHigherCeilingLetsNoRunStayLonger plan found
  pub dead_ends : warnings.AStageWarnedAsWithoutAWayOutOffersNothing plan found
  pub no_change_no_way_out : warnings.AStageWithoutChangesIsWarned plan found

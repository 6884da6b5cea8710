use Rattle.offers.specs.Known.{rows_of}
use Rattle.offers.proofs.Known.{some_goal}
use Rattle.offers.proofs.sound_plan.Plan.goal.Goals as goal

pub bounds-self-0 : goal.bounds-self-0
bounds-self-0 c = some_goal (rows_of c.args.self.now) c.args.self.now.sound

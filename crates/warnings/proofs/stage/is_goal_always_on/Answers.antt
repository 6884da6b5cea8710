use Rattle.std.proofs.Common.{ap, arith, length}
use Rattle.offers.specs.Known.{rows_of}
use Rattle.offers.proofs.Known.{some_goal}
use Rattle.warnings.proofs.stage.is_goal_always_on.Goals as goal

pub bounds-tables-0 : goal.bounds-tables-0
bounds-tables-0 c =
    omega (arith, some_goal (rows_of c.args.plan.now) c.args.plan.now.sound, ap (λ p. length p.goals) c.tables-tables.ensures)

use Rattle.std.proofs.Common.{ap, arith, length}
use Rattle.offers.specs.Known.{rows_of}
use Rattle.warnings.proofs.Plain.{few_timers}
use Rattle.warnings.proofs.stage.timers.Goals as goal

pub returns-clause-few : goal.returns-clause-few
returns-clause-few c =
    omega (arith, few_timers (rows_of c.args.plan.now) c.args.plan.now.sound, ap (λ p. length p.timers) c.tables.ensures)

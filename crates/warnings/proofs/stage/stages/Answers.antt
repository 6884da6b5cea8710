use Rattle.std.proofs.Common.{ap, arith, length}
use Rattle.offers.specs.Known.{rows_of}
use Rattle.warnings.proofs.Plain.{few_stages}
use Rattle.warnings.proofs.stage.stages.Goals as goal

pub overflow_cast-result : goal.overflow_cast-result
overflow_cast-result c =
    omega (arith, few_stages (rows_of c.args.plan.now) c.args.plan.now.sound, ap (λ p. length p.stages) c.tables.ensures)

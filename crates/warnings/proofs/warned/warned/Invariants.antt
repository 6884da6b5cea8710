use Rattle.std.proofs.Common.{◌≡◌}
use Rattle.offers.specs.Known.{plan_of}
use Rattle.warnings.specs.Warned.{stages_warned}
use Rattle.warnings.proofs.warned.warned.Given as goal

abbrev pub invariant-loop-stage : goal.invariant-loop-stage
invariant-loop-stage l = l.found.items ≡ stages_warned (plan_of l.plan) l.table l.stage

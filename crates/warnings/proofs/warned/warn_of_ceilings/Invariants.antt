use Rattle.std.proofs.Common.{◌≡◌, ◌++◌}
use Rattle.offers.specs.Known.{plan_of}
use Rattle.warnings.specs.Warned.{ceilings_warned}
use Rattle.warnings.proofs.warned.warn_of_ceilings.Given as goal

abbrev pub invariant-loop-timer : goal.invariant-loop-timer
invariant-loop-timer l =
    l.found.items ≡ l.initial.found.items ++ ceilings_warned (plan_of l.plan) l.stage l.arrival l.timer

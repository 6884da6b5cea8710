use Rattle.std.proofs.Common.{map}
use Rattle.region.specs.Viewed.{viewed}
use Rattle.runs.specs.Tables.{comparison_of_row}
use Rattle.offers.specs.Waits.{span_of}
use Rattle.offers.proofs.Known.{until_narrowed}
use Rattle.offers.proofs.sound_plan.Plan.guard_span.Goals as goal

pub returns-clause-few : goal.returns-clause-few
returns-clause-few c = until_narrowed (viewed c.args.region.now) (map comparison_of_row c.guard_of-guard.result.now) c.args.last (span_of c.upto.result) (span_of c.cuts.result) c.upto.ensures c.cuts.ensures.value

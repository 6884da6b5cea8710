use Rattle.std.proofs.Common.{◌+◌, ◌≤◌, map, arith}
use Rattle.region.specs.Viewed.{viewed}
use Rattle.runs.specs.Tables.{comparison_of_row}
use Rattle.offers.specs.Known.{rows_of}
use Rattle.offers.specs.Waits.{span_of}
use Rattle.offers.proofs.Known.{some_timer, until_narrowed}
use Rattle.offers.proofs.sound_plan.Plan.hold_span.Goals as goal

pub ceiling_wait-requires : goal.ceiling_wait-requires
ceiling_wait-requires c = some_timer (rows_of c.args.self.now) c.args.self.now.sound

pub returns-clause-few : goal.returns-clause-few
returns-clause-few c =
    let few : c.cuts.result.until ≤ c.ceiling_wait.result + 1 = until_narrowed (viewed c.args.at.now.region) (map comparison_of_row c.hold.result.now) c.ceiling_wait.result (span_of c.upto-by_ceilings.result) (span_of c.cuts.result) c.upto-by_ceilings.ensures c.cuts.ensures.value in
    omega arith

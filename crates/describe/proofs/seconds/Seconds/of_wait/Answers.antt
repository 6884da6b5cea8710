use Rattle.std.proofs.Common.{◌+◌, ◌*◌, ◌/◌, ◌%◌, ◌<◌, sym, ap, ◌∙◌, arith}
use Rattle.describe.proofs.Lowest.{lowest}
use Rattle.describe.proofs.seconds.Seconds.of_wait.Goals as goal

-- a second has steps
some : (c : goal.After-greatest_common-common) → 0 < c.steps_per_second-per_second.result
some c = omega (arith, c.steps_per_second-per_second.ensures.steps, c.args.region.now.classed)

pub returns : goal.returns
returns c =
    let per = c.steps_per_second-per_second.result in
    let d = c.greatest_common-common.result in
    let all = lowest c.args.steps per d (some c) c.greatest_common-common.ensures in
    record {
      same_time = ap (λ z. (c.args.steps / per * (per / d) + c.args.steps % per / d) * z) (sym c.steps_per_second-per_second.ensures.steps) ∙ all.1;
      proper = all.2;
      lowest = all.3;
    }

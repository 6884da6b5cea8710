use Rattle.std.proofs.Common.{◌≡◌, ◌<◌, ◌≤◌, get_or, rules}
use Rattle.rows.specs.Verdicts.{no_stage}
use Rattle.offers.specs.Known.{rows_of}
use Rattle.offers.proofs.Known.{stage_row_fits}
use Rattle.offers.proofs.sound_plan.Plan.stage_row.Goals as goal

-- the row that is found has a known mark and few changes
row_fits : (c : goal.After-unwrap_or_default) → (c.unwrap_or_default.result.mark < 4) × (c.unwrap_or_default.result.changes ≤ 128)
row_fits c =
    let p = rows_of c.args.self.now in
    let row : c.unwrap_or_default.result ≡ get_or p.stages c.args.stage no_stage = search rules in
    stage_row_fits p c.args.stage c.unwrap_or_default.result c.args.self.now.sound row

pub returns-clause-marked : goal.returns-clause-marked
returns-clause-marked c = (row_fits c).0

pub returns-clause-few : goal.returns-clause-few
returns-clause-few c = (row_fits c).1

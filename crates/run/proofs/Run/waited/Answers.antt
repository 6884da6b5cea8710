use Rattle.offers.specs.Known.{rows_of}
use Rattle.plan.specs.Handed.{held_by}
use Rattle.region.specs.Viewed.{viewed}
use Rattle.runs.proofs.Calls.{wait_made}
use Rattle.run.proofs.Run.waited.Goals as goal

pub returns-clause-later : goal.returns-clause-later
returns-clause-later g c =
    let run = c.args.self.now in
    wait_made (rows_of run.plan) (held_by c.tables.result) run.at.stage c.args.wait (viewed run.at.region) (viewed c.wait.new.self) c.wait.result c.tables.ensures run.in_bounds c.requires c.wait.ensures.answer

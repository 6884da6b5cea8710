use Rattle.std.proofs.Common.{◌≡◌, ◌+◌, refl, ap, ◌∙◌, arith}
use Rattle.offers.specs.Known.{plan_of}
use Rattle.batch.specs.Batches.{Book, Progress, first_runs, one_more}
use Rattle.batch.specs.Progresses.{progress_of}
use Rattle.batch.specs.Promised.{runs_in}
use Rattle.batch.proofs.Counts.{all_counted, runs_again}
use Rattle.batch.proofs.job.Job.runs_of.Given as given
use Rattle.batch.proofs.job.Job.runs_of.Goals as goal
use Rattle.batch.proofs.job.Job.runs_of.Goals.{After-default}

-- before the first run
abbrev start_of : (g : given.Over) → goal.After-default g → Progress
start_of g c =
    progress_of (g.D.DrawSource.coming c.args.source.now) (record { tally = c.default.result; left = c.args.left })

pub loop-row-init : goal.loop-row-init
unfolding first_runs
loop-row-init g c = (refl, refl)

pub one_more-requires : goal.one_more-requires
one_more-requires g c =
    let book = g.D.DrawSource.book c.args.source.now in
    let plan = plan_of c.args.self.now.plan in
    let f = g.S.Scheduler.meaning c.args.scheduler.now in
    let steps = c.args.self.now.limits.steps in
    let row = c.loop-row.row in
    let start = start_of g (goal.at.one_more-requires g c).After-default in
    let zeros = c.default.ensures in
    let none : runs_in c.default.result ≡ 0 = omega (arith, zeros.0, zeros.1.0, zeros.1.1.0, zeros.1.1.1) in
    let many : runs_in c.loop-row.progress.tally ≡ runs_in c.default.result + row = ap (λ (p : Progress). runs_in p.tally) {y = first_runs plan book f steps row start} c.loop-row.invariant.0 ∙ all_counted plan book f steps row start in
    omega (arith, none, many, c.loop-row-test.true, c.args.self.now.few_runs)

pub loop-row-preserved : goal.loop-row-preserved
loop-row-preserved g c =
    let coming = g.D.DrawSource.coming in
    let book = g.D.DrawSource.book c.args.source.now in
    let plan = plan_of c.args.self.now.plan in
    let f = g.S.Scheduler.meaning c.args.scheduler.now in
    let steps = c.args.self.now.limits.steps in
    let start = start_of g (goal.at.loop-row-preserved g c).After-default in
    let here = progress_of (coming c.loop-row.source) c.loop-row.progress in
    let then = progress_of (coming c.one_more.new.source) c.one_more.new.self in
    let made : then ≡ one_more plan book f steps c.loop-row.row here = c.one_more.ensures.counted ∙ ap (λ (b : Book). one_more plan b f steps c.loop-row.row here) c.loop-row.invariant.1 in
    (runs_again plan book f steps c.loop-row.row start here then c.loop-row.invariant.0 made, c.one_more.ensures.book_kept ∙ c.loop-row.invariant.1)

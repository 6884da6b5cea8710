use Rattle.std.proofs.Common.{[], get_or, ◌∙◌, subst}
use Rattle.offers.specs.Known.{plan_of}
use Rattle.batch.specs.Batches.{Book, one_row}
use Rattle.batch.specs.Progresses.{Entered}
use Rattle.batch.proofs.Joining.{entered_again, room_left}
use Rattle.batch.proofs.job.Job.enter_rows.Goals as goal

pub enter_row-left-requires : goal.enter_row-left-requires
enter_row-left-requires g c =
    let source = c.args.source.now in
    room_left (plan_of c.args.self.now.plan) (g.D.DrawSource.book source) (g.D.DrawSource.coming source) c.args.self.now.limits c.args.identifiers.now c.loop-identifier.identifier-index c.args.log.now c.loop-identifier.log c.loop-identifier.left (g.D.DrawSource.coming c.loop-identifier.source) c.loop-identifier-test.true c.requires c.loop-identifier.invariant.0

pub loop-identifier-preserved : goal.loop-identifier-preserved
loop-identifier-preserved g c =
    let coming = g.D.DrawSource.coming in
    let book = g.D.DrawSource.book c.args.source.now in
    let plan = plan_of c.args.self.now.plan in
    let limits = c.args.self.now.limits in
    let so_far = c.loop-identifier in
    let then = c.enter_row-left.new in
    let left = c.enter_row-left.result in
    let ids = c.args.identifiers.now in
    let i = so_far.identifier-index in
    let here = subst (λ (b : Book). Entered (one_row plan b limits (record { rows = []; left = so_far.left; coming = coming so_far.source }) (get_or ids i 0)) so_far.log then.log left (coming then.source)) so_far.invariant.1 c.enter_row-left.ensures.entered in
    (entered_again plan book (coming c.args.source.now) limits ids i c.args.log.now so_far.log then.log so_far.left left (coming so_far.source) (coming then.source) c.loop-identifier-test.true so_far.invariant.0 here, c.enter_row-left.ensures.book_kept ∙ so_far.invariant.1, c.enter_row-left.ensures.same_rows ∙ so_far.invariant.2)

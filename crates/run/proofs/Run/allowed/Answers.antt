use Rattle.std.proofs.Common.{◌≤◌, sym, arith}
use Rattle.std.proofs.lemmas.Option.{MatchOption-at_some}
use Rattle.region.specs.Viewed.{viewed}
use Rattle.runs.specs.Runs.{top}
use Rattle.runs.proofs.Calls.{fitting, guard_read}
use Rattle.runs.proofs.Taking.{of_stage_is, take_fits}
use Rattle.run.specs.Views.{plan_for, view_of}
use Rattle.run.proofs.Run.allowed.Goals as goal

pub returns : goal.returns
returns g c =
    let run = c.args.self.now in
    let view = view_of g.D.DrawSource.coming run in
    let found = MatchOption-at_some _ _ c.in_ok-row.row c.in_ok-row.ensures.ok_part c.change_of.ensures in
    let in_hold : c.args.wait ≤ top (plan_for run) run.at.stage (viewed run.at.region) = omega (arith, c.top-last.ensures.last, c.if-wait-last.false) in
    let allows = guard_read (plan_for run) view c.args.change c.args.wait c.top-last.ensures.last found.1 c.guard_span.ensures.span c.if-not-has.ensures in
    record {
      made = take_fits (plan_for run) view c.args.change c.args.wait (fitting (plan_for run) view c.args.change c.args.wait (sym c.if-not-is_open.ensures) found.0 in_hold allows);
      of_stage = of_stage_is (plan_for run) run.at.stage c.args.change found.0;
      its_row = found.1;
      in_hold = in_hold;
    }

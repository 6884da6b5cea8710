use Rattle.std.proofs.Common.{sym, ◌∙◌}
use Rattle.region.specs.Viewed.{viewed}
use Rattle.runs.proofs.Permits.{allowed_waits_are_true_moments}
use Rattle.offers.specs.Waits.{span_of}
use Rattle.offers.proofs.Comparing.{next_row, no_more_rows}
use Rattle.offers.proofs.waits.cuts.Goals as goal

pub loop-row-preserved : goal.loop-row-preserved
loop-row-preserved c =
    next_row (viewed c.args.region.now) c.args.list.now c.loop-row.row-index c.reading.result (span_of c.loop-row.left) (span_of c.cut-left.result) c.loop-row-test.true c.reading.ensures.value c.cut-left.ensures
    ∙ c.loop-row.invariant

pub returns : goal.returns
returns c =
    record {
      allowed_waits_are_true_moments = allowed_waits_are_true_moments;
      value = sym (no_more_rows (viewed c.args.region.now) c.args.list.now c.loop-row.row-index (span_of c.loop-row.left) c.loop-row-test.false) ∙ c.loop-row.invariant;
    }

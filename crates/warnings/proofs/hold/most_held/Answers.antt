use Rattle.std.proofs.Common.{◌<◌, map, length, arith}
use Rattle.std.proofs.lemmas.List.{get_or-map, length-map}
use Rattle.std.proofs.lemmas.List.Sums.{fold_more}
use Rattle.rows.specs.Verdicts.{no_comparison}
use Rattle.runs.specs.Tables.{comparison_of_row}
use Rattle.warnings.specs.Limits.{narrowed}
use Rattle.warnings.proofs.hold.most_held.Goals as goal

pub loop-row-preserved : goal.loop-row-preserved
loop-row-preserved c =
    let rows = c.args.hold.now in
    let i = c.loop-row.row-index in
    let l : i < length (map comparison_of_row rows) = omega (arith, length-map rows comparison_of_row) in
    let here = get_or-map comparison_of_row rows i no_comparison (comparison_of_row no_comparison) c.loop-row-test.true in
    let more = fold_more (narrowed c.args.timer c.args.arrived) c.args.ceiling (map comparison_of_row rows) i (comparison_of_row no_comparison) l in
    cc

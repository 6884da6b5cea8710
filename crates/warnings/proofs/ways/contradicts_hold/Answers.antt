use Rattle.std.proofs.Common.{sym, ◌∙◌, rules, tests}
use Rattle.std.proofs.lemmas.Iterator.{YieldsList-from_slice}
use Rattle.std.proofs.lemmas.Iterator.Search.{any_from_yields_List}
use Rattle.offers.specs.Known.{plan_of}
use Rattle.rows.specs.declared.tables.ComparisonRow.{ComparisonRow}
use Rattle.runs.specs.Plans.{stage_of}
use Rattle.runs.specs.Tables.{comparison_of_row}
use Rattle.warnings.specs.Warned.{is_ruled_out_in, most_on_arrival}
use Rattle.warnings.proofs.Plain.{list_any-map}
use Rattle.warnings.proofs.ways.contradicts_hold.Goals as goal

pub returns : goal.returns
returns c =
    let p = plan_of c.args.plan.now in
    let test = is_ruled_out_in (most_on_arrival p c.args.table.now c.args.stage) (stage_of p c.args.stage).hold in
    any_from_yields_List (λ (row : ComparisonRow). test (comparison_of_row row)) _ _ _ c.any.ensures.ran (YieldsList-from_slice c.args.guard.now cc) (λ x b q k. search (rules, tests))
    ∙ sym (list_any-map test comparison_of_row c.args.guard.now)

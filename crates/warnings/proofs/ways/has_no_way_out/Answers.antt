use Rattle.std.proofs.Common.{◌≡◌, true, ◌&&◌, sym, ap, ◌∙◌, rules, tests}
use Rattle.std.specs.List.{list_all}
use Rattle.std.proofs.lemmas.Iterator.{YieldsList-from_slice}
use Rattle.std.proofs.lemmas.Iterator.Search.{all_from_yields_List}
use Rattle.std.proofs.lemmas.List.Folds.{list_all-map}
use Rattle.offers.specs.Known.{plan_of, rows_of}
use Rattle.rows.specs.declared.tables.ChangeRow.{ChangeRow}
use Rattle.runs.specs.Plans.{stage_of}
use Rattle.runs.specs.Tables.{change_of_row}
use Rattle.warnings.specs.Warned.{change_is_never_possible, is_unmarked}
use Rattle.warnings.proofs.ways.has_no_way_out.Goals as goal

pub returns-then-is_unmarked : goal.returns-then-is_unmarked
returns-then-is_unmarked c =
    let p = plan_of c.args.plan.now in
    let test = change_is_never_possible p c.args.table.now c.args.stage in
    let rows = c.changes.result.now in
    let told = all_from_yields_List (λ (row : ChangeRow). test (change_of_row (rows_of c.args.plan.now) row)) _ _ c.all.result c.all.ensures.ran (YieldsList-from_slice rows cc) (λ x b q k. search (rules, tests)) in
    let listed = list_all-map test (change_of_row (rows_of c.args.plan.now)) rows in
    let unmarked : is_unmarked p c.args.stage ≡ true = sym c.is_unmarked.ensures ∙ c.if-is_unmarked.true in
    told ∙ (sym listed ∙ (ap (list_all test) c.changes.ensures ∙ sym (ap (λ b. b && list_all test (stage_of p c.args.stage).changes) unmarked)))

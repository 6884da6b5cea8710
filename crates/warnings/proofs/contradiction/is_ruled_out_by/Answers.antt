use Rattle.std.proofs.Common.{sym, ◌∙◌, rules, tests}
use Rattle.std.proofs.lemmas.Iterator.{YieldsList-from_slice}
use Rattle.std.proofs.lemmas.Iterator.Search.{any_from_yields_List}
use Rattle.rows.specs.declared.tables.ComparisonRow.{ComparisonRow}
use Rattle.runs.specs.Tables.{comparison_of_row}
use Rattle.warnings.specs.Warned.{never_both}
use Rattle.warnings.proofs.Plain.{list_any-map}
use Rattle.warnings.proofs.contradiction.is_ruled_out_by.Goals as goal

pub returns : goal.returns
returns c =
    let test = never_both (comparison_of_row c.args.row) in
    any_from_yields_List (λ (row : ComparisonRow). test (comparison_of_row row)) _ _ _ c.any.ensures.ran (YieldsList-from_slice c.args.others.now cc) (λ x b q k. search (rules, tests))
    ∙ sym (list_any-map test comparison_of_row c.args.others.now)

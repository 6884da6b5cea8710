use Rattle.std.proofs.Common.{sym, ◌∙◌, rules, tests}
use Rattle.std.proofs.lemmas.Iterator.{YieldsList-from_slice}
use Rattle.std.proofs.lemmas.Iterator.Search.{any_from_yields_List}
use Rattle.rows.specs.declared.tables.ComparisonRow.{ComparisonRow}
use Rattle.runs.specs.Tables.{comparison_of_row}
use Rattle.warnings.specs.Limits.{ends_in_time}
use Rattle.warnings.proofs.Plain.{list_any-map}
use Rattle.warnings.proofs.hold.is_ended_in_time.Goals as goal

pub returns : goal.returns
returns c =
    any_from_yields_List (λ (row : ComparisonRow). ends_in_time c.args.timer c.args.arrived c.args.ceiling (comparison_of_row row)) _ _ _ c.any.ensures.ran (YieldsList-from_slice c.args.hold.now cc) (λ x b q k. search (rules, tests))
    ∙ sym (list_any-map (ends_in_time c.args.timer c.args.arrived c.args.ceiling) comparison_of_row c.args.hold.now)

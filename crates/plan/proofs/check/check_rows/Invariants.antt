use Rattle.std.proofs.Common.{◌≡◌, drop}
use Rattle.rows.specs.Sections.{section_names}
use Rattle.rows.specs.Verdicts.{first_in, section_fault}
use Rattle.plan.proofs.check.check_rows.Given as goal

abbrev pub invariant-loop-section : goal.invariant-loop-section
invariant-loop-section g l =
    first_in (section_fault (g.R.Records.held l.rows)) (drop l.section-index section_names)
    ≡ first_in (section_fault (g.R.Records.held l.rows)) section_names

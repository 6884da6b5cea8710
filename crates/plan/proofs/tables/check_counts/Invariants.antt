use Rattle.std.proofs.Common.{◌≡◌, drop}
use Rattle.rows.specs.Sections.{section_names}
use Rattle.rows.specs.Verdicts.{count_fault, first_in}
use Rattle.plan.proofs.tables.check_counts.Given as goal

abbrev pub invariant-loop-section : goal.invariant-loop-section
invariant-loop-section l =
    first_in (count_fault l.rooms l.n) (drop l.section-index section_names)
    ≡ first_in (count_fault l.rooms l.n) section_names

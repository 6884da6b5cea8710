use Rattle.std.proofs.Common.{◌≡◌, ◌-◌}
use Rattle.rows.specs.Plans.{counts_of}
use Rattle.rows.specs.Sections.{count_of}
use Rattle.rows.specs.Verdicts.{fault_from, section_fault}
use Rattle.plan.proofs.check.check_section.Given as goal

abbrev pub invariant-loop-i : goal.invariant-loop-i
invariant-loop-i g l =
    (l.i-end ≡ count_of (counts_of (g.R.Records.held l.rows)) l.section)
    × (fault_from (g.R.Records.held l.rows) l.section l.i (l.i-end - l.i) ≡ section_fault (g.R.Records.held l.rows) l.section)

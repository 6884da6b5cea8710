use Rattle.std.proofs.Common.{rules}
use Rattle.rows.proofs.Soundness.{checked_decides}
use Rattle.plan.specs.Handed.{held_by}
use Rattle.plan.proofs.tables.check_tables.Goals as goal

pub returns-clause-tables_pass_exactly_if_they_are_sound :
    goal.returns-clause-tables_pass_exactly_if_they_are_sound
returns-clause-tables_pass_exactly_if_they_are_sound c =
    checked_decides c.args.handed.counts (held_by c.args.handed.tables) c.map_err.result (search rules)

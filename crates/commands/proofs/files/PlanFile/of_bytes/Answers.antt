use Rattle.std.proofs.Common.{ap, ◌∙◌}
use Rattle.rows.specs.Verdicts.{faultless}
use Rattle.rows.proofs.Soundness.{faultless_from_sound}
use Rattle.commands.proofs.files.PlanFile.of_bytes.Goals as goal

pub invariant_of-result : goal.invariant_of-result
invariant_of-result c =
    record { sound = ap faultless c.cut.ensures ∙ faultless_from_sound _ c.in-Ok.ensures.answer.sound }

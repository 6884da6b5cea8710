use Rattle.std.proofs.Common.{refl}
use Rattle.commands.proofs.sources.Draws+String.load.Goals as goal

pub returns-in_ok-numbers_in-in-Tape : goal.returns-in_ok-numbers_in-in-Tape
returns-in_ok-numbers_in-in-Tape c =
    rw c.in-Tape.is (c.in_ok-numbers_in-in-Tape.field-0, refl)

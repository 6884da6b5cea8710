use Rattle.std.proofs.Common.{◌≤◌, length, map}
use Rattle.describe.specs.Calls.{Asks}
use Rattle.commands.specs.Words.{EachFor}
use Rattle.commands.proofs.replay.calls_for.Given as goal

abbrev pub invariant-loop-line : goal.invariant-loop-line
invariant-loop-line l =
    EachFor Asks (map (λ x. x.now) l.yielded) l.calls.items × (length l.calls.items ≤ 10000)

use Rattle.std.proofs.Common.{◌≤◌, length, map}
use Rattle.describe.specs.Words.{WriteAll}
use Rattle.describe.proofs.identifiers.listed.Given as goal

abbrev pub invariant-loop-part : goal.invariant-loop-part
invariant-loop-part l =
    WriteAll (map (λ x. x.now) l.yielded) l.identifiers.items × (length l.identifiers.items ≤ 1000)

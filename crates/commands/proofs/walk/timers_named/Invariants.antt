use Rattle.std.proofs.Common.{◌≡◌, ℕ, List, map, fold}
use Rattle.commands.specs.Walks.{NamesTimer, with_timer}
use Rattle.commands.specs.Words.{EachFor}
use Rattle.commands.specs.declared.walk.Timers.TheVariants.{Bits}
use Rattle.commands.proofs.walk.timers_named.Given as goal

abbrev pub invariant-loop-word : goal.invariant-loop-word
invariant-loop-word l =
    (numbers : List ℕ) × EachFor NamesTimer (map (λ x. x.now) l.yielded) numbers × (l.timers ≡ fold with_timer (Bits 0) numbers)

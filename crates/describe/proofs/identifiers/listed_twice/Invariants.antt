use Rattle.std.proofs.Common.{◌≡◌, ℕ, ◌<◌, Some}
use Rattle.std.specs.List.{slice_get}
use Rattle.describe.proofs.identifiers.listed_twice.Given as goal

abbrev pub invariant-loop-i : goal.invariant-loop-i
invariant-loop-i l =
    (a b n : ℕ) → a < b → b < l.i → slice_get l.identifiers a ≡ Some n → slice_get l.identifiers b ≡ Some n → ⊥

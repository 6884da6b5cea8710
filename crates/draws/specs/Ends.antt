-- Computed and mixed rows, and recorded ones, are finite or endless.
use Rattle.std.specs.Prelude.{◌≡◌, ℕ, zero, suc, List, [], ◌∷◌, Some, None, refl}
use Rattle.std.proofs.Common.{arith}
use Rattle.draws.specs.Computed.{endless, iterated}
use Rattle.draws.specs.Recorded.{listed, numbers_of, recorded}
use Rattle.draws.specs.Sources.{FiniteOrEndless}

-- a row with a draw at every place is endless
pub always_ends : (draw_at : ℕ → ℕ) → FiniteOrEndless (λ k. Some (draw_at k))
always_ends draw_at j k later none = let s : Some (draw_at j) ≡ None = none in cc

-- at a state there is a draw at every place
pub endless_ends : (h : ℕ) → FiniteOrEndless (endless h)
endless_ends h = always_ends (λ k. iterated (suc k) h)

-- behind the draws of a list there is none
pub listed_ends : (xs : List ℕ) → FiniteOrEndless (listed xs)
listed_ends [] j k later none = refl
listed_ends (x ∷ xs) zero k later none = let s : Some x ≡ None = none in cc
listed_ends (x ∷ xs) (suc j) zero later none = absurd (omega arith)
listed_ends (x ∷ xs) (suc j) (suc k) later none = listed_ends xs j k (omega arith) none

-- and so it is of recorded rows
pub recorded_ends : (n : ℕ) (xs : List ℕ) (row : ℕ) → FiniteOrEndless (recorded xs n row)
recorded_ends n xs row = listed_ends (numbers_of xs n row)

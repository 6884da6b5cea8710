-- The numbers of a list in order, each with its place.
use Rattle.std.specs.Prelude.{◌≡◌, ℕ, ◌+◌, List, Some, map, slice_get}
use Rattle.std.specs.List.{enumerate_from}
use Rattle.std.specs.Ordering.{nat_cmp, ordering_then}
use Rattle.std.specs.declared.cmp.Ordering.{Ordering}

-- the numbers of a list, each with its place
abbrev pub with_places : List ℕ → List (ℕ × ℕ)
with_places numbers = map (λ p. (p.1, p.0)) (enumerate_from 0 numbers)

-- the smaller number comes first, and of equal ones that at the earlier place
abbrev pub by_number_and_place : ℕ × ℕ → ℕ × ℕ → Ordering
by_number_and_place x y = ordering_then (nat_cmp x.0 y.0) (nat_cmp x.1 y.1)

-- two neighbours of a list in order are the same number, and the second has this place
abbrev pub IsAgain : List (ℕ × ℕ) → ℕ → Type 0
IsAgain sorted place = (k : ℕ) × (n : ℕ) × (before : ℕ)
    × (slice_get sorted k ≡ Some (n, before)) × (slice_get sorted (k + 1) ≡ Some (n, place))

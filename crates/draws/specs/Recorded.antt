-- The rows that are recorded on a tape.
use Rattle.std.specs.Prelude.{ℕ, zero, suc, ◌*◌, ◌^◌, ◌<◌, cond, List, [], ◌∷◌, take, drop, Some, None, nat_le, slice_index}
use Rattle.runs.specs.Runs.{Draws}

-- the draws of a list of numbers, in order
abbrev pub listed : List ℕ → Draws
listed [] k = None
listed (x ∷ xs) zero = Some x
listed (x ∷ xs) (suc k) = listed xs k

-- every number of a list has 32 bits
abbrev pub Fit : List ℕ → Type 0
Fit xs = (k : ℕ) → slice_index xs k < 2 ^ 32

-- the numbers of a full row: its length, if that is at most 10,000, else none
abbrev pub kept : ℕ → ℕ
kept n = cond (nat_le n 10000) n 0

-- the numbers of a row: those that follow the full rows before it, as many as a full row has or as there are
abbrev pub numbers_of : List ℕ → ℕ → ℕ → List ℕ
numbers_of xs n row = take (kept n) (drop (row * kept n) xs)

-- the rows of recorded numbers
abbrev pub recorded : List ℕ → ℕ → ℕ → Draws
recorded xs n row = listed (numbers_of xs n row)

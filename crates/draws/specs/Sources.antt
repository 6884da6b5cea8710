-- What drawing means for every source.
use Rattle.std.specs.Prelude.{◌≡◌, ℕ, ◌≤◌, Some, None, Ok, Err, Option, Result}
use Rattle.rows.specs.declared.refusal.Refusal.{Refusal}
use Rattle.rows.specs.Refusals.{refusal_no}
use Rattle.runs.specs.Runs.{Draws, rest_of}

-- a row of draws is finite or endless: after a place with no draw there is none
abbrev pub FiniteOrEndless : Draws → Type 0
FiniteOrEndless draws = (j k : ℕ) → j ≤ k → draws j ≡ None → draws k ≡ None

-- the first draw is given and removed, and where there is none the call is refused with 12 and alters nothing
abbrev pub drawn_first : Option ℕ → Draws → Result ℕ Refusal × Draws
drawn_first None draws = (Err (refusal_no 12), draws)
drawn_first (Some g) draws = (Ok g, rest_of draws)

-- what a draw answers, and the draws to come after it
abbrev pub drawn : Draws → Result ℕ Refusal × Draws
drawn draws = drawn_first (draws 0) draws

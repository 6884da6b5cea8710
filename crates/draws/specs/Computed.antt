-- The rows that are computed from a seed.
use Rattle.std.specs.Prelude.{ℕ, zero, suc, ◌+◌, ◌*◌, ◌%◌, ◌^◌, Some}
use Rattle.runs.specs.Runs.{Draws}
use Rattle.draws.specs.declared.congruential.Congruential.{Congruential}

-- the state after the state h
unfoldable pub after : ℕ → ℕ
after h = (1664525 * h + 1013904223) % 2 ^ 32

-- the state n changes after the state h
abbrev pub iterated : ℕ → ℕ → ℕ
iterated zero h = h
iterated (suc n) h = iterated n (after h)

-- the draws to come at the state h: the states after it, without end
abbrev pub endless : ℕ → Draws
endless h = λ k. Some (iterated (suc k) h)

-- the state at which a row begins
abbrev pub first_state : ℕ → ℕ → ℕ
first_state seed row = (seed + row) % 2 ^ 32

-- the rows of a seed
abbrev pub computed : ℕ → ℕ → Draws
computed seed row = endless (first_state seed row)

-- the rows of a congruential source
abbrev pub book_of : Congruential → ℕ → Draws
book_of c = computed c.seed

-- its draws to come
abbrev pub coming_of : Congruential → Draws
coming_of c = endless c.state

-- The numbers of the ways to stand and of the answers, and the values of an answer.
use Rattle.std.specs.Prelude.{◌≡◌, ℕ, ◌⊎◌, List, [], ◌∷◌}
use Rattle.runs.specs.declared.Answer.{Answer}
use Rattle.runs.specs.declared.Answer.TheVariants.{Taken, Met, RanOut}
use Rattle.runs.specs.declared.Standing.{Standing}
use Rattle.runs.specs.declared.Standing.TheVariants.{Open, Reached, Failed, Stuck}

-- the number of each way to stand
abbrev pub standing_number : Standing → ℕ
standing_number Open = 0
standing_number Reached = 1
standing_number Failed = 2
standing_number Stuck = 3

-- the number of each answer: taken, met, ran out
abbrev pub answer_number : Answer → ℕ
answer_number (Taken change wait outcome) = 0
answer_number (Met wait) = 1
answer_number RanOut = 2

-- the values of an answer: change, wait and outcome; the wait alone if met; none if it ran out
abbrev pub answer_values : Answer → List ℕ
answer_values (Taken change wait outcome) = change ∷ wait ∷ outcome ∷ []
answer_values (Met wait) = wait ∷ []
answer_values RanOut = []

-- what a granted take of a change after a wait answers: taken, with these and an outcome, or met
abbrev pub TakenOrMet : ℕ → ℕ → Answer → Type 0
TakenOrMet change wait a =
    ((answer_number a ≡ 0) × ((outcome : ℕ) × (answer_values a ≡ change ∷ wait ∷ outcome ∷ [])))
    ⊎ ((answer_number a ≡ 1) × (answer_values a ≡ wait ∷ []))

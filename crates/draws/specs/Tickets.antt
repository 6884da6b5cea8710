-- Which draws pick which outcome, and how many do.
use Rattle.std.specs.Prelude.{◌≡◌, ℕ, zero, suc, ◌+◌, ◌-◌, ◌*◌, ◌/◌, ◌^◌, ◌<◌, ◌≤◌, Bool, cond, ◌&&◌, ◌↔◌, List, map, length, take, Some, None, Option, nat_eq, nat_le, slice_index_or}
use Rattle.rows.specs.declared.tables.OutcomeRow.{OutcomeRow}
use Rattle.rows.specs.Plans.{PlanRows}
use Rattle.runs.specs.Plans.{Outcome, blank_outcome, weights}
use Rattle.runs.specs.Runs.{picked}
use Rattle.runs.specs.Tables.{outcome_of_row}
use Rattle.runs.specs.Ticks.{ticket, Picks}

-- the outcomes of some rows of a plan's table
abbrev pub outcomes_in : PlanRows → List OutcomeRow → List Outcome
outcomes_in p rows = map (outcome_of_row p) rows

-- the sum of some weights, if a change may have it: it is from 1 to 65535
abbrev pub allowed : ℕ → Option ℕ
allowed all = cond (nat_le 1 all && nat_le all 65535) (Some all) None

-- the place of the outcome that the draw g picks where the weights sum to an allowed number, and none where they do not
abbrev pub picked_with : List Outcome → ℕ → Option ℕ → Option ℕ
picked_with os g None = None
picked_with os g (Some all) = Some (picked os (ticket g all))

-- the place of the outcome that the draw g picks among some outcomes
abbrev pub pick_by : List Outcome → ℕ → Option ℕ
pick_by os g = picked_with os g (allowed (weights os))

-- the ticket of the draw g among some outcomes
abbrev pub ticket_among : List Outcome → ℕ → ℕ
ticket_among os g = ticket g (weights os)

-- the weight of the outcome at the place n
abbrev pub weight_at : List Outcome → ℕ → ℕ
weight_at os n = (slice_index_or os n blank_outcome).weight

-- what the outcomes before the place n weigh together
abbrev pub weights_before : List Outcome → ℕ → ℕ
weights_before os n = weights (take n os)

-- the ticket t lies in the stretch of the outcome at the place n: as many tickets as it weighs, from the weights before it on
pub record InStretch (os : List Outcome) (n t : ℕ) : Type 0 where
  pub from : weights_before os n ≤ t
  pub until : t < weights_before os n + weight_at os n

-- one outcome is picked, and no other
pub record OneIsPicked (os : List Outcome) (t : ℕ) : Type 0 where
  pub place : ℕ
  pub picks : Picks os t place
  pub no_other : (n : ℕ) → Picks os t n → n ≡ place

-- every draw has a ticket below the sum of the weights, which picks exactly one outcome
abbrev pub EveryDrawPicksOneOutcome : Type 0
EveryDrawPicksOneOutcome =
    (os : List Outcome) (g : ℕ) → 1 ≤ weights os → g < 2 ^ 32 → (ticket_among os g < weights os) × OneIsPicked os (ticket_among os g)

-- a ticket picks an outcome exactly if it lies in the outcome's own stretch
abbrev pub EveryOutcomeHasItsOwnStretch : Type 0
EveryOutcomeHasItsOwnStretch =
    (os : List Outcome) (n t : ℕ) → n < length os → Picks os t n ↔ InStretch os n t

-- a quotient rounded up
abbrev pub rounded_up : ℕ → ℕ → ℕ
rounded_up x m = (x + m - 1) / m

-- the first draw whose ticket is not below the weights before the place n
abbrev pub first_draw : List Outcome → ℕ → ℕ
first_draw os n = rounded_up (weights_before os n * 2 ^ 32) (weights os)

-- how many of the numbers below n pass a test
unfoldable pub number_of : (ℕ → Bool) → ℕ → ℕ
number_of test zero = 0
number_of test (suc n) = cond (test n) (suc (number_of test n)) (number_of test n)

-- how many of the 2^32 draws pick the outcome at the place n
abbrev pub draws_for : List Outcome → ℕ → ℕ
draws_for os n = number_of (λ g. nat_eq (picked os (ticket_among os g)) n) (2 ^ 32)

-- the draws that pick the outcome at the place n, their number, and that it differs by less than one draw from the outcome's share of all draws
pub record FairShare (os : List Outcome) (n : ℕ) : Type 0 where
  pub exactly : (g : ℕ) → Picks os (ticket_among os g) n ↔ ((first_draw os n ≤ g) × (g < first_draw os (suc n)))
  pub number : draws_for os n ≡ first_draw os (suc n) - first_draw os n
  pub not_more : draws_for os n * weights os < weight_at os n * 2 ^ 32 + weights os
  pub not_less : weight_at os n * 2 ^ 32 < draws_for os n * weights os + weights os

-- every outcome is picked by its share of the draws
abbrev pub EveryOutcomeHasItsShareOfDraws : Type 0
EveryOutcomeHasItsShareOfDraws =
    (os : List Outcome) (n : ℕ) → 1 ≤ weights os → n < length os → FairShare os n

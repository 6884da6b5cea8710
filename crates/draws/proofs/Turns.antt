-- The turns of the loops over the rows of outcomes.
use Rattle.std.proofs.Common.{◌≡◌, ℕ, suc, ◌+◌, ◌-◌, ◌^◌, ◌<◌, ◌≤◌, List, length, get_or, drop, Option, Some, None, ap, ◌∙◌, arith, ◌&&◌, leb}
use Rattle.std.proofs.lemmas.List.{at_drop_all, get_or-map, length-map}
use Rattle.std.proofs.lemmas.Bool.Decides.{nat_tests}
use Rattle.std.specs.Prelude.{MatchOption}
use Rattle.rows.specs.declared.tables.OutcomeRow.{OutcomeRow}
use Rattle.rows.specs.Plans.{PlanRows}
use Rattle.rows.specs.Verdicts.{no_outcome}
use Rattle.runs.specs.Plans.{weights}
use Rattle.runs.specs.Runs.{picked}
use Rattle.runs.specs.Tables.{outcome_of_row}
use Rattle.runs.specs.Ticks.{ticket}
use Rattle.runs.proofs.Loops.{weights_more, weights_all, picked_at, picked_after}
use Rattle.runs.proofs.Picking.{picked_nil, picked_picks, ticket_fits}
use Rattle.draws.specs.Tickets.{outcomes_in, allowed, picked_with, pick_by}
use Rattle.std.proofs.lemmas.Bool.{and_right, cond-false, lt-leb, and_left}

pub in_view : (p : PlanRows) (rows : List OutcomeRow) (i : ℕ) → i < length rows → i < length (outcomes_in p rows)
in_view p rows i h = omega (arith, length-map rows (outcome_of_row p))

pub weight_of : (p : PlanRows) (rows : List OutcomeRow) (i : ℕ) → i < length rows → (get_or (outcomes_in p rows) i (outcome_of_row p no_outcome)).weight ≡ (get_or rows i no_outcome).weight
weight_of p rows i h = ap (λ o. o.weight) (get_or-map (outcome_of_row p) rows i no_outcome (outcome_of_row p no_outcome) h)

-- the weights of the outcomes from the place i on
pub weights_turn : (p : PlanRows) (rows : List OutcomeRow) (i : ℕ) → i < length rows → weights (drop i (outcomes_in p rows)) ≡ (get_or rows i no_outcome).weight + weights (drop (i + 1) (outcomes_in p rows))
weights_turn p rows i h =
    weights_more (outcomes_in p rows) i (outcome_of_row p no_outcome) (in_view p rows i h)
    ∙ ap (λ w. w + weights (drop (i + 1) (outcomes_in p rows))) (weight_of p rows i h)

pub weights_end : (p : PlanRows) (rows : List OutcomeRow) (i : ℕ) → length rows ≤ i → weights (drop i (outcomes_in p rows)) ≡ 0
weights_end p rows i h = weights_all (outcomes_in p rows) i (omega (arith, length-map rows (outcome_of_row p)))

-- the ticket falls to the outcome at the place i
pub picked_turn : (p : PlanRows) (rows : List OutcomeRow) (i t : ℕ) → i < length rows → t < (get_or rows i no_outcome).weight → picked (drop i (outcomes_in p rows)) t ≡ 0
picked_turn p rows i t h l =
    picked_at (outcomes_in p rows) i (outcome_of_row p no_outcome) t (in_view p rows i h) (omega (arith, weight_of p rows i h))

-- or is left to those after it
pub passed_turn : (p : PlanRows) (rows : List OutcomeRow) (i t : ℕ) → i < length rows → (get_or rows i no_outcome).weight ≤ t → picked (drop i (outcomes_in p rows)) t ≡ suc (picked (drop (i + 1) (outcomes_in p rows)) (t - (get_or rows i no_outcome).weight))
passed_turn p rows i t h l =
    picked_after (outcomes_in p rows) i (outcome_of_row p no_outcome) t (in_view p rows i h) (omega (arith, weight_of p rows i h))
    ∙ ap (λ w. suc (picked (drop (i + 1) (outcomes_in p rows)) (t - w))) (weight_of p rows i h)

pub picked_end : (p : PlanRows) (rows : List OutcomeRow) (i t : ℕ) → length rows ≤ i → picked (drop i (outcomes_in p rows)) t ≡ 0
picked_end p rows i t h =
    at_drop_all (λ os. picked os t) (outcomes_in p rows) i (omega (arith, length-map rows (outcome_of_row p))) ∙ picked_nil t

-- a sum from 1 to 65535 is allowed
pub allowed_sum : (all : ℕ) → 1 ≤ all → all ≤ 65535 → allowed all ≡ Some all
allowed_sum all some few = grind (arith, nat_tests)

-- an allowed sum is the sum, and there is some weight
pub sum_allowed : (all sum : ℕ) → Some sum ≡ allowed all → (all ≡ sum) × (1 ≤ all)
sum_allowed all sum e = grind (arith, nat_tests)

-- where the sum is allowed, a draw picks an outcome: the place that was found, if one was
pub picked_whole : (p : PlanRows) (rows : List OutcomeRow) (g sum t : ℕ) (found : Option ℕ) → g < 2 ^ 32 → Some sum ≡ allowed (weights (outcomes_in p rows)) → t ≡ ticket g sum → MatchOption found (picked (outcomes_in p rows) t ≡ length rows) (λ n. n ≡ picked (outcomes_in p rows) t) → found ≡ pick_by (outcomes_in p rows) g
picked_whole p rows g sum t (Some n) h e is k =
    ap Some (k ∙ ap (picked (outcomes_in p rows)) is) ∙ ap (picked_with (outcomes_in p rows) g) e
picked_whole p rows g sum t None h e is k =
    let s : (weights (outcomes_in p rows) ≡ sum) × (1 ≤ weights (outcomes_in p rows)) = sum_allowed (weights (outcomes_in p rows)) sum e in
    let below : t < weights (outcomes_in p rows) = omega (arith, ticket_fits g sum h (omega arith)) in
    absurd (omega (arith, (picked_picks (outcomes_in p rows) t below).an_outcome, length-map rows (outcome_of_row p)))

-- no weight at all is not, and more is not either
pub no_weight : (all : ℕ) → all ≡ 0 → allowed all ≡ None
no_weight all none =
    cond-false (leb 1 all && leb all 65535) (Some all) None (and_left (leb 1 all) (leb all 65535) (lt-leb 1 all (omega arith)))

pub too_heavy : (all : ℕ) → 65535 < all → allowed all ≡ None
too_heavy all many =
    cond-false (leb 1 all && leb all 65535) (Some all) None (and_right (leb 1 all) (leb all 65535) (lt-leb all 65535 many))

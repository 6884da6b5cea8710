-- Which draws pick an outcome, and how many do.
use Rattle.std.proofs.Common.{◌≡◌, ℕ, zero, suc, ◌+◌, ◌-◌, ◌*◌, ◌^◌, ◌<◌, ◌≤◌, min, Bool, true, false, eqb, ◌⊎◌, List, [], ◌∷◌, length, take, ap, ◌∙◌, subst, inl, inr, div-lt_iff_lt-mul, add-mul, le-div_iff_mul-le, div-mul-le_self, arith}
use Rattle.std.proofs.lemmas.List.{take-take}
use Rattle.std.proofs.lemmas.Bool.{cases_lt, cond-true, cond-false, eq-eqb, ne_eqb}
use Rattle.runs.specs.Plans.{Outcome, weights}
use Rattle.runs.specs.Runs.{picked}
use Rattle.runs.specs.Ticks.{Picks}
use Rattle.runs.proofs.Plans.{weights_nil, weights_cons}
use Rattle.runs.proofs.Picking.{weights_take, one_pick, picked_picks, picks_picked, ticket_fits}
use Rattle.draws.specs.Tickets.{ticket_among, weight_at, weights_before, InStretch, EveryDrawPicksOneOutcome, EveryOutcomeHasItsOwnStretch, rounded_up, first_draw, number_of, draws_for, EveryOutcomeHasItsShareOfDraws}

pub every_draw_picks_one_outcome : EveryDrawPicksOneOutcome
every_draw_picks_one_outcome os g some h =
    let fits : ticket_among os g < weights os = ticket_fits g (weights os) h some in
    let here : Picks os (ticket_among os g) (picked os (ticket_among os g)) = picked_picks os (ticket_among os g) fits in
    (fits, record { place = picked os (ticket_among os g); picks = here; no_other = λ n other. one_pick os (ticket_among os g) n (picked os (ticket_among os g)) other here })

-- the weights before the next place
pub weights_next : (os : List Outcome) (n : ℕ) → n < length os → weights_before os (suc n) ≡ weights_before os n + weight_at os n
weights_next [] n h = absurd (omega arith)
weights_next (o ∷ os) zero h = omega (arith, weights_cons o (take 0 os), weights_nil)
weights_next (o ∷ os) (suc n) h =
    omega (arith, weights_cons o (take (suc n) os), weights_cons o (take n os), weights_next os n (omega arith))

pub weights_grow : (os : List Outcome) (j n : ℕ) → j ≤ n → weights_before os j ≤ weights_before os n
weights_grow os j n h = omega (arith, weights_take j (take n os), ap weights (take-take j n os h))

pub stretch_of_pick : (os : List Outcome) (n t : ℕ) → Picks os t n → InStretch os n t
stretch_of_pick os zero t h =
    record { from = omega (arith, weights_nil); until = omega (arith, weights_next os zero h.an_outcome, h.exceeds) }
stretch_of_pick os (suc n) t h =
    record { from = h.first n (omega arith); until = omega (arith, weights_next os (suc n) h.an_outcome, h.exceeds) }

pub pick_of_stretch : (os : List Outcome) (n t : ℕ) → n < length os → InStretch os n t → Picks os t n
pick_of_stretch os n t h s =
    record { an_outcome = h; exceeds = omega (arith, weights_next os n h, s.until); first = λ j l. omega (arith, weights_grow os (suc j) n (omega arith), s.from) }

pub every_outcome_has_its_own_stretch : EveryOutcomeHasItsOwnStretch
every_outcome_has_its_own_stretch os n t h = (stretch_of_pick os n t, pick_of_stretch os n t h)

-- a quotient rounded up is at most g exactly if g times the divisor is at least the dividend
pub up_le : (x m g : ℕ) → 1 ≤ m → rounded_up x m ≤ g → x ≤ g * m
up_le x m g some h =
    let below : x + m - 1 < suc g * m = (div-lt_iff_lt-mul {k = m} {x = x + m - 1} {y = suc g} some).0 (omega arith) in
    omega (arith, add-mul g 1 m)

pub le_up : (x m g : ℕ) → 1 ≤ m → x ≤ g * m → rounded_up x m ≤ g
le_up x m g some h =
    let next : suc g * m ≡ g * m + m = omega (arith, add-mul g 1 m) in
    let below : rounded_up x m < suc g = (div-lt_iff_lt-mul {k = m} {x = x + m - 1} {y = suc g} some).1 (omega arith) in
    omega arith

-- the ticket of the draw g is at least the weights before the place n exactly if g is at least the first draw of that place
pub from_first : (os : List Outcome) (n g : ℕ) → 1 ≤ weights os → first_draw os n ≤ g → weights_before os n ≤ ticket_among os g
from_first os n g some h =
    (le-div_iff_mul-le {k = 2 ^ 32} {x = weights_before os n} {y = g * weights os} (omega arith)).1 (up_le (weights_before os n * 2 ^ 32) (weights os) g some h)

pub first_from : (os : List Outcome) (n g : ℕ) → 1 ≤ weights os → weights_before os n ≤ ticket_among os g → first_draw os n ≤ g
first_from os n g some h =
    le_up (weights_before os n * 2 ^ 32) (weights os) g some ((le-div_iff_mul-le {k = 2 ^ 32} {x = weights_before os n} {y = g * weights os} (omega arith)).0 h)

-- the draws that pick the outcome at the place n
abbrev DrawnFor : List Outcome → ℕ → ℕ → Type 0
DrawnFor os n g = (first_draw os n ≤ g) × (g < first_draw os (suc n))

pub draws_of_pick : (os : List Outcome) (n g : ℕ) → 1 ≤ weights os → n < length os → Picks os (ticket_among os g) n → DrawnFor os n g
draws_of_pick os n g some h k = (first_from os n g some s.from, go (cases_lt g (first_draw os (suc n))))
  where
    s : InStretch os n (ticket_among os g)
    s = stretch_of_pick os n (ticket_among os g) k

    go : (g < first_draw os (suc n)) ⊎ (first_draw os (suc n) ≤ g) → g < first_draw os (suc n)
    go (inl l) = l
    go (inr l) = absurd (omega (arith, from_first os (suc n) g some l, weights_next os n h, s.until))

pub pick_of_draws : (os : List Outcome) (n g : ℕ) → 1 ≤ weights os → n < length os → DrawnFor os n g → Picks os (ticket_among os g) n
pick_of_draws os n g some h k =
    pick_of_stretch os n (ticket_among os g) h (record { from = from_first os n g some k.0; until = go (cases_lt (ticket_among os g) (weights_before os n + weight_at os n)) })
  where
    go : (ticket_among os g < weights_before os n + weight_at os n) ⊎ (weights_before os n + weight_at os n ≤ ticket_among os g) → ticket_among os g < weights_before os n + weight_at os n
    go (inl l) = l
    go (inr l) =
        let more : weights_before os (suc n) ≤ ticket_among os g = omega (arith, weights_next os n h) in
        absurd (omega (arith, first_from os (suc n) g some more, k.1))

-- how many numbers pass a test that only the numbers of one stretch pass
pub number_between : (test : ℕ → Bool) (lo hi n : ℕ) → lo ≤ hi → ((g : ℕ) → g < n → lo ≤ g → g < hi → test g ≡ true) → ((g : ℕ) → g < n → (lo ≤ g → g < hi → ⊥) → test g ≡ false) → number_of test n ≡ min hi n - min lo n
unfolding number_of
number_between test lo hi zero o yes_in no_out = omega arith
number_between test lo hi (suc n) o yes_in no_out =
    go (number_between test lo hi n o (λ g l. yes_in g (omega arith)) (λ g l. no_out g (omega arith))) (cases_lt n lo) (cases_lt n hi)
  where
    passed : test n ≡ true → number_of test (suc n) ≡ suc (number_of test n)
    passed e = cond-true (test n) (suc (number_of test n)) (number_of test n) e

    failed : test n ≡ false → number_of test (suc n) ≡ number_of test n
    failed e = cond-false (test n) (suc (number_of test n)) (number_of test n) e

    go : number_of test n ≡ min hi n - min lo n → (n < lo) ⊎ (lo ≤ n) → (n < hi) ⊎ (hi ≤ n) → number_of test (suc n) ≡ min hi (suc n) - min lo (suc n)
    go rest (inl l) _ = omega (arith, failed (no_out n (omega arith) (λ a b. omega arith)))
    go rest (inr l) (inl k) = omega (arith, passed (yes_in n (omega arith) l k))
    go rest (inr l) (inr k) = omega (arith, failed (no_out n (omega arith) (λ a b. omega arith)))

-- the first draw of a place, times all the weights, is the weights before the place out of 2^32, rounded up to a multiple of all
pub first_least : (os : List Outcome) (n : ℕ) → 1 ≤ weights os → weights_before os n * 2 ^ 32 ≤ first_draw os n * weights os
first_least os n some = up_le (weights_before os n * 2 ^ 32) (weights os) (first_draw os n) some (omega arith)

pub first_most : (os : List Outcome) (n : ℕ) → 1 ≤ weights os → first_draw os n * weights os < weights_before os n * 2 ^ 32 + weights os
first_most os n some = omega (arith, div-mul-le_self (weights_before os n * 2 ^ 32 + weights os - 1) (weights os))

pub first_grows : (os : List Outcome) (n : ℕ) → 1 ≤ weights os → first_draw os n ≤ first_draw os (suc n)
first_grows os n some =
    le_up (weights_before os n * 2 ^ 32) (weights os) (first_draw os (suc n)) some (omega (arith, first_least os (suc n) some, weights_grow os n (suc n) (omega arith)))

pub first_within : (os : List Outcome) (n : ℕ) → 1 ≤ weights os → first_draw os n ≤ 2 ^ 32
first_within os n some =
    le_up (weights_before os n * 2 ^ 32) (weights os) (2 ^ 32) some (omega (arith, weights_take n os))

pub number_of_draws : (os : List Outcome) (n : ℕ) → 1 ≤ weights os → n < length os → draws_for os n ≡ first_draw os (suc n) - first_draw os n
number_of_draws os n some h =
    let e : draws_for os n ≡ min (first_draw os (suc n)) (2 ^ 32) - min (first_draw os n) (2 ^ 32) = number_between (λ g. eqb (picked os (ticket_among os g)) n) (first_draw os n) (first_draw os (suc n)) (2 ^ 32) (first_grows os n some) yes_in no_out in
    omega (arith, first_within os n some, first_within os (suc n) some)
  where
    yes_in : (g : ℕ) → g < 2 ^ 32 → first_draw os n ≤ g → g < first_draw os (suc n) → eqb (picked os (ticket_among os g)) n ≡ true
    yes_in g l a b =
        eq-eqb (picked os (ticket_among os g)) n (picks_picked os (ticket_among os g) n (pick_of_draws os n g some h (a, b)))

    no_out : (g : ℕ) → g < 2 ^ 32 → (first_draw os n ≤ g → g < first_draw os (suc n) → ⊥) → eqb (picked os (ticket_among os g)) n ≡ false
    no_out g l out = ne_eqb (picked os (ticket_among os g)) n other
      where
        other : picked os (ticket_among os g) ≡ n → ⊥
        other e =
            let k : DrawnFor os n g = draws_of_pick os n g some h (subst (Picks os (ticket_among os g)) e (picked_picks os (ticket_among os g) (ticket_fits g (weights os) l some))) in
            out k.0 k.1

-- the first draw of the next place, times all the weights
pub first_next : (os : List Outcome) (n : ℕ) → 1 ≤ weights os → n < length os → first_draw os (suc n) * weights os ≡ first_draw os n * weights os + draws_for os n * weights os
first_next os n some h =
    let e : first_draw os (suc n) ≡ first_draw os n + draws_for os n = omega (arith, number_of_draws os n some h, first_grows os n some) in
    ap (λ z. z * weights os) e ∙ add-mul (first_draw os n) (draws_for os n) (weights os)

pub every_outcome_has_its_share_of_draws : EveryOutcomeHasItsShareOfDraws
every_outcome_has_its_share_of_draws os n some h =
    record { exactly = λ g. (draws_of_pick os n g some h, pick_of_draws os n g some h); number = number_of_draws os n some h; not_more = omega (arith, first_next os n some h, first_least os n some, first_most os (suc n) some, weights_next os n h); not_less = omega (arith, first_next os n some h, first_most os n some, first_least os (suc n) some, weights_next os n h) }

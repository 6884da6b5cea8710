-- A ticket picks one outcome.
use Rattle.std.proofs.Common.{◌≡◌, ℕ, zero, suc, ◌-◌, ◌^◌, ◌<◌, ◌≤◌, cond, ltb, ◌⊎◌, List, [], ◌∷◌, length, take, sym, refl, ◌∙◌, subst, inl, inr, mul-le-mul_right, arith}
use Rattle.std.specs.List.{AllByRecursion}
use Rattle.std.proofs.lemmas.Bool.{cases_lt, cases_order, cond-true, cond-false, lt-ltb, le-ltb}
use Rattle.runs.specs.Plans.{Plan, Outcome, SoundPlanOutcome, weights}
use Rattle.runs.specs.Ticks.{ticket, Picks}
use Rattle.runs.specs.Runs.{picked}
use Rattle.runs.proofs.Plans.{weights_nil, weights_cons}

pub picked_nil : (t : ℕ) → picked [] t ≡ 0
unfolding picked
picked_nil t = refl

pub picked_cons : (o : Outcome) (os : List Outcome) (t : ℕ) → picked (o ∷ os) t ≡ cond (ltb t o.weight) 0 (suc (picked os (t - o.weight)))
unfolding picked
picked_cons o os t = refl

pub picked_here : (o : Outcome) (os : List Outcome) (t : ℕ) → t < o.weight → picked (o ∷ os) t ≡ 0
picked_here o os t h =
    picked_cons o os t ∙ cond-true (ltb t o.weight) 0 (suc (picked os (t - o.weight))) (lt-ltb t o.weight h)

pub picked_later : (o : Outcome) (os : List Outcome) (t : ℕ) → o.weight ≤ t → picked (o ∷ os) t ≡ suc (picked os (t - o.weight))
picked_later o os t h =
    picked_cons o os t ∙ cond-false (ltb t o.weight) 0 (suc (picked os (t - o.weight))) (le-ltb t o.weight h)

-- some of the outcomes weigh no more than all
pub weights_take : (n : ℕ) (os : List Outcome) → weights (take n os) ≤ weights os
weights_take zero os = omega (arith, weights_nil)
weights_take (suc n) [] = omega arith
weights_take (suc n) (o ∷ os) = omega (arith, weights_cons o os, weights_cons o (take n os), weights_take n os)

-- a ticket picks one outcome at the most
pub one_pick : (os : List Outcome) (t n m : ℕ) → Picks os t n → Picks os t m → n ≡ m
one_pick os t n m a b = go (cases_order n m)
  where
    go : (n ≡ m) ⊎ ((n < m) ⊎ (m < n)) → n ≡ m
    go (inl e) = e
    go (inr (inl l)) = absurd (omega (arith, a.exceeds, b.first n l))
    go (inr (inr l)) = absurd (omega (arith, b.exceeds, a.first m l))

-- and a ticket below all the weights picks one
pub picked_picks : (os : List Outcome) (t : ℕ) → t < weights os → Picks os t (picked os t)
picked_picks [] t h = absurd (omega (arith, weights_nil))
picked_picks (o ∷ os) t h = go (cases_lt t o.weight) (picked_picks os (t - o.weight))
  where
    go : (t < o.weight) ⊎ (o.weight ≤ t) → (t - o.weight < weights os → Picks os (t - o.weight) (picked os (t - o.weight))) → Picks (o ∷ os) t (picked (o ∷ os) t)
    go (inl l) f =
        subst (Picks (o ∷ os) t) (sym (picked_here o os t l)) (record { an_outcome = omega arith; exceeds = omega (arith, weights_cons o (take 0 os)); first = λ j k. absurd (omega arith) })
    go (inr l) f =
        subst (Picks (o ∷ os) t) (sym (picked_later o os t l)) (record { an_outcome = omega (arith, w.an_outcome); exceeds = omega (arith, weights_cons o (take (suc (picked os (t - o.weight))) os), w.exceeds); first = before })
      where
        w : Picks os (t - o.weight) (picked os (t - o.weight))
        w = f (omega (arith, weights_cons o os))

        before : (j : ℕ) → j < suc (picked os (t - o.weight)) → weights (take (suc j) (o ∷ os)) ≤ t
        before zero k = omega (arith, weights_cons o (take 0 os), weights_nil)
        before (suc j) k = omega (arith, weights_cons o (take (suc j) os), w.first j (omega arith))

pub picks_picked : (os : List Outcome) (t n : ℕ) → Picks os t n → picked os t ≡ n
picks_picked os t n h =
    one_pick os t (picked os t) n (picked_picks os t (omega (arith, h.exceeds, weights_take (suc n) os))) h

-- the ticket of a draw is below all the weights
pub ticket_fits : (g all : ℕ) → g < 2 ^ 32 → 1 ≤ all → ticket g all < all
ticket_fits g all h k =
    let a : g ≤ 4294967295 = omega arith in omega (arith, mul-le-mul_right all a)

-- outcomes that can all come weigh something
pub some_weight : (plan : Plan) (os : List Outcome) → 1 ≤ length os → AllByRecursion (SoundPlanOutcome plan) os → 1 ≤ weights os
some_weight plan [] l h = absurd (omega arith)
some_weight plan (o ∷ os) l h = omega (arith, weights_cons o os, h.0.can_come)

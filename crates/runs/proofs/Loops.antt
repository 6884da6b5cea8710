-- The steps of loops over outcomes and changes.
use Rattle.std.proofs.Common.{◌≡◌, ℕ, suc, ◌+◌, ◌-◌, ◌<◌, ◌≤◌, true, false, List, [], ◌∷◌, length, get_or, drop, ap, ◌∙◌, arith, ◌⊎◌, inl, inr}
use Rattle.std.proofs.lemmas.List.{at_drop_more, at_drop_all}
use Rattle.theory.specs.Records.{Record}
use Rattle.runs.specs.Plans.{Change, Outcome, weights}
use Rattle.runs.specs.Runs.{any_in, guard_span, offer_of, offers_from, picked}
use Rattle.runs.proofs.Plans.{weights_nil, weights_cons}
use Rattle.runs.proofs.Picking.{picked_here, picked_later}
use Rattle.runs.proofs.Offered.{offers_from_nil, offers_from_some, offers_from_none}
use Rattle.std.proofs.lemmas.Bool.{cases_Bool}

pub weights_more : (os : List Outcome) (i : ℕ) (o : Outcome) → i < length os → weights (drop i os) ≡ (get_or os i o).weight + weights (drop (i + 1) os)
weights_more os i o h = at_drop_more weights os i o h ∙ weights_cons (get_or os i o) (drop (i + 1) os)

pub weights_all : (os : List Outcome) (i : ℕ) → length os ≤ i → weights (drop i os) ≡ 0
weights_all os i h = at_drop_all weights os i h ∙ weights_nil

-- the ticket falls to the outcome i, or is left to those after it
pub picked_at : (os : List Outcome) (i : ℕ) (o : Outcome) (t : ℕ) → i < length os → t < (get_or os i o).weight → picked (drop i os) t ≡ 0
picked_at os i o t h l =
    at_drop_more (λ x. picked x t) os i o h ∙ picked_here (get_or os i o) (drop (i + 1) os) t l

pub picked_after : (os : List Outcome) (i : ℕ) (o : Outcome) (t : ℕ) → i < length os → (get_or os i o).weight ≤ t → picked (drop i os) t ≡ suc (picked (drop (i + 1) os) (t - (get_or os i o).weight))
picked_after os i o t h l =
    at_drop_more (λ x. picked x t) os i o h ∙ picked_later (get_or os i o) (drop (i + 1) os) t l

-- the change i is offered, or passed over
pub offers_from_more_some : (r : Record) (last c : ℕ) (xs : List Change) (i : ℕ) (x : Change) → i < length xs → any_in (guard_span r last (get_or xs i x).guard) ≡ true → offers_from r last (c + i) (drop i xs) ≡ offer_of (c + i) (guard_span r last (get_or xs i x).guard) ∷ offers_from r last (c + (i + 1)) (drop (i + 1) xs)
offers_from_more_some r last c xs i x h e =
    at_drop_more (offers_from r last (c + i)) xs i x h ∙ (offers_from_some r last (c + i) (get_or xs i x) (drop (i + 1) xs) e ∙ ap (λ z. offer_of (c + i) (guard_span r last (get_or xs i x).guard) ∷ offers_from r last z (drop (i + 1) xs)) n)
  where
    n : suc (c + i) ≡ c + (i + 1)
    n = omega arith

pub offers_from_more_none : (r : Record) (last c : ℕ) (xs : List Change) (i : ℕ) (x : Change) → i < length xs → any_in (guard_span r last (get_or xs i x).guard) ≡ false → offers_from r last (c + i) (drop i xs) ≡ offers_from r last (c + (i + 1)) (drop (i + 1) xs)
offers_from_more_none r last c xs i x h e =
    at_drop_more (offers_from r last (c + i)) xs i x h ∙ (offers_from_none r last (c + i) (get_or xs i x) (drop (i + 1) xs) e ∙ ap (λ z. offers_from r last z (drop (i + 1) xs)) n)
  where
    n : suc (c + i) ≡ c + (i + 1)
    n = omega arith

pub offers_from_all : (r : Record) (last c : ℕ) (xs : List Change) (i : ℕ) → length xs ≤ i → offers_from r last (c + i) (drop i xs) ≡ []
offers_from_all r last c xs i h =
    at_drop_all (offers_from r last (c + i)) xs i h ∙ offers_from_nil r last (c + i)

-- there are no more offers than changes
pub offers_few : (r : Record) (last c : ℕ) (xs : List Change) → length (offers_from r last c xs) ≤ length xs
offers_few r last c [] = omega (arith, ap length (offers_from_nil r last c))
offers_few r last c (x ∷ xs) = go (cases_Bool (any_in (guard_span r last x.guard))) (offers_few r last (suc c) xs)
  where
    go : (any_in (guard_span r last x.guard) ≡ true) ⊎ (any_in (guard_span r last x.guard) ≡ false) → length (offers_from r last (suc c) xs) ≤ length xs → length (offers_from r last c (x ∷ xs)) ≤ length (x ∷ xs)
    go (inl e) l = omega (arith, ap length (offers_from_some r last c x xs e))
    go (inr e) l = omega (arith, ap length (offers_from_none r last c x xs e))

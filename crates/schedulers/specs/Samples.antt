-- A hash of 32 bits chooses a place in every list and a wait in every offer.
use Rattle.std.specs.Prelude.{◌≡◌, ℕ, ◌+◌, ◌-◌, ◌*◌, ◌^◌, ◌<◌, ◌≤◌, List, [], ◌∷◌, length, fold, bit_xor}
use Rattle.std.proofs.Common.{mod-lt, mul-zero, arith}
use Rattle.std.proofs.ByRecursion.{All-get_or}
use Rattle.std.specs.List.{AllByRecursion}
use Rattle.theory.specs.Records.{Record}
use Rattle.runs.specs.declared.Offer.{Offer}
use Rattle.runs.specs.Runs.{InRange, blank_offer}
use Rattle.runs.specs.Ticks.{ticket}
use Rattle.runs.proofs.Picking.{ticket_fits}
use Rattle.draws.specs.Computed.{after}
use Rattle.draws.specs.Fits.{after_fits}
use Rattle.schedulers.specs.Hashes.{fnv, mixed, sample_bytes}
use Rattle.schedulers.specs.Meanings.{hashed, offer_at, sampled_by, wait_in}

folded_small : (h : ℕ) (bytes : List ℕ) → h < 2 ^ 32 → fold mixed h bytes < 2 ^ 32
folded_small h [] small = small
folded_small h (b ∷ bytes) small = folded_small (mixed h b) bytes (mod-lt (bit_xor h b * 16777619) (omega arith))

pub fnv_small : (bytes : List ℕ) → fnv bytes < 2 ^ 32
fnv_small bytes = folded_small 2166136261 bytes (omega arith)

-- without an offer the choice is the first place and no wait
pub hashed_none : (h : ℕ) → hashed h [] ≡ (0, 0)
hashed_none h =
    let place : ticket h 0 ≡ 0 = omega (arith, mul-zero h) in
    let wait : wait_in blank_offer h ≡ 0 = omega (arith, ticket_fits (after h) 1 (after_fits h) (omega arith)) in
    λ i. (place i, wait_at (ticket h 0) i)
  where
    wait_at : (k : ℕ) → wait_in (offer_at [] k) h ≡ 0
    wait_at k = omega (arith, ticket_fits (after h) 1 (after_fits h) (omega arith))

pub hashed_within : (h : ℕ) (os : List Offer) → h < 2 ^ 32 → 1 ≤ length os → AllByRecursion (λ o. o.lowest ≤ o.highest) os → ((hashed h os).0 < length os) × ((offer_at os (hashed h os).0).lowest ≤ (hashed h os).1) × ((hashed h os).1 ≤ (offer_at os (hashed h os).0).highest)
hashed_within h os small some ordered =
    let place = ticket_fits h (length os) small some in
    let o : Offer = offer_at os (ticket h (length os)) in
    let order = All-get_or (λ (x : Offer). x.lowest ≤ x.highest) os (ticket h (length os)) blank_offer place ordered in
    let part = ticket_fits (after h) (o.highest - o.lowest + 1) (after_fits h) (omega arith) in
    (place, omega arith, omega arith)

pub sampled_in_range : (id : ℕ) → InRange (sampled_by id)
sampled_in_range id i r os some ordered = hashed_within (fnv (sample_bytes id i r)) os (fnv_small (sample_bytes id i r)) some ordered

pub sampled_none : (id i : ℕ) (r : Record) → sampled_by id i r [] ≡ (0, 0)
sampled_none id i r = hashed_none (fnv (sample_bytes id i r))

-- What the three schedulers mean: from a stage, a record and the offers to a place and a wait.
use Rattle.std.specs.Prelude.{ℕ, ◌+◌, ◌-◌, Bool, List, length, nat_lt, slice_index_or}
use Rattle.runs.specs.declared.Offer.{Offer}
use Rattle.runs.specs.Runs.{Scheduler, blank_offer}
use Rattle.runs.specs.Ticks.{ticket}
use Rattle.draws.specs.Computed.{after}
use Rattle.schedulers.specs.Foremost.{foremost_of}
use Rattle.schedulers.specs.Hashes.{fnv, sample_bytes}

-- the offer at a place
abbrev pub offer_at : List Offer → ℕ → Offer
offer_at os i = slice_index_or os i blank_offer

-- one offer can come before another
abbrev pub comes_before : Offer → Offer → Bool
comes_before a b = nat_lt a.lowest b.lowest

-- one offer can come after another
abbrev pub comes_after : Offer → Offer → Bool
comes_after a b = nat_lt b.highest a.highest

-- the least lowest wait, with its offer, the first of equals
abbrev pub earliest : Scheduler
earliest i r os = (foremost_of comes_before os, (offer_at os (foremost_of comes_before os)).lowest)

-- the greatest highest wait, with its offer, the first of equals
abbrev pub latest : Scheduler
latest i r os = (foremost_of comes_after os, (offer_at os (foremost_of comes_after os)).highest)

-- the wait within an offer that a hash chooses: the number after it in the computed sequence is drawn, and its ticket among the waits of the offer is counted from the lowest on
abbrev pub wait_in : Offer → ℕ → ℕ
wait_in o h = o.lowest + ticket (after h) (o.highest - o.lowest + 1)

-- the choice of a hash: its ticket, as that of a draw, among the offers is the place, and then it chooses a wait within that offer
abbrev pub hashed : ℕ → List Offer → ℕ × ℕ
hashed h os = (ticket h (length os), wait_in (offer_at os (ticket h (length os))) h)

-- the sampled scheduler of an identifier: it chooses by the hash of the identifier, the stage and the record
abbrev pub sampled_by : ℕ → Scheduler
sampled_by id i r os = hashed (fnv (sample_bytes id i r)) os

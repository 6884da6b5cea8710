-- Every draw of computed, mixed and recorded rows has 32 bits.
use Rattle.std.specs.Prelude.{◌≡◌, ℕ, zero, suc, ◌+◌, ◌*◌, ◌^◌, ◌<◌, ◌≤◌, ◌⊎◌, List, [], ◌∷◌, take, drop, slice_index}
use Rattle.std.proofs.Common.{inl, inr, arith}
use Rattle.std.proofs.lemmas.List.{get_or-drop, get_or_past, get_or-take, length-take}
use Rattle.std.proofs.lemmas.Bool.{cases_lt}
use Rattle.runs.specs.Telling.{DrawsFit}
use Rattle.draws.specs.Computed.{after, iterated, endless}
use Rattle.draws.specs.Mixed.{draw_of, stream, words_after}
use Rattle.draws.specs.Recorded.{listed, kept, recorded, Fit}

-- every state but a first has 32 bits
pub after_fits : (h : ℕ) → after h < 2 ^ 32
unfolding after
after_fits h = omega arith

-- so has every later one
pub iterated_fits : (k h : ℕ) → iterated (suc k) h < 2 ^ 32
iterated_fits zero h = after_fits h
iterated_fits (suc k) h = iterated_fits k (after h)

-- so has every draw to come at a state
pub endless_fit : (h : ℕ) → DrawsFit (endless h)
endless_fit h k g e = let s : iterated (suc k) h ≡ g = cc in omega (arith, iterated_fits k h)

-- the draw of any words has 32 bits
pub draw_of_fits : (words : List ℕ) → draw_of words < 2 ^ 32
unfolding draw_of
draw_of_fits words = omega arith

-- so has every draw to come at them
pub stream_fits : (words : List ℕ) → DrawsFit (stream words)
stream_fits words k g e =
    let s : draw_of (words_after k words) ≡ g = cc in omega (arith, draw_of_fits (words_after k words))

-- so has every draw of a list of numbers that have
pub listed_fit : (xs : List ℕ) → Fit xs → DrawsFit (listed xs)
listed_fit [] f k g e = absurd (let z : ◌≡◌ {A = ℕ} 0 1 = cc in omega arith)
listed_fit (x ∷ xs) f zero g e = let s : x ≡ g = cc in omega (arith, f 0)
listed_fit (x ∷ xs) f (suc k) g e = listed_fit xs (λ j. f (suc j)) k g e

-- and so have the numbers of a part of such a list
pub part_fits : (n first : ℕ) (xs : List ℕ) → Fit xs → Fit (take n (drop first xs))
part_fits n first xs f k = go (cases_lt k n)
  where
    go : (k < n) ⊎ (n ≤ k) → slice_index (take n (drop first xs)) k < 2 ^ 32
    go (inl l) = omega (arith, get_or-take n (drop first xs) k 0 l, get_or-drop first xs k 0, f (first + k))
    go (inr l) = omega (arith, get_or_past (take n (drop first xs)) k 0 (omega (arith, length-take n (drop first xs))))

-- so has every draw of the rows of such a list
pub recorded_fit : (n : ℕ) (xs : List ℕ) → Fit xs → (row : ℕ) → DrawsFit (recorded xs n row)
recorded_fit n xs f row = listed_fit (take (kept n) (drop (row * kept n) xs)) (part_fits (kept n) (row * kept n) xs f)

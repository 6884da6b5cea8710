-- The rows that are mixed from a seed.
use Rattle.std.specs.Prelude.{◌≡◌, ℕ, zero, suc, ◌+◌, ◌*◌, ◌^◌, ◌<◌, List, Some}
use Rattle.rand_xoshiro.specs.SplitMix64.{splitmix_seed}
use Rattle.rand_xoshiro.specs.Xoshiro128.{of_seed, plus_plus}
use Rattle.runs.specs.Runs.{Draws}
use Rattle.draws.specs.declared.mixed.Mixed.{Mixed}

-- the number from which a row of a seed is begun
abbrev pub number_of_row : ℕ → ℕ → ℕ
number_of_row seed row = seed * 2 ^ 32 + row

-- no two rows, of one seed or of two, are begun from the same number
abbrev pub EachRowHasItsOwnNumber : Type 0
EachRowHasItsOwnNumber =
    (seed row seed' row' : ℕ) → row < 2 ^ 32 → row' < 2 ^ 32 → number_of_row seed row ≡ number_of_row seed' row' → (seed ≡ seed') × (row ≡ row')

-- the words of the generator at which a row begins, spread from its number
unfoldable pub first_words : ℕ → ℕ → List ℕ
first_words seed row = of_seed (splitmix_seed 16 (number_of_row seed row))

-- the words after these
unfoldable pub next_words : List ℕ → List ℕ
next_words words = (plus_plus words).1

-- the draw that the words give
unfoldable pub draw_of : List ℕ → ℕ
draw_of words = (plus_plus words).0

-- the words n draws later
abbrev pub words_after : ℕ → List ℕ → List ℕ
words_after zero words = words
words_after (suc n) words = words_after n (next_words words)

-- the draw that comes n draws after these words
abbrev pub draws_from : List ℕ → ℕ → ℕ
draws_from words n = draw_of (words_after n words)

-- the draws to come at these words: one after the other, without end
abbrev pub stream : List ℕ → Draws
stream words = λ k. Some (draws_from words k)

-- the rows of a seed
abbrev pub mixed_rows : ℕ → ℕ → Draws
mixed_rows seed row = stream (first_words seed row)

-- the rows of a mixed source
abbrev pub book_of : Mixed → ℕ → Draws
book_of m = mixed_rows m.seed

-- its draws to come
abbrev pub coming_of : Mixed → Draws
coming_of m = stream m.words

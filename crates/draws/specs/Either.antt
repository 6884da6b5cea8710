-- What a source of any kind holds.
use Rattle.std.specs.Prelude.{ℕ}
use Rattle.runs.specs.Runs.{Draws}
use Rattle.draws.specs.declared.either.Source.{Source}
use Rattle.draws.specs.declared.either.Source.TheVariants.{Computed, Mixed, Recorded}
use Rattle.draws.specs.Computed.{book_of as computed_book, coming_of as computed_coming}
use Rattle.draws.specs.Mixed.{book_of as mixed_book, coming_of as mixed_coming}
use Rattle.draws.specs.Taped.{book_of as recorded_book, coming_of as recorded_coming}

-- the rows of the source that it holds
abbrev pub book_of : Source → ℕ → Draws
book_of (Computed c) = computed_book c
book_of (Mixed m) = mixed_book m
book_of (Recorded t) = recorded_book t

-- the draws to come of the source that it holds
abbrev pub coming_of : Source → Draws
coming_of (Computed c) = computed_coming c
coming_of (Mixed m) = mixed_coming m
coming_of (Recorded t) = recorded_coming t

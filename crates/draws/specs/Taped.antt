-- What a tape holds.
use Rattle.std.specs.Prelude.{ℕ}
use Rattle.runs.specs.Runs.{Draws}
use Rattle.draws.specs.declared.tape.Tape.{Tape}
use Rattle.draws.specs.Recorded.{listed, recorded}

-- the rows of a tape
abbrev pub book_of : Tape → ℕ → Draws
book_of t = recorded t.numbers.now t.row_length

-- its draws to come
abbrev pub coming_of : Tape → Draws
coming_of t = listed t.left.now

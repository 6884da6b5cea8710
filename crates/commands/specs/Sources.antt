-- The draws that were asked for.
use Rattle.std.specs.Prelude.{◌≡◌, ℕ}
use Rattle.std.specs.declared.alloc.Global.{Global}
use Rattle.std.specs.declared.vec.Vec.{Vec}
use Rattle.draws.specs.Computed.{computed}
use Rattle.draws.specs.Mixed.{mixed_rows}
use Rattle.draws.specs.Recorded.{recorded}
use Rattle.runs.specs.Runs as runs
use Rattle.commands.specs.declared.sources.Draws.{Draws}
use Rattle.commands.specs.declared.sources.Draws.TheVariants.{Seed, Tape}
use Rattle.commands.specs.declared.sources.Rule.TheVariants.{Computed, Mixed}

-- the rows of draws of a seed by a rule, or of recorded numbers in rows of one length
abbrev pub book_asked : Draws (Vec ℕ Global) → ℕ → runs.Draws
book_asked (Seed Mixed seed) = mixed_rows seed
book_asked (Seed Computed seed) = computed seed
book_asked (Tape numbers row_length) = recorded numbers.items row_length

-- where a tape has been read there are numbers for its path; rule, seed and row length stay
abbrev pub Loaded : {T : Type 0} → Draws T → Draws (Vec ℕ Global) → Type 0
Loaded (Seed rule seed) draws = draws ≡ Seed rule seed
Loaded (Tape path row_length) draws =
    (numbers : Vec ℕ Global) × (draws ≡ Tape numbers row_length)

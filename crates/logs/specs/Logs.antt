-- What a log holds.
use Rattle.std.specs.Prelude.{List, take, drop}
use Rattle.logs.specs.declared.Log.{Log}

-- the entries, in order: the first rows of the slice
abbrev pub entries_of : {X : Type 0} → Log X → List X
entries_of l = take l.len l.rows.now

-- the rows past the entries
abbrev pub past_of : {X : Type 0} → Log X → List X
past_of l = drop l.len l.rows.now

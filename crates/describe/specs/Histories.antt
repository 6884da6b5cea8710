-- How far a history is told.
use Rattle.std.specs.Prelude.{Bool, true, false, cond, List, [], ◌∷◌, is_err}
use Rattle.run.specs.declared.call.Entry.{Entry}
use Rattle.run.specs.declared.call.Reply.{Reply}
use Rattle.run.specs.declared.call.Reply.TheVariants.{Answered, Offered, Stands}
use Rattle.runs.specs.Runs.{is_open}

-- a call was refused
abbrev pub refused_in : Reply → Bool
refused_in (Answered r) = is_err r
refused_in (Offered os) = false
refused_in (Stands s) = false

-- a history ends with this entry: the run is decided, or the call was refused
abbrev pub ends_with : Entry → Bool
ends_with e = cond (is_open e.standing) (refused_in e.reply) true

-- the entries up to the first that ends the history, with that one
abbrev pub told_to_the_end : List Entry → List Entry
told_to_the_end [] = []
told_to_the_end (e ∷ es) = e ∷ cond (ends_with e) [] (told_to_the_end es)

-- The calls of a file.
use Rattle.std.specs.Prelude.{ℕ, List}
use Rattle.std.specs.Str.Lines.{lines}
use Rattle.describe.specs.Calls.{Asks}
use Rattle.run.specs.declared.call.Call.{Call}
use Rattle.schedulers.specs.declared.chooser.Chooser.{Chooser}
use Rattle.commands.specs.Words.{EachFor}

-- the lines of a text ask for calls, each line for one, in order
abbrev pub LinesAsk : List ℕ → List (Call Chooser) → Type 0
LinesAsk text calls = EachFor Asks (lines text) calls

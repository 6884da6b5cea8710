-- Spans of waits, read as those of a run.
use Rattle.runs.specs.Runs as runs
use Rattle.offers.specs.declared.waits.Span.{Span}

-- the waits of a span
abbrev pub span_of : Span → runs.Span
span_of x = record { from = x.from; until = x.until }

-- What a run shows where it opens.
use Rattle.std.specs.Prelude.{[], cond, length}
use Rattle.runs.specs.Plans.{Plan}
use Rattle.runs.specs.Runs.{Entry, all_zero, is_open, judged, offered, offers_at}

-- the offers of stage 0 with all timers at zero, none where the run is decided there, and how it stands
abbrev pub shown_at_opening : Plan → Entry
shown_at_opening plan =
    let zero = all_zero (length plan.ceilings) in
    record {
      reply = offered (cond (is_open (judged plan 0 zero)) (offers_at plan 0 zero) []);
      stage = 0;
      region = zero;
      standing = judged plan 0 zero;
    }

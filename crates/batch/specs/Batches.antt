-- What a batch counts, and when it is refused.
use Rattle.std.specs.Prelude.{◌≡◌, ℕ, zero, suc, ◌+◌, ◌-◌, min, Bool, cond, ◌&&◌, List, [], ◌∷◌, ◌++◌, length, drop, is_ok, Some, None, Ok, Err, fold, Option, Result, ◌==◌, nat_le}
use Rattle.rows.specs.declared.refusal.Refusal.{Refusal}
use Rattle.rows.specs.Refusals.{refusal_no}
use Rattle.logs.specs.Logs.{entries_of, past_of}
use Rattle.runs.specs.Cases.{standing_number}
use Rattle.runs.specs.Plans.{Plan}
use Rattle.runs.specs.Runs.{Draws, Run, Scheduler, opening, step_call}
use Rattle.logs.specs.declared.Log.{Log}
use Rattle.runs.specs.declared.Standing.{Standing}
use Rattle.runs.specs.declared.Standing.TheVariants.{Open, Reached, Failed, Stuck}
use Rattle.schedulers.specs.Meanings.{sampled_by}
use Rattle.batch.specs.declared.BatchRow.{BatchRow}
use Rattle.batch.specs.declared.Limits.{Limits}
use Rattle.batch.specs.declared.tally.Tally.{Tally}

-- the draws of each row of a source
abbrev pub Book : Type 0
Book = ℕ → Draws

-- the run after at most n steps by a scheduler, with how many were granted: it stops at the first that is refused
unfoldable pub stepped : Plan → Scheduler → ℕ → Run → Run × ℕ
stepped plan f zero run = (run, 0)
stepped plan f (suc n) run =
    let next : Run × ℕ = stepped plan f n (step_call plan f run).1 in
    cond (is_ok (step_call plan f run).0) (next.0, suc next.1) (run, 0)

-- the run that starts row j of a source, after at most n steps by a scheduler, with how many were granted
abbrev pub run_from : Plan → Book → Scheduler → ℕ → ℕ → Run × ℕ
run_from plan book f n j = stepped plan f n (opening plan (book j))

-- a count of the runs that stand in one way, after a run that stands in some way
abbrev pub counting : Standing → Standing → ℕ → ℕ
counting way stands n = cond (standing_number way == standing_number stands) (n + 1) n

-- a tally after one more run, which stands so; an open run is unfinished
abbrev pub counted : Standing → Tally → Tally
counted s t =
    record { reached = counting Reached s t.reached; failed = counting Failed s t.failed; stuck = counting Stuck s t.stuck; unfinished = counting Open s t.unfinished }

-- where the runs of one scheduler are: their tally so far, what is left of the allowance, and the draws to come
pub record Progress : Type 0 where
  pub tally : Tally
  pub left : ℕ
  pub coming : Draws

-- before the first run of a scheduler
abbrev pub none_yet : ℕ → Draws → Progress
none_yet left draws =
    record { tally = record { reached = 0; failed = 0; stuck = 0; unfinished = 0 }; left = left; coming = draws }

-- after the run of a scheduler that starts row j: it is counted by how it stands, and its granted steps are taken from the allowance
abbrev pub one_more : Plan → Book → Scheduler → ℕ → ℕ → Progress → Progress
one_more plan book f steps j p =
    let made : Run × ℕ = run_from plan book f (min steps p.left) j in
    record { tally = counted made.0.standing p.tally; left = p.left - made.1; coming = made.0.coming }

-- after the runs of a scheduler that start rows 0 to n - 1
unfoldable pub first_runs : Plan → Book → Scheduler → ℕ → ℕ → Progress → Progress
first_runs plan book f steps zero p = p
first_runs plan book f steps (suc n) p = one_more plan book f steps n (first_runs plan book f steps n p)

-- all runs of a scheduler, with an allowance of its own
abbrev pub runs_made : Plan → Book → Draws → Limits → Scheduler → Progress
runs_made plan book draws limits f =
    first_runs plan book f limits.steps limits.runs (none_yet limits.allowance draws)

-- the row of an identifier whose runs come to this tally
abbrev pub row_with : ℕ → Tally → BatchRow
row_with id t =
    record { identifier = id; reached = t.reached; failed = t.failed; stuck = t.stuck; unfinished = t.unfinished }

-- the tally in a row
abbrev pub tally_of : BatchRow → Tally
tally_of row =
    record { reached = row.reached; failed = row.failed; stuck = row.stuck; unfinished = row.unfinished }

-- where a batch is: its rows so far, what is left of the allowance, and the draws to come
pub record Made : Type 0 where
  pub rows : List BatchRow
  pub left : ℕ
  pub coming : Draws

-- after all runs of one more identifier, which are those of the sampled scheduler of that identifier
abbrev pub one_row : Plan → Book → Limits → Made → ℕ → Made
one_row plan book limits m id =
    let p : Progress = first_runs plan book (sampled_by id) limits.steps limits.runs (none_yet m.left m.coming) in
    record { rows = m.rows ++ row_with id p.tally ∷ []; left = p.left; coming = p.coming }

-- all runs of all identifiers, in their order
abbrev pub all_made : Plan → Book → Draws → Limits → List ℕ → Made
all_made plan book draws limits ids =
    fold (one_row plan book limits) (record { rows = []; left = limits.allowance; coming = draws }) ids

-- a number is at least 1 and at most this
abbrev pub from_1_to : ℕ → ℕ → Bool
from_1_to most n = nat_le 1 n && nat_le n most

-- every number of a batch is within its limits
abbrev pub within : ℕ → Limits → Bool
within ids limits =
    from_1_to 1000 ids && (from_1_to 10000 limits.runs && (from_1_to 10000 limits.steps && from_1_to 1000000000 limits.allowance))

-- why a batch is refused, if it is: a number off its limits, or else too little room for its rows
abbrev pub refusal_of : ℕ → Limits → ℕ → Option Refusal
refusal_of ids limits room =
    cond (within ids limits)
    (cond (nat_le ids room) None (Some (refusal_no 13)))
    (Some (refusal_no 14))

-- rows join a log's entries, in their order; the rows past them stay
pub record Joined (new : List BatchRow) (log log' : Log BatchRow) : Type 0 where
  pub entries : entries_of log' ≡ entries_of log ++ new
  pub past : past_of log' ≡ drop (length new) (past_of log)

-- a batch with these draws left: all its rows join the log, or it is refused and does nothing
abbrev pub Batched : Plan → Book → Draws → Limits → List ℕ → Log BatchRow → Log BatchRow → Draws → Result (Unit {0}) Refusal → Type 0
Batched plan book draws limits ids log log' left (Ok _) =
    (refusal_of (length ids) limits (length (past_of log)) ≡ None) × Joined (all_made plan book draws limits ids).rows log log' × (left ≡ (all_made plan book draws limits ids).coming)
Batched plan book draws limits ids log log' left (Err e) =
    (refusal_of (length ids) limits (length (past_of log)) ≡ Some e) × (log' ≡ log) × (left ≡ draws)

-- the runs of one scheduler with these draws left: they come to this tally, or they are refused as a batch of one identifier is
abbrev pub Tallied : Plan → Book → Draws → Limits → Scheduler → Draws → Result Tally Refusal → Type 0
Tallied plan book draws limits f left (Ok t) =
    (refusal_of 1 limits 1 ≡ None) × (t ≡ (runs_made plan book draws limits f).tally) × (left ≡ (runs_made plan book draws limits f).coming)
Tallied plan book draws limits f left (Err e) =
    (refusal_of 1 limits 1 ≡ Some e) × (left ≡ draws)

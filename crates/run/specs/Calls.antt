-- Calls and entries, read as those of a run over region records.
use Rattle.std.specs.Prelude.{◌≡◌, ◌<◌, ◌≤◌, List, ◌++◌, map, length, drop, Ok, Err, Result}
use Rattle.rows.specs.declared.refusal.Refusal.{Refusal}
use Rattle.rows.specs.Refusals.{refusal_no}
use Rattle.offers.specs.Lists.{listed}
use Rattle.region.specs.Viewed.{viewed}
use Rattle.logs.specs.Logs.{entries_of, past_of}
use Rattle.runs.specs.Plans.{Plan}
use Rattle.runs.specs.Runs as runs
use Rattle.logs.specs.declared.Log.{Log}
use Rattle.runs.specs.declared.Standing.TheVariants.{Open}
use Rattle.run.specs.declared.call.Call.{Call}
use Rattle.run.specs.declared.call.Call.TheVariants.{Step, Take, Offers, Standing}
use Rattle.run.specs.declared.call.Entry.{Entry}
use Rattle.run.specs.declared.call.Reply.{Reply}
use Rattle.run.specs.declared.call.Reply.TheVariants.{Answered, Offered, Stands}

-- a call, with what its scheduler means
abbrev pub call_of : {S : Type 0} → (S → runs.Scheduler) → Call S → runs.Call
call_of meaning (Step s) = runs.Step (meaning s)
call_of meaning (Take c d) = runs.Take c d
call_of meaning Offers = runs.Offers
call_of meaning Standing = runs.Stands

-- a list of calls
abbrev pub calls_of : {S : Type 0} → (S → runs.Scheduler) → List (Call S) → List runs.Call
calls_of meaning calls = map (call_of meaning) calls

-- a reply, with the offers of its list
abbrev pub reply_of : Reply → runs.Reply
reply_of (Answered a) = runs.answered a
reply_of (Offered o) = runs.offered (listed o)
reply_of (Stands s) = runs.standing s

-- an entry, with the region that its rows show
abbrev pub entry_of : Entry → runs.Entry
entry_of e =
    record { reply = reply_of e.reply; stage = e.at.stage; region = viewed e.at.region; standing = e.standing }

-- an entry that tells of a run with one timer, at zero, in stage 0
abbrev pub blank_entry : runs.Entry
blank_entry = record { reply = runs.standing Open; stage = 0; region = runs.all_zero 1; standing = Open }

-- calls made of a run lead to another, and what is told of each, in order, joins the log; its earlier entries and the rows past all entries stay
pub record Entered (plan : Plan) (run then : runs.Run) (calls : List runs.Call) (log log' : Log Entry) : Type 0 where
  pub made : then ≡ runs.after plan run calls
  pub new : List Entry
  pub entries : entries_of log' ≡ entries_of log ++ new
  pub told : map entry_of new ≡ runs.told_of plan run calls
  pub past : past_of log' ≡ drop (length calls) (past_of log)

-- a replay with these draws left: all calls are made and told, or the log has no room for them and nothing is done
abbrev pub Replayed : Plan → runs.Draws → List runs.Call → Log Entry → Log Entry → runs.Draws → Result (Unit {0}) Refusal → Type 0
Replayed plan draws calls log log' left (Ok _) =
    (length calls ≤ length (past_of log)) × ((then : runs.Run) × Entered plan (runs.opening plan draws) then calls log log' × (left ≡ then.coming))
Replayed plan draws calls log log' left (Err e) =
    (e ≡ refusal_no 13) × (length (past_of log) < length calls) × (log' ≡ log) × (left ≡ draws)

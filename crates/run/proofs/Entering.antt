-- Calls that are made and entered one after the other.
use Rattle.std.proofs.Common.{◌≡◌, ℕ, ◌+◌, ◌<◌, List, [], ◌∷◌, ◌++◌, length, get_or, take, drop, sym, refl, ap, ◌∙◌, append_assoc, length-append, ◌≤◌, append-nil, arith}
use Rattle.std.proofs.lemmas.List.{drop-drop, map-append, take_more, length-map, length-take, take_all, length-drop}
use Rattle.logs.specs.Logs.{entries_of, past_of}
use Rattle.runs.specs.Plans.{Plan}
use Rattle.runs.specs.Runs.{Call, Run, Scheduler, after, entry_after, make, told_of}
use Rattle.logs.specs.declared.Log.{Log}
use Rattle.run.specs.Calls.{Entered, call_of, calls_of, entry_of}
use Rattle.run.specs.declared.call.Call.{Call as Call'}
use Rattle.run.specs.declared.call.Entry.{Entry}

-- the run after some calls and then others
after_then : (plan : Plan) (run : Run) (calls more : List Call) → after plan run (calls ++ more) ≡ after plan (after plan run calls) more
after_then plan run [] more = refl
after_then plan run (call ∷ calls) more = after_then plan (make plan run call).1 calls more

-- what is told of some calls and then others
told_then : (plan : Plan) (run : Run) (calls more : List Call) → told_of plan run (calls ++ more) ≡ told_of plan run calls ++ told_of plan (after plan run calls) more
told_then plan run [] more = refl
told_then plan run (call ∷ calls) more =
    ap (λ es. entry_after (make plan run call) ∷ es) (told_then plan (make plan run call).1 calls more)

-- some calls are made, and then others
pub entered_then : (plan : Plan) (run₀ run₁ run₂ : Run) (calls more : List Call) (log₀ log₁ log₂ : Log Entry) → Entered plan run₀ run₁ calls log₀ log₁ → Entered plan run₁ run₂ more log₁ log₂ → Entered plan run₀ run₂ (calls ++ more) log₀ log₂
entered_then plan run₀ run₁ run₂ calls more log₀ log₁ log₂ h k =
    record {
      made = k.made ∙ (ap (λ r. after plan r more) h.made ∙ sym (after_then plan run₀ calls more));
      new = h.new ++ k.new;
      entries = k.entries ∙ (ap (λ es. es ++ k.new) h.entries ∙ append_assoc (entries_of log₀) h.new k.new);
      told = map-append entry_of h.new k.new ∙ ((λ i. h.told i ++ (k.told ∙ ap (λ r. told_of plan r more) h.made) i) ∙ sym (told_then plan run₀ calls more));
      past = k.past ∙ (ap (drop (length more)) h.past ∙ (drop-drop (length more) (length calls) (past_of log₀) ∙ ap (λ n. drop n (past_of log₀)) (sym (length-append calls more))));
    }

-- the calls up to a place, and the one there
pub calls_more : {S : Type 0} (meaning : S → Scheduler) (calls : List (Call' S)) (i : ℕ) (call : Call' S) → i < length calls → call ≡ get_or calls i call → calls_of meaning (take i calls) ++ call_of meaning call ∷ [] ≡ calls_of meaning (take (i + 1) calls)
calls_more meaning calls i call l e =
    sym (ap (calls_of meaning) (take_more calls i call l ∙ ap (λ x. take i calls ++ x ∷ []) (sym e)) ∙ map-append (call_of meaning) (take i calls) (call ∷ []))

-- no call is made, and nothing is entered
pub entered_none : (plan : Plan) (run : Run) (log : Log Entry) → Entered plan run run [] log log
entered_none plan run log =
    record { made = refl; new = []; entries = sym (append-nil (entries_of log)); told = refl; past = refl }

-- some of the calls are as many as were made
pub calls_made : {S : Type 0} (meaning : S → Scheduler) (calls : List (Call' S)) (i : ℕ) → i < length calls → length (calls_of meaning (take i calls)) ≡ i
calls_made meaning calls i l = omega (arith, length-map (take i calls) (call_of meaning), length-take i calls)

-- and at the end they are all
pub calls_all : {S : Type 0} (meaning : S → Scheduler) (calls : List (Call' S)) (i : ℕ) → length calls ≤ i → calls_of meaning (take i calls) ≡ calls_of meaning calls
calls_all meaning calls i l = ap (calls_of meaning) (take_all i calls l)

-- after some of the calls that a log has room for, it has room for the next
pub room_left : (plan : Plan) (run then : Run) (calls : List Call) (log log' : Log Entry) (n i : ℕ) → Entered plan run then calls log log' → length calls ≡ i → i < n → n ≤ length (past_of log) → 1 ≤ length (past_of log')
room_left plan run then calls log log' n i h e l k =
    omega (arith, ap length h.past, length-drop (length calls) (past_of log))

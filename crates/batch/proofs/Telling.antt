-- The steps of a run that is stepped until one is refused.
use Rattle.std.proofs.Common.{◌≡◌, ℕ, zero, suc, ◌<◌, ◌≤◌, Bool, true, false, cond, replicate, is_ok, Ok, Err, Result, refl, arith}
use Rattle.offers.specs.Checked.{checked}
use Rattle.offers.proofs.Checking.{checked_sound}
use Rattle.plan.specs.declared.handed.Handed.{Handed}
use Rattle.rows.specs.declared.refusal.Refusal.{Refusal}
use Rattle.runs.specs.Plans.{Plan, Sound}
use Rattle.runs.specs.Runs.{Run, Scheduler, Step, after, answered, opening, step_call}
use Rattle.runs.specs.Tables.{plan_in}
use Rattle.runs.specs.Telling.{AllGranted, DrawsFit, Grants}
use Rattle.runs.specs.declared.Answer.{Answer}
use Rattle.runs.proofs.Agreement.{regions_and_ticks_tell_the_same}
use Rattle.batch.specs.Batches.{Book, run_from, stepped}
use Rattle.batch.specs.Promised.{EveryRunOfABatchTellsATickRun}

-- what is known of a run that was stepped
record Stepped (plan : Plan) (f : Scheduler) (n : ℕ) (run : Run) (made : Run × ℕ) : Type 0 where
  no_more : made.1 ≤ n
  its_steps : made.0 ≡ after plan run (replicate made.1 (Step f))
  granted : AllGranted plan run (replicate made.1 (Step f))
  then_refused : made.1 < n → is_ok (step_call plan f made.0).0 ≡ false

-- a granted answer grants
ok_grants : (r : Result Answer Refusal) → is_ok r ≡ true → Grants (answered r)
ok_grants (Ok a) e = tt
ok_grants (Err a) e = absurd (let z : ◌≡◌ {A = ℕ} 0 1 = cc in omega arith)

-- a granted step, and those after it
one_first : (plan : Plan) (f : Scheduler) (n : ℕ) (run : Run) (made : Run × ℕ) → is_ok (step_call plan f run).0 ≡ true → Stepped plan f n (step_call plan f run).1 made → Stepped plan f (suc n) run (made.0, suc made.1)
one_first plan f n run made g h =
    record {
      no_more = omega (arith, h.no_more);
      its_steps = h.its_steps;
      granted = (ok_grants (step_call plan f run).0 g, h.granted);
      then_refused = λ l. h.then_refused (omega arith);
    }

-- so it is for every run
by_steps : (plan : Plan) (f : Scheduler) (n : ℕ) (run : Run) → Stepped plan f n run (stepped plan f n run)
unfolding stepped
by_steps plan f zero run = record { no_more = omega arith; its_steps = refl; granted = tt; then_refused = λ l. absurd (omega arith) }
by_steps plan f (suc n) run = go (is_ok (step_call plan f run).0) refl (by_steps plan f n (step_call plan f run).1)
  where
    next : Run × ℕ
    next = stepped plan f n (step_call plan f run).1

    go : (b : Bool) → is_ok (step_call plan f run).0 ≡ b → Stepped plan f n (step_call plan f run).1 next → Stepped plan f (suc n) run (cond b (next.0, suc next.1) (run, 0))
    go true e h = one_first plan f n run next e h
    go false e h = record { no_more = omega arith; its_steps = refl; granted = tt; then_refused = λ l. e }

-- the steps of every run of a batch tell a tick run
pub every_run_tells : (plan : Plan) (book : Book) → Sound plan → ((row : ℕ) → DrawsFit (book row)) → EveryRunOfABatchTellsATickRun plan book
every_run_tells plan book sound fit f n j =
    let h = by_steps plan f n (opening plan (book j)) in
    record {
      no_more = h.no_more;
      its_steps = h.its_steps;
      granted = h.granted;
      then_refused = h.then_refused;
      told = (regions_and_ticks_tell_the_same plan (book j) sound (fit j)).every_list_of_calls_tells_a_tick_run (replicate (run_from plan book f n j).1 (Step f));
    }

-- and so of every run on handed tables, whether they pass or not
-- No search closes an answer by it: `book_fits`, which it asks for, is a law that is a function, and a search takes none.
pub every_run_of_handed : (h : Handed) (book : Book) → ((row : ℕ) → DrawsFit (book row)) → EveryRunOfABatchTellsATickRun (plan_in (checked h)) book
every_run_of_handed h book fits =
    every_run_tells (plan_in (checked h)) book (checked_sound h) fits

-- no more steps are granted than may be
pub granted_at_most : (plan : Plan) (f : Scheduler) (n : ℕ) (run : Run) → (stepped plan f n run).1 ≤ n
granted_at_most plan f n run = (by_steps plan f n run).no_more

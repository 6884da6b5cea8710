-- How many runs a tally counts.
use Rattle.std.proofs.Common.{◌≡◌, ℕ, zero, suc, ◌+◌, min, sym, ap, ◌∙◌, add-one, arith}
use Rattle.runs.specs.Plans.{Plan}
use Rattle.runs.specs.Runs.{Scheduler}
use Rattle.runs.specs.declared.Standing.{Standing}
use Rattle.runs.specs.declared.Standing.TheVariants.{Open, Reached, Failed, Stuck}
use Rattle.batch.specs.Batches.{Book, Progress, counted, first_runs, one_more, run_from}
use Rattle.batch.specs.Promised.{runs_in}
use Rattle.batch.specs.declared.tally.Tally.{Tally}

-- a run is counted once, however it stands
counted_once : (s : Standing) (t : Tally) → runs_in (counted s t) ≡ runs_in t + 1
counted_once Open t = omega arith
counted_once Reached t = omega arith
counted_once Failed t = omega arith
counted_once Stuck t = omega arith

-- every run is counted once
pub all_counted : (plan : Plan) (book : Book) (f : Scheduler) (steps n : ℕ) (p : Progress) → runs_in (first_runs plan book f steps n p).tally ≡ runs_in p.tally + n
unfolding first_runs
all_counted plan book f steps zero p = omega arith
all_counted plan book f steps (suc n) p =
    let here : Progress = first_runs plan book f steps n p in
    omega (arith, all_counted plan book f steps n p, counted_once (run_from plan book f (min steps here.left) n).0.standing here.tally)

-- one more run
pub runs_again : (plan : Plan) (book : Book) (f : Scheduler) (steps n : ℕ) (p here then : Progress) → here ≡ first_runs plan book f steps n p → then ≡ one_more plan book f steps n here → then ≡ first_runs plan book f steps (n + 1) p
unfolding first_runs
runs_again plan book f steps n p here then h t =
    t ∙ (ap (one_more plan book f steps n) h ∙ ap (λ k. first_runs plan book f steps k p) (sym (add-one n)))

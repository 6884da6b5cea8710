-- An allowance that does not bind alters no row.
use Rattle.std.proofs.Common.{◌≡◌, ℕ, zero, suc, ◌+◌, ◌-◌, ◌≤◌, min, Bool, true, false, cond, List, [], ◌∷◌, ◌++◌, map, is_ok, fold, sum_by, sym, refl, ap, ◌∙◌, append_assoc, append-nil, arith}
use Rattle.std.proofs.lemmas.List.Sums.{sum_by-cons}
use Rattle.runs.specs.Plans.{Plan}
use Rattle.runs.specs.Runs.{Draws, Run, Scheduler, opening, step_call}
use Rattle.schedulers.specs.Meanings.{sampled_by}
use Rattle.batch.specs.Batches.{Book, Made, Progress, counted, first_runs, none_yet, one_more, one_row, row_with, run_from, stepped}
use Rattle.batch.specs.Promised.{ABatchWithoutABindingAllowanceCountsEachRunByItself, AnAllowanceThatDoesNotBindCountsEachRunByItself, granted_to, row_alone, standing_so, tally_alone}
use Rattle.batch.specs.declared.BatchRow.{BatchRow}
use Rattle.batch.specs.declared.Limits.{Limits}
use Rattle.batch.specs.declared.tally.Tally.{Tally}
use Rattle.batch.proofs.Telling.{granted_at_most}

-- a limit that covers the granted steps of a run alters nothing
stepped_enough : (plan : Plan) (f : Scheduler) (m n : ℕ) (run : Run) → m ≤ n → (stepped plan f n run).1 ≤ m → stepped plan f m run ≡ stepped plan f n run
unfolding stepped
stepped_enough plan f zero zero run l h = refl
stepped_enough plan f (suc m) zero run l h = absurd (omega arith)
stepped_enough plan f zero (suc n) run l h = go (is_ok (step_call plan f run).0) h
  where
    next : Run × ℕ
    next = stepped plan f n (step_call plan f run).1

    go : (b : Bool) → (cond {A = Run × ℕ} b (next.0, suc next.1) (run, 0)).1 ≤ zero → ◌≡◌ {A = Run × ℕ} (run, 0) (cond b (next.0, suc next.1) (run, 0))
    go true k = absurd (omega arith)
    go false k = refl
stepped_enough plan f (suc m) (suc n) run l h =
    go (is_ok (step_call plan f run).0) (stepped_enough plan f m n (step_call plan f run).1 (omega arith)) h
  where
    next : ℕ → Run × ℕ
    next k = stepped plan f k (step_call plan f run).1

    go : (b : Bool) → ((next n).1 ≤ m → next m ≡ next n) → (cond {A = Run × ℕ} b ((next n).0, suc (next n).1) (run, 0)).1 ≤ suc m → ◌≡◌ {A = Run × ℕ} (cond b ((next m).0, suc (next m).1) (run, 0)) (cond b ((next n).0, suc (next n).1) (run, 0))
    go true same k = ap (λ (z : Run × ℕ). (z.0, suc z.1)) (same (omega arith))
    go false same k = refl

-- nor does what is left of the allowance, if it covers them
covered : (plan : Plan) (book : Book) (f : Scheduler) (steps left j : ℕ) → (run_from plan book f steps j).1 ≤ left → run_from plan book f (min steps left) j ≡ run_from plan book f steps j
covered plan book f steps left j l =
    let fewer : min steps left ≤ steps = omega arith in
    let enough : (run_from plan book f steps j).1 ≤ min steps left = omega (arith, granted_at_most plan f steps (opening plan (book j))) in
    stepped_enough plan f (min steps left) steps (opening plan (book j)) fewer enough

-- the tally and the allowance left after some runs that it covers
record Alone (plan : Plan) (book : Book) (f : Scheduler) (steps n left : ℕ) (p : Progress) : Type 0 where
  its_tally : p.tally ≡ tally_alone plan book f steps n
  its_left : p.left ≡ left - granted_to plan book f steps n

-- one run more
alone_again : (plan : Plan) (book : Book) (f : Scheduler) (steps n left : ℕ) (p : Progress) → granted_to plan book f steps (suc n) ≤ left → Alone plan book f steps n left p → Alone plan book f steps (suc n) left (one_more plan book f steps n p)
unfolding granted_to standing_so
alone_again plan book f steps n left p l h =
    let alone : Run × ℕ = run_from plan book f steps n in
    let made : Run × ℕ = run_from plan book f (min steps p.left) n in
    let room : alone.1 ≤ p.left = omega (arith, h.its_left) in
    let same : made ≡ alone = covered plan book f steps p.left n room in
    record {
      its_tally = λ i. counted (same i).0.standing (h.its_tally i);
      its_left = omega (arith, h.its_left, ap (λ (z : Run × ℕ). z.1) same);
    }

-- all runs of a scheduler
runs_alone : (plan : Plan) (book : Book) (draws : Draws) (f : Scheduler) (steps n left : ℕ) → granted_to plan book f steps n ≤ left → Alone plan book f steps n left (first_runs plan book f steps n (none_yet left draws))
unfolding first_runs granted_to standing_so
runs_alone plan book draws f steps zero left l = record { its_tally = refl; its_left = omega arith }
runs_alone plan book draws f steps (suc n) left l =
    alone_again plan book f steps n left (first_runs plan book f steps n (none_yet left draws)) l (runs_alone plan book draws f steps n left (omega arith))

-- and so the tally of a scheduler
pub one_counts_each_by_itself : (plan : Plan) (book : Book) (draws : Draws) (limits : Limits) (f : Scheduler) → AnAllowanceThatDoesNotBindCountsEachRunByItself plan book draws limits f
one_counts_each_by_itself plan book draws limits f l =
    (runs_alone plan book draws f limits.steps limits.runs limits.allowance l).its_tally

-- all rows of more identifiers
rows_alone : (plan : Plan) (book : Book) (limits : Limits) (m : Made) (ids : List ℕ) → sum_by (λ id. granted_to plan book (sampled_by id) limits.steps limits.runs) ids ≤ m.left → (fold (one_row plan book limits) m ids).rows ≡ m.rows ++ map (row_alone plan book limits.steps limits.runs) ids
rows_alone plan book limits m [] l = sym (append-nil m.rows)
rows_alone plan book limits m (id ∷ ids) l =
    let granted : ℕ → ℕ = λ i. granted_to plan book (sampled_by i) limits.steps limits.runs in
    let both : granted id + sum_by granted ids ≤ m.left = omega (arith, sum_by-cons granted id ids) in
    let first = runs_alone plan book m.coming (sampled_by id) limits.steps limits.runs m.left (omega arith) in
    let row : BatchRow = row_alone plan book limits.steps limits.runs id in
    let rest = rows_alone plan book limits (one_row plan book limits m id) ids (omega (arith, first.its_left)) in
    rest ∙ (ap (λ (t : Tally). (m.rows ++ row_with id t ∷ []) ++ map (row_alone plan book limits.steps limits.runs) ids) first.its_tally ∙ append_assoc m.rows (row ∷ []) (map (row_alone plan book limits.steps limits.runs) ids))

-- and all rows of a batch
pub counts_each_by_itself : (plan : Plan) (book : Book) (draws : Draws) (limits : Limits) (ids : List ℕ) → ABatchWithoutABindingAllowanceCountsEachRunByItself plan book draws limits ids
counts_each_by_itself plan book draws limits ids l =
    rows_alone plan book limits (record { rows = []; left = limits.allowance; coming = draws }) ids l

-- Rows that join a log one after the other.
use Rattle.std.proofs.Common.{◌≡◌, ℕ, ◌+◌, ◌<◌, ◌≤◌, List, [], ◌∷◌, ◌++◌, length, get_or, take, drop, fold, sym, ap, ◌∙◌, subst, append_assoc, arith, length-append}
use Rattle.std.proofs.lemmas.List.{drop-drop, length-drop, length-take, take_all}
use Rattle.std.proofs.lemmas.List.Sums.{fold_more}
use Rattle.logs.specs.Logs.{entries_of, past_of}
use Rattle.runs.specs.Plans.{Plan}
use Rattle.runs.specs.Runs.{Draws}
use Rattle.schedulers.specs.Meanings.{sampled_by}
use Rattle.logs.specs.declared.Log.{Log}
use Rattle.batch.specs.Batches.{Book, Joined, Made, Progress, all_made, first_runs, none_yet, one_row, row_with}
use Rattle.batch.specs.Progresses.{Entered}
use Rattle.batch.specs.declared.BatchRow.{BatchRow}
use Rattle.batch.specs.declared.Limits.{Limits}

-- some rows join, and then others
joined_then : (new more : List BatchRow) (log₀ log₁ log₂ : Log BatchRow) → Joined new log₀ log₁ → Joined more log₁ log₂ → Joined (new ++ more) log₀ log₂
joined_then new more log₀ log₁ log₂ h k =
    record {
      entries = k.entries ∙ (ap (λ es. es ++ more) h.entries ∙ append_assoc (entries_of log₀) new more);
      past = k.past ∙ (ap (drop (length more)) h.past ∙ (drop-drop (length more) (length new) (past_of log₀) ∙ ap (λ n. drop n (past_of log₀)) (sym (length-append new more))));
    }

-- each identifier has a row
rows_from : (plan : Plan) (book : Book) (limits : Limits) (m : Made) (ids : List ℕ) → length (fold (one_row plan book limits) m ids).rows ≡ length m.rows + length ids
rows_from plan book limits m [] = omega arith
rows_from plan book limits m (id ∷ ids) =
    let p : Progress = first_runs plan book (sampled_by id) limits.steps limits.runs (none_yet m.left m.coming) in
    omega (arith, rows_from plan book limits (one_row plan book limits m id) ids, length-append m.rows (row_with id p.tally ∷ []))

-- a batch has as many rows as identifiers
pub rows_made : (plan : Plan) (book : Book) (draws : Draws) (limits : Limits) (ids : List ℕ) → length (all_made plan book draws limits ids).rows ≡ length ids
rows_made plan book draws limits ids =
    let start : Made = record { rows = []; left = limits.allowance; coming = draws } in
    omega (arith, rows_from plan book limits start ids)

-- the row of one more identifier joins
entered_then : (plan : Plan) (book : Book) (limits : Limits) (made : Made) (id : ℕ) (log₀ log₁ log₂ : Log BatchRow) (left left' : ℕ) (draws draws' : Draws) → Entered made log₀ log₁ left draws → Entered (one_row plan book limits (record { rows = []; left = left; coming = draws }) id) log₁ log₂ left' draws' → Entered (one_row plan book limits made id) log₀ log₂ left' draws'
entered_then plan book limits made id log₀ log₁ log₂ left left' draws draws' h k =
    let runs : ℕ → Draws → Progress = λ l d. first_runs plan book (sampled_by id) limits.steps limits.runs (none_yet l d) in
    let same : runs left draws ≡ runs made.left made.coming = λ i. runs (h.allowance i) (h.draws i) in
    record {
      joined = subst (λ (p : Progress). Joined (made.rows ++ row_with id p.tally ∷ []) log₀ log₂) same (joined_then made.rows (row_with id (runs left draws).tally ∷ []) log₀ log₁ log₂ h.joined k.joined);
      allowance = k.allowance ∙ ap (λ (p : Progress). p.left) same;
      draws = k.draws ∙ ap (λ (p : Progress). p.coming) same;
    }

-- the row of the next identifier joins
pub entered_again : (plan : Plan) (book : Book) (draws₀ : Draws) (limits : Limits) (ids : List ℕ) (i : ℕ) (log₀ log₁ log₂ : Log BatchRow) (left left' : ℕ) (draws draws' : Draws) → i < length ids → Entered (all_made plan book draws₀ limits (take i ids)) log₀ log₁ left draws → Entered (one_row plan book limits (record { rows = []; left = left; coming = draws }) (get_or ids i 0)) log₁ log₂ left' draws' → Entered (all_made plan book draws₀ limits (take (i + 1) ids)) log₀ log₂ left' draws'
entered_again plan book draws₀ limits ids i log₀ log₁ log₂ left left' draws draws' l h k =
    let start : Made = record { rows = []; left = limits.allowance; coming = draws₀ } in
    subst (λ (m : Made). Entered m log₀ log₂ left' draws') (sym (fold_more (one_row plan book limits) start ids i 0 l)) (entered_then plan book limits (all_made plan book draws₀ limits (take i ids)) (get_or ids i 0) log₀ log₁ log₂ left left' draws draws' h k)

-- after some of the rows that a log has room for, it has room for the next
pub room_left : (plan : Plan) (book : Book) (draws₀ : Draws) (limits : Limits) (ids : List ℕ) (i : ℕ) (log log' : Log BatchRow) (left : ℕ) (draws : Draws) → i < length ids → length ids ≤ length (past_of log) → Entered (all_made plan book draws₀ limits (take i ids)) log log' left draws → 1 ≤ length (past_of log')
room_left plan book draws₀ limits ids i log log' left draws l room h =
    let n = length (all_made plan book draws₀ limits (take i ids)).rows in
    omega (arith, ap length h.joined.past, length-drop n (past_of log), rows_made plan book draws₀ limits (take i ids), length-take i ids)

-- at the end the rows of all have joined
pub entered_all : (plan : Plan) (book : Book) (draws₀ : Draws) (limits : Limits) (ids : List ℕ) (i : ℕ) (log log' : Log BatchRow) (left : ℕ) (draws : Draws) → length ids ≤ i → Entered (all_made plan book draws₀ limits (take i ids)) log log' left draws → Entered (all_made plan book draws₀ limits ids) log log' left draws
entered_all plan book draws₀ limits ids i log log' left draws l h =
    subst (λ (xs : List ℕ). Entered (all_made plan book draws₀ limits xs) log log' left draws) (take_all i ids l) h

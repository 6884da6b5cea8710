-- Rows that are lent to a log of as many entries.
use Rattle.std.proofs.Common.{◌≡◌, ℕ, ◌+◌, List, [], ◌∷◌, ◌++◌, length, fold, Some, None, Ok, Err, Result, sym, ap, ◌∙◌, arith, append-nil, length-append, length-drop}
use Rattle.std.proofs.lemmas.List.{take-append-drop, nil_from_length}
use Rattle.std.specs.Result.{MatchResult}
use Rattle.logs.specs.Logs.{entries_of, past_of}
use Rattle.logs.specs.declared.Log.{Log}
use Rattle.rows.specs.declared.refusal.Refusal.{Refusal}
use Rattle.runs.specs.Plans.{Plan}
use Rattle.runs.specs.Runs.{Draws}
use Rattle.schedulers.specs.Meanings.{sampled_by}
use Rattle.batch.specs.Batches.{Batched, Book, Made, Progress, all_made, first_runs, none_yet, one_row, refusal_of, row_with}
use Rattle.batch.specs.declared.BatchRow.{BatchRow}
use Rattle.batch.specs.declared.Limits.{Limits}

-- each identifier adds a row
rows_from : (plan : Plan) (book : Book) (limits : Limits) (m : Made) (ids : List ℕ) → length (fold (one_row plan book limits) m ids).rows ≡ length m.rows + length ids
rows_from plan book limits m [] = omega arith
rows_from plan book limits m (id ∷ ids) =
    let p : Progress = first_runs plan book (sampled_by id) limits.steps limits.runs (none_yet m.left m.coming) in
    omega (arith, rows_from plan book limits (one_row plan book limits m id) ids, length-append m.rows (row_with id p.tally ∷ []))

-- the rows of a batch fill rows that are as many as its identifiers; where it is refused they stay
pub rows_filled : (plan : Plan) (book : Book) (draws left : Draws) (limits : Limits) (ids : List ℕ) (log log' : Log BatchRow) (r : Result (Unit {0}) Refusal) →
    Batched plan book draws limits ids log log' left r →
    entries_of log ≡ [] → length (past_of log) ≡ length ids →
    MatchResult r
    (λ _. (refusal_of (length ids) limits (length ids) ≡ None) × (log'.rows.now ≡ (all_made plan book draws limits ids).rows))
    (λ e. (refusal_of (length ids) limits (length ids) ≡ Some e) × (log'.rows.now ≡ past_of log))
rows_filled plan book draws left limits ids log log' (Err e) b empty as_many =
    let whole : log.rows.now ≡ entries_of log ++ past_of log = sym (take-append-drop log.len log.rows.now) in
    (ap (refusal_of (length ids) limits) (sym as_many) ∙ b.0, ap (λ (l : Log BatchRow). l.rows.now) b.1 ∙ whole ∙ ap (λ z. z ++ past_of log) empty)
rows_filled plan book draws left limits ids log log' (Ok u) b empty as_many =
    let new : List BatchRow = (all_made plan book draws limits ids).rows in
    let start : Made = record { rows = []; left = limits.allowance; coming = draws } in
    let rows : length new ≡ length ids = omega (arith, rows_from plan book limits start ids) in
    let none : past_of log' ≡ [] = nil_from_length (past_of log') (omega (arith, ap length b.1.past, length-drop (length new) (past_of log), rows, as_many)) in
    let whole : log'.rows.now ≡ entries_of log' ++ past_of log' = sym (take-append-drop log'.len log'.rows.now) in
    (ap (refusal_of (length ids) limits) (sym as_many) ∙ b.0, whole ∙ ap (λ z. entries_of log' ++ z) none ∙ append-nil (entries_of log') ∙ b.1.entries ∙ ap (λ z. z ++ new) empty)

-- What is read of a region and of a row, and the steps of a loop over comparisons.
use Rattle.std.proofs.Common.{◌≡◌, ℕ, ◌+◌, ◌*◌, ◌<◌, ◌≤◌, Bool, cond, List, map, length, get_or, drop, ap, ◌∙◌, arith, ltb, ◌⊎◌, Some, None, inl, inr}
use Rattle.std.proofs.lemmas.List.{get_or-map, length-map, get_or_past}
use Rattle.rows.specs.declared.reading.Comparison.{Comparison}
use Rattle.rows.specs.declared.reading.Subject.TheVariants.{Timer, Lead}
use Rattle.rows.specs.declared.tables.ComparisonRow.{ComparisonRow}
use Rattle.rows.specs.Readings.{reading_of}
use Rattle.rows.specs.Verdicts.{no_comparison}
use Rattle.theory.specs.Records.{Record, count, timer_no, edge, fresh}
use Rattle.runs.specs.Runs.{Span, before, bounded, cut, cuts, says}
use Rattle.runs.specs.Tables.{comparison_of_row}
use Rattle.runs.proofs.Allowed.{cut_timer, cut_lead, cuts_more, cuts_all}
use Rattle.runs.specs.Typed.{comparison_in, relation_in}
use Rattle.std.proofs.lemmas.Bool.{cases_lt, cond-true, lt-ltb}
use Rattle.region.specs.Reads.{count_no}

-- the cut by a comparison of one timer, and by one of a lead
pub cut_of_timer : (r : Record) (c : Comparison) (i : ℕ) (x : Span) → c.subject ≡ Timer i → cut r (comparison_in c) x ≡ bounded (relation_in c.relation) (count r (timer_no r i)) (2 * r.classes * c.constant) x
cut_of_timer r c i x s =
    ap (λ z. cut r (comparison_in (record { subject = z; relation = c.relation; constant = c.constant })) x) s
    ∙ cut_timer r i (relation_in c.relation) c.constant x

pub cut_of_lead : (r : Record) (c : Comparison) (i j : ℕ) (x : Span) (b : Bool) → c.subject ≡ Lead i j → says (relation_in c.relation) (count r (timer_no r i)) (count r (timer_no r j) + 2 * r.classes * c.constant) ≡ b → cut r (comparison_in c) x ≡ cond b x (before 0 x)
cut_of_lead r c i j x b s e =
    ap (λ z. cut r (comparison_in (record { subject = z; relation = c.relation; constant = c.constant })) x) s
    ∙ (cut_lead r i j (relation_in c.relation) c.constant x ∙ ap (λ z. cond z x (before 0 x)) e)

-- a loop over comparison rows: one more, and the end
pub next_row : (r : Record) (rows : List ComparisonRow) (i : ℕ) (c : Comparison) (x y : Span) → i < length rows → c ≡ reading_of (get_or rows i no_comparison) → y ≡ cut r (comparison_in c) x → cuts r (drop (i + 1) (map comparison_of_row rows)) y ≡ cuts r (drop i (map comparison_of_row rows)) x
next_row r rows i c x y h e f =
    let l : i < length (map comparison_of_row rows) = omega (arith, length-map rows comparison_of_row) in
    let reads = ap comparison_in e in
    let here = get_or-map comparison_of_row rows i no_comparison (comparison_of_row no_comparison) h in
    let more = cuts_more r (map comparison_of_row rows) i (comparison_of_row no_comparison) x l in
    cc

pub no_more_rows : (r : Record) (rows : List ComparisonRow) (i : ℕ) (x : Span) → length rows ≤ i → cuts r (drop i (map comparison_of_row rows)) x ≡ x
no_more_rows r rows i x h = cuts_all r (map comparison_of_row rows) i x (omega (arith, length-map rows comparison_of_row))

-- a timer that is not counted is not there, and reads as one at zero
pub count_of_missing : (r : Record) (i : ℕ) → None ≡ count_no r i → count r (timer_no r i) ≡ edge r
count_of_missing r i e = go (cases_lt i (length r.timers))
  where
    go : (i < length r.timers) ⊎ (length r.timers ≤ i) → count r (timer_no r i) ≡ edge r
    go (inl h) =
        let some : count_no r i ≡ Some (count r (timer_no r i)) = cond-true (ltb i (length r.timers)) (Some (count r (timer_no r i))) None (lt-ltb i (length r.timers) h) in
        let z : ◌≡◌ {A = ℕ} 0 1 = cc in
        omega arith
    go (inr h) =
        let f : count r (timer_no r i) ≡ count r fresh = ap (count r) (get_or_past r.timers i fresh h) in omega arith

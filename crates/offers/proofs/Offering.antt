-- One more offer in a list, and the steps of a loop over changes.
use Rattle.std.proofs.Common.{◌≡◌, refl, ℕ, ◌+◌, ◌-◌, ◌<◌, ◌≤◌, true, false, List, [], ◌∷◌, ◌++◌, map, length, get_or, drop, set, replicate, sym, ap, ◌∙◌, arith, take}
use Rattle.std.proofs.lemmas.List.{append_assoc, append-nil, drop-drop, drop-replicate, drop-set-lt, get_or-map, length-map, length-drop, length-take}
use Rattle.rows.specs.declared.tables.ChangeRow.{ChangeRow}
use Rattle.rows.specs.Plans.{PlanRows}
use Rattle.rows.specs.Verdicts.{no_change}
use Rattle.theory.specs.Records.{Record}
use Rattle.runs.specs.declared.Offer.{Offer}
use Rattle.runs.specs.Runs.{any_in, blank_offer, guard_span, offer_of, offers_from}
use Rattle.runs.specs.Tables.{change_of_row}
use Rattle.runs.proofs.Loops.{offers_from_all, offers_from_more_none, offers_from_more_some}
use Rattle.runs.specs.Plans.{Change}

-- past one more offer the items are blank still
pub blank_after : (items : List Offer) (n : ℕ) (x : Offer) → drop n items ≡ replicate (128 - n) blank_offer → drop (n + 1) (set items n x) ≡ replicate (128 - (n + 1)) blank_offer
blank_after items n x e =
    let less : 128 - n - 1 ≡ 128 - (n + 1) = omega arith in
    drop-set-lt (n + 1) items n x (omega arith)
    ∙ (sym (drop-drop 1 n items) ∙ (ap (drop 1) e ∙ (drop-replicate 1 (128 - n) blank_offer ∙ ap (λ k. replicate k blank_offer) less)))

-- a loop over change rows: one more that is offered, one that is not, and the end
pub next_offered : (r : Record) (last c : ℕ) (p : PlanRows) (rows : List ChangeRow) (i : ℕ) (os : List Offer) → i < length rows → any_in (guard_span r last (change_of_row p (get_or rows i no_change)).guard) ≡ true → (os ++ offer_of (c + i) (guard_span r last (change_of_row p (get_or rows i no_change)).guard) ∷ []) ++ offers_from r last (c + (i + 1)) (drop (i + 1) (map (change_of_row p) rows)) ≡ os ++ offers_from r last (c + i) (drop i (map (change_of_row p) rows))
next_offered r last c p rows i os h e =
    let l : i < length (map (change_of_row p) rows) = omega (arith, length-map rows (change_of_row p)) in
    let here = get_or-map (change_of_row p) rows i no_change (change_of_row p no_change) h in
    let some : any_in (guard_span r last (get_or (map (change_of_row p) rows) i (change_of_row p no_change)).guard) ≡ true = rw here e in
    let more = offers_from_more_some r last c (map (change_of_row p) rows) i (change_of_row p no_change) l some in
    rw (append_assoc, more, here) refl

pub next_not_offered : (r : Record) (last c : ℕ) (p : PlanRows) (rows : List ChangeRow) (i : ℕ) → i < length rows → any_in (guard_span r last (change_of_row p (get_or rows i no_change)).guard) ≡ false → offers_from r last (c + (i + 1)) (drop (i + 1) (map (change_of_row p) rows)) ≡ offers_from r last (c + i) (drop i (map (change_of_row p) rows))
next_not_offered r last c p rows i h e =
    let l : i < length (map (change_of_row p) rows) = omega (arith, length-map rows (change_of_row p)) in
    let here = get_or-map (change_of_row p) rows i no_change (change_of_row p no_change) h in
    let none : any_in (guard_span r last (get_or (map (change_of_row p) rows) i (change_of_row p no_change)).guard) ≡ false = rw here e in
    sym (offers_from_more_none r last c (map (change_of_row p) rows) i (change_of_row p no_change) l none)

pub no_more_changes : (r : Record) (last c : ℕ) (p : PlanRows) (rows : List ChangeRow) (i : ℕ) (os : List Offer) → length rows ≤ i → os ++ offers_from r last (c + i) (drop i (map (change_of_row p) rows)) ≡ os
no_more_changes r last c p rows i os h =
    ap (λ z. os ++ z) (offers_from_all r last c (map (change_of_row p) rows) i (omega (arith, length-map rows (change_of_row p))))
    ∙ append-nil os

-- a loop over change rows: its start
pub no_offers_yet : (r : Record) (last c : ℕ) (xs : List Change) (os : List Offer) → os ≡ [] → os ++ offers_from r last (c + 0) (drop 0 xs) ≡ offers_from r last c xs
no_offers_yet r last c xs os e =
    let n : c + 0 ≡ c = omega arith in ap (λ z. z ++ offers_from r last (c + 0) (drop 0 xs)) e ∙ ap (λ k. offers_from r last k xs) n

-- where n rows from the row `first` on stand
pub rows_placed : {X : Type 0} (rows part : List X) (first n : ℕ) → part ≡ take n (drop first rows) → first ≤ 65535 → length rows ≤ 1024 → n ≤ 128 → (length part ≤ 128) × (first + length part ≤ 65535)
rows_placed rows part first n e f l h =
    let k : length part ≡ length (take n (drop first rows)) = ap length e in
    let a = length-take n (drop first rows) in
    let b = length-drop first rows in
    (omega arith, omega arith)

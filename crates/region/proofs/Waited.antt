-- What the test on the ceilings says of each timer, and the rows after a wait.
use Rattle.std.proofs.Common.{◌≡◌, ℕ, zero, suc, ◌+◌, ◌*◌, ◌<◌, ◌≤◌, Bool, true, false, ◌||◌, ltb, List, ◌++◌, map, length, get_or, take, drop, Decides, sym, refl, ap, ◌∙◌, subst, zero-add, add-one, arith, ◌-◌, ◌%◌, eqb, set}
use mathlib.Core.List.{map-map}
use mathlib.Core.Bool.{true≢false, or_comm}
use Rattle.std.specs.Bool.{MatchBool}
use Rattle.std.specs.List.{AllWithin, enumerate_from, list_any}
use Rattle.std.proofs.lemmas.List.Folds.{list_any_more}
use Rattle.std.proofs.lemmas.List.FromFn.{get_or-enumerate_from, length-enumerate_from}
use Rattle.std.proofs.lemmas.List.{append-nil, drop_all, drop_more, get_or_at, length-map, length-take-le, take_all, get_or-append_right, get_or-drop, get_or_default, take_at}
use Rattle.std.proofs.lemmas.Bool.Decides.{Decides-below_or, Decides-ltb}
use Rattle.rows.specs.declared.tables.TimerRow.{TimerRow}
use Rattle.theory.specs.Records.{Timer, Record, count, timer_at, timer_no, wait, edge}
use Rattle.theory.proofs.Waits.{wait_timers, same_record, wait_whole, wait_classes}
use Rattle.region.specs.declared.value.TimerValue.{TimerValue}
use Rattle.region.specs.declared.Region.{Region}
use Rattle.region.specs.Reads.{values_in}
use Rattle.region.specs.Viewed.{viewed}
use Rattle.region.specs.Views.{timer_in, blank, record_in}
use Rattle.region.specs.Waiting.{PastACeiling, ceiling_no, passes, passes_at, passes_below, row_at}
use Rattle.region.proofs.Shown.{value_shown}
use Rattle.std.proofs.lemmas.List.Edits.{map_over_more}
use Rattle.std.proofs.lemmas.Bool.{or_from}

pub passes_none : (ceilings : List TimerRow) (d : ℕ) (r : Record) → passes_below ceilings d r 0 ≡ false
unfolding passes_below
passes_none ceilings d r = refl

passes_suc : (ceilings : List TimerRow) (d : ℕ) (r : Record) (n : ℕ) → passes_below ceilings d r (suc n) ≡ (passes_at ceilings d r n || passes_below ceilings d r n)
unfolding passes_below
passes_suc ceilings d r n = refl

-- whether a timer with its row would stand past its ceiling
abbrev pub row_passes : List TimerRow → ℕ → Record → ℕ × TimerValue → Bool
row_passes ceilings d v p = ltb (2 * v.classes * ceiling_no ceilings p.0) (count v (timer_in p.1) + d)

numbered : (xs : List TimerValue) (i : ℕ) → i < length xs → get_or (enumerate_from 0 xs) i (0, blank) ≡ (i, get_or xs i blank)
numbered xs i l = get_or-enumerate_from 0 xs i (0, blank) l ∙ ap (λ (k : ℕ). (k, get_or xs i blank)) (zero-add i)

-- asked one by one, the first n timers tell whether one of them would
passes_among : (ceilings : List TimerRow) (d : ℕ) (v : Record) (xs : List TimerValue) → map timer_in xs ≡ v.timers → (n : ℕ) → n ≤ length xs → list_any (row_passes ceilings d v) (take n (enumerate_from 0 xs)) ≡ passes_below ceilings d v n
passes_among ceilings d v xs e zero l = sym (passes_none ceilings d v)
passes_among ceilings d v xs e (suc n) l =
    let es : List (ℕ × TimerValue) = enumerate_from 0 xs in
    let first : list_any (row_passes ceilings d v) (take n es) ≡ passes_below ceilings d v n = passes_among ceilings d v xs e n (omega arith) in
    let last : row_passes ceilings d v (get_or es n (0, blank)) ≡ passes_at ceilings d v n =
    ap (row_passes ceilings d v) (numbered xs n (omega arith))
    ∙ ap (λ t. ltb (2 * v.classes * ceiling_no ceilings n) (count v t + d)) (sym (value_shown xs v n e (omega arith))) in
    ap (λ m. list_any (row_passes ceilings d v) (take m es)) (sym (add-one n))
    ∙ list_any_more (row_passes ceilings d v) es n (0, blank) (omega (arith, length-enumerate_from 0 xs))
    ∙ (λ i. first i || last i)
    ∙ or_comm (passes_below ceilings d v n) (passes_at ceilings d v n)
    ∙ sym (passes_suc ceilings d v n)

pub passes_any : (ceilings : List TimerRow) (d : ℕ) (v : Record) (xs : List TimerValue) → map timer_in xs ≡ v.timers → list_any (row_passes ceilings d v) (enumerate_from 0 xs) ≡ passes ceilings d v
passes_any ceilings d v xs e =
    ap (list_any (row_passes ceilings d v)) (sym (take_all (length xs) (enumerate_from 0 xs) (omega (arith, length-enumerate_from 0 xs))))
    ∙ passes_among ceilings d v xs e (length xs) (omega arith)
    ∙ ap (passes_below ceilings d v) (sym (length-map xs timer_in) ∙ ap length e)

-- where no row would, every timer stays within m
pub all_within : (d m : ℕ) (v : Record) (xs : List TimerValue) (A : Type 0) (r : Bool) → map timer_in xs ≡ v.timers → MatchBool r A (AllWithin (λ (p : ℕ × TimerValue). count v (timer_in p.1) + d ≤ m) (enumerate_from 0 xs) 0 (length (enumerate_from 0 xs))) → r ≡ false → (i : ℕ) → i < length xs → count v (timer_no v i) + d ≤ m
all_within d m v xs A true e all f i l = absurd (true≢false f)
all_within d m v xs A false e all f i l =
    subst (λ t. count v t + d ≤ m) (ap (λ (p : ℕ × TimerValue). timer_in p.1) (numbered xs i l) ∙ sym (value_shown xs v i e l))
    (all i (0, blank) (omega arith) (omega (arith, length-enumerate_from 0 xs)))

pub decides_passes : (ceilings : List TimerRow) (d : ℕ) (r : Record) → Decides (passes ceilings d r) (PastACeiling ceilings d r)
decides_passes ceilings d r =
    Decides-below_or (passes_at ceilings d r) (λ i. 2 * r.classes * ceiling_no ceilings i < count r (timer_no r i) + d) (passes_below ceilings d r)
    (λ i. Decides-ltb (2 * r.classes * ceiling_no ceilings i) (count r (timer_no r i) + d)) (passes_none ceilings d r) (passes_suc ceilings d r) (length r.timers)

-- the row of a timer d steps later
abbrev pub later_row : Record → ℕ → TimerValue → TimerValue
later_row v d row = row_at v.classes (count v (timer_in row) + d)

-- the row at i is still to be written over
pub still_there : (f : TimerValue → TimerValue) (xs ys : List TimerValue) (i : ℕ) → i < length xs → ys ≡ map f (take i xs) ++ drop i xs → get_or ys i blank ≡ get_or xs i blank
still_there f xs ys i l e =
    let front : length (map f (take i xs)) ≡ i = length-map (take i xs) f ∙ length-take-le i xs (omega arith) in
    ap (λ zs. get_or zs i blank) (e ∙ ap (λ zs. map f (take i xs) ++ zs) (drop_more xs i blank l))
    ∙ get_or_at (map f (take i xs)) (get_or xs i blank) (drop (i + 1) xs) blank i front

-- once each row is written over, the rows show the timers after the wait
pub rows_later : (r : Region) (i d : ℕ) (ys : List TimerValue) → length (values_in r) ≤ i → ys ≡ map (later_row (viewed r) d) (take i (values_in r)) ++ drop i (values_in r) → map timer_in ys ≡ (wait d (viewed r)).timers
rows_later r i d ys all e =
    let v : Record = viewed r in
    let f : TimerValue → TimerValue = later_row v d in
    let g : Timer → Timer = λ t. timer_at r.classes (count v t + d) in
    ap (map timer_in)
    (e ∙ ap (λ zs. map f zs ++ drop i (values_in r)) (take_all i (values_in r) all)
    ∙ ap (λ zs. map f (values_in r) ++ zs) (drop_all i (values_in r) all)
    ∙ append-nil (map f (values_in r)))
    ∙ map-map timer_in f (values_in r)
    ∙ sym (map-map g timer_in (values_in r))
    ∙ sym (wait_timers d v)

pub passes_more : (ceilings : List TimerRow) (d : ℕ) (r : Record) (n : ℕ) → passes_below ceilings d r n ≡ false → passes_at ceilings d r n ≡ false → passes_below ceilings d r (n + 1) ≡ false
passes_more ceilings d r n below here =
    ap (passes_below ceilings d r) (add-one n) ∙ passes_suc ceilings d r n ∙ or_from (passes_at ceilings d r n) (passes_below ceilings d r n) here below

-- a row that is not yet written over is still the old one
read_over : (f : TimerValue → TimerValue) (xs ys : List TimerValue) (i : ℕ) → i < length xs → ys ≡ map f (take i xs) ++ drop i xs → get_or xs i blank ≡ get_or ys i (get_or xs i blank)
read_over f xs ys i l e =
    let x : TimerValue = get_or xs i blank in
    let front : length (map f (take i xs)) ≡ i = length-map (take i xs) f ∙ length-take-le i xs (omega arith) in
    let none : i + (i - i) ≡ i = omega arith in
    get_or_default xs i blank x l
    ∙ ap (λ k. get_or xs k x) (sym none)
    ∙ sym (get_or-drop i xs (i - i) x)
    ∙ sym (get_or-append_right (map f (take i xs)) (drop i xs) i i x front (omega arith))
    ∙ ap (λ zs. get_or zs i x) (sym e)

-- and then it is written over
pub write_over : (f : TimerValue → TimerValue) (xs ys : List TimerValue) (i : ℕ) → i < length xs → ys ≡ map f (take i xs) ++ drop i xs → set ys i (f (get_or xs i blank)) ≡ map f (take (i + 1) xs) ++ drop (i + 1) xs
write_over f xs ys i l e = map_over_more f xs ys i (get_or xs i blank) l e (read_over f xs ys i l e)

-- once the first rows are written over, they show the timers after the wait
pub first_rows_later : (w : Bool) (k n : ℕ) (xs ys : List TimerValue) (d : ℕ) → n ≤ length xs → ys ≡ map (later_row (record_in w k n xs) d) (take n xs) ++ drop n xs → map timer_in (take n ys) ≡ (wait d (record_in w k n xs)).timers
first_rows_later w k n xs ys d room e =
    let v : Record = record_in w k n xs in
    let f : TimerValue → TimerValue = later_row v d in
    let g : Timer → Timer = λ t. timer_at k (count v t + d) in
    let front : length (map f (take n xs)) ≡ n = length-map (take n xs) f ∙ length-take-le n xs room in
    ap (λ zs. map timer_in (take n zs)) e
    ∙ ap (map timer_in) (take_at (map f (take n xs)) (drop n xs) n front)
    ∙ map-map timer_in f (take n xs)
    ∙ sym (map-map g timer_in (take n xs))
    ∙ sym (wait_timers d v)

-- and so the record after the wait
pub wait_shown : (w w' : Bool) (k n : ℕ) (xs ys : List TimerValue) (d : ℕ) → w' ≡ eqb ((edge (record_in w k n xs) + d) % 2) 0 → map timer_in (take n ys) ≡ (wait d (record_in w k n xs)).timers → record_in w' k n ys ≡ wait d (record_in w k n xs)
wait_shown w w' k n xs ys d is_whole later =
    let v : Record = record_in w k n xs in
    same_record (record_in w' k n ys) (wait d v) (is_whole ∙ sym (wait_whole d v)) (sym (wait_classes d v)) later

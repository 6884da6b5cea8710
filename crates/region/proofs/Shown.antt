-- The timers that the rows of a region show.
use Rattle.std.proofs.Common.{◌≡◌, ℕ, ◌<◌, List, map, length, get_or, take, min, sym, ap, ◌∙◌, arith, ◌≤◌, true, replicate, subst, Bool}
use mathlib.Core.Logic.{∥∥₁_elim}
use native.Mathlib.Bridge.{le_prop}
use Rattle.std.proofs.lemmas.List.{length-map, length-take, get_or-map, length-take-le, length-replicate, take-replicate, get_or-take, ext_get_or}
use Rattle.theory.specs.Records.{Timer, Record, Valid, timer_no, fresh}
use Rattle.region.specs.declared.value.TimerValue.{TimerValue}
use Rattle.region.specs.Views.{timer_in, blank, record_in}
use lib.LanesLaws.{map-replicate}
use Rattle.theory.proofs.Validity.{record_of_is_valid}
use Rattle.theory.proofs.Waits.{same_record}
use Rattle.theory.proofs.Zeros.{record_of_zeros}

pub rows_taken : (n : ℕ) (rows : List TimerValue) → length (take n rows) ≡ min n (length rows)
rows_taken n rows = length-take n rows

pub timers_shown : (rows : List TimerValue) → length (map timer_in rows) ≡ length rows
timers_shown rows = length-map rows timer_in

-- how long the lists of rows and timers are
pub ruleset lengths = (rows_taken, timers_shown)

pub value_shown : (xs : List TimerValue) (v : Record) (i : ℕ) → map timer_in xs ≡ v.timers → i < length xs → timer_no v i ≡ timer_in (get_or xs i blank)
value_shown xs v i e l = ap (λ ts. get_or ts i fresh) (sym e) ∙ get_or-map timer_in xs i blank fresh l

pub rank_below : (xs : List TimerValue) (v : Record) (i : ℕ) → map timer_in xs ≡ v.timers → i < length xs → ∥ Valid v ∥₁ → (get_or xs i blank).rank < v.classes
rank_below xs v i e l valid =
    let within : i < length v.timers = omega (arith, length-map xs timer_in, ap length e) in
    let same = ap (λ (t : Timer). t.rank) (value_shown xs v i e l) in
    ∥∥₁_elim valid le_prop (λ ok. omega (arith, ok.ranks_below i within))

pub length_shown : (n : ℕ) (rows : List TimerValue) → n ≤ length rows → length (map timer_in (take n rows)) ≡ n
length_shown n rows h = length-map (take n rows) timer_in ∙ length-take-le n rows h

pub timer_shown : (w : Bool) (k n : ℕ) (rows : List TimerValue) (i : ℕ) → n ≤ length rows → i < n → timer_no (record_in w k n rows) i ≡ timer_in (get_or rows i blank)
timer_shown w k n rows i h l =
    let within : i < length (take n rows) = omega (arith, length-take-le n rows h) in
    get_or-map timer_in (take n rows) i blank fresh within ∙ ap timer_in (get_or-take n rows i blank l)

-- a rank among the first rows that show a record is below its classes
pub rank_shown_below : (w : Bool) (k n : ℕ) (rows : List TimerValue) (i : ℕ) → n ≤ length rows → i < n → ∥ Valid (record_in w k n rows) ∥₁ → (get_or rows i blank).rank < k
rank_shown_below w k n rows i h l valid =
    let within : i < length (map timer_in (take n rows)) = omega (arith, length_shown n rows h) in
    let same = ap (λ (t : Timer). t.rank) (timer_shown w k n rows i h l) in
    ∥∥₁_elim valid le_prop (λ ok. omega (arith, ok.ranks_below i within))

-- two rows that show one timer are one row
same_row : (a b : TimerValue) → timer_in a ≡ timer_in b → a ≡ b
same_row a b e = λ i. record { seconds = (e i).seconds; rank = (e i).rank }

same_front : (n : ℕ) (xs ys : List TimerValue) → n ≤ length xs → n ≤ length ys → ((i : ℕ) → i < n → get_or xs i blank ≡ get_or ys i blank) → take n xs ≡ take n ys
same_front n xs ys room room' same =
    let short : length (take n xs) ≡ n = length-take-le n xs room in
    ext_get_or blank (take n xs) (take n ys) (short ∙ sym (length-take-le n ys room'))
    (λ i h. let l : i < n = omega arith in get_or-take n xs i blank l ∙ same i l ∙ sym (get_or-take n ys i blank l))

-- two regions show one record exactly if they agree field by field and row by row
module _ (w w' : Bool) (k k' n n' : ℕ) (xs ys : List TimerValue) (room : n ≤ length xs) (room' : n' ≤ length ys) where
  pub one_record : w ≡ w' → k ≡ k' → n ≡ n' → ((i : ℕ) → i < n → get_or xs i blank ≡ get_or ys i blank) → record_in w k n xs ≡ record_in w' k' n' ys
  one_record ew ek en same =
      let room'' : n ≤ length ys = omega arith in
      same_record (record_in w k n xs) (record_in w' k' n' ys) ew ek
      (ap (map timer_in) (same_front n xs ys room room'' same ∙ ap (λ m. take m ys) en))

  pub same_number : record_in w k n xs ≡ record_in w' k' n' ys → n ≡ n'
  same_number e =
      sym (length_shown n xs room) ∙ ap (λ (r : Record). length r.timers) e ∙ length_shown n' ys room'

  pub same_rows : record_in w k n xs ≡ record_in w' k' n' ys → (i : ℕ) → i < n → get_or xs i blank ≡ get_or ys i blank
  same_rows e i l =
      let l' : i < n' = omega (arith, same_number e) in
      same_row (get_or xs i blank) (get_or ys i blank)
      (sym (timer_shown w k n xs i room l) ∙ ap (λ (r : Record). timer_no r i) e ∙ timer_shown w' k' n' ys i room' l')

-- rows that all stand at zero show the record of timers at zero
pub zero_shown : (n : ℕ) → n ≤ 16 → record_in true 1 n (replicate 16 blank) ≡ record { whole = true; classes = 1; timers = replicate n fresh }
zero_shown n h =
    ap (λ rows. record { whole = true; classes = 1; timers = map timer_in rows }) (take-replicate n 16 blank h)
    ∙ ap (λ ts. record { whole = true; classes = 1; timers = ts }) (map-replicate timer_in n blank)

pub zero_valid : (n : ℕ) → 1 ≤ n → n ≤ 16 → Valid (record_in true 1 n (replicate 16 blank))
zero_valid n some few =
    subst Valid (record_of_zeros 1 n (omega arith) some ∙ sym (zero_shown n few))
    (record_of_is_valid 1 (replicate n 0) (omega arith) (omega (arith, length-replicate {A = ℕ} n 0)))

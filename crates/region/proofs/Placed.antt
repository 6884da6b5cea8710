-- The live classes of a reset, the places that they leave to the timers, and the record after it.
use Rattle.std.proofs.Common.{◌≡◌, ℕ, ◌+◌, ◌^◌, ◌<◌, ◌≤◌, Bool, true, false, cond, ◌&&◌, eqb, leb, ◌≢◌, List, [], ◌∷◌, ◌++◌, map, length, get_or, take, set, Ok, Err, sym, ap, ◌∙◌, ⊎_elim, add-one, arith, below_more}
use Rattle.std.proofs.lemmas.List.{get_or-set_same, get_or-set_other, length-map, length-take-le, map_more, map_push, take_more_set}
use Rattle.std.proofs.lemmas.Bool.{cases_Bool, cases_eq, cond-true, cond-false, leb-false}
use Rattle.std.proofs.lemmas.Bool.Decides.{nat_tests}
use Rattle.rows.specs.declared.refusal.Refusal.TheVariants.{NotThere}
use Rattle.theory.specs.Records.{Timer, Record, at_zero, live, ranked, reset, fresh, reranked}
use Rattle.theory.specs.Settings.{marked, total, unmarked, any_marked}
use Rattle.theory.proofs.Resets.{live_is, ranked_nil, ranked_here, ranked_there, reset_some}
use Rattle.theory.proofs.Totals.{total_suc, total_same}
use Rattle.region.specs.declared.value.TimerValue.{TimerValue}
use Rattle.region.specs.Resetting.{bit_no, marks, names_missing, reset_by, Placed}
use Rattle.region.specs.Views.{blank, timer_in, record_in}
use Rattle.region.proofs.Marked.{get_d_written, length_marks, marked_push, marks_more, some_named}
use Rattle.region.proofs.Shown.{length_shown}

module _ (xs places : List ℕ) (j : ℕ) (room : length places ≡ 17) (here : j < 16) where
  pub place_next : get_or (set places (j + 1) (get_or places j 0 + get_or xs j 0)) (j + 1) 0 ≡ get_or places j 0 + get_or xs j 0
  place_next = get_or-set_same places (j + 1) (get_or places j 0 + get_or xs j 0) 0 (omega arith)

  pub places_more : ((k : ℕ) → k < j + 1 → get_or places k 0 ≡ 1 + total (λ x. get_or xs x 0) k) → (k : ℕ) → k < j + 1 + 1 → get_or (set places (j + 1) (get_or places j 0 + get_or xs j 0)) k 0 ≡ 1 + total (λ x. get_or xs x 0) k
  places_more below =
      below_more (λ k. get_or (set places (j + 1) (get_or places j 0 + get_or xs j 0)) k 0 ≡ 1 + total (λ x. get_or xs x 0) k) (j + 1)
      (λ k h. let ne : k ≢ j + 1 = omega arith in get_or-set_other places (j + 1) k (get_or places j 0 + get_or xs j 0) 0 ne ∙ below k h)
      (let sum : total (λ x. get_or xs x 0) (j + 1) ≡ total (λ x. get_or xs x 0) j + get_or xs j 0 =
      ap (total (λ x. get_or xs x 0)) (add-one j) ∙ total_suc (λ x. get_or xs x 0) j in
      omega (arith, place_next, below j (omega arith)))

-- once zero is struck out of the ranks that are held, where some timer stands at zero, the live classes are left
pub live_written : (ms : List Bool) (r : Record) (xs : List ℕ) (j : ℕ) → 0 < length xs → r.whole ≡ true → get_or xs j 0 ≡ ranked (unmarked ms r.timers) j → get_or (set xs 0 0) j 0 ≡ live ms r j
live_written ms r xs j l e held =
    get_d_written xs 0 0 j l
    ∙ ap (λ n. cond (eqb 0 j) 0 n) held
    ∙ ap (λ b. cond b 0 (ranked (unmarked ms r.timers) j)) (zero_first j ∙ ap (λ b. b && eqb j 0) (sym e))
    ∙ sym (live_is ms r j)
  where
    zero_first : (n : ℕ) → eqb 0 n ≡ (true && eqb n 0)
    zero_first n = grind (arith, nat_tests)

-- where no timer stands at zero, the live classes are those that are held
pub live_kept : (ms : List Bool) (r : Record) (xs : List ℕ) (j : ℕ) → r.whole ≡ false → get_or xs j 0 ≡ ranked (unmarked ms r.timers) j → get_or xs j 0 ≡ live ms r j
live_kept ms r xs j e held =
    held ∙ ap (λ b. cond (b && eqb j 0) 0 (ranked (unmarked ms r.timers) j)) (sym e) ∙ sym (live_is ms r j)

ranked_bit : (ts : List Timer) (j : ℕ) → ranked ts j ≤ 1
ranked_bit [] j = omega (arith, ranked_nil j)
ranked_bit (t ∷ ts) j =
    ⊎_elim (λ e. omega (arith, ranked_here t ts j e)) (λ ne. omega (arith, ranked_there t ts j ne, ranked_bit ts j)) (cases_eq t.rank j)

pub live_bit : (ms : List Bool) (r : Record) (j : ℕ) → live ms r j ≤ 1
live_bit ms r j =
    let n : ℕ = ranked (unmarked ms r.timers) j in
    ⊎_elim
    (λ t. omega (arith, live_is ms r j ∙ cond-true (at_zero r j) 0 n t))
    (λ f. omega (arith, live_is ms r j ∙ cond-false (at_zero r j) 0 n f, ranked_bit (unmarked ms r.timers) j))
    (cases_Bool (at_zero r j))

pub rows_reset_more : (z : Timer) (f : Timer → Timer) (bits : ℕ) (xs ys : List TimerValue) (i : ℕ) (y : TimerValue) → i < length xs → i < length ys → map timer_in (take i ys) ≡ marked z f (marks i bits) (map timer_in (take i xs)) → timer_in y ≡ cond (bit_no bits i) z (f (timer_in (get_or xs i blank))) → map timer_in (take (i + 1) (set ys i y)) ≡ marked z f (marks (i + 1) bits) (map timer_in (take (i + 1) xs))
rows_reset_more z f bits xs ys i y l l' before here =
    let ms : List Bool = marks i bits in
    let ts : List Timer = map timer_in (take i xs) in
    let t : Timer = timer_in (get_or xs i blank) in
    let same : length ms ≡ length ts = length_marks i bits ∙ sym (length-map (take i xs) timer_in ∙ length-take-le i xs (omega arith)) in
    ap (map timer_in) (take_more_set ys i y l')
    ∙ map_push timer_in (take i ys) y
    ∙ ap (λ (zs : List Timer). zs ++ timer_in y ∷ []) before
    ∙ ap (λ (s : Timer). marked z f ms ts ++ s ∷ []) here
    ∙ sym (marked_push z f ms ts (bit_no bits i) t same)
    ∙ ap (marked z f (ms ++ bit_no bits i ∷ [])) (sym (map_more timer_in xs i blank l))
    ∙ ap (λ (ns : List Bool). marked z f ns (map timer_in (take (i + 1) xs))) (sym (marks_more i bits))

-- a reset that names no missing timer answers the record after it
pub reset_answered : (bits m : ℕ) (v v' : Record) → m ≡ length v.timers → false ≡ leb (2 ^ m) bits → reset (marks (length v.timers) bits) v ≡ v' → reset_by bits v ≡ (Ok tt, v')
reset_answered bits m v v' timers there after =
    cond-false (names_missing bits v) (Err NotThere, v) (Ok tt, reset (marks (length v.timers) bits) v) (ap (λ k. leb (2 ^ k) bits) (sym timers) ∙ sym there)
    ∙ ap (λ (x : Record). (Ok tt, x)) after

pub placed_from_live : (xs table : List ℕ) (ms : List Bool) (r : Record) → ((j : ℕ) → j < 16 → get_or xs j 0 ≡ live ms r j) → ((j : ℕ) → j < 17 → get_or table j 0 ≡ 1 + total (λ x. get_or xs x 0) j) → Placed table ms r
placed_from_live xs table ms r same sums j h =
    sums j h ∙ ap (λ n. 1 + n) (total_same (λ x. get_or xs x 0) (live ms r) j (λ x l. same x (omega arith)))

pub reset_shown : (ms : List Bool) (v : Record) (k n : ℕ) (ys : List TimerValue) → any_marked ms ≡ true → k ≡ 1 + total (live ms v) v.classes → map timer_in (take n ys) ≡ marked fresh (reranked ms v) ms v.timers → record_in true k n ys ≡ reset ms v
reset_shown ms v k n ys some classes_are timers_are =
    (λ i. record { whole = true; classes = classes_are i; timers = timers_are i }) ∙ sym (reset_some ms v some)

-- the row of a timer that is not named and does not stand at zero
pub row_placed : (ms : List Bool) (v : Record) (t : Timer) (p : ℕ) → at_zero v t.rank ≡ false → p ≡ 1 + total (live ms v) t.rank → record { seconds = t.seconds; rank = p } ≡ reranked ms v t
row_placed ms v t p above e =
    λ i. record { seconds = t.seconds; rank = (e ∙ sym (cond-false (at_zero v t.rank) 0 (1 + total (live ms v) t.rank) above)) i }

-- the record after the named timers are set to zero
pub reset_after : (w : Bool) (k n bits : ℕ) (xs ys : List TimerValue) (table : List ℕ) → n ≤ length xs → leb (2 ^ length (map timer_in (take n xs))) bits ≡ false → (bits ≡ 0 → ⊥) → k ≤ 16 → Placed table (marks n bits) (record_in w k n xs) → map timer_in (take n ys) ≡ marked fresh (reranked (marks n bits) (record_in w k n xs)) (marks n bits) (map timer_in (take n xs)) → record_in true (get_or table k 0) n ys ≡ reset (marks n bits) (record_in w k n xs)
reset_after w k n bits xs ys table room there some few placed rows_are =
    let below : bits < 2 ^ n = rw (length_shown n xs room) at (leb-false (2 ^ length (map timer_in (take n xs))) bits there) in
    reset_shown (marks n bits) (record_in w k n xs) (get_or table k 0) n ys (some_named bits n below some) (placed k (omega arith)) rows_are

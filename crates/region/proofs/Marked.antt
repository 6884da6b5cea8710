-- The timers that a number names, and the ranks that the others have.
use Rattle.std.proofs.Common.{◌≡◌, ℕ, zero, suc, ◌+◌, ◌*◌, ◌/◌, ◌%◌, ◌^◌, ◌<◌, Bool, true, false, cond, eqb, List, [], ◌∷◌, ◌++◌, map, length, get_or, take, set, sym, refl, ap, ◌∙◌, ⊎_elim, mod-eq_of_lt, zero-add, arith}
use native.Mathlib.Nat.{zero-div}
use Rattle.std.specs.List.{range_with_len}
use Rattle.std.proofs.lemmas.Nat.{mod-pow-add, mod_below}
use Rattle.std.proofs.lemmas.List.FromFn.{length-map-range_with_len, map-range_with_len_more}
use Rattle.std.proofs.lemmas.List.{append-nil, get_or-set_same, get_or-set_other, length-map, length-take-le, map_more}
use Rattle.std.proofs.lemmas.Bool.{cases_Bool, cases_eq, cond-true, cond-false, eq-eqb, ne_eqb, eqb-false, or_parts}
use Rattle.theory.specs.Records.{Timer, ranked}
use Rattle.theory.specs.Settings.{any_marked, marked, unmarked}
use Rattle.theory.proofs.Resets.{ranked_nil}
use Rattle.region.specs.declared.value.TimerValue.{TimerValue}
use Rattle.region.specs.Resetting.{bit_no, marks}
use Rattle.region.specs.Views.{timer_in, blank}

pub length_marks : (n bits : ℕ) → length (marks n bits) ≡ n
length_marks n bits = length-map-range_with_len (bit_no bits) 0 n

pub marks_more : (i bits : ℕ) → marks (i + 1) bits ≡ marks i bits ++ bit_no bits i ∷ []
marks_more i bits = map-range_with_len_more (bit_no bits) 0 i i (omega arith)

-- one more place that is marked or not
unmarked_push : {A : Type 0} (ms : List Bool) (xs : List A) (m : Bool) (x : A) → length ms ≡ length xs → unmarked (ms ++ m ∷ []) (xs ++ x ∷ []) ≡ unmarked ms xs ++ cond m [] (x ∷ [])
unfolding unmarked
unmarked_push [] [] true x e = refl
unmarked_push [] [] false x e = refl
unmarked_push [] (y ∷ ys) m x e = absurd (omega arith)
unmarked_push (b ∷ ms) [] m x e = absurd (omega arith)
unmarked_push (true ∷ ms) (y ∷ ys) m x e = unmarked_push ms ys m x (omega arith)
unmarked_push {A} (false ∷ ms) (y ∷ ys) m x e = ap (λ (zs : List A). y ∷ zs) (unmarked_push ms ys m x (omega arith))

pub marked_push : {A B : Type 0} (z : B) (f : A → B) (ms : List Bool) (xs : List A) (m : Bool) (x : A) → length ms ≡ length xs → marked z f (ms ++ m ∷ []) (xs ++ x ∷ []) ≡ marked z f ms xs ++ cond m z (f x) ∷ []
unfolding marked
marked_push z f [] [] m x e = refl
marked_push z f [] (y ∷ ys) m x e = absurd (omega arith)
marked_push z f (b ∷ ms) [] m x e = absurd (omega arith)
marked_push {A} {B} z f (b ∷ ms) (y ∷ ys) m x e = ap (λ (zs : List B). cond b z (f y) ∷ zs) (marked_push z f ms ys m x (omega arith))

either_first : (a b : Bool) (n : ℕ) → cond a 1 (cond b 1 n) ≡ cond b 1 (cond a 1 n)
either_first true true n = refl
either_first true false n = refl
either_first false true n = refl
either_first false false n = refl

-- one more timer holds its rank
ranked_push : (ts : List Timer) (t : Timer) (j : ℕ) → ranked (ts ++ t ∷ []) j ≡ cond (eqb t.rank j) 1 (ranked ts j)
unfolding ranked
ranked_push [] t j = refl
ranked_push (s ∷ ts) t j =
    ap (λ (n : ℕ). cond (eqb s.rank j) 1 n) (ranked_push ts t j) ∙ either_first (eqb s.rank j) (eqb t.rank j) (ranked ts j)

-- the timers among the first i that are not named
abbrev pub others : ℕ → List TimerValue → ℕ → List Timer
others bits rows i = unmarked (marks i bits) (map timer_in (take i rows))

pub others_none : (bits : ℕ) (rows : List TimerValue) (j : ℕ) → ranked (others bits rows 0) j ≡ 0
unfolding unmarked
others_none bits rows j = ranked_nil j

others_more : (bits : ℕ) (rows : List TimerValue) (i : ℕ) → i < length rows → others bits rows (i + 1) ≡ others bits rows i ++ cond (bit_no bits i) [] (timer_in (get_or rows i blank) ∷ [])
others_more bits rows i l =
    let same : length (marks i bits) ≡ length (map timer_in (take i rows)) =
    length_marks i bits ∙ sym (length-map (take i rows) timer_in ∙ length-take-le i rows (omega arith)) in
    ap (λ ms. unmarked ms (map timer_in (take (i + 1) rows))) (marks_more i bits)
    ∙ ap (unmarked (marks i bits ++ bit_no bits i ∷ [])) (map_more timer_in rows i blank l)
    ∙ unmarked_push (marks i bits) (map timer_in (take i rows)) (bit_no bits i) (timer_in (get_or rows i blank)) same

pub named_more : (bits : ℕ) (rows : List TimerValue) (i j : ℕ) → i < length rows → bit_no bits i ≡ true → ranked (others bits rows (i + 1)) j ≡ ranked (others bits rows i) j
named_more bits rows i j l e =
    ap (λ ts. ranked ts j)
    (others_more bits rows i l
    ∙ ap (λ b. others bits rows i ++ cond b [] (timer_in (get_or rows i blank) ∷ [])) e
    ∙ append-nil (others bits rows i))

pub other_more : (bits : ℕ) (rows : List TimerValue) (i j : ℕ) → i < length rows → bit_no bits i ≡ false → ranked (others bits rows (i + 1)) j ≡ cond (eqb (get_or rows i blank).rank j) 1 (ranked (others bits rows i) j)
other_more bits rows i j l e =
    ap (λ ts. ranked ts j)
    (others_more bits rows i l ∙ ap (λ b. others bits rows i ++ cond b [] (timer_in (get_or rows i blank) ∷ [])) e)
    ∙ ranked_push (others bits rows i) (timer_in (get_or rows i blank)) j

-- what stands at j after a write at k
pub get_d_written : (xs : List ℕ) (k v j : ℕ) → k < length xs → get_or (set xs k v) j 0 ≡ cond (eqb k j) v (get_or xs j 0)
get_d_written xs k v j l =
    ⊎_elim
    (λ e. ap (λ n. get_or (set xs k v) n 0) (sym e) ∙ get_or-set_same xs k v 0 l ∙ sym (cond-true (eqb k j) v (get_or xs j 0) (eq-eqb k j e)))
    (λ ne. get_or-set_other xs k j v 0 (λ e. ne (sym e)) ∙ sym (cond-false (eqb k j) v (get_or xs j 0) (ne_eqb k j ne)))
    (cases_eq k j)

any_false : (p : ℕ → Bool) (a n : ℕ) → any_marked (map p (range_with_len a n)) ≡ false → (i : ℕ) → i < n → p (a + i) ≡ false
unfolding any_marked
any_false p a zero e i h = absurd (omega arith)
any_false p a (suc n) e zero h =
    let none : a + 0 ≡ a = omega arith in
    ap p none ∙ (or_parts (p a) (any_marked (map p (range_with_len (a + 1) n))) e).0
any_false p a (suc n) e (suc i) h =
    let next : a + suc i ≡ a + 1 + i = omega arith in
    ap p next ∙ any_false p (a + 1) n (or_parts (p a) (any_marked (map p (range_with_len (a + 1) n))) e).1 i (omega arith)

all_false : (p : ℕ → Bool) (a n : ℕ) → ((i : ℕ) → p i ≡ false) → any_marked (map p (range_with_len a n)) ≡ false
unfolding any_marked
all_false p a zero h = refl
all_false p a (suc n) h = rw (h a) (all_false p (a + 1) n h)

low_bits : (bits n : ℕ) → ((i : ℕ) → i < n → bit_no bits i ≡ false) → bits % 2 ^ n ≡ 0
low_bits bits zero h = omega (arith, mod_below bits 1 (omega arith))
low_bits bits (suc n) h =
    let rest : bits % 2 ^ n ≡ 0 = low_bits bits n (λ i l. h i (omega arith)) in
    let bit : bits / 2 ^ n % 2 ≡ 0 =
    omega (arith, mod_below (bits / 2 ^ n) 2 (omega arith), eqb-false (bits / 2 ^ n % 2) 1 (h n (omega arith))) in
    let split : bits % 2 ^ (1 + n) ≡ bits / 2 ^ n % 2 * 2 ^ n + bits % 2 ^ n = mod-pow-add bits 1 n in
    let next : suc n ≡ 1 + n = omega arith in
    ap (λ m. bits % 2 ^ m) next ∙ split ∙ ap (λ b. b * 2 ^ n + bits % 2 ^ n) bit ∙ omega arith

pub some_named : (bits n : ℕ) → bits < 2 ^ n → (bits ≡ 0 → ⊥) → any_marked (marks n bits) ≡ true
some_named bits n l ne =
    ⊎_elim (λ t. t)
    (λ f. absurd (ne (sym (mod-eq_of_lt l) ∙ low_bits bits n (λ i h. ap (bit_no bits) (sym (zero-add i)) ∙ any_false (bit_no bits) 0 n f i h))))
    (cases_Bool (any_marked (marks n bits)))

pub none_named : (n : ℕ) → any_marked (marks n 0) ≡ false
none_named n = all_false (bit_no 0) 0 n (λ i. ap (λ x. eqb (x % 2) 1) (zero-div (2 ^ i)))

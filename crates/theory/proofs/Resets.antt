-- To set timers to zero is to reset them in the record.
use Rattle.std.proofs.Common.{◌≡◌, ℕ, zero, suc, ◌+◌, ◌*◌, ◌%◌, ◌<◌, ◌≤◌, Bool, true, false, cond, ◌&&◌, eqb, ◌⊎◌, List, [], ◌∷◌, map, length, sym, refl, ap, ◌∙◌, ap₂, inl, inr, arith}
use native.Mathlib.Nat.{zero-mod, zero-div}
use Rattle.std.specs.List.{AllByRecursion}
use Rattle.std.proofs.ByRecursion.{All-weaker}
use Rattle.std.proofs.lemmas.Bool.{cases_eq, cases_order, cases_Bool, eq-eqb, ne_eqb, and_right, and_left, cond-true, cond-false}
use Rattle.theory.specs.Settings.{total, held, marked, unmarked, any_marked, cleared}
use Rattle.theory.specs.Records.{Timer, Record, record_of, timer_of, fresh, ranked, at_zero, live, reranked, reset}
use Rattle.theory.proofs.Totals.{total_zero, total_suc, total_shift, total_same, total_lt}
use Rattle.theory.proofs.Held.{held_nil, held_here, held_there, held_bit, held_none, all_held}
use Rattle.theory.proofs.Waits.{same_record, same_timer}

-- to map a list that is set at the marked places is to set the mapped list
pub map_marked : {A B C E : Type 0} (g : B → E) (z : B) (f : A → B) (z' : E) (f' : C → E) (k : A → C) → g z ≡ z' → (marks : List Bool) (xs : List A) → AllByRecursion (λ x. g (f x) ≡ f' (k x)) xs → map g (marked z f marks xs) ≡ marked z' f' marks (map k xs)
unfolding marked
map_marked g z f z' f' k e [] [] h = refl
map_marked g z f z' f' k e [] (x ∷ xs) h = ap₂ ◌∷◌ h.0 (map_marked g z f z' f' k e [] xs h.1)
map_marked g z f z' f' k e (m ∷ marks) [] h = refl
map_marked g z f z' f' k e (true ∷ marks) (x ∷ xs) h = ap₂ ◌∷◌ e (map_marked g z f z' f' k e marks xs h.1)
map_marked g z f z' f' k e (false ∷ marks) (x ∷ xs) h = ap₂ ◌∷◌ h.0 (map_marked g z f z' f' k e marks xs h.1)

pub length_marked : {A B : Type 0} (z : B) (f : A → B) (marks : List Bool) (xs : List A) → length (marked z f marks xs) ≡ length xs
unfolding marked
length_marked z f [] [] = refl
length_marked z f [] (x ∷ xs) = ap suc (length_marked z f [] xs)
length_marked z f (m ∷ marks) [] = refl
length_marked z f (m ∷ marks) (x ∷ xs) = ap suc (length_marked z f marks xs)

-- where nothing is marked nothing alters
pub cleared_none : (marks : List Bool) (v : List ℕ) → any_marked marks ≡ false → cleared marks v ≡ v
unfolding marked any_marked
cleared_none [] [] h = refl
cleared_none [] (c ∷ v) h = ap (λ w. c ∷ w) (cleared_none [] v refl)
cleared_none (m ∷ marks) [] h = refl
cleared_none (true ∷ marks) (c ∷ v) h = absurd (let z : ◌≡◌ {A = ℕ} 0 1 = cc in omega arith)
cleared_none (false ∷ marks) (c ∷ v) h = ap (λ w. c ∷ w) (cleared_none marks v h)

pub unmarked_map : {A B : Type 0} (f : A → B) (marks : List Bool) (xs : List A) → unmarked marks (map f xs) ≡ map f (unmarked marks xs)
unfolding unmarked
unmarked_map f [] xs = refl
unmarked_map f (m ∷ marks) [] = refl
unmarked_map f (true ∷ marks) (x ∷ xs) = unmarked_map f marks xs
unmarked_map f (false ∷ marks) (x ∷ xs) = ap (λ ys. f x ∷ ys) (unmarked_map f marks xs)

pub all_unmarked : {A : Type 0} (P : A → Type 0) (marks : List Bool) (xs : List A) → AllByRecursion P xs → AllByRecursion P (unmarked marks xs)
unfolding unmarked
all_unmarked P [] xs h = h
all_unmarked P (m ∷ marks) [] h = tt
all_unmarked P (true ∷ marks) (x ∷ xs) h = all_unmarked P marks xs h.1
all_unmarked P (false ∷ marks) (x ∷ xs) h = (h.0, all_unmarked P marks xs h.1)

pub held_cons_same : (D c : ℕ) (v w : List ℕ) (x : ℕ) → held D v x ≡ held D w x → held D (c ∷ v) x ≡ held D (c ∷ w) x
unfolding held
held_cons_same D c v w x e = ap (λ n. cond (eqb (c % D) x) 1 n) e

-- above zero the cleared timers hold what the unmarked ones hold
pub held_cleared : (D : ℕ) (marks : List Bool) (v : List ℕ) (x : ℕ) → 0 < x → held D (cleared marks v) x ≡ held D (unmarked marks v) x
unfolding marked unmarked
held_cleared D [] [] x h = refl
held_cleared D [] (c ∷ v) x h = held_cons_same D c (cleared [] v) v x (held_cleared D [] v x h)
held_cleared D (m ∷ marks) [] x h = refl
held_cleared D (true ∷ marks) (c ∷ v) x h =
    held_there D 0 (cleared marks v) x (λ e. omega (arith, zero-mod D)) ∙ held_cleared D marks v x h
held_cleared D (false ∷ marks) (c ∷ v) x h =
    held_cons_same D c (cleared marks v) (unmarked marks v) x (held_cleared D marks v x h)

-- a marked timer stands at zero
pub held_cleared_zero : (D : ℕ) (marks : List Bool) (v : List ℕ) → length marks ≡ length v → any_marked marks ≡ true → held D (cleared marks v) 0 ≡ 1
unfolding marked any_marked
held_cleared_zero D [] v l h = absurd (let z : ◌≡◌ {A = ℕ} 0 1 = cc in omega arith)
held_cleared_zero D (m ∷ marks) [] l h = absurd (omega arith)
held_cleared_zero D (true ∷ marks) (c ∷ v) l h = held_here D 0 (cleared marks v) 0 (zero-mod D)
held_cleared_zero D (false ∷ marks) (c ∷ v) l h = go (cases_eq (c % D) 0) (held_cleared_zero D marks v (omega arith) h)
  where
    go : (c % D ≡ 0) ⊎ (c % D ≡ 0 → ⊥) → held D (cleared marks v) 0 ≡ 1 → held D (c ∷ cleared marks v) 0 ≡ 1
    go (inl e) r = held_here D c (cleared marks v) 0 e
    go (inr e) r = held_there D c (cleared marks v) 0 e ∙ r

pub ranked_nil : (j : ℕ) → ranked [] j ≡ 0
unfolding ranked
ranked_nil j = refl

pub ranked_here : (t : Timer) (ts : List Timer) (j : ℕ) → t.rank ≡ j → ranked (t ∷ ts) j ≡ 1
unfolding ranked
ranked_here t ts j e = ap (λ b. cond b 1 (ranked ts j)) (eq-eqb t.rank j e)

pub ranked_there : (t : Timer) (ts : List Timer) (j : ℕ) → (t.rank ≡ j → ⊥) → ranked (t ∷ ts) j ≡ ranked ts j
unfolding ranked
ranked_there t ts j e = ap (λ b. cond b 1 (ranked ts j)) (ne_eqb t.rank j e)

-- different held remainders have different ranks
pub rank_injective : (f : ℕ → ℕ) (x y : ℕ) → f x ≡ 1 → f y ≡ 1 → total f x ≡ total f y → x ≡ y
rank_injective f x y h k e = go (cases_order x y)
  where
    go : (x ≡ y) ⊎ ((x < y) ⊎ (y < x)) → x ≡ y
    go (inl s) = s
    go (inr (inl l)) = absurd (omega (arith, total_lt f x y l h))
    go (inr (inr g)) = absurd (omega (arith, total_lt f y x g k))

-- some timer has the rank of a held remainder exactly if some timer has the remainder
pub ranked_is_held : (D : ℕ) (v u : List ℕ) (x : ℕ) → held D v x ≡ 1 → AllByRecursion (λ c. held D v (c % D) ≡ 1) u → ranked (map (timer_of D v) u) (total (held D v) x) ≡ held D u x
ranked_is_held D v [] x h a = ranked_nil (total (held D v) x) ∙ sym (held_nil D x)
ranked_is_held D v (c ∷ u) x h a = go (cases_eq (c % D) x) (ranked_is_held D v u x h a.1)
  where
    go : (c % D ≡ x) ⊎ (c % D ≡ x → ⊥) → ranked (map (timer_of D v) u) (total (held D v) x) ≡ held D u x → ranked (timer_of D v c ∷ map (timer_of D v) u) (total (held D v) x) ≡ held D (c ∷ u) x
    go (inl e) r =
        ranked_here (timer_of D v c) (map (timer_of D v) u) (total (held D v) x) (ap (total (held D v)) e) ∙ sym (held_here D c u x e)
    go (inr e) r =
        ranked_there (timer_of D v c) (map (timer_of D v) u) (total (held D v) x) (λ s. e (rank_injective (held D v) (c % D) x a.0 h s)) ∙ (r ∙ sym (held_there D c u x e))

pub live_is : (marks : List Bool) (r : Record) (j : ℕ) → live marks r j ≡ cond (at_zero r j) 0 (ranked (unmarked marks r.timers) j)
unfolding live
live_is marks r j = refl

-- a fraction above zero has another rank than zero
pub not_at_zero : (D : ℕ) (v : List ℕ) (x : ℕ) → 0 < x → at_zero (record_of D v) (total (held D v) x) ≡ false
not_at_zero D v x h = go (cases_eq (held D v 0) 1)
  where
    go : (held D v 0 ≡ 1) ⊎ (held D v 0 ≡ 1 → ⊥) → at_zero (record_of D v) (total (held D v) x) ≡ false
    go (inl e) =
        and_right (eqb (held D v 0) 1) (eqb (total (held D v) x) 0) (ne_eqb (total (held D v) x) 0 (λ z. omega (arith, total_lt (held D v) 0 x h e)))
    go (inr e) =
        and_left (eqb (held D v 0) 1) (eqb (total (held D v) x) 0) (ne_eqb (held D v 0) 1 e)

pub is_at_zero : (D : ℕ) (v : List ℕ) → held D v 0 ≡ 1 → at_zero (record_of D v) (total (held D v) 0) ≡ true
is_at_zero D v h =
    ap₂ ◌&&◌ (eq-eqb (held D v 0) 1 h) (eq-eqb (total (held D v) 0) 0 (total_zero (held D v)))

-- above zero a remainder stays held exactly if it was held and its class is live
pub held_is_live : (D : ℕ) (v : List ℕ) (marks : List Bool) (x : ℕ) → 0 < x → held D (cleared marks v) x ≡ held D v x * live marks (record_of D v) (total (held D v) x)
held_is_live D v marks x h = held_cleared D marks v x h ∙ go (cases_eq (held D v x) 1)
  where
    kept : AllByRecursion (λ c. held D v (c % D) ≡ 1) (unmarked marks v)
    kept = all_unmarked (λ c. held D v (c % D) ≡ 1) marks v (all_held D v)

    live_here : held D v x ≡ 1 → live marks (record_of D v) (total (held D v) x) ≡ held D (unmarked marks v) x
    live_here e =
        live_is marks (record_of D v) (total (held D v) x) ∙ (cond-false (at_zero (record_of D v) (total (held D v) x)) 0 (ranked (unmarked marks (map (timer_of D v) v)) (total (held D v) x)) (not_at_zero D v x h) ∙ (ap (λ ts. ranked ts (total (held D v) x)) (unmarked_map (timer_of D v) marks v) ∙ ranked_is_held D v (unmarked marks v) x e kept))

    go : (held D v x ≡ 1) ⊎ (held D v x ≡ 1 → ⊥) → held D (unmarked marks v) x ≡ held D v x * live marks (record_of D v) (total (held D v) x)
    go (inl e) = omega (arith, ap (λ n. n * live marks (record_of D v) (total (held D v) x)) e, live_here e)
    go (inr e) =
        omega (arith, ap (λ n. n * live marks (record_of D v) (total (held D v) x)) none, held_none D (unmarked marks v) x (All-weaker (λ c. held D v (c % D) ≡ 1) (λ c. c % D ≡ x → ⊥) (λ c k s. e (ap (held D v) (sym s) ∙ k)) (unmarked marks v) kept))
      where
        none : held D v x ≡ 0
        none = omega (arith, held_bit D v x)

pub zero_not_live : (D : ℕ) (v : List ℕ) (marks : List Bool) → held D v 0 * live marks (record_of D v) (total (held D v) 0) ≡ 0
zero_not_live D v marks = go (cases_eq (held D v 0) 1)
  where
    go : (held D v 0 ≡ 1) ⊎ (held D v 0 ≡ 1 → ⊥) → held D v 0 * live marks (record_of D v) (total (held D v) 0) ≡ 0
    go (inl e) =
        omega (arith, ap (λ n. held D v 0 * n) (live_is marks (record_of D v) (total (held D v) 0) ∙ cond-true (at_zero (record_of D v) (total (held D v) 0)) 0 (ranked (unmarked marks (map (timer_of D v) v)) (total (held D v) 0)) (is_at_zero D v e)))
    go (inr e) = omega (arith, ap (λ n. n * live marks (record_of D v) (total (held D v) 0)) none)
      where
        none : held D v 0 ≡ 0
        none = omega (arith, held_bit D v 0)

-- a sum over the held remainders below y is a sum over the ranks below that of y
pub total_ranks : (f g : ℕ → ℕ) → ((x : ℕ) → f x ≤ 1) → (y : ℕ) → total (λ x. f x * g (total f x)) y ≡ total g (total f y)
total_ranks f g b zero = total_zero (λ x. f x * g (total f x)) ∙ (sym (total_zero g) ∙ ap (total g) (sym (total_zero f)))
total_ranks f g b (suc y) = go (cases_eq (f y) 1) (total_ranks f g b y)
  where
    go : (f y ≡ 1) ⊎ (f y ≡ 1 → ⊥) → total (λ x. f x * g (total f x)) y ≡ total g (total f y) → total (λ x. f x * g (total f x)) (suc y) ≡ total g (total f (suc y))
    go (inl e) r =
        omega (arith, total_suc (λ x. f x * g (total f x)) y, ap (λ n. n * g (total f y)) e, ap (total g) next, total_suc g (total f y))
      where
        next : total f (suc y) ≡ suc (total f y)
        next = omega (arith, total_suc f y)
    go (inr e) r =
        omega (arith, total_suc (λ x. f x * g (total f x)) y, ap (λ n. n * g (total f y)) none, ap (total g) next)
      where
        none : f y ≡ 0
        none = omega (arith, b y)

        next : total f (suc y) ≡ total f y
        next = omega (arith, total_suc f y)

-- the ranks after a reset: zero, and then the live classes
pub total_cleared : (D : ℕ) (v : List ℕ) (marks : List Bool) (y : ℕ) → length marks ≡ length v → any_marked marks ≡ true → total (held D (cleared marks v)) (suc y) ≡ 1 + total (live marks (record_of D v)) (total (held D v) (suc y))
total_cleared D v marks y l h =
    omega (arith, total_shift (held D (cleared marks v)) y, held_cleared_zero D marks v l h, sym (total_ranks (held D v) (live marks (record_of D v)) (held_bit D v) (suc y)), total_shift (λ x. held D v x * live marks (record_of D v) (total (held D v) x)) y, zero_not_live D v marks, total_same (λ x. held D (cleared marks v) (suc x)) (λ x. held D v (suc x) * live marks (record_of D v) (total (held D v) (suc x))) y (λ x _. held_is_live D v marks (suc x) (omega arith)))

pub timer_cleared : (D : ℕ) (v : List ℕ) (marks : List Bool) (c : ℕ) → length marks ≡ length v → any_marked marks ≡ true → held D v (c % D) ≡ 1 → timer_of D (cleared marks v) c ≡ reranked marks (record_of D v) (timer_of D v c)
timer_cleared D v marks c l h k =
    same_timer (timer_of D (cleared marks v) c) (reranked marks (record_of D v) (timer_of D v c)) refl (go (c % D) k)
  where
    go : (x : ℕ) → held D v x ≡ 1 → total (held D (cleared marks v)) x ≡ cond (at_zero (record_of D v) (total (held D v) x)) 0 (1 + total (live marks (record_of D v)) (total (held D v) x))
    go zero e =
        total_zero (held D (cleared marks v)) ∙ sym (cond-true (at_zero (record_of D v) (total (held D v) 0)) 0 (1 + total (live marks (record_of D v)) (total (held D v) 0)) (is_at_zero D v e))
    go (suc y) e =
        total_cleared D v marks y l h ∙ sym (cond-false (at_zero (record_of D v) (total (held D v) (suc y))) 0 (1 + total (live marks (record_of D v)) (total (held D v) (suc y))) (not_at_zero D v (suc y) (omega arith)))

pub timer_fresh : (D : ℕ) (v : List ℕ) → timer_of D v 0 ≡ fresh
timer_fresh D v =
    same_timer (timer_of D v 0) fresh (zero-div D) (ap (total (held D v)) (zero-mod D) ∙ total_zero (held D v))

pub reset_none : (marks : List Bool) (r : Record) → any_marked marks ≡ false → reset marks r ≡ r
unfolding reset
reset_none marks r h =
    cond-false (any_marked marks) (record { whole = true; classes = 1 + total (live marks r) r.classes; timers = marked fresh (reranked marks r) marks r.timers }) r h

pub reset_some : (marks : List Bool) (r : Record) → any_marked marks ≡ true → reset marks r ≡ record { whole = true; classes = 1 + total (live marks r) r.classes; timers = marked fresh (reranked marks r) marks r.timers }
unfolding reset
reset_some marks r h =
    cond-true (any_marked marks) (record { whole = true; classes = 1 + total (live marks r) r.classes; timers = marked fresh (reranked marks r) marks r.timers }) r h

-- to set timers to zero is to reset them in the record
pub record_of_cleared : (D : ℕ) (v : List ℕ) (marks : List Bool) → 1 ≤ D → length marks ≡ length v → record_of D (cleared marks v) ≡ reset marks (record_of D v)
record_of_cleared D v marks d l = go (cases_Bool (any_marked marks))
  where
    classes_are : (F : ℕ) → 1 ≤ F → any_marked marks ≡ true → total (held D (cleared marks v)) F ≡ 1 + total (live marks (record_of D v)) (total (held D v) F)
    classes_are zero f h = absurd (omega arith)
    classes_are (suc E) f h = total_cleared D v marks E l h

    go : (any_marked marks ≡ true) ⊎ (any_marked marks ≡ false) → record_of D (cleared marks v) ≡ reset marks (record_of D v)
    go (inl h) =
        same_record (record_of D (cleared marks v)) (record { whole = true; classes = 1 + total (live marks (record_of D v)) (total (held D v) D); timers = marked fresh (reranked marks (record_of D v)) marks (map (timer_of D v) v) }) (eq-eqb (held D (cleared marks v) 0) 1 (held_cleared_zero D marks v l h)) (classes_are D d h) (map_marked (timer_of D (cleared marks v)) 0 (λ c. c) fresh (reranked marks (record_of D v)) (timer_of D v) (timer_fresh D (cleared marks v)) marks v (All-weaker (λ c. held D v (c % D) ≡ 1) (λ c. timer_of D (cleared marks v) c ≡ reranked marks (record_of D v) (timer_of D v c)) (λ c k. timer_cleared D v marks c l h k) v (all_held D v))) ∙ sym (reset_some marks (record_of D v) h)
    go (inr h) = ap (record_of D) (cleared_none marks v h) ∙ sym (reset_none marks (record_of D v) h)

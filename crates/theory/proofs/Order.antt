-- Comparisons of timers are comparisons of counts.
use Rattle.std.proofs.Common.{◌≡◌, ℕ, suc, ◌+◌, ◌*◌, ◌%◌, ◌<◌, ◌≤◌, ◌⊎◌, ◌↔◌, List, length, get_or, sym, ap, ◌∙◌, subst, subst₂, inl, inr, arith}
use native.Mathlib.Nat.{add-mul-mod_self_right, mul-mod_left}
use Rattle.std.proofs.lemmas.List.{get_or-map}
use Rattle.std.proofs.lemmas.Bool.{cases_order}
use Rattle.theory.specs.Settings.{total, held}
use Rattle.theory.specs.Records.{record_of, timer_of, timer_no, fresh, count}
use Rattle.theory.specs.Regions.{Relation, AtLeast, Above, AtMost, Below, Says, Comparison, timer_against, lead_against, NamesBelow, TrueOf, HoldsIn}
use Rattle.theory.proofs.Totals.{position, position_suc, position_zero, position_le, position_lt, position_seconds}
use Rattle.theory.proofs.Held.{held_at, held_bit}
use Rattle.theory.proofs.Waits.{place, count_of}

-- two pairs of numbers in the same order satisfy the same comparisons
pub says_like : (~ : Relation) (a b c d : ℕ) → (a < b → c < d) → (b < a → d < c) → (a ≡ b → c ≡ d) → Says ~ a b ↔ Says ~ c d
says_like ~ a b c d low high same = go ~ (cases_order a b)
  where
    go : (~ : Relation) → (a ≡ b) ⊎ ((a < b) ⊎ (b < a)) → Says ~ a b ↔ Says ~ c d
    go AtLeast (inl e) = (λ h. omega (arith, same e), λ h. omega arith)
    go AtLeast (inr (inl l)) = (λ h. absurd (omega arith), λ h. absurd (omega (arith, low l)))
    go AtLeast (inr (inr g)) = (λ h. omega (arith, high g), λ h. omega arith)
    go Above (inl e) = (λ h. absurd (omega arith), λ h. absurd (omega (arith, same e)))
    go Above (inr (inl l)) = (λ h. absurd (omega arith), λ h. absurd (omega (arith, low l)))
    go Above (inr (inr g)) = (λ h. omega (arith, high g), λ h. omega arith)
    go AtMost (inl e) = (λ h. omega (arith, same e), λ h. omega arith)
    go AtMost (inr (inl l)) = (λ h. omega (arith, low l), λ h. omega arith)
    go AtMost (inr (inr g)) = (λ h. absurd (omega arith), λ h. absurd (omega (arith, high g)))
    go Below (inl e) = (λ h. absurd (omega arith), λ h. absurd (omega (arith, same e)))
    go Below (inr (inl l)) = (λ h. omega (arith, low l), λ h. omega arith)
    go Below (inr (inr g)) = (λ h. absurd (omega arith), λ h. absurd (omega (arith, high g)))

-- m seconds further the count is m times two steps for each class further
pub place_seconds : (D : ℕ) (v : List ℕ) (x m : ℕ) → 1 ≤ D → place D v (x + m * D) ≡ place D v x + 2 * total (held D v) D * m
place_seconds D v x m d = omega (arith, position_seconds (held D v) D x m d)

pub place_lt : (D : ℕ) (v : List ℕ) (x y : ℕ) → 1 ≤ D → held D v (x % D) ≡ 1 → x < y → place D v x < place D v y
place_lt D v x y d h l = omega (arith, position_lt (held D v) D x y d l h)

-- a timer's lead on another against m seconds, on ticks and on counts
pub lead_on_places : (D : ℕ) (v : List ℕ) (x y m : ℕ) (~ : Relation) → 1 ≤ D → held D v (x % D) ≡ 1 → held D v (y % D) ≡ 1 → Says ~ x (y + m * D) ↔ Says ~ (place D v x) (place D v y + 2 * total (held D v) D * m)
lead_on_places D v x y m ~ d h k =
    says_like ~ x (y + m * D) (place D v x) (place D v y + 2 * total (held D v) D * m) (λ l. omega (arith, place_lt D v x (y + m * D) d h l, place_seconds D v y m d)) (λ g. omega (arith, place_lt D v (y + m * D) x d (ap (held D v) (add-mul-mod_self_right y m D) ∙ k) g, place_seconds D v y m d)) (λ e. ap (place D v) e ∙ place_seconds D v y m d)

-- a timer against m seconds, on ticks and on counts
pub timer_on_places : (D : ℕ) (v : List ℕ) (x m : ℕ) (~ : Relation) → 1 ≤ D → held D v (x % D) ≡ 1 → Says ~ x (m * D) ↔ Says ~ (place D v x) (2 * total (held D v) D * m)
timer_on_places D v x m ~ d h = says_like ~ x (m * D) (place D v x) (2 * total (held D v) D * m) low high same
  where
    e : 0 + m * D ≡ m * D
    e = omega arith

    at : position (held D v) D (m * D) ≡ total (held D v) D * m
    at =
        omega (arith, position_seconds (held D v) D 0 m d, position_zero (held D v) D d, ap (position (held D v) D) e)

    low : x < m * D → place D v x < 2 * total (held D v) D * m
    low l = omega (arith, at, position_lt (held D v) D x (m * D) d l h)

    high : m * D < x → 2 * total (held D v) D * m < place D v x
    high g =
        omega (arith, at, position_le (held D v) D (suc (m * D)) x d g, position_suc (held D v) D (m * D) d, ap (held D v) (mul-mod_left m D), held_bit D v 0)

    same : x ≡ m * D → place D v x ≡ 2 * total (held D v) D * m
    same s =
        omega (arith, ap (position (held D v) D) s, at, h, ap (λ z. held D v (z % D)) s, ap (held D v) (mul-mod_left m D))

pub timer_of_record : (D : ℕ) (v : List ℕ) (i : ℕ) → i < length v → timer_no (record_of D v) i ≡ timer_of D v (get_or v i 0)
timer_of_record D v i h = get_or-map (timer_of D v) v i 0 fresh h

-- the count of timer i in the record of a setting
pub count_no_is : (D : ℕ) (v : List ℕ) (i : ℕ) → i < length v → count (record_of D v) (timer_no (record_of D v) i) ≡ place D v (get_or v i 0)
count_no_is D v i h = ap (count (record_of D v)) (timer_of_record D v i h) ∙ count_of D v (get_or v i 0)

-- timer i against m seconds is its count against m times two steps for each class
pub timer_against_count : (D : ℕ) (v : List ℕ) (i m : ℕ) (~ : Relation) → 1 ≤ D → i < length v → Says ~ (get_or v i 0) (m * D) ↔ Says ~ (count (record_of D v) (timer_no (record_of D v) i)) (2 * (record_of D v).classes * m)
timer_against_count D v i m ~ d h =
    subst (λ u. Says ~ (get_or v i 0) (m * D) ↔ Says ~ u (2 * (record_of D v).classes * m)) (sym (count_no_is D v i h)) (timer_on_places D v (get_or v i 0) m ~ d (held_at D v i h))

-- the lead of timer i on timer j against m seconds is the lead of its count against m times two steps for each class
pub lead_against_count : (D : ℕ) (v : List ℕ) (i j m : ℕ) (~ : Relation) → 1 ≤ D → i < length v → j < length v → Says ~ (get_or v i 0) (get_or v j 0 + m * D) ↔ Says ~ (count (record_of D v) (timer_no (record_of D v) i)) (count (record_of D v) (timer_no (record_of D v) j) + 2 * (record_of D v).classes * m)
lead_against_count D v i j m ~ d h k =
    subst₂ (λ u w. Says ~ (get_or v i 0) (get_or v j 0 + m * D) ↔ Says ~ u (w + 2 * (record_of D v).classes * m)) (sym (count_no_is D v i h)) (sym (count_no_is D v j k)) (lead_on_places D v (get_or v i 0) (get_or v j 0) m ~ d (held_at D v i h) (held_at D v j k))

-- a comparison is true of the ticks exactly if it holds in their record
pub true_of_is_holds_in : (D : ℕ) (v : List ℕ) → 1 ≤ D → (c : Comparison) → NamesBelow (length v) c → TrueOf D v c ↔ HoldsIn (record_of D v) c
true_of_is_holds_in D v d (timer_against i ~ m) h = timer_against_count D v i m ~ d h
true_of_is_holds_in D v d (lead_against i j ~ m) h = lead_against_count D v i j m ~ d h.0 h.1

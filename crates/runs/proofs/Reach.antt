-- The moment p/q lies at the wait `reach D v p q`: what a comparison says at the moment, the record says after the wait.
use Rattle.std.proofs.Common.{◌≡◌, ℕ, ◌+◌, ◌*◌, ◌≤◌, ◌↔◌, List, length, sym, ◌∙◌, subst, mul-pos, arith}
use lib.ListN.{length-map}
use Rattle.theory.specs.Settings.{later, finer, reach}
use Rattle.theory.specs.Records.{Record, record_of, record_in, wait, count, timer_no}
use Rattle.theory.specs.Regions.{Comparison, timer_against, lead_against, Relation, AtLeast, Above, AtMost, Below, Says, NamesBelow, TrueOf, HoldsIn}
use Rattle.theory.proofs.Waits.{steps_zero, wait_classes}
use Rattle.theory.proofs.Counts.{count_after_wait}
use Rattle.theory.proofs.Moments.{moments_are_waits}
use Rattle.theory.proofs.Order.{true_of_is_holds_in}
use Rattle.theory.proofs.Validity.{length_of}

-- now is the wait 0
pub reach_now : (D : ℕ) (v : List ℕ) (q : ℕ) → reach D v 0 q ≡ 0
reach_now D v q = steps_zero (q * D) (finer q v)

pub length_later : (t : ℕ) (v : List ℕ) → length (later t v) ≡ length v
length_later t v = length-map v (λ c. c + t)

pub length_at_moment : (p q : ℕ) (v : List ℕ) → length (later p (finer q v)) ≡ length v
length_at_moment p q v = length_later p (finer q v) ∙ length-map v (λ c. q * c)

-- the comparison allows the wait d: it is true of the counts d steps later
abbrev pub Allows : Record → ℕ → Comparison → Type 0
Allows r d (timer_against i relation m) = Says relation (count r (timer_no r i) + d) (2 * r.classes * m)
Allows r d (lead_against i j relation m) =
    Says relation (count r (timer_no r i)) (count r (timer_no r j) + 2 * r.classes * m)

says_shifted : (~ : Relation) (a b d m : ℕ) → Says ~ (a + d) (b + d + m) ↔ Says ~ a (b + m)
says_shifted AtLeast a b d m = omega arith
says_shifted Above a b d m = omega arith
says_shifted AtMost a b d m = omega arith
says_shifted Below a b d m = omega arith

-- a wait is allowed exactly if the comparison holds in the record after it
pub allows_is_held_after : (r : Record) (d : ℕ) (c : Comparison) → NamesBelow (length r.timers) c → HoldsIn (wait d r) c ↔ Allows r d c
allows_is_held_after r d (timer_against i ~ m) h =
    let P : ℕ → Type 0 = λ u. Says ~ u (2 * (wait d r).classes * m) ↔ Allows r d (timer_against i ~ m) in
    let Q : ℕ → Type 0 = λ k. Says ~ (count r (timer_no r i) + d) (2 * k * m) ↔ Allows r d (timer_against i ~ m) in
    subst P (sym (count_after_wait d r i h)) (subst Q (sym (wait_classes d r)) (λ a. a, λ a. a))
allows_is_held_after r d (lead_against i j ~ m) h =
    let P : ℕ → Type 0 = λ u. Says ~ u (count (wait d r) (timer_no (wait d r) j) + 2 * (wait d r).classes * m) ↔ Allows r d (lead_against i j ~ m) in
    let R : ℕ → Type 0 = λ u. Says ~ (count r (timer_no r i) + d) (u + 2 * (wait d r).classes * m) ↔ Allows r d (lead_against i j ~ m) in
    let Q : ℕ → Type 0 = λ k. Says ~ (count r (timer_no r i) + d) (count r (timer_no r j) + d + 2 * k * m) ↔ Allows r d (lead_against i j ~ m) in
    subst P (sym (count_after_wait d r i h.0)) (subst R (sym (count_after_wait d r j h.1)) (subst Q (sym (wait_classes d r)) (says_shifted ~ (count r (timer_no r i)) (count r (timer_no r j)) d (2 * r.classes * m))))

names_like : (m n : ℕ) (c : Comparison) → m ≡ n → NamesBelow m c → NamesBelow n c
names_like m n c e h = subst (λ k. NamesBelow k c) e h

-- a comparison is true at a moment exactly if it allows the moment's wait
pub true_is_allowed : (D : ℕ) (v : List ℕ) (p q : ℕ) → 1 ≤ D → 1 ≤ q → (c : Comparison) → NamesBelow (length v) c → TrueOf (q * D) (later p (finer q v)) c ↔ Allows (record_of D v) (reach D v p q) c
true_is_allowed D v p q d k c h =
    (λ a. allowed.0 (subst (λ r. HoldsIn r c) (moments_are_waits D v d p q k) (held.0 a)), λ a. held.1 (subst (λ r. HoldsIn r c) (sym (moments_are_waits D v d p q k)) (allowed.1 a)))
  where
    held : TrueOf (q * D) (later p (finer q v)) c ↔ HoldsIn (record_in D v p q) c
    held =
        true_of_is_holds_in (q * D) (later p (finer q v)) (mul-pos k d) c (names_like (length v) (length (later p (finer q v))) c (sym (length_at_moment p q v)) h)

    allowed : HoldsIn (wait (reach D v p q) (record_of D v)) c ↔ Allows (record_of D v) (reach D v p q) c
    allowed =
        allows_is_held_after (record_of D v) (reach D v p q) c (names_like (length v) (length (record_of D v).timers) c (sym (length_of D v)) h)

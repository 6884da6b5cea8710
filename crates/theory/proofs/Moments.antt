-- Moments between ticks: every wait has its moment, and moments cross steps in order.
use Rattle.std.proofs.Common.{◌≡◌, ℕ, zero, suc, ◌+◌, ◌-◌, ◌*◌, ◌/◌, ◌%◌, ◌<◌, ◌≤◌, ◌⊎◌, ◌↔◌, List, [], ◌∷◌, map, length, sym, refl, ap, ◌∙◌, ap₂, inl, inr, mul-le-mul_right, mul-pos, arith, mod-lt, mul-le-mul_left}
use mathlib.Core.Path.{fun_ext}
use mathlib.Core.List.{map-map}
use native.Mathlib.Nat.{div-add-mod, add-mul-mod_self_right}
use lib.ListN.{length-map}
use Rattle.std.specs.List.{AllByRecursion}
use Rattle.std.proofs.ByRecursion.{All-map, All-weaker}
use Rattle.std.proofs.lemmas.Bool.{cases_lt, cases_eq}
use Rattle.std.proofs.lemmas.List.Elements.{All-from_recursion}
use Rattle.std.proofs.lemmas.List.Folds.{map_fixed}
use Rattle.theory.specs.Settings.{total, held, later, finer, steps, reach}
use Rattle.theory.specs.Records.{record_of, record_in, wait}
use Rattle.theory.proofs.Totals.{total_zero, total_suc, total_le, position, position_seconds}
use Rattle.theory.proofs.Held.{all_every, held_nil, held_here, held_map, held_none, held_bit, finer_one, finer_finer, finer_later, later_later}
use Rattle.theory.proofs.Waits.{steps_zero, steps_suc, ticks_add, ticks_are_a_wait, rank_below}
use Rattle.theory.proofs.Finer.{record_of_finer}
use Rattle.theory.proofs.Counts.{wait_injective}

-- the steps that the tick after s ticks crosses
abbrev pub crossed : ℕ → List ℕ → ℕ → ℕ
crossed D v s = held D (later s v) (D - 1) + held D (later s v) 0

pub steps_total : (D : ℕ) (v : List ℕ) (t : ℕ) → steps D v t ≡ total (crossed D v) t
steps_total D v zero = steps_zero D v ∙ sym (total_zero (crossed D v))
steps_total D v (suc t) = omega (arith, steps_suc D v t, total_suc (crossed D v) t, steps_total D v t)

-- more ticks cross no fewer steps
pub steps_in_order : (D : ℕ) (v : List ℕ) (s t : ℕ) → s ≤ t → steps D v s ≤ steps D v t
steps_in_order D v s t h =
    omega (arith, steps_total D v s, steps_total D v t, total_le (crossed D v) s t h)

pub steps_of_none : (D t : ℕ) → steps D [] t ≡ 0
steps_of_none D zero = steps_zero D []
steps_of_none D (suc t) = omega (arith, steps_suc D [] t, steps_of_none D t, held_nil D (D - 1), held_nil D 0)

-- ticks that are a times finer cross in a times as many what the old ticks cross
pub steps_finer : (a D : ℕ) (v : List ℕ) (t : ℕ) → 1 ≤ a → 1 ≤ D → steps (a * D) (finer a v) (a * t) ≡ steps D v t
steps_finer a D [] t h d = steps_of_none (a * D) (a * t) ∙ sym (steps_of_none D t)
steps_finer a D (c ∷ v) t h d =
    wait_injective (record_of D (c ∷ v)) (steps (a * D) (finer a (c ∷ v)) (a * t)) (steps D (c ∷ v) t) (omega arith) (ap (wait (steps (a * D) (finer a (c ∷ v)) (a * t))) (sym (record_of_finer D a (c ∷ v) d h)) ∙ (sym (ticks_are_a_wait (a * D) (finer a (c ∷ v)) (mul-pos h d) (a * t)) ∙ (ap (record_of (a * D)) (sym (finer_later a t (c ∷ v))) ∙ (record_of_finer D a (later t (c ∷ v)) d h ∙ ticks_are_a_wait D (c ∷ v) d t))))

-- a moment may be named by any fraction of its value
pub reach_of_fraction : (D : ℕ) (v : List ℕ) (a p q : ℕ) → 1 ≤ D → 1 ≤ a → 1 ≤ q → reach D v (a * p) (a * q) ≡ reach D v p q
reach_of_fraction D v a p q d h k =
    ap₂ (λ F w. steps F w (a * p)) e (sym (finer_finer a q v)) ∙ steps_finer a (q * D) (finer q v) p h (mul-pos k d)
  where
    e : a * q * D ≡ a * (q * D)
    e = omega arith

-- a later moment crosses no fewer steps
pub reach_in_order : (D : ℕ) (v : List ℕ) → 1 ≤ D → (p q p' q' : ℕ) → 1 ≤ q → 1 ≤ q' → p * q' ≤ p' * q → reach D v p q ≤ reach D v p' q'
reach_in_order D v d p q p' q' h h' l =
    omega (arith, reach_of_fraction D v q' p q d h' h, reach_of_fraction D v q p' q' d h h', ap (λ n. reach D v (q * p') n) e, steps_in_order (q' * q * D) (finer (q' * q) v) (q' * p) (q * p') (omega arith))
  where
    e : q * q' ≡ q' * q
    e = omega arith

pub reach_of_ticks : (D : ℕ) (v : List ℕ) (t : ℕ) → reach D v t 1 ≡ steps D v t
reach_of_ticks D v t = ap₂ (λ F w. steps F w t) e (finer_one v)
  where
    e : 1 * D ≡ D
    e = omega arith

-- the record at a moment is that of the wait that it reaches
pub moments_are_waits : (D : ℕ) (v : List ℕ) → 1 ≤ D → (p q : ℕ) → 1 ≤ q → record_in D v p q ≡ wait (reach D v p q) (record_of D v)
moments_are_waits D v d p q h =
    ticks_are_a_wait (q * D) (finer q v) (mul-pos h d) p ∙ ap (wait (reach D v p q)) (record_of_finer D q v d h)

-- a sum that grows by at most one at a time meets every number on its way
pub total_meets : (f : ℕ → ℕ) → ((x : ℕ) → f x ≤ 1) → (t d : ℕ) → d ≤ total f t → (p : ℕ) × (p ≤ t) × (total f p ≡ d)
total_meets f h zero d l = (0, omega arith, omega (arith, total_zero f))
total_meets f h (suc t) d l = go (cases_lt (total f t) d) (total_meets f h t d)
  where
    go : (total f t < d) ⊎ (d ≤ total f t) → (d ≤ total f t → (p : ℕ) × (p ≤ t) × (total f p ≡ d)) → (p : ℕ) × (p ≤ suc t) × (total f p ≡ d)
    go (inl g) r = (suc t, omega arith, omega (arith, total_suc f t, h t))
    go (inr g) r = let w = r g in (w.0, omega (arith, w.1), w.2)

-- half a tick crosses one step at the most
pub half_tick_crosses_one : (D : ℕ) (v : List ℕ) (s : ℕ) → 1 ≤ D → crossed (2 * D) (finer 2 v) s ≤ 1
half_tick_crosses_one D v s d = go (cases_eq (s % 2) 0)
  where
    even : s % 2 ≡ 0 → (c : ℕ) → (2 * c + s) % (2 * D) ≡ 2 * D - 1 → ⊥
    even z c e = omega (arith, div-add-mod (2 * c + s) (2 * D))

    odd : (s % 2 ≡ 0 → ⊥) → (c : ℕ) → (2 * c + s) % (2 * D) ≡ 0 → ⊥
    odd z c e = omega (arith, div-add-mod (2 * c + s) (2 * D))

    none : (x : ℕ) → ((c : ℕ) → (2 * c + s) % (2 * D) ≡ x → ⊥) → held (2 * D) (later s (finer 2 v)) x ≡ 0
    none x h =
        held_none (2 * D) (later s (finer 2 v)) x (All-map (λ c. c % (2 * D) ≡ x → ⊥) (λ c. c + s) (finer 2 v) (All-map (λ c. (c + s) % (2 * D) ≡ x → ⊥) (λ c. 2 * c) v (all_every (λ c. (2 * c + s) % (2 * D) ≡ x → ⊥) v h)))

    go : (s % 2 ≡ 0) ⊎ (s % 2 ≡ 0 → ⊥) → crossed (2 * D) (finer 2 v) s ≤ 1
    go (inl z) =
        omega (arith, none (2 * D - 1) (even z), held_bit (2 * D) (later s (finer 2 v)) 0)
    go (inr z) =
        omega (arith, none 0 (odd z), held_bit (2 * D) (later s (finer 2 v)) (2 * D - 1))

-- every shorter wait is made in some number of half ticks
pub waits_in_half_ticks : (D : ℕ) (v : List ℕ) → 1 ≤ D → (t d : ℕ) → d ≤ steps D v t → (p : ℕ) × (p ≤ 2 * t) × (reach D v p 2 ≡ d)
waits_in_half_ticks D v d t n h = (w.0, w.1, steps_total (2 * D) (finer 2 v) w.0 ∙ w.2)
  where
    w : (p : ℕ) × (p ≤ 2 * t) × (total (crossed (2 * D) (finer 2 v)) p ≡ n)
    w =
        total_meets (crossed (2 * D) (finer 2 v)) (λ s. half_tick_crosses_one D v s d) (2 * t) n (omega (arith, steps_total (2 * D) (finer 2 v) (2 * t), steps_finer 2 D v t (omega arith) d))

pub held_after_seconds : (D : ℕ) (v : List ℕ) (n x : ℕ) → held D (later (n * D) v) x ≡ held D v x
held_after_seconds D v n x = held_map (λ c. c + n * D) D x D x both v
  where
    both : (c : ℕ) → ((c + n * D) % D ≡ x) ↔ (c % D ≡ x)
    both c = (λ e. sym (add-mul-mod_self_right c n D) ∙ e, λ e. add-mul-mod_self_right c n D ∙ e)

-- each second has two steps for each class
pub seconds_are_steps : (D : ℕ) (v : List ℕ) (n : ℕ) → 1 ≤ D → steps D v (n * D) ≡ 2 * total (held D v) D * n
seconds_are_steps D v n d =
    omega (arith, ticks_add D v (n * D) 0 d, ap (λ h. 2 * position h D (0 + n * D) + (1 - h 0)) same, position_seconds (held D v) D 0 n d)
  where
    same : held D (later (n * D) v) ≡ held D v
    same = fun_ext (held_after_seconds D v n)

pub some_class_of : (D : ℕ) (v : List ℕ) → 1 ≤ D → 1 ≤ length v → 1 ≤ total (held D v) D
some_class_of D [] d h = absurd (omega arith)
some_class_of D (c ∷ v) d h = omega (arith, rank_below D (c ∷ v) c d (held_here D c v (c % D) refl))

-- d seconds are enough for a wait of d steps
pub enough_seconds : (D : ℕ) (v : List ℕ) → 1 ≤ D → 1 ≤ length v → (d : ℕ) → d ≤ steps D v (d * D)
enough_seconds D v h l d =
    omega (arith, seconds_are_steps D v d h, mul-le-mul_right d (some_class_of D v h l))

-- every wait is made in some number of half ticks
pub every_wait_in_half_ticks : (D : ℕ) (v : List ℕ) → 1 ≤ D → 1 ≤ length v → (d : ℕ) → (p : ℕ) × (reach D v p 2 ≡ d)
every_wait_in_half_ticks D v h l d =
    let w = waits_in_half_ticks D v h (d * D) d (enough_seconds D v h l d) in (w.0, w.2)

pub multiple_splits : (g D : ℕ) → 1 ≤ g → D % (2 * g) ≡ 0 → D ≡ g * (2 * (D / (2 * g)))
multiple_splits g D h e = omega (arith, div-add-mod D (2 * g))

-- where the fineness and all ticks are multiples of 2 * g, g ticks are half a tick of a coarser setting
pub coarser : (g D : ℕ) (v : List ℕ) → 1 ≤ g → 1 ≤ D → D % (2 * g) ≡ 0 → AllByRecursion (λ c. c % (2 * g) ≡ 0) v → (p : ℕ) → steps D v (g * p) ≡ reach (D / (2 * g)) (map (λ c. c / (2 * g)) v) p 2
coarser g D v h d e m p =
    ap₂ (λ F w. steps F w (g * p)) (multiple_splits g D h e) (sym ticks) ∙ steps_finer g (2 * (D / (2 * g))) (finer 2 (map (λ c. c / (2 * g)) v)) p h (omega (arith, multiple_splits g D h e, low (D / (2 * g))))
  where
    low : (n : ℕ) → (1 ≤ n) ⊎ (g * (2 * n) ≡ 0)
    low zero = inr (omega arith)
    low (suc n) = inl (omega arith)

    each : (c : ℕ) → c % (2 * g) ≡ 0 → g * (2 * (c / (2 * g))) ≡ c
    each c z = sym (multiple_splits g c h z)

    ticks : finer g (finer 2 (map (λ c. c / (2 * g)) v)) ≡ v
    ticks =
        ap (finer g) (map-map (λ c. 2 * c) (λ c. c / (2 * g)) v) ∙ (map-map (λ c. g * c) (λ c. 2 * (c / (2 * g))) v ∙ map_fixed (λ c. g * (2 * (c / (2 * g)))) v (All-from_recursion _ v (All-weaker (λ c. c % (2 * g) ≡ 0) (λ c. g * (2 * (c / (2 * g))) ≡ c) each v m)))

pub coarser_fineness : (g D : ℕ) → 1 ≤ g → 1 ≤ D → D % (2 * g) ≡ 0 → 1 ≤ D / (2 * g)
coarser_fineness g D h d e = go (D / (2 * g)) (multiple_splits g D h e)
  where
    go : (n : ℕ) → D ≡ g * (2 * n) → 1 ≤ n
    go zero z = omega arith
    go (suc n) z = omega arith

-- where the fineness and all ticks are multiples of 2 * g, each wait is made in a multiple of g ticks
pub waits_in_multiples : (g D : ℕ) (v : List ℕ) → 1 ≤ g → 1 ≤ D → 1 ≤ length v → D % (2 * g) ≡ 0 → AllByRecursion (λ c. c % (2 * g) ≡ 0) v → (d : ℕ) → (p : ℕ) × (steps D v (g * p) ≡ d)
waits_in_multiples g D v h d l e m n = (w.0, coarser g D v h d e m w.0 ∙ w.1)
  where
    w : (p : ℕ) × (reach (D / (2 * g)) (map (λ c. c / (2 * g)) v) p 2 ≡ n)
    w =
        every_wait_in_half_ticks (D / (2 * g)) (map (λ c. c / (2 * g)) v) (coarser_fineness g D h d e) (omega (arith, length-map v (λ c. c / (2 * g)))) n

-- and where t ticks cross at least d steps, that multiple lies less than g ticks past t
pub waits_in_multiples_within : (g D : ℕ) (v : List ℕ) → 1 ≤ g → 1 ≤ D → D % (2 * g) ≡ 0 → AllByRecursion (λ c. c % (2 * g) ≡ 0) v → (t d : ℕ) → d ≤ steps D v t → (p : ℕ) × (g * p < t + g) × (steps D v (g * p) ≡ d)
waits_in_multiples_within g D v h d e m t n l = (w.0, omega (arith, mul-le-mul_left g w.1, past.1), coarser g D v h d e m w.0 ∙ (steps_total (2 * (D / (2 * g))) (finer 2 (map (λ c. c / (2 * g)) v)) w.0 ∙ w.2))
  where
    past : (t ≤ g * ((t + (g - 1)) / g)) × (g * ((t + (g - 1)) / g) < t + g)
    past =
        (omega (arith, div-add-mod (t + (g - 1)) g, mod-lt (t + (g - 1)) h), omega (arith, div-add-mod (t + (g - 1)) g, mod-lt (t + (g - 1)) h))

    w : (p : ℕ) × (p ≤ (t + (g - 1)) / g) × (total (crossed (2 * (D / (2 * g))) (finer 2 (map (λ c. c / (2 * g)) v))) p ≡ n)
    w =
        total_meets (crossed (2 * (D / (2 * g))) (finer 2 (map (λ c. c / (2 * g)) v))) (λ s. half_tick_crosses_one (D / (2 * g)) (map (λ c. c / (2 * g)) v) s (coarser_fineness g D h d e)) ((t + (g - 1)) / g) n (omega (arith, steps_total (2 * (D / (2 * g))) (finer 2 (map (λ c. c / (2 * g)) v)) ((t + (g - 1)) / g), coarser g D v h d e m ((t + (g - 1)) / g), steps_in_order D v t (g * ((t + (g - 1)) / g)) past.0))

-- the steps of ticks one after another add up
pub steps_add : (D : ℕ) (v : List ℕ) (s t : ℕ) → steps D v (s + t) ≡ steps D v s + steps D (later s v) t
steps_add D v s zero = ap (steps D v) e ∙ f
  where
    e : s + 0 ≡ s
    e = omega arith

    f : steps D v s ≡ steps D v s + steps D (later s v) 0
    f = omega (arith, steps_zero D (later s v))
steps_add D v s (suc t) =
    omega (arith, ap (steps D v) e, steps_suc D v (s + t), steps_suc D (later s v) t, ap (λ w. held D w (D - 1) + held D w 0) (later_later t s v), steps_add D v s t)
  where
    e : s + suc t ≡ suc (s + t)
    e = omega arith

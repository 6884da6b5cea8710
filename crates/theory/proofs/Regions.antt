-- Settings with one record are the settings of one region, and those that no comparison tells apart.
use Rattle.std.proofs.Common.{◌≡◌, ℕ, zero, suc, ◌+◌, ◌-◌, ◌*◌, ◌/◌, ◌%◌, ◌<◌, ◌≤◌, eqb, ◌⊎◌, ◌↔◌, List, length, get_or, sym, refl, ap, ◌∙◌, subst, inl, inr, le-div_iff_mul-le, div-mul-le_self, arith}
use native.Mathlib.Nat.{div-add-mod}
use Rattle.std.proofs.lemmas.List.{ext_get_or}
use Rattle.std.proofs.lemmas.Bool.{cases_lt, cases_eq}
use Rattle.theory.specs.Settings.{total, held}
use Rattle.theory.specs.Records.{record_of, timer_no, fresh}
use Rattle.theory.specs.Regions.{SameRegion, AtLeast, Above, AtMost, Below, timer_against, lead_against, NamesBelow, TrueOf, HoldsIn, ToldAlike}
use Rattle.theory.proofs.Totals.{total_le, total_lt}
use Rattle.theory.proofs.Held.{held_at, held_by_some, held_bit}
use Rattle.theory.proofs.Waits.{same_record, same_timer}
use Rattle.theory.proofs.Order.{timer_of_record, true_of_is_holds_in}
use Rattle.theory.proofs.Validity.{length_of, ranks_below_of, ranks_held_of}

pub same_region_turned : (D : ℕ) (v : List ℕ) (E : ℕ) (w : List ℕ) → SameRegion D v E w → SameRegion E w D v
same_region_turned D v E w s =
    record {
      same_number = sym s.same_number;
      same_seconds = λ i h. sym (s.same_seconds i (omega (arith, s.same_number)));
      same_zeros = λ i h. let e = s.same_zeros i (omega (arith, s.same_number)) in (e.1, e.0);
      same_order = λ i j h k. let e = s.same_order i j (omega (arith, s.same_number)) (omega (arith, s.same_number)) in (e.1, e.0);
    }

-- ranks are in the order of the fractions
pub rank_order : (D : ℕ) (v : List ℕ) (i j : ℕ) → i < length v → j < length v → ((timer_no (record_of D v) i).rank < (timer_no (record_of D v) j).rank) ↔ (get_or v i 0 % D < get_or v j 0 % D)
rank_order D v i j h k = (down, up)
  where
    first : (timer_no (record_of D v) i).rank ≡ total (held D v) (get_or v i 0 % D)
    first = ap (λ t. t.rank) (timer_of_record D v i h)

    second : (timer_no (record_of D v) j).rank ≡ total (held D v) (get_or v j 0 % D)
    second = ap (λ t. t.rank) (timer_of_record D v j k)

    split : (get_or v i 0 % D < get_or v j 0 % D) ⊎ (get_or v j 0 % D ≤ get_or v i 0 % D) → (timer_no (record_of D v) i).rank < (timer_no (record_of D v) j).rank → get_or v i 0 % D < get_or v j 0 % D
    split (inl l) e = l
    split (inr g) e =
        absurd (omega (arith, first, second, total_le (held D v) (get_or v j 0 % D) (get_or v i 0 % D) g))

    down : (timer_no (record_of D v) i).rank < (timer_no (record_of D v) j).rank → get_or v i 0 % D < get_or v j 0 % D
    down = split (cases_lt (get_or v i 0 % D) (get_or v j 0 % D))

    up : get_or v i 0 % D < get_or v j 0 % D → (timer_no (record_of D v) i).rank < (timer_no (record_of D v) j).rank
    up l =
        omega (arith, first, second, total_lt (held D v) (get_or v i 0 % D) (get_or v j 0 % D) l (held_at D v i h))

-- in one region no timer has a lower rank
pub ranks_no_lower : (D : ℕ) (v : List ℕ) (E : ℕ) (w : List ℕ) → 1 ≤ D → SameRegion D v E w → (n i : ℕ) → i < length v → (timer_no (record_of D v) i).rank ≡ n → n ≤ (timer_no (record_of E w) i).rank
ranks_no_lower D v E w d s zero i h e = omega arith
ranks_no_lower D v E w d s (suc n) i h e =
    omega (arith, ranks_no_lower D v E w d s n below.0 below.1 below.2, up)
  where
    below : (j : ℕ) × (j < length v) × ((timer_no (record_of D v) j).rank ≡ n)
    below = ranks_held_of D v n (omega (arith, ranks_below_of D v d i h))

    inside : (k : ℕ) → k < length v → k < length w
    inside k l = omega (arith, s.same_number)

    up : (timer_no (record_of E w) below.0).rank < (timer_no (record_of E w) i).rank
    up =
        (rank_order E w below.0 i (inside below.0 below.1) (inside i h)).1 ((s.same_order below.0 i below.1 h).0 ((rank_order D v below.0 i below.1 h).0 (omega (arith, below.2))))

pub classes_no_fewer : (D : ℕ) (v : List ℕ) (E : ℕ) (w : List ℕ) → 1 ≤ D → 1 ≤ E → SameRegion D v E w → (record_of D v).classes ≤ (record_of E w).classes
classes_no_fewer D v E w d f s = go (record_of D v).classes refl
  where
    go : (k : ℕ) → (record_of D v).classes ≡ k → k ≤ (record_of E w).classes
    go zero e = omega arith
    go (suc j) e =
        omega (arith, ranks_no_lower D v E w d s j top.0 top.1 top.2, ranks_below_of E w f top.0 (omega (arith, top.1, s.same_number)))
      where
        top : (i : ℕ) × (i < length v) × ((timer_no (record_of D v) i).rank ≡ j)
        top = ranks_held_of D v j (omega arith)

pub zeros_no_fewer : (D : ℕ) (v : List ℕ) (E : ℕ) (w : List ℕ) → SameRegion D v E w → held D v 0 ≤ held E w 0
zeros_no_fewer D v E w s = go (cases_eq (held D v 0) 1)
  where
    go : (held D v 0 ≡ 1) ⊎ (held D v 0 ≡ 1 → ⊥) → held D v 0 ≤ held E w 0
    go (inl e) =
        omega (arith, held_at E w z.0 (omega (arith, z.1, s.same_number)), ap (held E w) ((s.same_zeros z.0 z.1).0 z.2))
      where
        z : (i : ℕ) × (i < length v) × (get_or v i 0 % D ≡ 0)
        z = held_by_some D v 0 e
    go (inr e) = omega (arith, held_bit D v 0)

-- two settings of one region have one record
pub region_gives_record : (D : ℕ) (v : List ℕ) (E : ℕ) (w : List ℕ) → 1 ≤ D → 1 ≤ E → SameRegion D v E w → record_of D v ≡ record_of E w
region_gives_record D v E w d f s =
    same_record (record_of D v) (record_of E w) (ap (λ n. eqb n 1) zeros) classes_are (ext_get_or fresh (record_of D v).timers (record_of E w).timers (length_of D v ∙ (s.same_number ∙ sym (length_of E w))) each)
  where
    turned : SameRegion E w D v
    turned = same_region_turned D v E w s

    zeros : held D v 0 ≡ held E w 0
    zeros = omega (arith, zeros_no_fewer D v E w s, zeros_no_fewer E w D v turned)

    classes_are : (record_of D v).classes ≡ (record_of E w).classes
    classes_are = omega (arith, classes_no_fewer D v E w d f s, classes_no_fewer E w D v f d turned)

    each : (i : ℕ) → i < length (record_of D v).timers → timer_no (record_of D v) i ≡ timer_no (record_of E w) i
    each i l =
        same_timer (timer_no (record_of D v) i) (timer_no (record_of E w) i) (ap (λ t. t.seconds) (timer_of_record D v i h) ∙ (s.same_seconds i h ∙ sym (ap (λ t. t.seconds) (timer_of_record E w i k)))) (omega (arith, ranks_no_lower D v E w d s (timer_no (record_of D v) i).rank i h refl, ranks_no_lower E w D v f turned (timer_no (record_of E w) i).rank i k refl))
      where
        h : i < length v
        h = omega (arith, length_of D v)

        k : i < length w
        k = omega (arith, length_of D v, s.same_number)

-- settings with one record are told apart by no comparison
pub record_gives_comparisons : (D : ℕ) (v : List ℕ) (E : ℕ) (w : List ℕ) → 1 ≤ D → 1 ≤ E → length v ≡ length w → record_of D v ≡ record_of E w → ToldAlike D v E w
record_gives_comparisons D v E w d f l e c h =
    (λ t. there.1 (subst (λ r. HoldsIn r c) e (here.0 t)), λ t. here.1 (subst (λ r. HoldsIn r c) (sym e) (there.0 t)))
  where
    here : TrueOf D v c ↔ HoldsIn (record_of D v) c
    here = true_of_is_holds_in D v d c h

    there : TrueOf E w c ↔ HoldsIn (record_of E w) c
    there = true_of_is_holds_in E w f c (subst (λ n. NamesBelow n c) l h)

pub told_alike_turned : (D : ℕ) (v : List ℕ) (E : ℕ) (w : List ℕ) → length v ≡ length w → ToldAlike D v E w → ToldAlike E w D v
told_alike_turned D v E w l a c h =
    let e = a c (subst (λ n. NamesBelow n c) (sym l) h) in (e.1, e.0)

pub seconds_no_fewer : (D : ℕ) (v : List ℕ) (E : ℕ) (w : List ℕ) → 1 ≤ E → ToldAlike D v E w → (i : ℕ) → i < length v → get_or v i 0 / D ≤ get_or w i 0 / E
seconds_no_fewer D v E w f a i h =
    (le-div_iff_mul-le f).1 ((a (timer_against i AtLeast (get_or v i 0 / D)) h).0 (div-mul-le_self (get_or v i 0) D))

pub seconds_alike : (D : ℕ) (v : List ℕ) (E : ℕ) (w : List ℕ) → 1 ≤ D → 1 ≤ E → length v ≡ length w → ToldAlike D v E w → (i : ℕ) → i < length v → get_or v i 0 / D ≡ get_or w i 0 / E
seconds_alike D v E w d f l a i h =
    omega (arith, seconds_no_fewer D v E w f a i h, seconds_no_fewer E w D v d (told_alike_turned D v E w l a) i (omega arith))

pub zeros_alike : (D : ℕ) (v : List ℕ) (E : ℕ) (w : List ℕ) → 1 ≤ D → 1 ≤ E → length v ≡ length w → ToldAlike D v E w → (i : ℕ) → i < length v → get_or v i 0 % D ≡ 0 → get_or w i 0 % E ≡ 0
zeros_alike D v E w d f l a i h z =
    omega (arith, div-add-mod (get_or w i 0) E, ap (λ n. n * E) (seconds_alike D v E w d f l a i h), (a (timer_against i AtMost (get_or v i 0 / D)) h).0 (omega (arith, div-add-mod (get_or v i 0) D)))

-- a lead of fractions is a lead of ticks less the lead of whole seconds
pub lead_from_fractions : (D c c' m : ℕ) → c / D ≡ c' / D + m → (c % D < c' % D) ↔ (c < c' + m * D)
lead_from_fractions D c c' m e =
    (λ h. omega (arith, div-add-mod c D, div-add-mod c' D, ap (λ n. n * D) e), λ h. omega (arith, div-add-mod c D, div-add-mod c' D, ap (λ n. n * D) e))

pub lag_from_fractions : (D c c' m : ℕ) → c' / D ≡ c / D + m → (c % D < c' % D) ↔ (c + m * D < c')
lag_from_fractions D c c' m e =
    (λ h. omega (arith, div-add-mod c D, div-add-mod c' D, ap (λ n. n * D) e), λ h. omega (arith, div-add-mod c D, div-add-mod c' D, ap (λ n. n * D) e))

pub order_alike : (D : ℕ) (v : List ℕ) (E : ℕ) (w : List ℕ) → 1 ≤ D → 1 ≤ E → length v ≡ length w → ToldAlike D v E w → (i j : ℕ) → i < length v → j < length v → (get_or v i 0 % D < get_or v j 0 % D) ↔ (get_or w i 0 % E < get_or w j 0 % E)
order_alike D v E w d f l a i j h k = go (cases_lt (get_or v i 0 / D) (get_or v j 0 / D))
  where
    first : get_or v i 0 / D ≡ get_or w i 0 / E
    first = seconds_alike D v E w d f l a i h

    second : get_or v j 0 / D ≡ get_or w j 0 / E
    second = seconds_alike D v E w d f l a j k

    go : (get_or v i 0 / D < get_or v j 0 / D) ⊎ (get_or v j 0 / D ≤ get_or v i 0 / D) → (get_or v i 0 % D < get_or v j 0 % D) ↔ (get_or w i 0 % E < get_or w j 0 % E)
    go (inl g) = (λ x. there.1 (told.0 (here.0 x)), λ x. here.1 (told.1 (there.0 x)))
      where
        m : ℕ
        m = get_or v j 0 / D - get_or v i 0 / D

        here : (get_or v i 0 % D < get_or v j 0 % D) ↔ (get_or v i 0 + m * D < get_or v j 0)
        here = lag_from_fractions D (get_or v i 0) (get_or v j 0) m (omega arith)

        there : (get_or w i 0 % E < get_or w j 0 % E) ↔ (get_or w i 0 + m * E < get_or w j 0)
        there = lag_from_fractions E (get_or w i 0) (get_or w j 0) m (omega (arith, first, second))

        told : (get_or v i 0 + m * D < get_or v j 0) ↔ (get_or w i 0 + m * E < get_or w j 0)
        told = a (lead_against j i Above m) (k, h)
    go (inr g) = (λ x. there.1 (told.0 (here.0 x)), λ x. here.1 (told.1 (there.0 x)))
      where
        m : ℕ
        m = get_or v i 0 / D - get_or v j 0 / D

        here : (get_or v i 0 % D < get_or v j 0 % D) ↔ (get_or v i 0 < get_or v j 0 + m * D)
        here = lead_from_fractions D (get_or v i 0) (get_or v j 0) m (omega arith)

        there : (get_or w i 0 % E < get_or w j 0 % E) ↔ (get_or w i 0 < get_or w j 0 + m * E)
        there = lead_from_fractions E (get_or w i 0) (get_or w j 0) m (omega (arith, first, second))

        told : (get_or v i 0 < get_or v j 0 + m * D) ↔ (get_or w i 0 < get_or w j 0 + m * E)
        told = a (lead_against i j Below m) (h, k)

-- settings that no comparison tells apart lie in one region
pub comparisons_give_region : (D : ℕ) (v : List ℕ) (E : ℕ) (w : List ℕ) → 1 ≤ D → 1 ≤ E → length v ≡ length w → ToldAlike D v E w → SameRegion D v E w
comparisons_give_region D v E w d f l a =
    record {
      same_number = l;
      same_seconds = seconds_alike D v E w d f l a;
      same_zeros = λ i h. (zeros_alike D v E w d f l a i h, zeros_alike E w D v f d (sym l) (told_alike_turned D v E w l a) i (omega arith));
      same_order = order_alike D v E w d f l a;
    }

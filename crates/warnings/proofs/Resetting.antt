-- What a reset leaves of a bound.
use Rattle.std.proofs.Common.{◌≡◌, ℕ, zero, suc, ◌*◌, ◌<◌, ◌≤◌, Bool, true, false, ◌⊎◌, List, [], ◌∷◌, length, get_or, sym, refl, ap, ◌∙◌, subst, inl, inr, arith}
use Rattle.std.proofs.lemmas.Bool.{cases_Bool}
use Rattle.theory.specs.Settings.{marked, cleared}
use Rattle.theory.specs.Records.{Record, Valid, count, record_of, reset, timer_no}
use Rattle.theory.specs.Regions.{AtMost}
use Rattle.theory.proofs.Order.{timer_against_count}
use Rattle.theory.proofs.Resets.{length_marked, record_of_cleared}
use Rattle.theory.proofs.Validity.{length_of, valid_is_of_a_setting}

-- timer j of the record shows at most m seconds
abbrev pub Under : ℕ → ℕ → Record → Type 0
Under j m r = count r (timer_no r j) ≤ 2 * r.classes * m

-- a timer that is set to zero stands at zero, and another where it stood
cleared_marked : (marks : List Bool) (v : List ℕ) (j : ℕ) → get_or marks j false ≡ true → get_or (cleared marks v) j 0 ≡ 0
unfolding marked
cleared_marked [] v j e = cc
cleared_marked (m ∷ marks) [] j e = refl
cleared_marked (true ∷ marks) (c ∷ v) zero e = refl
cleared_marked (false ∷ marks) (c ∷ v) zero e = cc
cleared_marked (m ∷ marks) (c ∷ v) (suc j) e = cleared_marked marks v j e

cleared_unmarked : (marks : List Bool) (v : List ℕ) (j : ℕ) → get_or marks j false ≡ false → get_or (cleared marks v) j 0 ≤ get_or v j 0
unfolding marked
cleared_unmarked [] [] j e = omega arith
cleared_unmarked [] (c ∷ v) zero e = omega arith
cleared_unmarked [] (c ∷ v) (suc j) e = cleared_unmarked [] v j refl
cleared_unmarked (m ∷ marks) [] j e = omega arith
cleared_unmarked (true ∷ marks) (c ∷ v) zero e = cc
cleared_unmarked (false ∷ marks) (c ∷ v) zero e = omega arith
cleared_unmarked (m ∷ marks) (c ∷ v) (suc j) e = cleared_unmarked marks v j e

setting_under : (marks : List Bool) (D : ℕ) (v : List ℕ) (j m : ℕ) → 1 ≤ D → length marks ≡ length v → j < length v → (get_or marks j false ≡ false → Under j m (record_of D v)) → Under j m (reset marks (record_of D v))
setting_under marks D v j m d e l h =
    subst (Under j m) (record_of_cleared D v marks d e) ((timer_against_count D (cleared marks v) j m AtMost d (omega (arith, length_marked 0 (λ (x : ℕ). x) marks v))).0 (ticks (cases_Bool (get_or marks j false))))
  where
    ticks : (get_or marks j false ≡ true) ⊎ (get_or marks j false ≡ false) → get_or (cleared marks v) j 0 ≤ m * D
    ticks (inl t) = omega (arith, cleared_marked marks v j t)
    ticks (inr f) =
        omega (arith, (timer_against_count D v j m AtMost d l).1 (h f), cleared_unmarked marks v j f)

-- after a reset each timer that was not set to zero shows no more than before, and one that was shows zero
pub reset_under : (marks : List Bool) (r : Record) (j m : ℕ) → Valid r → length marks ≡ length r.timers → j < length r.timers → (get_or marks j false ≡ false → Under j m r) → Under j m (reset marks r)
reset_under marks r j m v e l h =
    let w = valid_is_of_a_setting r v in
    let n : length r.timers ≡ length w.1 = ap (λ z. length z.timers) (sym w.4) ∙ length_of w.0 w.1 in
    subst (λ z. Under j m (reset marks z)) w.4 (setting_under marks w.0 w.1 j m w.2 (e ∙ n) (omega (arith, l, n)) (λ f. subst (Under j m) (sym w.4) (h f)))

-- What is among the warnings of a plan.
use Rattle.std.proofs.Common.{◌≡◌, ℕ, zero, suc, ◌+◌, add-one, append_assoc, ◌<◌, Bool, true, false, cond, ◌⊎◌, List, [], ◌∷◌, ◌++◌, length, Option, Some, None, Contains, sym, refl, ap, ◌∙◌, subst, inl, inr, arith}
use Rattle.std.proofs.lemmas.Bool.{cases_eq}
use Rattle.std.proofs.lemmas.List.Elements.{Contains-append_left, Contains-append_right, Contains-append_cases}
use Rattle.runs.specs.Plans.{Plan}
use Rattle.warnings.specs.Arrivals.{arrivals_in}
use Rattle.warnings.specs.Warned.{arrival_warned, ceiling_may_end_hold, ceilings_warned, has_no_way_out, stages_warned, stage_warned}
use Rattle.warnings.specs.declared.Warning.{Warning}
use Rattle.warnings.specs.declared.Warning.TheVariants.{CeilingMayEndHold, NoWayOut}
use Rattle.warnings.specs.declared.bounds.Bounds.{Bounds}

-- a warning that is given by a test
given : (t : Bool) (w : Warning) → t ≡ true → Contains (cond t (w ∷ []) []) w
given t w e = subst (λ b. Contains (cond b (w ∷ []) []) w) (sym e) (0, omega arith, refl)

given_cases : (t : Bool) (w v : Warning) → Contains (cond t (w ∷ []) []) v → (t ≡ true) × (w ≡ v)
given_cases true w v (zero, l, e) = (refl, e)
given_cases true w v (suc k, l, e) = absurd (omega arith)
given_cases false w v (k, l, e) = absurd (omega arith)

none_among : (v : Warning) → Contains [] v → ⊥
none_among v (k, l, e) = omega arith

-- a timer whose ceiling may end the hold is among those warned of
pub ceiling_listed : (plan : Plan) (i : ℕ) (b : Bounds) (n x : ℕ) → x < n → ceiling_may_end_hold plan i b x ≡ true → Contains (ceilings_warned plan i b n) (CeilingMayEndHold i x)
ceiling_listed plan i b zero x l t = absurd (omega arith)
ceiling_listed plan i b (suc n) x l t = go (cases_eq n x) (λ k. ceiling_listed plan i b n x k t)
  where
    last : List Warning
    last = cond (ceiling_may_end_hold plan i b n) (CeilingMayEndHold i n ∷ []) []

    go : (n ≡ x) ⊎ (n ≡ x → ⊥) → (x < n → Contains (ceilings_warned plan i b n) (CeilingMayEndHold i x)) → Contains (ceilings_warned plan i b n ++ last) (CeilingMayEndHold i x)
    go (inl e) before =
        Contains-append_right (ceilings_warned plan i b n) last (CeilingMayEndHold i x) (subst (λ z. Contains last (CeilingMayEndHold i z)) e (given (ceiling_may_end_hold plan i b n) (CeilingMayEndHold i n) (ap (ceiling_may_end_hold plan i b) e ∙ t)))
    go (inr e) before =
        Contains-append_left (ceilings_warned plan i b n) last (CeilingMayEndHold i x) (before (omega arith))

-- no stage without a way out is among the timers warned of
no_way_among : (plan : Plan) (i : ℕ) (b : Bounds) (n k : ℕ) → Contains (ceilings_warned plan i b n) (NoWayOut k) → ⊥
no_way_among plan i b zero k h = none_among (NoWayOut k) h
no_way_among plan i b (suc n) k h =
    go (Contains-append_cases (ceilings_warned plan i b n) last (NoWayOut k) h) (no_way_among plan i b n k)
  where
    last : List Warning
    last = cond (ceiling_may_end_hold plan i b n) (CeilingMayEndHold i n ∷ []) []

    go : Contains (ceilings_warned plan i b n) (NoWayOut k) ⊎ Contains last (NoWayOut k) → (Contains (ceilings_warned plan i b n) (NoWayOut k) → ⊥) → ⊥
    go (inl c) none = none c
    go (inr c) none = let d = given_cases (ceiling_may_end_hold plan i b n) (CeilingMayEndHold i n) (NoWayOut k) c in let e = d.1 in cc

arrivals_warn_of_ceilings : (plan : Plan) (i : ℕ) (o : Option Bounds) (k : ℕ) → Contains (arrival_warned plan i o) (NoWayOut k) → ⊥
arrivals_warn_of_ceilings plan i None k h = none_among (NoWayOut k) h
arrivals_warn_of_ceilings plan i (Some b) k h = no_way_among plan i b (length plan.ceilings) k h

-- the warnings of a stage
abbrev last_of : Plan → List (Option Bounds) → ℕ → List Warning
last_of plan table i = cond (has_no_way_out plan table i) (NoWayOut i ∷ []) []

pub no_way_out_listed : (plan : Plan) (table : List (Option Bounds)) (i : ℕ) → has_no_way_out plan table i ≡ true → Contains (stage_warned plan table i) (NoWayOut i)
no_way_out_listed plan table i t =
    Contains-append_right (arrival_warned plan i (arrivals_in table i)) (last_of plan table i) (NoWayOut i) (given (has_no_way_out plan table i) (NoWayOut i) t)

listed_no_way_out : (plan : Plan) (table : List (Option Bounds)) (i k : ℕ) → Contains (stage_warned plan table i) (NoWayOut k) → has_no_way_out plan table k ≡ true
listed_no_way_out plan table i k h =
    go (Contains-append_cases (arrival_warned plan i (arrivals_in table i)) (last_of plan table i) (NoWayOut k) h)
  where
    go : Contains (arrival_warned plan i (arrivals_in table i)) (NoWayOut k) ⊎ Contains (last_of plan table i) (NoWayOut k) → has_no_way_out plan table k ≡ true
    go (inl c) = absurd (arrivals_warn_of_ceilings plan i (arrivals_in table i) k c)
    go (inr c) =
        let d = given_cases (has_no_way_out plan table i) (NoWayOut i) (NoWayOut k) c in
        let e = d.1 in
        let f : i ≡ k = cc in
        subst (λ j. has_no_way_out plan table j ≡ true) f d.0

pub arrival_listed : (plan : Plan) (table : List (Option Bounds)) (i x : ℕ) (b : Bounds) → arrivals_in table i ≡ Some b → x < length plan.ceilings → ceiling_may_end_hold plan i b x ≡ true → Contains (stage_warned plan table i) (CeilingMayEndHold i x)
arrival_listed plan table i x b e l t =
    Contains-append_left (arrival_warned plan i (arrivals_in table i)) (last_of plan table i) (CeilingMayEndHold i x) (subst (λ o. Contains (arrival_warned plan i o) (CeilingMayEndHold i x)) (sym e) (ceiling_listed plan i b (length plan.ceilings) x l t))

-- what is warned of a stage is among the warnings
pub stage_listed : (plan : Plan) (table : List (Option Bounds)) (n i : ℕ) (w : Warning) → i < n → Contains (stage_warned plan table i) w → Contains (stages_warned plan table n) w
stage_listed plan table zero i w l h = absurd (omega arith)
stage_listed plan table (suc n) i w l h = go (cases_eq n i) (λ k. stage_listed plan table n i w k h)
  where
    go : (n ≡ i) ⊎ (n ≡ i → ⊥) → (i < n → Contains (stages_warned plan table n) w) → Contains (stages_warned plan table n ++ stage_warned plan table n) w
    go (inl e) before =
        Contains-append_right (stages_warned plan table n) (stage_warned plan table n) w (subst (λ j. Contains (stage_warned plan table j) w) (sym e) h)
    go (inr e) before =
        Contains-append_left (stages_warned plan table n) (stage_warned plan table n) w (before (omega arith))

-- a stage that is warned of as without a way out has none
pub listed_has_no_way_out : (plan : Plan) (table : List (Option Bounds)) (n k : ℕ) → Contains (stages_warned plan table n) (NoWayOut k) → has_no_way_out plan table k ≡ true
listed_has_no_way_out plan table zero k h = absurd (none_among (NoWayOut k) h)
listed_has_no_way_out plan table (suc n) k h =
    go (Contains-append_cases (stages_warned plan table n) (stage_warned plan table n) (NoWayOut k) h) (listed_has_no_way_out plan table n k)
  where
    go : Contains (stages_warned plan table n) (NoWayOut k) ⊎ Contains (stage_warned plan table n) (NoWayOut k) → (Contains (stages_warned plan table n) (NoWayOut k) → has_no_way_out plan table k ≡ true) → has_no_way_out plan table k ≡ true
    go (inl c) before = before c
    go (inr c) before = listed_no_way_out plan table n k c

-- one timer more, as a loop adds its warning
pub ceilings_more : (plan : Plan) (i : ℕ) (b : Bounds) (n : ℕ) (start found : List Warning) (t : Bool) → found ≡ start ++ ceilings_warned plan i b n → t ≡ ceiling_may_end_hold plan i b n → found ++ cond t (CeilingMayEndHold i n ∷ []) [] ≡ start ++ ceilings_warned plan i b (n + 1)
ceilings_more plan i b n start found t e f =
    ap (λ (l : List Warning). l ++ cond t (CeilingMayEndHold i n ∷ []) []) e
    ∙ (append_assoc start (ceilings_warned plan i b n) (cond t (CeilingMayEndHold i n ∷ []) [])
    ∙ (ap (λ s. start ++ (ceilings_warned plan i b n ++ cond s (CeilingMayEndHold i n ∷ []) [])) f
    ∙ ap (λ m. start ++ ceilings_warned plan i b m) (sym (add-one n))))

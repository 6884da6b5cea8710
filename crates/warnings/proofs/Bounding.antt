-- Bounds that are filled in timer by timer, and the table that says the least.
use Rattle.std.proofs.Common.{◌≡◌, ℕ, ◌+◌, ◌<◌, ◌≤◌, true, false, cond, ◌⊎◌, List, [], ◌∷◌, set, length, get_or, fold, Option, Some, None, sym, ◌∙◌, inl, inr, arith, get_or-set_same, get_or-set_other}
use borrow.Author.Count.{below_more}
use Rattle.std.proofs.ByRecursion.{All-weaker}
use Rattle.std.proofs.lemmas.Bool.{cases_Bool, cond-false, cond-true}
use Rattle.theory.specs.Regions.{Comparison}
use Rattle.runs.specs.Plans.{Change, Outcome, Plan, Sound, SoundPlanChange, SoundPlanOutcome, stage_of}
use Rattle.runs.proofs.Plans.{sound_stage}
use Rattle.warnings.specs.Arrivals.{ChangeFollowed, Closed, OutcomeFollowed, StageClosed, arrivals_in, is_final, most_on_leaving}
use Rattle.warnings.specs.Limits.{narrowed, narrowed_by, upper_limit}
use Rattle.warnings.specs.declared.bounds.Bounds.{Bounds}
use Rattle.warnings.specs.declared.limit.Limit.{Limit}

-- one more is filled in
pub set_more : (most : List ℕ) (i m : ℕ) (f : ℕ → ℕ) → i < length most → ((x : ℕ) → x < i → get_or most x 0 ≡ f x) → m ≡ f i → (x : ℕ) → x < i + 1 → get_or (set most i m) x 0 ≡ f x
set_more most i m f l h e =
    below_more (λ x. get_or (set most i m) x 0 ≡ f x) i before (get_or-set_same most i m 0 l ∙ e)
  where
    before : (x : ℕ) → x < i → get_or (set most i m) x 0 ≡ f x
    before x k = let other : x ≡ i → ⊥ = λ z. omega (arith, z, k) in get_or-set_other most i x m 0 other ∙ h x k

-- a hold leaves no more than the ceiling
narrowed_less : (x b most : ℕ) (o : Option Limit) → narrowed_by x b most o ≤ most
narrowed_less x b most None = omega arith
narrowed_less x b most (Some limit) = omega arith

held_less : (x b : ℕ) (cs : List Comparison) (most : ℕ) → fold (narrowed x b) most cs ≤ most
held_less x b [] most = omega arith
held_less x b (c ∷ cs) most =
    omega (arith, held_less x b cs (narrowed x b most c), narrowed_less x b most (upper_limit c))

leaving_less : (plan : Plan) (i : ℕ) (b : Bounds) (x : ℕ) → most_on_leaving plan i b x ≤ get_or plan.ceilings x 0
leaving_less plan i b x = held_less x (get_or b.most x 0) (stage_of plan i).hold (get_or plan.ceilings x 0)

-- a table in which runs arrive in every stage that is not final, with the bounds b
abbrev pub AllWidest : Plan → List (Option Bounds) → Bounds → Type 0
AllWidest plan table b =
    (i : ℕ) → i < length plan.stages → arrivals_in table i ≡ cond (is_final plan i) None (Some b)

widest_arrives : (plan : Plan) (table : List (Option Bounds)) (b : Bounds) → AllWidest plan table b → (i : ℕ) → i < length plan.stages → is_final plan i ≡ false → arrivals_in table i ≡ Some b
widest_arrives plan table b w i l e = w i l ∙ cond-false (is_final plan i) None (Some b) e

widest_followed : (plan : Plan) (table : List (Option Bounds)) (b from : Bounds) (i : ℕ) → AllWidest plan table b → ((x : ℕ) → x < length plan.ceilings → get_or b.most x 0 ≡ get_or plan.ceilings x 0) → (o : Outcome) → SoundPlanOutcome plan o → OutcomeFollowed plan table (most_on_leaving plan i from) o
widest_followed plan table b from i w same o s e =
    (b, widest_arrives plan table b w o.target s.leads e, λ x l m. omega (arith, leaving_less plan i from x, same x l))

widest_stage : (plan : Plan) (table : List (Option Bounds)) (b : Bounds) → Sound plan → AllWidest plan table b → ((x : ℕ) → x < length plan.ceilings → get_or b.most x 0 ≡ get_or plan.ceilings x 0) → (i : ℕ) → i < length plan.stages → StageClosed plan table i
widest_stage plan table b s w same i l =
    record { final_has_none = λ a e. none a e (cases_Bool (is_final plan i)); changes_followed = λ a e. All-weaker (SoundPlanChange plan) (ChangeFollowed plan table (most_on_leaving plan i a)) (change a) (stage_of plan i).changes (sound_stage plan s i).changes_sound }
  where
    none : (a : Bounds) → arrivals_in table i ≡ Some a → (is_final plan i ≡ true) ⊎ (is_final plan i ≡ false) → is_final plan i ≡ false
    none a e (inl t) =
        let n : None ≡ Some a = sym (w i l ∙ cond-true (is_final plan i) None (Some b) t) ∙ e in cc
    none a e (inr f) = f

    change : (a : Bounds) (c : Change) → SoundPlanChange plan c → ChangeFollowed plan table (most_on_leaving plan i a) c
    change a c h =
        All-weaker (SoundPlanOutcome plan) (OutcomeFollowed plan table (most_on_leaving plan i a)) (widest_followed plan table b a i w same) c.outcomes h.outcomes_sound

-- keeps the rules, if b is the ceilings
pub widest_closed : (plan : Plan) (table : List (Option Bounds)) (b : Bounds) → Sound plan → length table ≡ length plan.stages → AllWidest plan table b → ((x : ℕ) → x < length plan.ceilings → get_or b.most x 0 ≡ get_or plan.ceilings x 0) → Closed plan table
widest_closed plan table b s n w same =
    record { one_each = n; runs_open = λ e. (b, widest_arrives plan table b w 0 s.some_stage e); stages_closed = widest_stage plan table b s w same }

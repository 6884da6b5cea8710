-- A take is refused, or it fits and is made.
use Rattle.std.proofs.Common.{◌≡◌, ℕ, ◌+◌, ◌≤◌, Bool, true, false, cond, ltb, leb, ◌⊎◌, length, get_or, Some, None, Ok, Option, IfOk, sym, refl, ap, ◌∙◌, subst, inl, inr, arith}
use Rattle.std.proofs.lemmas.Bool.{cases_Bool, cond-true, cond-false, and_parts, and_from, leb-true, ltb-true, le-leb, lt-ltb}
use Rattle.runs.specs.Cases.{TakenOrMet}
use Rattle.runs.specs.Plans.{Plan, stage_of, OfStage, change_of, blank_outcome}
use Rattle.runs.specs.Runs.{inside, top, goal_by, Run, Outturn, is_open, is_of_stage, refused, picked_by, arrived, drawing, at_goal, making, waits_for, take_call}
use Rattle.runs.specs.declared.Answer.TheVariants.{Taken, Met}
use Rattle.runs.specs.declared.Standing.{Standing}
use Rattle.runs.specs.declared.Standing.TheVariants.{Open, Reached, Failed, Stuck}
use Rattle.runs.proofs.Allowed.{Within, inside_within, within_inside}

pub open_is : (s : Standing) → is_open s ≡ true → s ≡ Open
open_is Open e = refl
open_is Reached e = absurd (let z : ◌≡◌ {A = ℕ} 0 1 = cc in omega arith)
open_is Failed e = absurd (let z : ◌≡◌ {A = ℕ} 0 1 = cc in omega arith)
open_is Stuck e = absurd (let z : ◌≡◌ {A = ℕ} 0 1 = cc in omega arith)

pub not_open_is : (s : Standing) → is_open s ≡ false → s ≡ Open → ⊥
not_open_is s e f = let z : ◌≡◌ {A = ℕ} 0 1 = cc in omega arith

pub of_stage_is : (plan : Plan) (i c : ℕ) → is_of_stage plan i c ≡ true → OfStage plan i c
of_stage_is plan i c e =
    let h = and_parts (leb (stage_of plan i).first c) (ltb c ((stage_of plan i).first + length (stage_of plan i).changes)) e in
    (leb-true (stage_of plan i).first c h.0, ltb-true c ((stage_of plan i).first + length (stage_of plan i).changes) h.1)

pub is_of_stage_so : (plan : Plan) (i c : ℕ) → OfStage plan i c → is_of_stage plan i c ≡ true
is_of_stage_so plan i c h =
    and_from (leb (stage_of plan i).first c) (ltb c ((stage_of plan i).first + length (stage_of plan i).changes)) (le-leb (stage_of plan i).first c h.0) (lt-ltb c ((stage_of plan i).first + length (stage_of plan i).changes) h.1)

-- what `making` opens to: a take meets the goal if that is on by the wait, and else it draws
pub making_is : (plan : Plan) (run : Run) (c d : ℕ) → making plan run c d ≡ cond (goal_by plan run.stage run.region d) (Ok (Met d), at_goal run d) (drawing plan run c d (run.coming 0))
unfolding making
making_is plan run c d = refl

pub making_met : (plan : Plan) (run : Run) (c d : ℕ) → goal_by plan run.stage run.region d ≡ true → making plan run c d ≡ (Ok (Met d), at_goal run d)
making_met plan run c d e =
    making_is plan run c d ∙ cond-true (goal_by plan run.stage run.region d) (Ok (Met d), at_goal run d) (drawing plan run c d (run.coming 0)) e

pub making_draws : (plan : Plan) (run : Run) (c d : ℕ) → goal_by plan run.stage run.region d ≡ false → making plan run c d ≡ drawing plan run c d (run.coming 0)
making_draws plan run c d e =
    making_is plan run c d ∙ cond-false (goal_by plan run.stage run.region d) (Ok (Met d), at_goal run d) (drawing plan run c d (run.coming 0)) e

-- a take fits: the run is open, the change is of the stage, and its guard allows the wait in the hold interval
pub record Fits (plan : Plan) (run : Run) (c d : ℕ) : Type 0 where
  pub going_on : run.standing ≡ Open
  pub of_stage : OfStage plan run.stage c
  pub in_hold : d ≤ top plan run.stage run.region
  pub allowed : Within d (waits_for plan run c)

-- what a take comes to by what each of its tests finds, from the last test back to the first
abbrev by_guard : Plan → Run → ℕ → ℕ → Bool → Outturn
by_guard plan run c d b = cond b (making plan run c d) (refused 11 run)

abbrev by_hold : Plan → Run → ℕ → ℕ → Bool → Outturn
by_hold plan run c d b = cond b (by_guard plan run c d (inside d (waits_for plan run c))) (refused 10 run)

abbrev by_stage : Plan → Run → ℕ → ℕ → Bool → Outturn
by_stage plan run c d b = cond b (by_hold plan run c d (leb d (top plan run.stage run.region))) (refused 9 run)

abbrev by_standing : Plan → Run → ℕ → ℕ → Bool → Outturn
by_standing plan run c d b = cond b (by_stage plan run c d (is_of_stage plan run.stage c)) (refused 8 run)

-- what `take_call` opens to
pub take_call_is : (plan : Plan) (run : Run) (c d : ℕ) → take_call plan run c d ≡ cond (is_open run.standing) (cond (is_of_stage plan run.stage c) (cond (leb d (top plan run.stage run.region)) (cond (inside d (waits_for plan run c)) (making plan run c d) (refused 11 run)) (refused 10 run)) (refused 9 run)) (refused 8 run)
unfolding take_call
take_call_is plan run c d = refl

tested_standing : (plan : Plan) (run : Run) (c d : ℕ) (b : Bool) → is_open run.standing ≡ b → take_call plan run c d ≡ by_standing plan run c d b
tested_standing plan run c d b e = take_call_is plan run c d ∙ ap (by_standing plan run c d) e

tested_stage : (plan : Plan) (run : Run) (c d : ℕ) (b : Bool) → is_open run.standing ≡ true → is_of_stage plan run.stage c ≡ b → take_call plan run c d ≡ by_stage plan run c d b
tested_stage plan run c d b e f = tested_standing plan run c d true e ∙ ap (by_stage plan run c d) f

tested_hold : (plan : Plan) (run : Run) (c d : ℕ) (b : Bool) → is_open run.standing ≡ true → is_of_stage plan run.stage c ≡ true → leb d (top plan run.stage run.region) ≡ b → take_call plan run c d ≡ by_hold plan run c d b
tested_hold plan run c d b e f g = tested_stage plan run c d true e f ∙ ap (by_hold plan run c d) g

tested_guard : (plan : Plan) (run : Run) (c d : ℕ) (b : Bool) → is_open run.standing ≡ true → is_of_stage plan run.stage c ≡ true → leb d (top plan run.stage run.region) ≡ true → inside d (waits_for plan run c) ≡ b → take_call plan run c d ≡ by_guard plan run c d b
tested_guard plan run c d b e f g k = tested_hold plan run c d true e f g ∙ ap (by_guard plan run c d) k

-- the refusals, in their order
pub take_not_open : (plan : Plan) (run : Run) (c d : ℕ) → is_open run.standing ≡ false → take_call plan run c d ≡ refused 8 run
take_not_open plan run c d e = tested_standing plan run c d false e

pub take_not_of_stage : (plan : Plan) (run : Run) (c d : ℕ) → is_open run.standing ≡ true → is_of_stage plan run.stage c ≡ false → take_call plan run c d ≡ refused 9 run
take_not_of_stage plan run c d e f = tested_stage plan run c d false e f

pub take_outside : (plan : Plan) (run : Run) (c d : ℕ) → is_open run.standing ≡ true → is_of_stage plan run.stage c ≡ true → leb d (top plan run.stage run.region) ≡ false → take_call plan run c d ≡ refused 10 run
take_outside plan run c d e f g = tested_hold plan run c d false e f g

pub take_forbidden : (plan : Plan) (run : Run) (c d : ℕ) → is_open run.standing ≡ true → is_of_stage plan run.stage c ≡ true → leb d (top plan run.stage run.region) ≡ true → inside d (waits_for plan run c) ≡ false → take_call plan run c d ≡ refused 11 run
take_forbidden plan run c d e f g k = tested_guard plan run c d false e f g k

-- a take that fits is made
pub take_fits : (plan : Plan) (run : Run) (c d : ℕ) → Fits plan run c d → take_call plan run c d ≡ making plan run c d
take_fits plan run c d h =
    tested_guard plan run c d true (ap is_open h.going_on) (is_of_stage_so plan run.stage c h.of_stage) (le-leb d (top plan run.stage run.region) h.in_hold) (within_inside d (waits_for plan run c) h.allowed)

-- a take fits, or it is refused and alters nothing
pub take_cases : (plan : Plan) (run : Run) (c d : ℕ) → Fits plan run c d ⊎ ((n : ℕ) × (take_call plan run c d ≡ refused n run))
take_cases plan run c d = go₁ (cases_Bool (is_open run.standing))
  where
    go₄ : is_open run.standing ≡ true → is_of_stage plan run.stage c ≡ true → leb d (top plan run.stage run.region) ≡ true → (inside d (waits_for plan run c) ≡ true) ⊎ (inside d (waits_for plan run c) ≡ false) → Fits plan run c d ⊎ ((n : ℕ) × (take_call plan run c d ≡ refused n run))
    go₄ e f g (inl k) =
        inl (record { going_on = open_is run.standing e; of_stage = of_stage_is plan run.stage c f; in_hold = leb-true d (top plan run.stage run.region) g; allowed = inside_within d (waits_for plan run c) k })
    go₄ e f g (inr k) = inr (11, take_forbidden plan run c d e f g k)

    go₃ : is_open run.standing ≡ true → is_of_stage plan run.stage c ≡ true → (leb d (top plan run.stage run.region) ≡ true) ⊎ (leb d (top plan run.stage run.region) ≡ false) → Fits plan run c d ⊎ ((n : ℕ) × (take_call plan run c d ≡ refused n run))
    go₃ e f (inl g) = go₄ e f g (cases_Bool (inside d (waits_for plan run c)))
    go₃ e f (inr g) = inr (10, take_outside plan run c d e f g)

    go₂ : is_open run.standing ≡ true → (is_of_stage plan run.stage c ≡ true) ⊎ (is_of_stage plan run.stage c ≡ false) → Fits plan run c d ⊎ ((n : ℕ) × (take_call plan run c d ≡ refused n run))
    go₂ e (inl f) = go₃ e f (cases_Bool (leb d (top plan run.stage run.region)))
    go₂ e (inr f) = inr (9, take_not_of_stage plan run c d e f)

    go₁ : (is_open run.standing ≡ true) ⊎ (is_open run.standing ≡ false) → Fits plan run c d ⊎ ((n : ℕ) × (take_call plan run c d ≡ refused n run))
    go₁ (inl e) = go₂ e (cases_Bool (is_of_stage plan run.stage c))
    go₁ (inr e) = inr (8, take_not_open plan run c d e)

-- a take that fits meets the goal if that is on by the wait
pub take_met : (plan : Plan) (run : Run) (c d : ℕ) → Fits plan run c d → goal_by plan run.stage run.region d ≡ true → take_call plan run c d ≡ (Ok (Met d), at_goal run d)
take_met plan run c d h e = take_fits plan run c d h ∙ making_met plan run c d e

-- and else it draws
pub take_draws : (plan : Plan) (run : Run) (c d : ℕ) → Fits plan run c d → goal_by plan run.stage run.region d ≡ false → take_call plan run c d ≡ drawing plan run c d (run.coming 0)
take_draws plan run c d h e = take_fits plan run c d h ∙ making_draws plan run c d e

pub take_no_draw : (plan : Plan) (run : Run) (c d : ℕ) → Fits plan run c d → goal_by plan run.stage run.region d ≡ false → run.coming 0 ≡ None → take_call plan run c d ≡ refused 12 run
take_no_draw plan run c d h e n = take_draws plan run c d h e ∙ ap (drawing plan run c d) n

pub take_taken : (plan : Plan) (run : Run) (c d g : ℕ) → Fits plan run c d → goal_by plan run.stage run.region d ≡ false → run.coming 0 ≡ Some g → take_call plan run c d ≡ (Ok (Taken c d ((change_of plan run.stage c).first + picked_by g (change_of plan run.stage c))), arrived plan run d (get_or (change_of plan run.stage c).outcomes (picked_by g (change_of plan run.stage c)) blank_outcome))
take_taken plan run c d g h e n = take_draws plan run c d h e ∙ ap (drawing plan run c d) n

-- a take that is granted is taken, with the change and the wait, or met
pub taken_or_met : (plan : Plan) (run : Run) (c d : ℕ) →
    IfOk (take_call plan run c d).0 (TakenOrMet c d)
taken_or_met plan run c d = go (take_cases plan run c d)
  where
    Answered : Outturn → Type 0
    Answered z = IfOk z.0 (TakenOrMet c d)

    at : (z : Outturn) → take_call plan run c d ≡ z → Answered z → Answered (take_call plan run c d)
    at z e k = subst Answered (sym e) k

    drawn : Fits plan run c d → goal_by plan run.stage run.region d ≡ false → (o : Option ℕ) →
        run.coming 0 ≡ o → Answered (take_call plan run c d)
    drawn f e None j = at (refused 12 run) (take_no_draw plan run c d f e j) tt
    drawn f e (Some g) j = at _ (take_taken plan run c d g f e j) (inl (refl, (_, refl)))

    made : (b : Bool) → Fits plan run c d → goal_by plan run.stage run.region d ≡ b →
        Answered (take_call plan run c d)
    made true f e = at _ (take_met plan run c d f e) (inr (refl, refl))
    made false f e = drawn f e (run.coming 0) refl

    go : Fits plan run c d ⊎ ((n : ℕ) × (take_call plan run c d ≡ refused n run)) →
        Answered (take_call plan run c d)
    go (inl f) = made (goal_by plan run.stage run.region d) f refl
    go (inr k) = at (refused k.0 run) k.1 tt

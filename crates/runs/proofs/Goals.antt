-- The goal is on at a moment exactly if the record has it on at the moment's wait.
use Rattle.std.proofs.Common.{◌≡◌, ℕ, ◌≤◌, Bool, true, false, cond, ◌&&◌, ◌↔◌, List, length, sym, refl, ◌∙◌, subst, arith}
use Rattle.std.specs.List.{AllByRecursion}
use Rattle.std.proofs.lemmas.Bool.{and_parts, and_from, both_ways}
use Rattle.theory.specs.Settings.{reach, steps}
use Rattle.theory.specs.Records.{Record, record_of}
use Rattle.theory.proofs.Moments.{reach_in_order, reach_of_ticks, waits_in_half_ticks}
use Rattle.runs.specs.Plans.{Plan, Sound, stage_of}
use Rattle.runs.specs.Ticks.{On, OnWithin, OnPermitted, Judged}
use Rattle.runs.specs.Runs.{any_in, upto, cuts, top, goal_by, judged}
use Rattle.runs.specs.declared.Standing.{Standing}
use Rattle.runs.specs.declared.Standing.TheVariants.{Open, Reached, Failed, Stuck}
use Rattle.runs.proofs.Reach.{Allows, reach_now}
use Rattle.runs.proofs.Allowed.{any_within, within_any, within_cuts, holds_allows}
use Rattle.runs.proofs.Permits.{permitted_reach, moment_for}
use Rattle.runs.proofs.Plans.{named_like}

pub goal_by_is : (plan : Plan) (i : ℕ) (r : Record) (d : ℕ) → goal_by plan i r d ≡ ((stage_of plan i).goal && any_in (cuts r plan.goal (upto d)))
unfolding goal_by
goal_by_is plan i r d = refl

-- the goal is on by d exactly if the stage is marked for it and some wait up to d is allowed by its comparisons
pub goal_by_some : (plan : Plan) (i : ℕ) (r : Record) (d : ℕ) → goal_by plan i r d ≡ true → ((stage_of plan i).goal ≡ true) × ((e : ℕ) × (e ≤ d) × AllByRecursion (Allows r e) plan.goal)
goal_by_some plan i r d h =
    let a = and_parts (stage_of plan i).goal (any_in (cuts r plan.goal (upto d))) (sym (goal_by_is plan i r d) ∙ h) in
    let b = (within_cuts r plan.goal (cuts r plan.goal (upto d)).from (upto d)).0 (any_within (cuts r plan.goal (upto d)) a.1) in
    (a.0, ((cuts r plan.goal (upto d)).from, omega (arith, b.0), b.1))

pub some_goal_by : (plan : Plan) (i : ℕ) (r : Record) (d e : ℕ) → (stage_of plan i).goal ≡ true → e ≤ d → AllByRecursion (Allows r e) plan.goal → goal_by plan i r d ≡ true
some_goal_by plan i r d e g l h =
    goal_by_is plan i r d ∙ and_from (stage_of plan i).goal (any_in (cuts r plan.goal (upto d))) g (within_any e (cuts r plan.goal (upto d)) ((within_cuts r plan.goal e (upto d)).1 ((omega arith, omega arith), h)))

-- on at a moment, on by any wait no shorter than its own
pub on_goal_by : (plan : Plan) (i D : ℕ) (v : List ℕ) (p q d : ℕ) → Sound plan → 1 ≤ D → length v ≡ length plan.ceilings → 1 ≤ q → reach D v p q ≤ d → On plan i D v p q → goal_by plan i (record_of D v) d ≡ true
on_goal_by plan i D v p q d s h n k l o =
    some_goal_by plan i (record_of D v) d (reach D v p q) o.0 l ((holds_allows D v p q h k plan.goal (named_like plan v plan.goal n s.goal_named)).0 o.1)

-- allowed at the wait of a moment, on at the moment
pub allows_on : (plan : Plan) (i D : ℕ) (v : List ℕ) (p q e : ℕ) → Sound plan → 1 ≤ D → length v ≡ length plan.ceilings → 1 ≤ q → reach D v p q ≡ e → (stage_of plan i).goal ≡ true → AllByRecursion (Allows (record_of D v) e) plan.goal → On plan i D v p q
allows_on plan i D v p q e s h n k w g a =
    (g, (holds_allows D v p q h k plan.goal (named_like plan v plan.goal n s.goal_named)).1 (subst (λ z. AllByRecursion (Allows (record_of D v) z) plan.goal) (sym w) a))

-- the goal is on within t ticks exactly if it is on by their wait
pub within_goal_by : (plan : Plan) (i D : ℕ) (v : List ℕ) (t : ℕ) → Sound plan → 1 ≤ D → length v ≡ length plan.ceilings → OnWithin plan i D v t ↔ (goal_by plan i (record_of D v) (steps D v t) ≡ true)
within_goal_by plan i D v t s h n = (to, from)
  where
    to : OnWithin plan i D v t → goal_by plan i (record_of D v) (steps D v t) ≡ true
    to w =
        on_goal_by plan i D v w.0 w.1 (steps D v t) s h n w.2 (omega (arith, reach_in_order D v h w.0 w.1 t 1 w.2 (omega arith) (omega (arith, w.3)), reach_of_ticks D v t)) w.4

    from : goal_by plan i (record_of D v) (steps D v t) ≡ true → OnWithin plan i D v t
    from e =
        let g = goal_by_some plan i (record_of D v) (steps D v t) e in
        let w = waits_in_half_ticks D v h t g.1.0 g.1.1 in
        (w.0, 2, omega arith, omega (arith, w.1), allows_on plan i D v w.0 2 g.1.0 s h n (omega arith) w.2 g.0 g.1.2)

-- the goal is on at some permitted moment exactly if it is on at some wait of the hold interval
pub permitted_goal_by : (plan : Plan) (i D : ℕ) (v : List ℕ) → Sound plan → 1 ≤ D → length v ≡ length plan.ceilings → OnPermitted plan i D v ↔ (goal_by plan i (record_of D v) (top plan i (record_of D v)) ≡ true)
permitted_goal_by plan i D v s h n = (to, from)
  where
    to : OnPermitted plan i D v → goal_by plan i (record_of D v) (top plan i (record_of D v)) ≡ true
    to w =
        on_goal_by plan i D v w.0 w.1 (top plan i (record_of D v)) s h n w.2 (permitted_reach plan i D v w.0 w.1 s h n w.2 w.3) w.4

    from : goal_by plan i (record_of D v) (top plan i (record_of D v)) ≡ true → OnPermitted plan i D v
    from e =
        let g = goal_by_some plan i (record_of D v) (top plan i (record_of D v)) e in
        let w = moment_for plan i D v s h n g.1.0 g.1.1 in
        (w.0, w.1, w.2.a_moment, w.3, allows_on plan i D v w.0 w.1 g.1.0 s h n w.2.a_moment w.2.its_wait g.0 g.1.2)

-- the goal is on now exactly if it is on at the wait 0
pub now_goal_by : (plan : Plan) (i D : ℕ) (v : List ℕ) → Sound plan → 1 ≤ D → length v ≡ length plan.ceilings → On plan i D v 0 1 ↔ (goal_by plan i (record_of D v) 0 ≡ true)
now_goal_by plan i D v s h n = (to, from)
  where
    to : On plan i D v 0 1 → goal_by plan i (record_of D v) 0 ≡ true
    to o = on_goal_by plan i D v 0 1 0 s h n (omega arith) (omega (arith, reach_now D v 1)) o

    from : goal_by plan i (record_of D v) 0 ≡ true → On plan i D v 0 1
    from e =
        let g = goal_by_some plan i (record_of D v) 0 e in
        allows_on plan i D v 0 1 g.1.0 s h n (omega arith) (omega (arith, reach_now D v 1, g.1.1)) g.0 g.1.2

-- an arrival is judged alike on ticks and on records
pub judged_so : (plan : Plan) (i D : ℕ) (v : List ℕ) → Sound plan → 1 ≤ D → length v ≡ length plan.ceilings → Judged plan i D v (judged plan i (record_of D v))
judged_so plan i D v s h n =
    go (goal_by plan i (record_of D v) 0) (stage_of plan i).avoid refl refl
  where
    go : (g a : Bool) → goal_by plan i (record_of D v) 0 ≡ g → (stage_of plan i).avoid ≡ a → Judged plan i D v (cond g Reached (cond a Failed Open))
    go true a e f = (now_goal_by plan i D v s h n).1 e
    go false true e f = (λ o. both_ways (goal_by plan i (record_of D v) 0) e ((now_goal_by plan i D v s h n).0 o), f)
    go false false e f = (λ o. both_ways (goal_by plan i (record_of D v) 0) e ((now_goal_by plan i D v s h n).0 o), f)

-- and there is one judgement only
pub one_judgement : (plan : Plan) (i D : ℕ) (v : List ℕ) (a b : Standing) → Judged plan i D v a → Judged plan i D v b → a ≡ b
one_judgement plan i D v Open Open j k = refl
one_judgement plan i D v Open Reached j k = absurd (j.0 k)
one_judgement plan i D v Open Failed j k = absurd (both_ways (stage_of plan i).avoid j.1 k.1)
one_judgement plan i D v Open Stuck j k = absurd k
one_judgement plan i D v Reached Open j k = absurd (k.0 j)
one_judgement plan i D v Reached Reached j k = refl
one_judgement plan i D v Reached Failed j k = absurd (k.0 j)
one_judgement plan i D v Reached Stuck j k = absurd k
one_judgement plan i D v Failed Open j k = absurd (both_ways (stage_of plan i).avoid k.1 j.1)
one_judgement plan i D v Failed Reached j k = absurd (j.0 k)
one_judgement plan i D v Failed Failed j k = refl
one_judgement plan i D v Failed Stuck j k = absurd k
one_judgement plan i D v Stuck b j k = absurd j

pub judged_alike : (plan : Plan) (i D : ℕ) (v : List ℕ) (a : Standing) → Sound plan → 1 ≤ D → length v ≡ length plan.ceilings → Judged plan i D v a → judged plan i (record_of D v) ≡ a
judged_alike plan i D v a s h n j =
    one_judgement plan i D v (judged plan i (record_of D v)) a (judged_so plan i D v s h n) j

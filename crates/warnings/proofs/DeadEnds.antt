-- In a stage that is warned of as without a way out, no change is ever possible.
use Rattle.std.proofs.Common.{◌≡◌, ℕ, suc, ◌+◌, ◌*◌, ◌<◌, ◌≤◌, true, false, not, ◌||◌, eqb, ◌⊎◌, List, [], ◌∷◌, length, Option, sym, refl, ◌∙◌, subst, inl, inr, arith}
use Rattle.std.specs.List.{AllByRecursion, list_all, list_any}
use Rattle.std.proofs.lemmas.Bool.{and_parts, cases_Bool, eqb-true, leb-true, ltb-true, not-true, or_cases}
use Rattle.theory.specs.Records.{Record, count, timer_no}
use Rattle.theory.specs.Regions.{Relation, AtLeast, Above, AtMost, Below, Comparison, NamesBelow, Says, timer_against, lead_against}
use Rattle.runs.specs.Plans.{Change, Plan, Sound, SoundPlanChange, stage_of}
use Rattle.runs.specs.Runs.{Run, any_in, guard_span, offers_from, offers_of, top, upto}
use Rattle.runs.proofs.Allowed.{any_within, within_cuts}
use Rattle.runs.proofs.Offered.{offers_from_nil, offers_from_none}
use Rattle.runs.proofs.Plans.{sound_stage}
use Rattle.runs.proofs.Reach.{Allows}
use Rattle.warnings.specs.Arrivals.{Closed, most_after, most_shown}
use Rattle.warnings.specs.Promised.{DeadEnd, NothingIsEverPossible}
use Rattle.warnings.specs.Warned.{change_is_never_possible, contradicts_hold, contradicts_itself, has_no_way_out, is_never_allowed, is_out_of_reach, is_ruled_out_by, is_ruled_out_in, is_unmarked, leaves_no_room, most_before, most_on_arrival, never_both, stays_below}
use Rattle.warnings.specs.declared.bounds.Bounds.{Bounds}
use Rattle.warnings.proofs.Arriving.{Arrived, KeepsToTable, every_run_kept}
use Rattle.warnings.proofs.Counted.{times_larger, times_less}
use Rattle.warnings.proofs.Holding.{AllowedOrNone, hold_allows, shown_on_leaving}

-- every timer below n shows at most so many seconds after each wait up to `last`
abbrev pub ShownUpto : Record → ℕ → ℕ → (ℕ → ℕ) → Type 0
ShownUpto r n last most =
    (x d : ℕ) → x < n → d ≤ last → count r (timer_no r x) + d ≤ 2 * r.classes * most x

-- a count that stays under `most` seconds is never at m or above it
timer_too_low : (k u most m : ℕ) (~ : Relation) → 1 ≤ k → stays_below ~ most m ≡ true → u ≤ k * most → (k * m ≤ u → ~ ≡ AtLeast → ⊥) × (k * m < u → ~ ≡ Above → ⊥)
timer_too_low k u most m AtLeast z t l =
    (λ h e. omega (arith, times_less k most m z (ltb-true most m t)), λ h e. cc)
timer_too_low k u most m Above z t l =
    (λ h e. cc, λ h e. omega (arith, times_larger k most m u (leb-true most m t) l))
timer_too_low k u most m AtMost z t l = absurd (let y : ⊥ = cc in y)
timer_too_low k u most m Below z t l = absurd (let y : ⊥ = cc in y)

-- a comparison that is out of reach allows no wait
never_allowed : (r : Record) (n last d : ℕ) (most : ℕ → ℕ) (c : Comparison) → 1 ≤ r.classes → ShownUpto r n last most → NamesBelow n c → d ≤ last → is_out_of_reach most c ≡ true → Allows r d c → ⊥
never_allowed r n last d most (timer_against x AtLeast m) z h b l t a =
    (timer_too_low (2 * r.classes) (count r (timer_no r x) + d) (most x) m AtLeast (omega arith) t (h x d b l)).0 a refl
never_allowed r n last d most (timer_against x Above m) z h b l t a =
    (timer_too_low (2 * r.classes) (count r (timer_no r x) + d) (most x) m Above (omega arith) t (h x d b l)).1 a refl
never_allowed r n last d most (timer_against x AtMost m) z h b l t a = cc
never_allowed r n last d most (timer_against x Below m) z h b l t a = cc
never_allowed r n last d most (lead_against x y AtLeast m) z h b l t a =
    (timer_too_low (2 * r.classes) (count r (timer_no r x) + d) (most x) m AtLeast (omega arith) t (h x d b.0 l)).0 (omega (arith, a)) refl
never_allowed r n last d most (lead_against x y Above m) z h b l t a =
    (timer_too_low (2 * r.classes) (count r (timer_no r x) + d) (most x) m Above (omega arith) t (h x d b.0 l)).1 (omega (arith, a)) refl
never_allowed r n last d most (lead_against x y AtMost m) z h b l t a = cc
never_allowed r n last d most (lead_against x y Below m) z h b l t a = cc

-- nor does a guard with one
guard_never_allowed : (r : Record) (n last d : ℕ) (most : ℕ → ℕ) (cs : List Comparison) → 1 ≤ r.classes → ShownUpto r n last most → AllByRecursion (NamesBelow n) cs → d ≤ last → is_never_allowed most cs ≡ true → AllByRecursion (Allows r d) cs → ⊥
guard_never_allowed r n last d most [] z h b l t a = cc
guard_never_allowed r n last d most (c ∷ cs) z h b l t a =
    go (or_cases (is_out_of_reach most c) (is_never_allowed most cs) t) (λ e. guard_never_allowed r n last d most cs z h b.1 l e a.1)
  where
    go : (is_out_of_reach most c ≡ true) ⊎ (is_never_allowed most cs ≡ true) → (is_never_allowed most cs ≡ true → ⊥) → ⊥
    go (inl e) rest = never_allowed r n last d most c z h b.0 l e a.0
    go (inr e) rest = rest e

-- a comparison from below and one from above that leave no room allow no count together
no_room : (k u a b : ℕ) (lower upper : Relation) → 1 ≤ k → leaves_no_room lower a upper b ≡ true → Says lower u (k * a) → Says upper u (k * b) → ⊥
no_room k u a b AtLeast AtLeast z t h l = cc
no_room k u a b Above AtLeast z t h l = cc
no_room k u a b AtMost AtLeast z t h l = cc
no_room k u a b Below AtLeast z t h l = cc
no_room k u a b AtLeast Above z t h l = cc
no_room k u a b Above Above z t h l = cc
no_room k u a b AtMost Above z t h l = cc
no_room k u a b Below Above z t h l = cc
no_room k u a b AtLeast AtMost z t h l = omega (arith, times_less k b a z (ltb-true b a t))
no_room k u a b Above AtMost z t h l = omega (arith, times_larger k b a u (leb-true b a t) l)
no_room k u a b AtMost AtMost z t h l = cc
no_room k u a b Below AtMost z t h l = cc
no_room k u a b AtLeast Below z t h l =
    omega (arith, times_larger k b a (k * b) (leb-true b a t) (omega arith))
no_room k u a b Above Below z t h l =
    omega (arith, times_larger k b a (k * b) (leb-true b a t) (omega arith))
no_room k u a b AtMost Below z t h l = cc
no_room k u a b Below Below z t h l = cc

-- no wait is allowed by two comparisons that are never both true
not_both_allowed : (r : Record) (d : ℕ) (c e : Comparison) → 1 ≤ r.classes → never_both c e ≡ true → Allows r d c → Allows r d e → ⊥
not_both_allowed r d (timer_against x lower a) (timer_against y upper b) z t h l =
    let both = and_parts (eqb x y) (leaves_no_room lower a upper b) t in
    no_room (2 * r.classes) (count r (timer_no r x) + d) a b lower upper (omega arith) both.1 h (subst (λ i. Says upper (count r (timer_no r i) + d) (2 * r.classes * b)) (sym (eqb-true x y both.0)) l)
not_both_allowed r d (timer_against x lower a) (lead_against y w upper b) z t h l = cc
not_both_allowed r d (lead_against x w lower a) e z t h l = cc

-- nor by a comparison and others that rule it out
ruled_out : (r : Record) (d : ℕ) (cs : List Comparison) (c : Comparison) → 1 ≤ r.classes → is_ruled_out_by cs c ≡ true → Allows r d c → AllByRecursion (Allows r d) cs → ⊥
ruled_out r d [] c z t h a = cc
ruled_out r d (e ∷ cs) c z t h a =
    go (or_cases (never_both c e) (is_ruled_out_by cs c) t) (λ k. ruled_out r d cs c z k h a.1)
  where
    go : (never_both c e ≡ true) ⊎ (is_ruled_out_by cs c ≡ true) → (is_ruled_out_by cs c ≡ true → ⊥) → ⊥
    go (inl k) rest = not_both_allowed r d c e z k h a.0
    go (inr k) rest = rest k

-- nor by comparisons of which one is ruled out by others
one_ruled_out : (r : Record) (d : ℕ) (others cs : List Comparison) → 1 ≤ r.classes → list_any (is_ruled_out_by others) cs ≡ true → AllByRecursion (Allows r d) others → AllByRecursion (Allows r d) cs → ⊥
one_ruled_out r d others [] z t h a = cc
one_ruled_out r d others (c ∷ cs) z t h a =
    go (or_cases (is_ruled_out_by others c) (list_any (is_ruled_out_by others) cs) t) (λ k. one_ruled_out r d others cs z k h a.1)
  where
    go : (is_ruled_out_by others c ≡ true) ⊎ (list_any (is_ruled_out_by others) cs ≡ true) → (list_any (is_ruled_out_by others) cs ≡ true → ⊥) → ⊥
    go (inl k) rest = ruled_out r d others c z k a.0 h
    go (inr k) rest = rest k

-- what is known of a stay in a stage: what the timers show on arrival and by its last wait, and that its hold allows each wait
pub record Stay (r : Record) (n last : ℕ) (most arrived : ℕ → ℕ) (hold : List Comparison) : Type 0 where
  pub some_class : 1 ≤ r.classes
  pub shown : ShownUpto r n last most
  pub shown_on_arrival : ShownUpto r n 0 arrived
  pub held : (d : ℕ) → d ≤ last → AllowedOrNone r d hold

-- a guard with a comparison that is ruled out in a stage allows no wait there
hold_contradicted : (r : Record) (n last d : ℕ) (most arrived : ℕ → ℕ) (hold cs : List Comparison) → Stay r n last most arrived hold → AllByRecursion (NamesBelow n) cs → d ≤ last → contradicts_hold arrived hold cs ≡ true → AllByRecursion (Allows r d) cs → ⊥
hold_contradicted r n last d most arrived hold [] s b l t a = cc
hold_contradicted r n last d most arrived hold (c ∷ cs) s b l t a =
    go (or_cases (is_ruled_out_in arrived hold c) (contradicts_hold arrived hold cs) t) (λ e. hold_contradicted r n last d most arrived hold cs s b.1 l e a.1)
  where
    here : (is_out_of_reach arrived c ≡ true) × (is_ruled_out_by hold c ≡ true) → AllowedOrNone r d hold → ⊥
    here e (inl z) =
        never_allowed r n 0 d arrived c s.some_class s.shown_on_arrival b.0 (omega (arith, z)) e.0 a.0
    here e (inr h) = ruled_out r d hold c s.some_class e.1 a.0 h

    go : (is_ruled_out_in arrived hold c ≡ true) ⊎ (contradicts_hold arrived hold cs ≡ true) → (contradicts_hold arrived hold cs ≡ true → ⊥) → ⊥
    go (inl e) rest =
        here (and_parts (is_out_of_reach arrived c) (is_ruled_out_by hold c) e) (s.held d l)
    go (inr e) rest = rest e

-- what is known of a stay in stage i, by the table
abbrev pub StayIn : Plan → List (Option Bounds) → ℕ → Record → ℕ → Type 0
StayIn plan table i r last =
    Stay r (length plan.ceilings) last (most_shown plan table i) (most_on_arrival plan table i) (stage_of plan i).hold

-- the guard of a change that is never possible allows no wait
change_allows_none : (plan : Plan) (table : List (Option Bounds)) (i : ℕ) (r : Record) (last d : ℕ) (c : Change) → StayIn plan table i r last → AllByRecursion (NamesBelow (length plan.ceilings)) c.guard → d ≤ last → change_is_never_possible plan table i c ≡ true → AllByRecursion (Allows r d) c.guard → ⊥
change_allows_none plan table i r last d c s b l t a =
    reached (or_cases (is_never_allowed (most_shown plan table i) c.guard) (contradicts_itself c.guard || contradicts_hold (most_on_arrival plan table i) (stage_of plan i).hold c.guard) t)
  where
    contradicted : (contradicts_itself c.guard ≡ true) ⊎ (contradicts_hold (most_on_arrival plan table i) (stage_of plan i).hold c.guard ≡ true) → ⊥
    contradicted (inl e) = one_ruled_out r d c.guard c.guard s.some_class e a a
    contradicted (inr e) =
        hold_contradicted r (length plan.ceilings) last d (most_shown plan table i) (most_on_arrival plan table i) (stage_of plan i).hold c.guard s b l e a

    reached : (is_never_allowed (most_shown plan table i) c.guard ≡ true) ⊎ ((contradicts_itself c.guard || contradicts_hold (most_on_arrival plan table i) (stage_of plan i).hold c.guard) ≡ true) → ⊥
    reached (inl e) =
        guard_never_allowed r (length plan.ceilings) last d (most_shown plan table i) c.guard s.some_class s.shown b l e a
    reached (inr e) =
        contradicted (or_cases (contradicts_itself c.guard) (contradicts_hold (most_on_arrival plan table i) (stage_of plan i).hold c.guard) e)

-- so its waits are none
no_wait : (plan : Plan) (table : List (Option Bounds)) (i : ℕ) (r : Record) (last : ℕ) (c : Change) → StayIn plan table i r last → AllByRecursion (NamesBelow (length plan.ceilings)) c.guard → change_is_never_possible plan table i c ≡ true → any_in (guard_span r last c.guard) ≡ false
no_wait plan table i r last c s b t = go (cases_Bool (any_in (guard_span r last c.guard)))
  where
    go : (any_in (guard_span r last c.guard) ≡ true) ⊎ (any_in (guard_span r last c.guard) ≡ false) → any_in (guard_span r last c.guard) ≡ false
    go (inl e) =
        let d = (guard_span r last c.guard).from in
        let w = (within_cuts r c.guard d (upto last)).0 (any_within (guard_span r last c.guard) e) in
        absurd (change_allows_none plan table i r last d c s b (omega (arith, w.0)) t w.1)
    go (inr e) = e

-- and nothing is offered
pub none_offered : (plan : Plan) (table : List (Option Bounds)) (i : ℕ) (r : Record) (last c : ℕ) (cs : List Change) → StayIn plan table i r last → AllByRecursion (SoundPlanChange plan) cs → list_all (change_is_never_possible plan table i) cs ≡ true → offers_from r last c cs ≡ []
none_offered plan table i r last c [] h s t = offers_from_nil r last c
none_offered plan table i r last c (x ∷ xs) h s t =
    let both = and_parts (change_is_never_possible plan table i x) (list_all (change_is_never_possible plan table i) xs) t in
    offers_from_none r last c x xs (no_wait plan table i r last x h s.0.guard_named both.0) ∙ none_offered plan table i r last (suc c) xs h s.1 both.1

-- what is shown in the stage of an open run, by the table
shown_by_table : (plan : Plan) (table : List (Option Bounds)) (run : Run) → KeepsToTable plan table run → Arrived plan table run → ShownUpto run.region (length plan.ceilings) (top plan run.stage run.region) (most_shown plan table run.stage)
shown_by_table plan table run k a x d l h =
    subst (λ o. count run.region (timer_no run.region x) + d ≤ 2 * run.region.classes * most_after plan run.stage o x) (sym a.in_table) (shown_on_leaving plan run.stage run.region d x a.bounds l h (a.within x l) (k.in_bounds.under x l))

-- what was shown on arrival, by the table
arrived_by_table : (plan : Plan) (table : List (Option Bounds)) (run : Run) → Arrived plan table run → ShownUpto run.region (length plan.ceilings) 0 (most_on_arrival plan table run.stage)
arrived_by_table plan table run a x d l h =
    subst (λ o. count run.region (timer_no run.region x) + d ≤ 2 * run.region.classes * most_before plan o x) (sym a.in_table) (omega (arith, a.within x l, h))

-- an open run stays in its stage so
run_stays : (plan : Plan) (table : List (Option Bounds)) (run : Run) → KeepsToTable plan table run → Arrived plan table run → StayIn plan table run.stage run.region (top plan run.stage run.region)
run_stays plan table run k a = record {
  some_class = k.in_bounds.valid.some_class;
  shown = shown_by_table plan table run k a;
  shown_on_arrival = arrived_by_table plan table run a;
  held = λ d l. hold_allows plan run.stage run.region d l;
}

run_offers_nothing : (plan : Plan) (table : List (Option Bounds)) (run : Run) → Sound plan → KeepsToTable plan table run → Arrived plan table run → has_no_way_out plan table run.stage ≡ true → offers_of plan run ≡ []
run_offers_nothing plan table run s k a t =
    let both = and_parts (is_unmarked plan run.stage) (list_all (change_is_never_possible plan table run.stage) (stage_of plan run.stage).changes) t in
    none_offered plan table run.stage run.region (top plan run.stage run.region) (stage_of plan run.stage).first (stage_of plan run.stage).changes (run_stays plan table run k a) (sound_stage plan s run.stage).changes_sound both.1

pub a_dead_end : (plan : Plan) (table : List (Option Bounds)) (i : ℕ) → Sound plan → Closed plan table → has_no_way_out plan table i ≡ true → DeadEnd plan i
a_dead_end plan table i s k t =
    record { no_goal = not-true (stage_of plan i).goal unmarked.0; not_avoided = not-true (stage_of plan i).avoid unmarked.1; nothing_is_ever_possible = nothing }
  where
    unmarked : (not (stage_of plan i).goal ≡ true) × (not (stage_of plan i).avoid ≡ true)
    unmarked =
        and_parts (not (stage_of plan i).goal) (not (stage_of plan i).avoid) (and_parts (is_unmarked plan i) (list_all (change_is_never_possible plan table i) (stage_of plan i).changes) t).0

    nothing : NothingIsEverPossible plan i
    nothing draws calls fit going at =
        let kept = every_run_kept plan table draws calls s k fit in
        run_offers_nothing plan table _ s kept (kept.followable.arrived_if_open going) (subst (λ j. has_no_way_out plan table j ≡ true) (sym at) t)

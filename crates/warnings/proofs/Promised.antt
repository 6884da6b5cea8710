-- What the warnings of a table that keeps the rules promise.
use Rattle.std.proofs.Common.{◌≡◌, ℕ, ◌<◌, true, false, not, ◌⊎◌, List, length, Option, Contains, sym, ap, subst, inl, inr}
use Rattle.std.specs.List.{list_all}
use Rattle.std.proofs.lemmas.Bool.{and_from, cases_Bool, not_from_false}
use Rattle.runs.specs.Plans.{Plan, Sound, stage_of}
use Rattle.warnings.specs.Arrivals.{Closed}
use Rattle.warnings.specs.Promised.{AStageWarnedAsWithoutAWayOutOffersNothing, AStageWithoutChangesIsWarned, WhereNothingIsWarnedAHigherCeilingLetsNoRunStayLonger, WhereNothingIsWarnedTheHoldEndsBeforeTheCeiling}
use Rattle.warnings.specs.Warned.{ceiling_may_end_hold, change_is_never_possible, has_no_way_out, is_unmarked, warned}
use Rattle.warnings.specs.declared.Warning.{Warning}
use Rattle.warnings.specs.declared.Warning.TheVariants.{CeilingMayEndHold, NoWayOut}
use Rattle.warnings.specs.declared.bounds.Bounds.{Bounds}
use Rattle.warnings.proofs.Comfort.{NoCeilingWarned, the_hold_ends}
use Rattle.warnings.proofs.DeadEnds.{a_dead_end}
use Rattle.warnings.proofs.Listed.{arrival_listed, listed_has_no_way_out, no_way_out_listed, stage_listed}
use Rattle.warnings.proofs.Raising.{no_run_stays_longer}

not_listed : (plan : Plan) (table : List (Option Bounds)) (i x : ℕ) → i < length plan.stages → x < length plan.ceilings → (Contains (warned plan table) (CeilingMayEndHold i x) → ⊥) → NoCeilingWarned plan table i x
not_listed plan table i x l k none b e = go (cases_Bool (ceiling_may_end_hold plan i b x))
  where
    go : (ceiling_may_end_hold plan i b x ≡ true) ⊎ (ceiling_may_end_hold plan i b x ≡ false) → ceiling_may_end_hold plan i b x ≡ false
    go (inl t) =
        absurd (none (stage_listed plan table (length plan.stages) i (CeilingMayEndHold i x) l (arrival_listed plan table i x b e k t)))
    go (inr f) = f

pub no_false_comfort : (plan : Plan) (table : List (Option Bounds)) (found : List Warning) → Sound plan → Closed plan table → found ≡ warned plan table → WhereNothingIsWarnedTheHoldEndsBeforeTheCeiling plan found
no_false_comfort plan table found s k e i x l m none =
    the_hold_ends plan table i x s k m (not_listed plan table i x l m (subst (λ (w : List Warning). Contains w (CeilingMayEndHold i x) → ⊥) e none))

pub no_longer_stay : (plan : Plan) (table : List (Option Bounds)) (found : List Warning) → Sound plan → Closed plan table → found ≡ warned plan table → WhereNothingIsWarnedAHigherCeilingLetsNoRunStayLonger plan found
no_longer_stay plan table found s k e i x l m none =
    no_run_stays_longer plan i x m (no_false_comfort plan table found s k e i x l m none)

pub dead_ends : (plan : Plan) (table : List (Option Bounds)) (found : List Warning) → Sound plan → Closed plan table → found ≡ warned plan table → AStageWarnedAsWithoutAWayOutOffersNothing plan found
dead_ends plan table found s k e i h =
    a_dead_end plan table i s k (listed_has_no_way_out plan table (length plan.stages) i (subst (λ (w : List Warning). Contains w (NoWayOut i)) e h))

pub no_changes : (plan : Plan) (table : List (Option Bounds)) (found : List Warning) → found ≡ warned plan table → AStageWithoutChangesIsWarned plan found
no_changes plan table found e i l g a none =
    subst (λ (w : List Warning). Contains w (NoWayOut i)) (sym e) (stage_listed plan table (length plan.stages) i (NoWayOut i) l (no_way_out_listed plan table i no_way))
  where
    no_way : has_no_way_out plan table i ≡ true
    no_way =
        and_from (is_unmarked plan i) (list_all (change_is_never_possible plan table i) (stage_of plan i).changes) (and_from (not (stage_of plan i).goal) (not (stage_of plan i).avoid) (not_from_false (stage_of plan i).goal g) (not_from_false (stage_of plan i).avoid a)) (ap (list_all (change_is_never_possible plan table i)) none)

use Rattle.std.proofs.Common.{◌≡◌, Ok, Err, Result, ap, subst, ◌∙◌}
use Rattle.std.specs.Global.{Global}
use Rattle.std.specs.Prelude.{Vec}
use Rattle.std.specs.Result.{IfOk}
use Rattle.plan.specs.Handed.{held_by}
use Rattle.runs.specs.Plans.{Plan}
use Rattle.runs.specs.Tables.{plan_in}
use Rattle.warnings.specs.Promised.{AStageWarnedAsWithoutAWayOutOffersNothing, AStageWithoutChangesIsWarned, WhereNothingIsWarnedAHigherCeilingLetsNoRunStayLonger, WhereNothingIsWarnedTheHoldEndsBeforeTheCeiling}
use Rattle.warnings.specs.declared.Warning.{Warning}
use Rattle.commands.specs.Files.{rows_read}
use Rattle.commands.specs.Warned.{WarnsWell}
use Rattle.commands.proofs.check.warnings_of.Goals as goal

-- the four promises together
warns_well : {E : Type 0} (plan : Plan) (r : Result (Vec Warning Global) E) →
    IfOk r (λ found. WhereNothingIsWarnedTheHoldEndsBeforeTheCeiling plan found.items) →
    IfOk r (λ found. WhereNothingIsWarnedAHigherCeilingLetsNoRunStayLonger plan found.items) →
    IfOk r (λ found. AStageWarnedAsWithoutAWayOutOffersNothing plan found.items) →
    IfOk r (λ found. AStageWithoutChangesIsWarned plan found.items) →
    IfOk r (λ found. WarnsWell plan found.items)
warns_well plan (Ok found) a b d e =
    record { holds_end = a; no_longer_stay = b; dead_ends = d; no_change_no_way_out = e }
warns_well plan (Err x) a b d e = a

pub returns : goal.returns
returns c =
    let same : plan_in (held_by c.of_tables.result.rows) ≡ plan_in (rows_read c.args.file.now) = ap plan_in (c.of_tables.ensures.rows ∙ c.handed.ensures.the_plan_read_is_the_plan_that_runs) in
    let w = c.warnings.ensures in
    subst (λ (p : Plan). IfOk c.warnings.result (λ found. WarnsWell p found.items)) same
    (warns_well (plan_in (held_by c.of_tables.result.rows)) c.warnings.result w.where_nothing_is_warned_the_hold_ends_before_the_ceiling w.where_nothing_is_warned_a_higher_ceiling_lets_no_run_stay_longer w.a_stage_warned_as_without_a_way_out_offers_nothing w.a_stage_without_changes_is_warned)

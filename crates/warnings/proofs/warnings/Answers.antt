use Rattle.std.proofs.Common.{sym, subst}
use Rattle.std.proofs.lemmas.Result.{IfOk-weaker}
use Rattle.offers.specs.Known.{plan_of, rows_of}
use Rattle.runs.specs.Plans.{Sound}
use Rattle.runs.proofs.Tables.{plan_sound}
use Rattle.warnings.specs.Arrivals.{Closed}
use Rattle.warnings.proofs.Promised.{dead_ends, no_changes, no_false_comfort, no_longer_stay}
use Rattle.warnings.proofs.warnings.Goals as goal
use Rattle.warnings.proofs.warnings.Goals.{After-warned}

-- the table that the warnings are read from keeps the rules of the plan, which is sound
table_closed : (c : After-warned) → Closed (plan_of c.args.plan) c.deref.result.now
table_closed c = subst (Closed (plan_of c.args.plan)) (sym c.deref.ensures.value) c.in_ok-table.ensures

sound : (c : After-warned) → Sound (plan_of c.args.plan)
sound c = plan_sound (rows_of c.args.plan) c.args.plan.sound

pub returns-clause-where_nothing_is_warned_the_hold_ends_before_the_ceiling : goal.returns-clause-where_nothing_is_warned_the_hold_ends_before_the_ceiling
returns-clause-where_nothing_is_warned_the_hold_ends_before_the_ceiling c =
    let w = (goal.at.returns-clause-where_nothing_is_warned_the_hold_ends_before_the_ceiling c).After-warned in
    IfOk-weaker c.warned.result _ _ (λ found e. no_false_comfort (plan_of c.args.plan) c.deref.result.now found.items (sound w) (table_closed w) e) c.warned.ensures

pub returns-clause-where_nothing_is_warned_a_higher_ceiling_lets_no_run_stay_longer : goal.returns-clause-where_nothing_is_warned_a_higher_ceiling_lets_no_run_stay_longer
returns-clause-where_nothing_is_warned_a_higher_ceiling_lets_no_run_stay_longer c =
    let w = (goal.at.returns-clause-where_nothing_is_warned_a_higher_ceiling_lets_no_run_stay_longer c).After-warned in
    IfOk-weaker c.warned.result _ _ (λ found e. no_longer_stay (plan_of c.args.plan) c.deref.result.now found.items (sound w) (table_closed w) e) c.warned.ensures

pub returns-clause-a_stage_warned_as_without_a_way_out_offers_nothing : goal.returns-clause-a_stage_warned_as_without_a_way_out_offers_nothing
returns-clause-a_stage_warned_as_without_a_way_out_offers_nothing c =
    let w = (goal.at.returns-clause-a_stage_warned_as_without_a_way_out_offers_nothing c).After-warned in
    IfOk-weaker c.warned.result _ _ (λ found e. dead_ends (plan_of c.args.plan) c.deref.result.now found.items (sound w) (table_closed w) e) c.warned.ensures

pub returns-clause-a_stage_without_changes_is_warned : goal.returns-clause-a_stage_without_changes_is_warned
returns-clause-a_stage_without_changes_is_warned c =
    IfOk-weaker c.warned.result _ _ (λ found e. no_changes (plan_of c.args.plan) c.deref.result.now found.items e) c.warned.ensures

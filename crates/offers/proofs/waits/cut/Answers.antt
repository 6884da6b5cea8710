use Rattle.std.proofs.Common.{◌≡◌, ◌+◌, ◌*◌, true, false, sym, ◌∙◌}
use Rattle.region.specs.Viewed.{viewed}
use Rattle.theory.specs.Records.{count, timer_no}
use Rattle.runs.specs.Runs.{says}
use Rattle.runs.specs.Typed.{relation_in}
use Rattle.offers.specs.Waits.{span_of}
use Rattle.offers.proofs.Comparing.{cut_of_lead, cut_of_timer}
use Rattle.offers.proofs.waits.cut.Goals as goal
use Rattle.offers.proofs.waits.cut.Goals.{After-says}

pub returns-in-Timer : goal.returns-in-Timer
returns-in-Timer c =
    let is = cut_of_timer (viewed c.args.region.now) c.args.comparison c.in-Timer.timer (span_of c.args.span) c.in-Timer.is in
    cc

-- what the test of a lead says
told : (c : After-says) → says (relation_in c.args.comparison.relation) (count (viewed c.args.region.now) (timer_no (viewed c.args.region.now) c.in-Lead.timer)) (count (viewed c.args.region.now) (timer_no (viewed c.args.region.now) c.in-Lead.other) + 2 * (viewed c.args.region.now).classes * c.args.comparison.constant) ≡ c.says.result
told c = cc

pub returns-then-says : goal.returns-then-says
returns-then-says c =
    sym (cut_of_lead (viewed c.args.region.now) c.args.comparison c.in-Lead.timer c.in-Lead.other (span_of c.args.span) true c.in-Lead.is (told (goal.at.returns-then-says c).After-says ∙ c.if-says.true))

pub returns-else-says : goal.returns-else-says
returns-else-says c =
    c.before-else-says.ensures
    ∙ sym (cut_of_lead (viewed c.args.region.now) c.args.comparison c.in-Lead.timer c.in-Lead.other (span_of c.args.span) false c.in-Lead.is (told (goal.at.returns-else-says c).After-says ∙ c.if-says.false))

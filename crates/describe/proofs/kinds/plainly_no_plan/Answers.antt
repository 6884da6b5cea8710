use Rattle.std.proofs.Common.{◌≡◌, true, length, ap, sym, ◌∙◌, arith, rules}
use Rattle.std.proofs.lemmas.Bool.{false≢true}
use Rattle.describe.specs.Kinds.{is_plain_text}
use Rattle.describe.proofs.PlanFiles.{plan_has_28_bytes, plan_is_no_text}
use Rattle.describe.proofs.kinds.plainly_no_plan.Goals as goal

pub returns-then-is_text-clause-no_plan_is_said_to_be_none :
    goal.returns-then-is_text-clause-no_plan_is_said_to_be_none
returns-then-is_text-clause-no_plan_is_said_to_be_none c = λ p sound file.
    let text : is_plain_text c.args.bytes.now ≡ true = search (rules, c.is_text.ensures, c.if-is_text.true) in
    absurd (false≢true (sym (plan_is_no_text p sound) ∙ sym (ap is_plain_text file) ∙ text))

pub returns-then-bytes-lt-SHORTEST_PLAN-clause-no_plan_is_said_to_be_none :
    goal.returns-then-bytes-lt-SHORTEST_PLAN-clause-no_plan_is_said_to_be_none
returns-then-bytes-lt-SHORTEST_PLAN-clause-no_plan_is_said_to_be_none c = λ p sound file.
    absurd (omega (arith, plan_has_28_bytes p sound, ap length file, c.if-bytes-lt-SHORTEST_PLAN.true))

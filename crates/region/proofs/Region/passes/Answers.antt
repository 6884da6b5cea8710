use Rattle.std.proofs.Common.{ℕ, ◌+◌, ◌*◌, ◌≤◌, List, length, ap, ◌∙◌, arith, rules, tests}
use Rattle.std.specs.Bool.{⊤}
use Rattle.std.proofs.lemmas.Iterator.{YieldsList-from_slice, cases_from_any}
use Rattle.std.proofs.lemmas.Iterator.Consumers.{YieldsList-from_enumerate}
use Rattle.std.proofs.lemmas.Iterator.Search.{any_from_yields_List}
use Rattle.theory.specs.Records.{Record, count}
use Rattle.region.specs.declared.value.TimerValue.{TimerValue}
use Rattle.region.specs.Viewed.{viewed}
use Rattle.region.specs.Views.{timer_in}
use Rattle.region.proofs.Shown.{lengths}
use Rattle.region.proofs.Waited.{all_within, passes_any, row_passes}
use Rattle.region.proofs.Region.passes.Goals as goal

pub returns : goal.returns
returns c =
    let v : Record = viewed c.args.self.now in
    let d : ℕ = c.args.steps in
    let most : ℕ = 2 * v.classes * 65535 in
    let xs : List TimerValue = c.values.result.now in
    let few = cases_from_any _ _ c.any.result (λ (p : ℕ × TimerValue). ⊤) (λ (p : ℕ × TimerValue). count v (timer_in p.1) + d ≤ most) c.any.ensures.ran (YieldsList-from_enumerate (YieldsList-from_slice xs cc) cc) (λ x q k. search (rules, tests)) (λ x q k. search (rules, tests)) in
    record {
      tells = any_from_yields_List (row_passes c.args.ceilings.now d v) _ _ c.any.result c.any.ensures.ran (YieldsList-from_enumerate (YieldsList-from_slice xs cc) cc) (λ x b q k. search (rules, tests))
          ∙ passes_any c.args.ceilings.now d v xs c.values.ensures.timers;
      in_time = λ e i l. all_within d most v xs _ c.any.result c.values.ensures.timers few e i (omega (arith, lengths, ap (length {A = TimerValue}) c.values.ensures.rows));
    }

use Rattle.std.proofs.Common.{◌≡◌, ◌+◌, ◌-◌, ◌<◌, List, length, get_or, drop, arith}
use Rattle.std.proofs.lemmas.List.{get_or-drop, length-drop}
use Rattle.std.proofs.lemmas.List.Sums.{sum_by_more}
use Rattle.rows.specs.declared.tables.OutcomeRow.{OutcomeRow}
use Rattle.rows.specs.Verdicts.{no_outcome}
use Rattle.plan.proofs.check.weights.Goals as goal

pub loop-i-preserved : goal.loop-i-preserved
loop-i-preserved g c =
    let first = c.args.c.first_outcome in
    let all : List OutcomeRow = (g.R.Records.held c.args.rows.now).outcomes in
    let part : List OutcomeRow = drop first all in
    let k = c.loop-i.i - first in
    let within : k < length part = omega (arith, length-drop first all) in
    let more = sum_by_more (λ (o : OutcomeRow). o.weight) part k no_outcome within in
    let here = get_or-drop first all k no_outcome in
    let place : first + k ≡ c.loop-i.i = omega arith in
    let next : c.loop-i.i + 1 - first ≡ k + 1 = omega arith in
    let read : c.outcome.result ≡ get_or part k no_outcome = cc in
    (cc, omega arith)

use Rattle.std.proofs.Common.{◌+◌, arith, subst, sym, ◌∙◌}
use Rattle.std.proofs.lemmas.Option.{slice_get_within}
use Rattle.describe.proofs.InOrder.{least_with_one_more, least_without, LeastSoFar}
use Rattle.describe.proofs.repeats.earliest_again.Goals as goal
use Rattle.describe.proofs.repeats.earliest_again.Goals.{then-sorted-i, else-sorted-i}

pub loop-i-preserved : goal.loop-i-preserved
loop-i-preserved c = elim c.if-sorted-i.branch [
  | then-sorted-i w ↦ subst (LeastSoFar c.args.sorted.now (c.loop-i.i + 1)) (sym (w.earliest-is ∙ w.min-earliest.ensures)) (
      least_with_one_more c.args.sorted.now c.loop-i.i c.loop-i.earliest c.loop-i.auto.i c.loop-i-test.true w.if-sorted-i.true c.loop-i.invariant)
  | else-sorted-i w ↦ subst (LeastSoFar c.args.sorted.now (c.loop-i.i + 1)) (sym w.earliest-is) (
      least_without c.args.sorted.now c.loop-i.i c.loop-i.earliest c.loop-i.auto.i c.loop-i-test.true w.if-sorted-i.false c.loop-i.invariant)
]

pub returns-clause-none_earlier : goal.returns-clause-none_earlier
returns-clause-none_earlier c = λ place again.
    let within = slice_get_within c.args.sorted.now (again.0 + 1) (again.1, place) again.4 in
    c.loop-i.invariant.1 again.0 again.1 again.2 place (omega (arith, within, c.loop-i-test.false)) again.3 again.4

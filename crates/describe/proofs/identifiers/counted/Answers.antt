use Rattle.std.proofs.Common.{◌≡◌, ◌+◌, ◌-◌, length, ap, sym, ◌∙◌, arith}
use Rattle.std.proofs.lemmas.Iterator.{items_from_drains}
use Rattle.std.proofs.lemmas.List.{map-id}
use Rattle.std.proofs.lemmas.List.FromFn.{length-range_with_len}
use Rattle.describe.specs.Identifiers.{numbers_from_to}
use Rattle.describe.proofs.Inclusive.{YieldsList-from_inclusive}
use Rattle.describe.proofs.identifiers.counted.Goals as goal
use Rattle.describe.proofs.identifiers.counted.Goals.{in_default-via-in-Some+else-more-lt-MOST_IDENTIFIERS, in_default-via-in_default}

pub returns-in_ok-collect-in-Some : goal.returns-in_ok-collect-in-Some
returns-in_ok-collect-in-Some c =
    let ran = c.in_ok-collect-in-Some.ensures.ran in
    let more = c.in-Some.ensures in
    let count : c.args.last - c.args.first + 1 - (c.args.first - c.args.last) ≡ c.args.last - c.args.first + 1 = omega (arith, more.0) in
    let road = YieldsList-from_inclusive {s = c.new.result} c.args.first c.args.last (c.args.last - c.args.first + 1) c.new.ensures.start c.new.ensures.end c.new.ensures.exhausted count in
    let all : c.in_ok-collect-in-Some.field-0.items ≡ numbers_from_to c.args.first c.args.last = ran.2.0 ∙ sym (map-id ran.0) ∙ items_from_drains ran.0 ran.1 road in
    (more.0, all, omega (arith, ap length all, length-range_with_len c.args.first (c.args.last - c.args.first + 1), more.1, c.if-more-lt-MOST_IDENTIFIERS.true))

pub returns-in_default : goal.returns-in_default
returns-in_default c = λ in_order.
    let count = length-range_with_len c.args.first (c.args.last - c.args.first + 1) in
    elim c.in_default.branch [
      | in_default-via-in-Some+else-more-lt-MOST_IDENTIFIERS w ↦
          omega (arith, count, w.in-Some.ensures.1, w.if-more-lt-MOST_IDENTIFIERS.false)
      | in_default-via-in_default w ↦ absurd (w.in_default.ensures in_order)
    ]

use Rattle.std.proofs.Common.{◌≡◌, true, ◌&&◌, ◌==◌, sym, ◌∙◌}
use mathlib.Core.Bool.{beq}
use Rattle.std.proofs.lemmas.Bool.{false≢true}
use Rattle.std.proofs.lemmas.Bool.Decides.{Decides-at}
use Rattle.std.specs.Cmp.Derive.Mapped.{pointwise-map}
use Rattle.std.specs.Cmp.Lexicographic.{pointwise}
use Rattle.theory.specs.Records.{Record}
use Rattle.theory.proofs.Theorems.{equal_records_are_one_region}
use Rattle.region.specs.Same.{records_decide, same_record, same_timer}
use Rattle.region.specs.Viewed.{viewed}
use Rattle.region.specs.Views.{timer_in}
use Rattle.region.proofs.same.RegionPartialEq.eq.Goals as goal
use Rattle.region.proofs.same.RegionPartialEq.eq.Goals.{then-self-other, else-self-other}

pub returns-then-self-other-2 : goal.returns-then-self-other-2
returns-then-self-other-2 c =
    let v : Record = viewed c.args.self.now in
    let w : Record = viewed c.args.other.now in
    let rows : c.eq.result ≡ pointwise same_timer v.timers w.timers =
    c.eq.ensures ∙ sym (pointwise-map timer_in same_timer c.values.result.now c.values-then-self-other-2.result.now)
    ∙ (λ i. pointwise same_timer (c.values.ensures.timers i) (c.values-then-self-other-2.ensures.timers i)) in
    elim c.if-self-other.branch [
      | then-self-other b ↦
          let classes : (v.classes == w.classes) ≡ true = sym b.value-is ∙ c.if-self-other-2.true in
          let whole : beq v.whole w.whole ≡ true = b.if-self-other.true in
          let told : c.eq.result ≡ same_record v w = rows ∙ (λ i. sym whole i && (sym classes i && pointwise same_timer v.timers w.timers)) in
          record {
            equal_records_are_one_region = equal_records_are_one_region;
            told = told;
            decides = Decides-at c.eq.result (same_record v w) told (records_decide v w);
          }
      | else-self-other b ↦ absurd (false≢true (sym b.if-self-other.false ∙ sym b.value-is ∙ c.if-self-other-2.true))
    ]

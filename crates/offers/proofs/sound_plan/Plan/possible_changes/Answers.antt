use Rattle.std.proofs.Common.{◌≡◌, ◌+◌, [], ◌∷◌, ◌++◌, true, false, length, map, get_or, take, drop, arith, ap, sym, ◌∙◌}
use Rattle.std.proofs.lemmas.List.{length-append, length-drop, length-take}
use Rattle.region.specs.Viewed.{viewed}
use Rattle.rows.specs.Plans.{PlanRows}
use Rattle.rows.specs.Verdicts.{no_change}
use Rattle.runs.specs.declared.Offer.{Offer}
use Rattle.runs.specs.Plans.{stage_of}
use Rattle.runs.specs.Runs.{Span, any_in, guard_span, offer_of, offers_from}
use Rattle.runs.specs.Tables.{change_of_row}
use Rattle.theory.specs.Records.{Record}
use Rattle.offers.specs.Known.{plan_of, rows_of}
use Rattle.offers.specs.Lists.{listed}
use Rattle.offers.proofs.Known.{few_changes}
use Rattle.offers.proofs.Offering.{next_not_offered, next_offered, no_more_changes}
use Rattle.offers.proofs.sound_plan.Plan.possible_changes.Goals as goal
use Rattle.offers.proofs.sound_plan.Plan.possible_changes.Goals.{then-is_some, else-is_some}

pub overflow_add-row : goal.overflow_add-row
overflow_add-row c =
    let p : PlanRows = rows_of c.args.self.now in
    let row = c.stage_row-row.result in
    omega (arith, few_changes p c.args.self.now.sound, ap length c.changes_of-changes.ensures, length-take row.changes (drop row.first_change p.changes), length-drop row.first_change p.changes)

pub loop-i-preserved : goal.loop-i-preserved
loop-i-preserved c =
    let p : PlanRows = rows_of c.args.self.now in
    let r : Record = viewed c.args.at.now.region in
    let first = c.stage_row-row.result.first_change in
    let last = c.top-last.result in
    let rows = c.changes_of-changes.result.now in
    let os = listed c.loop-i.list in
    let span : Span = guard_span r last (change_of_row p (get_or rows c.loop-i.i no_change)).guard in
    let rest = offers_from r last (first + (c.loop-i.i + 1)) (drop (c.loop-i.i + 1) (map (change_of_row p) rows)) in
    let of_guard = c.guard_span-span.ensures.span in
    let told : c.is_some.result ≡ any_in span = c.is_some.ensures ∙ ap any_in of_guard in
    elim c.if-is_some.branch [
      | then-is_some w ↦
          let some : any_in span ≡ true = sym told ∙ w.if-is_some.true in
          let list : listed c.if-is_some.list ≡ os ++ offer_of (first + c.loop-i.i) span ∷ [] =
          ap listed w.list-is
          ∙ w.push.ensures
          ∙ ap (λ (o : Offer). os ++ o ∷ []) (w.offer.ensures ∙ ap (offer_of (first + c.loop-i.i)) of_guard) in
          record {
            told = ap (λ z. z ++ rest) list ∙ (next_offered r last first p rows c.loop-i.i os c.loop-i-test.true some ∙ c.loop-i.invariant.told);
            few = omega (arith, ap length list, length-append os (offer_of (first + c.loop-i.i) span ∷ []), c.loop-i.invariant.few);
          }
      | else-is_some w ↦
          let none : any_in span ≡ false = sym told ∙ w.if-is_some.false in
          let list : listed c.if-is_some.list ≡ os = ap listed w.list-is in
          record {
            told = ap (λ z. z ++ rest) list ∙ (ap (λ z. os ++ z) (next_not_offered r last first p rows c.loop-i.i c.loop-i-test.true none) ∙ c.loop-i.invariant.told);
            few = omega (arith, ap length list, c.loop-i.invariant.few);
          }
    ]

pub returns-clause-offers : goal.returns-clause-offers
returns-clause-offers c =
    let p : PlanRows = rows_of c.args.self.now in
    let r : Record = viewed c.args.at.now.region in
    let row = c.stage_row-row.result in
    let told = sym (no_more_changes r c.top-last.result row.first_change p c.changes_of-changes.result.now c.loop-i.i (listed c.loop-i.list) c.loop-i-test.false) ∙ c.loop-i.invariant.told in
    let first : row.first_change ≡ (stage_of (plan_of c.args.self.now) c.args.at.now.stage).first = ap (λ z. z.first) c.stage_row-row.ensures.row in
    let changes : map (change_of_row p) (take row.changes (drop row.first_change p.changes)) ≡ (stage_of (plan_of c.args.self.now) c.args.at.now.stage).changes = ap (λ z. z.changes) c.stage_row-row.ensures.row in
    cc

use Rattle.std.proofs.Common.{◌≡◌, ℕ, ◌+◌, ◌^◌, ◌<◌, ◌≤◌, true, List, length, get_or, sym, ap, ◌∙◌, subst, arith}
use mathlib.Core.Logic.{∥∥₁_elim}
use native.Mathlib.Bridge.{le_prop}
use Rattle.std.proofs.Math.Logic.{∥∥₁_map}
use Rattle.std.proofs.lemmas.Bool.{leb-false}
use Rattle.theory.specs.Records.{Record, Valid, live, reset}
use Rattle.theory.specs.Settings.{total}
use Rattle.theory.proofs.Resets.{reset_none, reset_some}
use Rattle.theory.proofs.Validity.{reset_keeps_valid}
use Rattle.region.specs.Resetting.{marks}
use Rattle.region.specs.Viewed.{viewed}
use Rattle.region.specs.Views.{record_in}
use Rattle.region.proofs.Classes.{classes_few}
use Rattle.region.proofs.Marked.{length_marks, none_named, some_named}
use Rattle.region.proofs.Placed.{reset_answered}
use Rattle.region.proofs.Shown.{lengths}
use Rattle.region.proofs.Region.reset.Goals as goal
use Rattle.region.proofs.Region.reset.Goals.{After-rows_reset}

-- the record after the named timers are set to zero
after : (c : After-rows_reset) → record_in true (get_or c.places_after-places.result c.from.result 0) c.args.self.now.number c.rows_reset.result ≡ reset (marks (length (viewed c.args.self.now).timers) c.args.timers) (viewed c.args.self.now)
after c =
    let r = c.args.self.now in
    let v : Record = viewed r in
    let bits : ℕ = c.args.timers in
    let table : List ℕ = c.places_after-places.result in
    let n : length v.timers ≡ r.number = omega (arith, lengths) in
    let below : bits < 2 ^ r.number = subst (λ k. bits < 2 ^ k) (c.timers.ensures ∙ n) (leb-false (2 ^ c.timers.result) bits (sym c.if-names_past.ensures)) in
    let classes : get_or table c.from.result 0 ≡ 1 + total (live (marks r.number bits) v) r.classes =
    ap (λ i. get_or table i 0) c.from.ensures ∙ c.places_after-places.ensures r.classes (omega (arith, r.table)) in
    (λ i. record { whole = true; classes = classes i; timers = c.rows_reset.ensures i })
    ∙ sym (reset_some (marks r.number bits) v (some_named bits r.number below c.if-timers-eq0.false))
    ∙ ap (λ k. reset (marks k bits) v) (sym n)

pub returns-then-timers-eq0-clause-answer : goal.returns-then-timers-eq0-clause-answer
returns-then-timers-eq0-clause-answer c =
    let v : Record = viewed c.args.self.now in
    let n : ℕ = length v.timers in
    reset_answered c.args.timers c.timers.result v v c.timers.ensures c.if-names_past.ensures
    (ap (λ (b : ℕ). reset (marks n b) v) c.if-timers-eq0.true ∙ reset_none (marks n 0) v (none_named n))

pub invariant_of-self : goal.invariant_of-self
invariant_of-self c =
    let r = c.args.self.now in
    let v : Record = viewed r in
    let n : ℕ = length v.timers in
    let shown : Record = record_in true (get_or c.places_after-places.result c.from.result 0) r.number c.rows_reset.result in
    let valid : ∥ Valid shown ∥₁ =
    ∥∥₁_map r.valid (λ ok. subst Valid (sym (after c)) (reset_keeps_valid (marks n c.args.timers) v (length_marks n c.args.timers) ok)) in
    let some : 1 ≤ shown.classes = omega (arith, c.places_after-places.ensures c.from.result (omega arith)) in
    let few : shown.classes ≤ 16 = ∥∥₁_elim valid le_prop (λ ok. omega (arith, lengths, classes_few shown ok)) in
    record { some = r.some; few = r.few; classed = some; table = few; valid = valid }

pub returns-clause-answer : goal.returns-clause-answer
returns-clause-answer c =
    reset_answered c.args.timers c.timers.result (viewed c.args.self.now) _ c.timers.ensures c.if-names_past.ensures (sym (after (goal.at.returns-clause-answer c).After-rows_reset))

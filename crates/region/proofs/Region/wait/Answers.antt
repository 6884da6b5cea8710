use Rattle.std.proofs.Common.{◌≡◌, ℕ, ◌+◌, ◌%◌, true, false, eqb, Ok, Err, sym, ap, ◌∙◌, subst, arith}
use Rattle.std.proofs.Math.Logic.{∥∥₁_map}
use Rattle.std.proofs.lemmas.Bool.{cond-false}
use Rattle.std.proofs.lemmas.Bool.Decides.{Decides-at}
use Rattle.rows.specs.declared.refusal.Refusal.TheVariants.{WaitOutsideHold}
use Rattle.theory.specs.Records.{Record, Valid, edge, wait}
use Rattle.theory.proofs.Validity.{wait_keeps_valid}
use Rattle.theory.proofs.Waits.{same_record, wait_whole, wait_classes}
use Rattle.region.specs.Viewed.{viewed}
use Rattle.region.specs.Views.{record_in}
use Rattle.region.specs.Waiting.{passes}
use Rattle.region.proofs.Waited.{decides_passes}
use Rattle.region.proofs.Region.wait.Goals as goal
use Rattle.region.proofs.Region.wait.Goals.{After-rows_after}

-- the record after the wait
after : (c : After-rows_after) → record_in (eqb ((c.from.result + c.from-2.result) % 2) 0) c.args.self.now.classes c.args.self.now.number c.rows_after.result ≡ wait c.args.steps (viewed c.args.self.now)
after c =
    let r = c.args.self.now in
    let v : Record = viewed r in
    let d : ℕ = c.args.steps in
    let sum : c.from.result + c.from-2.result ≡ edge v + d = omega arith in
    same_record (record_in (eqb ((c.from.result + c.from-2.result) % 2) 0) r.classes r.number c.rows_after.result) (wait d v) (ap (λ n. eqb (n % 2) 0) sum ∙ sym (wait_whole d v)) (sym (wait_classes d v)) c.rows_after.ensures

pub invariant_of-self-clause-valid : goal.invariant_of-self-clause-valid
invariant_of-self-clause-valid c =
    let r = c.args.self.now in ∥∥₁_map r.valid (λ ok. subst Valid (sym (after c)) (wait_keeps_valid c.args.steps (viewed r) ok))

pub returns-clause-answer : goal.returns-clause-answer
returns-clause-answer c =
    let v : Record = viewed c.args.self.now in
    let d : ℕ = c.args.steps in
    cond-false (passes c.args.ceilings.now d v) (Err WaitOutsideHold, v) (Ok tt, wait d v) (sym c.if-passes.ensures.tells)
    ∙ ap (λ (x : Record). (Ok tt, x)) (sym (after (goal.at.returns-clause-answer c).After-rows_after))

pub returns-then-passes-clause-refused_past_a_ceiling : goal.returns-then-passes-clause-refused_past_a_ceiling
returns-then-passes-clause-refused_past_a_ceiling c =
    Decides-at true _ c.if-passes.ensures.tells (decides_passes c.args.ceilings.now c.args.steps (viewed c.args.self.now))

pub returns-clause-refused_past_a_ceiling : goal.returns-clause-refused_past_a_ceiling
returns-clause-refused_past_a_ceiling c =
    Decides-at false _ c.if-passes.ensures.tells (decides_passes c.args.ceilings.now c.args.steps (viewed c.args.self.now))

-- What the calls of a run come to, by what the code has found.
use Rattle.std.proofs.Common.{◌≡◌, ℕ, ◌^◌, ◌<◌, ◌≤◌, Bool, true, false, map, length, Ok, Err, Result, sym, refl, ap, ap₂, ◌∙◌, subst}
use mathlib.Core.Bool.{Bool-set}
use mathlib.Core.Logic.{∥∥₁_elim, ∥∥₁_prop}
use native.Mathlib.Nat.{ℕ_set}
use Rattle.std.proofs.lemmas.List.{length-map}
use Rattle.std.proofs.lemmas.Bool.{cond-false}
use Rattle.rows.specs.declared.refusal.Refusal.{Refusal}
use Rattle.rows.specs.declared.refusal.Refusal.TheVariants.{WaitOutsideHold}
use Rattle.rows.specs.declared.tables.TimerRow.{TimerRow}
use Rattle.rows.specs.Plans.{PlanRows}
use Rattle.region.specs.Resetting.{marks, reset_by}
use Rattle.region.specs.Waiting.{passes, waited}
use Rattle.region.proofs.Marked.{length_marks}
use Rattle.theory.specs.Records.{Record, wait, reset}
use Rattle.runs.specs.Plans.{Plan, Change, change_of}
use Rattle.runs.specs.Runs.{Draws, InBounds, Run, Span, all_zero, guard_span, inside, is_of_stage, is_open, judged, opening, top, waits_for}
use Rattle.runs.specs.Tables.{plan_in}
use Rattle.runs.specs.declared.Standing.{Standing}
use Rattle.runs.proofs.Allowed.{inside_within}
use Rattle.runs.proofs.Bounds.{reset_in_bounds, wait_in_bounds}
use Rattle.runs.proofs.Opening.{same_run}
use Rattle.runs.proofs.Making.{reset_names_no_missing, wait_not_past}
use Rattle.runs.proofs.Taking.{Fits, of_stage_is, open_is}

-- a run in stage 0, its timers at zero and its arrival judged, is as it opens
pub as_it_opens : (plan : Plan) (draws : Draws) (i : ℕ) (r : Record) (s : Standing) → i ≡ 0 → r ≡ all_zero (length plan.ceilings) → s ≡ judged plan i r → record { stage = i; region = r; standing = s; coming = draws } ≡ opening plan draws
as_it_opens plan draws i r s z e f =
    same_run (record { stage = i; region = r; standing = s; coming = draws }) (opening plan draws) z e (f ∙ ap₂ (judged plan) z e) refl

-- whether the guard of a change allows a wait, as the code finds it
pub guard_read : (plan : Plan) (run : Run) (c d : ℕ) {last : ℕ} {change : Change} {x : Span} {b : Bool} → last ≡ top plan run.stage run.region → change ≡ change_of plan run.stage c → x ≡ guard_span run.region last change.guard → b ≡ inside d x → inside d (waits_for plan run c) ≡ b
guard_read plan run c d {last} {change} e f s t =
    sym (t ∙ ap (inside d) (s ∙ (ap (λ n. guard_span run.region n change.guard) e ∙ ap (λ (k : Change). guard_span run.region (top plan run.stage run.region) k.guard) f)))

-- a take that passes every test fits
pub fitting : (plan : Plan) (run : Run) (c d : ℕ) → is_open run.standing ≡ true → is_of_stage plan run.stage c ≡ true → d ≤ top plan run.stage run.region → inside d (waits_for plan run c) ≡ true → Fits plan run c d
fitting plan run c d e f l k =
    record { going_on = open_is run.standing e; of_stage = of_stage_is plan run.stage c f; in_hold = l; allowed = inside_within d (waits_for plan run c) k }

-- a wait of the hold interval, by the ceilings of the plan's rows, is made and keeps the region in bounds
pub wait_made : (p held : PlanRows) (i d : ℕ) (r r' : Record) (answer : Result (Unit {0}) Refusal) → held ≡ p → ∥ InBounds (plan_in p) r ∥₁ → d ≤ top (plan_in p) i r → waited held.timers d r ≡ (answer, r') → r' ≡ wait d r
wait_made p held i d r r' answer e h l k =
    let ceilings : (plan_in p).ceilings ≡ map (λ t. t.ceiling) held.timers = sym (ap (λ (q : PlanRows). map (λ (t : TimerRow). t.ceiling) q.timers) e) in
    let p : passes held.timers d r ≡ false = ∥∥₁_elim h (Bool-set (passes held.timers d r) false) (λ b. wait_not_past (plan_in p) held.timers i d r ceilings b l) in
    ap (λ z. z.1) (sym k ∙ cond-false (passes held.timers d r) (Err WaitOutsideHold, r) (Ok tt, wait d r) p)

pub wait_bounds : (plan : Plan) (i d : ℕ) (r r' : Record) → ∥ InBounds plan r ∥₁ → d ≤ top plan i r → r' ≡ wait d r → ∥ InBounds plan r' ∥₁
wait_bounds plan i d r r' h l e =
    ∥∥₁_elim h ∥∥₁_prop (λ b. ∣ subst (InBounds plan) (sym e) (wait_in_bounds plan i r d b l) ∣₁)

-- a region in bounds has as many timers as the plan
as_many_rows : (p : PlanRows) (r : Record) → ∥ InBounds (plan_in p) r ∥₁ → length r.timers ≡ length p.timers
as_many_rows p r h =
    ∥∥₁_elim h (ℕ_set (length r.timers) (length p.timers)) (λ b. b.as_many ∙ length-map p.timers (λ (t : TimerRow). t.ceiling))

-- a reset of timers of the plan is made, and keeps the region in bounds
pub reset_made : (p : PlanRows) (bits : ℕ) {r r' : Record} {answer : Result (Unit {0}) Refusal} → bits < 2 ^ length p.timers → ∥ InBounds (plan_in p) r ∥₁ → reset_by bits r ≡ (answer, r') → r' ≡ reset (marks (length p.timers) bits) r
reset_made p bits {r} l h k =
    ap (λ z. z.1) (sym k ∙ reset_names_no_missing p bits r l (as_many_rows p r h))

pub reset_bounds : (p : PlanRows) (bits : ℕ) {r r' : Record} {answer : Result (Unit {0}) Refusal} → bits < 2 ^ length p.timers → ∥ InBounds (plan_in p) r ∥₁ → reset_by bits r ≡ (answer, r') → ∥ InBounds (plan_in p) r' ∥₁
reset_bounds p bits {r} l h k =
    ∥∥₁_elim h ∥∥₁_prop (λ b. ∣ subst (InBounds (plan_in p)) (sym (reset_made p bits l h k)) (reset_in_bounds (plan_in p) (marks (length p.timers) bits) r (length_marks (length p.timers) bits ∙ sym (as_many_rows p r h)) b) ∣₁)

-- a reset keeps the region in bounds, whichever timers it names
pub reset_keeps_bounds : (p : PlanRows) (bits : ℕ) (r r' : Record) → ∥ InBounds (plan_in p) r ∥₁ → r' ≡ reset (marks (length p.timers) bits) r → ∥ InBounds (plan_in p) r' ∥₁
reset_keeps_bounds p bits r r' h e =
    ∥∥₁_elim h ∥∥₁_prop (λ b. ∣ subst (InBounds (plan_in p)) (sym e) (reset_in_bounds (plan_in p) (marks (length p.timers) bits) r (length_marks (length p.timers) bits ∙ sym (as_many_rows p r h)) b) ∣₁)

-- the waits that the guard of a change allows, as the code finds them
pub span_for : (plan : Plan) (run : Run) (c last : ℕ) (change : Change) (x : Span) → last ≡ top plan run.stage run.region → change ≡ change_of plan run.stage c → x ≡ guard_span run.region last change.guard → x ≡ waits_for plan run c
span_for plan run c last change x e f s =
    s ∙ (ap (λ n. guard_span run.region n change.guard) e ∙ ap (λ (k : Change). guard_span run.region (top plan run.stage run.region) k.guard) f)

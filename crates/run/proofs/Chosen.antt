-- What a step does with the pair that its scheduler chooses.
use Rattle.std.proofs.Common.{◌≡◌, ℕ, ◌<◌, ◌≤◌, true, false, List, [], ◌∷◌, length, get_or, ◌==◌, sym, refl, ap, ◌∙◌, subst, arith}
use Rattle.std.specs.List.{AllByRecursion}
use Rattle.runs.specs.Plans.{Plan}
use Rattle.runs.specs.Runs.{InRange, Outturn, Run, Scheduler, blank_offer, is_open, offers_of, step_call, take_call}
use Rattle.runs.specs.declared.Offer.{Offer}
use Rattle.runs.proofs.Choosing.{step_takes}
use Rattle.runs.proofs.Offered.{offers_in_order}
use Rattle.runs.proofs.Taking.{open_is}

-- offers that are not none have one
pub some_listed : (os rows : List Offer) → os ≡ rows → false ≡ (length rows == 0) → 1 ≤ length os
some_listed os rows e n = grind arith

-- a list without offers is the empty one
pub none_listed : (os : List Offer) → true ≡ (length os == 0) → os ≡ []
none_listed [] e = refl
none_listed (o ∷ os) e = grind arith

-- the place that a scheduler chooses is in the list
pub place_in_list : (plan : Plan) (run : Run) (f : Scheduler) (os : List Offer) {rows : List Offer} (answer : ℕ × ℕ) → InRange f → os ≡ rows → rows ≡ offers_of plan run → false ≡ (length rows == 0) → answer ≡ f run.stage run.region os → answer.0 < length os
place_in_list plan run f os {rows} answer h e r n a =
    omega (arith, ap (λ (z : ℕ × ℕ). z.0) a, (h run.stage run.region os (some_listed os rows e n) (subst (AllByRecursion (λ (o : Offer). o.lowest ≤ o.highest)) (sym (e ∙ r)) (offers_in_order plan run.stage run.region))).0)

-- a step does what a take of the chosen pair does
pub takes_the_choice : (plan : Plan) (run : Run) (f : Scheduler) (os : List Offer) {rows : List Offer} (answer : ℕ × ℕ) (outturn : Outturn) → is_open run.standing ≡ true → os ≡ rows → rows ≡ offers_of plan run → false ≡ (length rows == 0) → answer ≡ f run.stage run.region os → take_call plan run (get_or os answer.0 blank_offer).change answer.1 ≡ outturn → step_call plan f run ≡ outturn
takes_the_choice plan run f os {rows} answer outturn o e₀ r n a t =
    let e : os ≡ offers_of plan run = e₀ ∙ r in
    let chosen : answer ≡ f run.stage run.region (offers_of plan run) = a ∙ ap (f run.stage run.region) e in
    step_takes plan f run (record { going_on = open_is run.standing o; some_offer = omega (arith, ap length e, some_listed os rows e₀ n) }) ∙ (sym (λ i. take_call plan run (get_or (e i) (chosen i).0 blank_offer).change (chosen i).1) ∙ t)

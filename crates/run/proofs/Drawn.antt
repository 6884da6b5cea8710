-- A draw of a run's source: none is to come, or the first is given and removed.
use Rattle.std.proofs.Common.{◌≡◌, ℕ, ◌+◌, get_or, Some, None, Ok, Option, Result, sym, ap, ◌∙◌, arith, Err}
use Rattle.rows.specs.declared.refusal.Refusal.{Refusal}
use Rattle.draws.specs.Sources.{drawn, drawn_first}
use Rattle.runs.specs.Plans.{Plan, Change, Outcome, blank_outcome, change_of}
use Rattle.runs.specs.Runs.{Draws, Run, arriving, drawing, picked_by, rest_of, with_draws}
use Rattle.runs.specs.declared.Answer.TheVariants.{Taken}
use Rattle.rows.specs.declared.refusal.Refusal.TheVariants.{NoDrawToCome}
use Rattle.runs.specs.declared.Answer.{Answer}

-- a draw that is given picks the outcome
pub drawing_made : (plan : Plan) (run after : Run) (c d g first n : ℕ) (o : Outcome) (left : Draws) → drawn run.coming ≡ (Ok g, left) → first ≡ (change_of plan run.stage c).first → n ≡ picked_by g (change_of plan run.stage c) → o ≡ get_or (change_of plan run.stage c).outcomes n blank_outcome → after ≡ arriving plan (with_draws left run) d o → drawing plan run c d (run.coming 0) ≡ (Ok (Taken c d (first + n)), after)
drawing_made plan run after c d g first n o left h f e p a = go (run.coming 0) h
  where
    here : Change
    here = change_of plan run.stage c

    go : (x : Option ℕ) → drawn_first x run.coming ≡ (Ok g, left) → drawing plan run c d x ≡ (Ok (Taken c d (first + n)), after)
    go None j = absurd (let z : ◌≡◌ {A = ℕ} 0 1 = cc (ap (λ (z : Result ℕ Refusal × Draws). z.0) j) in omega arith)
    go (Some b) j =
        let same : b ≡ g = cc (ap (λ (z : Result ℕ Refusal × Draws). z.0) j) in
        let rest : rest_of run.coming ≡ left = ap (λ (z : Result ℕ Refusal × Draws). z.1) j in
        let place : picked_by b here ≡ n = ap (λ x. picked_by x here) same ∙ sym e in
        let outcome : get_or here.outcomes (picked_by b here) blank_outcome ≡ o = ap (λ x. get_or here.outcomes x blank_outcome) place ∙ sym p in
        λ i. (Ok (Taken c d (sym f i + place i)), ((λ k. arriving plan (with_draws (rest k) run) d (outcome k)) ∙ sym a) i)

-- a refused draw refuses the take, and leaves the draws to come
pub drawing_refused : (plan : Plan) (run : Run) (c d : ℕ) (left : Draws) (e : Refusal) (answer : Result Answer Refusal) → drawn run.coming ≡ (Err e, left) → answer ≡ Err e → drawing plan run c d (run.coming 0) ≡ (answer, with_draws left run)
drawing_refused plan run c d left e answer h k = go (run.coming 0) h
  where
    go : (o : Option ℕ) → drawn_first o run.coming ≡ (Err e, left) → drawing plan run c d o ≡ (answer, with_draws left run)
    go None j =
        let none : NoDrawToCome ≡ e = cc (ap (λ (z : Result ℕ Refusal × Draws). z.0) j) in
        λ i. ((ap (λ x. Err x) none ∙ sym k) i, with_draws (ap (λ (z : Result ℕ Refusal × Draws). z.1) j i) run)
    go (Some g) j = absurd (let z : ◌≡◌ {A = ℕ} 0 1 = cc (ap (λ (z : Result ℕ Refusal × Draws). z.0) j) in omega arith)

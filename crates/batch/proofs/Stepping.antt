-- A run that is stepped until a step is refused.
use Rattle.std.proofs.Common.{◌≡◌, ℕ, zero, suc, ◌+◌, ◌-◌, ◌≤◌, Bool, true, false, cond, is_ok, is_err, Ok, Err, Result, sym, refl, ap, ◌∙◌, zero-add, arith}
use Rattle.rows.specs.declared.refusal.Refusal.{Refusal}
use Rattle.runs.specs.Plans.{Plan}
use Rattle.runs.specs.Runs.{Run, Scheduler, step_call}
use Rattle.runs.specs.declared.Answer.{Answer}
use Rattle.batch.specs.Batches.{stepped}

-- after some steps, all granted, others follow
stepped_more : (plan : Plan) (f : Scheduler) (n m : ℕ) (run then : Run) → stepped plan f n run ≡ (then, n) → stepped plan f (n + m) run ≡ ((stepped plan f m then).0, n + (stepped plan f m then).1)
unfolding stepped
stepped_more plan f zero m run then e =
    let made : Run × ℕ = stepped plan f m then in
    let same : made ≡ (made.0, zero + made.1) = λ i. (made.0, sym (zero-add made.1) i) in
    ap (λ k. stepped plan f k run) (zero-add m) ∙ (ap (stepped plan f m) (ap (λ (z : Run × ℕ). z.0) e) ∙ same)
stepped_more plan f (suc n) m run then e =
    let more : suc n + m ≡ suc (n + m) = omega arith in
    ap (λ k. stepped plan f k run) more ∙ go (is_ok (step_call plan f run).0) (stepped_more plan f n m (step_call plan f run).1 then) e
  where
    next : ℕ → Run × ℕ
    next k = stepped plan f k (step_call plan f run).1

    go : (b : Bool) → (next n ≡ (then, n) → next (n + m) ≡ ((stepped plan f m then).0, n + (stepped plan f m then).1)) → ◌≡◌ {A = Run × ℕ} (cond b ((next n).0, suc (next n).1) (run, 0)) (then, suc n) → ◌≡◌ {A = Run × ℕ} (cond b ((next (n + m)).0, suc (next (n + m)).1) (run, 0)) ((stepped plan f m then).0, suc n + (stepped plan f m then).1)
    go true more h =
        let all : (next n).1 ≡ n = omega (arith, ap (λ (z : Run × ℕ). z.1) h) in
        let rest : next (n + m) ≡ ((stepped plan f m then).0, n + (stepped plan f m then).1) = more (λ i. ((h i).0, all i)) in
        let counted : suc (next (n + m)).1 ≡ suc n + (stepped plan f m then).1 = omega (arith, ap (λ (z : Run × ℕ). z.1) rest) in
        λ i. ((rest i).0, counted i)
    go false more h = absurd (omega (arith, ap (λ (z : Run × ℕ). z.1) h))

-- an answer is granted or refused
ok_or_err : (r : Result Answer Refusal) → is_err r ≡ false → is_ok r ≡ true
ok_or_err (Ok a) e = refl
ok_or_err (Err a) e = sym e

-- and not both
err_not_ok : (r : Result Answer Refusal) → is_err r ≡ true → is_ok r ≡ false
err_not_ok (Ok a) e = sym e
err_not_ok (Err a) e = refl

-- a granted step is one step
stepped_once : (plan : Plan) (f : Scheduler) (run : Run) → is_ok (step_call plan f run).0 ≡ true → stepped plan f 1 run ≡ ((step_call plan f run).1, 1)
unfolding stepped
stepped_once plan f run e = ap (λ b. cond b ((step_call plan f run).1, 1) (run, 0)) e

-- a refused step is none
stepped_none : (plan : Plan) (f : Scheduler) (m : ℕ) (run : Run) → is_ok (step_call plan f run).0 ≡ false → stepped plan f m run ≡ (run, 0)
unfolding stepped
stepped_none plan f zero run e = refl
stepped_none plan f (suc m) run e =
    ap (λ b. cond b ((stepped plan f m (step_call plan f run).1).0, suc (stepped plan f m (step_call plan f run).1).1) (run, 0)) e

-- one more granted step
pub stepped_again : (plan : Plan) (f : Scheduler) (n : ℕ) (run then after : Run) (r : Result Answer Refusal) → stepped plan f n run ≡ (then, n) → step_call plan f then ≡ (r, after) → is_err r ≡ false → stepped plan f (n + 1) run ≡ (after, n + 1)
stepped_again plan f n run then after r e s g =
    let once = stepped_once plan f then (ap (λ (z : Result Answer Refusal × Run). is_ok z.0) s ∙ ok_or_err r g) in
    let all : ((stepped plan f 1 then).0, n + (stepped plan f 1 then).1) ≡ ((step_call plan f then).1, n + 1) = λ i. ((once i).0, n + (once i).1) in
    stepped_more plan f n 1 run then e ∙ (all ∙ ap (λ (z : Result Answer Refusal × Run). (z.1, n + 1)) s)

-- a refused step is the end
pub stepped_stops : (plan : Plan) (f : Scheduler) (n m : ℕ) (run then after : Run) (r : Result Answer Refusal) → stepped plan f n run ≡ (then, n) → step_call plan f then ≡ (r, after) → is_err r ≡ true → after ≡ then → n ≤ m → stepped plan f m run ≡ (after, n)
stepped_stops plan f n m run then after r e s g same l =
    let none = stepped_none plan f (m - n) then (ap (λ (z : Result Answer Refusal × Run). is_ok z.0) s ∙ err_not_ok r g) in
    let rest : m ≡ n + (m - n) = omega arith in
    let all : n + (stepped plan f (m - n) then).1 ≡ n = omega (arith, ap (λ (z : Run × ℕ). z.1) none) in
    let end : ((stepped plan f (m - n) then).0, n + (stepped plan f (m - n) then).1) ≡ (after, n) = λ i. ((ap (λ (z : Run × ℕ). z.0) none ∙ sym same) i, all i) in
    ap (λ k. stepped plan f k run) rest ∙ (stepped_more plan f n (m - n) run then e ∙ end)

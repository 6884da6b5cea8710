-- There are no more classes than timers.
use Rattle.std.proofs.Common.{◌≡◌, ℕ, zero, suc, ◌+◌, ◌<◌, ◌≤◌, List, [], ◌∷◌, length, get_or, sym, refl, ap, ◌∙◌, ⊎_elim, arith}
use Rattle.std.proofs.lemmas.Bool.{cases_eq}
use Rattle.theory.specs.Records.{Timer, Record, Valid, fresh, ranked}
use Rattle.theory.specs.Settings.{total}
use Rattle.theory.proofs.Resets.{ranked_nil, ranked_here, ranked_there}
use Rattle.theory.proofs.Totals.{total_zero, total_suc, total_same, total_none}

total_ones : (f : ℕ → ℕ) (n : ℕ) → ((x : ℕ) → x < n → f x ≡ 1) → total f n ≡ n
total_ones f zero h = total_zero f
total_ones f (suc n) h =
    omega (arith, total_suc f n, total_ones f n (λ x l. h x (omega arith)), h n (omega arith))

-- one more timer adds one class at most
ranked_cons : (t : Timer) (ts : List Timer) (n : ℕ) → total (ranked (t ∷ ts)) n ≤ 1 + total (ranked ts) n
ranked_cons t ts zero = omega (arith, total_zero (ranked (t ∷ ts)), total_zero (ranked ts))
ranked_cons t ts (suc n) =
    ⊎_elim
    (λ e. let before = total_same (ranked (t ∷ ts)) (ranked ts) n (λ x l. ranked_there t ts x (λ same. absurd (omega arith))) in
    omega (arith, total_suc (ranked (t ∷ ts)) n, total_suc (ranked ts) n, ranked_here t ts n e))
    (λ ne. omega (arith, total_suc (ranked (t ∷ ts)) n, total_suc (ranked ts) n, ranked_there t ts n ne, ranked_cons t ts n))
    (cases_eq t.rank n)

total_ranked : (ts : List Timer) (n : ℕ) → total (ranked ts) n ≤ length ts
total_ranked [] n = omega (arith, total_none (ranked []) n (λ x l. ranked_nil x))
total_ranked (t ∷ ts) n = omega (arith, ranked_cons t ts n, total_ranked ts n)

ranked_at : (ts : List Timer) (i : ℕ) → i < length ts → ranked ts (get_or ts i fresh).rank ≡ 1
ranked_at [] i h = omega arith
ranked_at (t ∷ ts) zero h = ranked_here t ts t.rank refl
ranked_at (t ∷ ts) (suc i) h =
    let j : ℕ = (get_or ts i fresh).rank in
    ⊎_elim (λ e. ranked_here t ts j e) (λ ne. ranked_there t ts j ne ∙ ranked_at ts i (omega arith)) (cases_eq t.rank j)

pub classes_few : (r : Record) → Valid r → r.classes ≤ length r.timers
classes_few r ok =
    let all = total_ones (ranked r.timers) r.classes
    (λ j l. let by = ok.ranks_held j l in ap (ranked r.timers) (sym by.2) ∙ ranked_at r.timers by.0 by.1) in
    omega (arith, total_ranked r.timers r.classes)

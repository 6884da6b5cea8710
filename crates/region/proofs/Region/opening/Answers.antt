use Rattle.std.proofs.Common.{◌≡◌, ℕ, true, map, replicate, sym, ap, ◌∙◌, subst, arith, rules}
use lib.LanesLaws.{map-replicate}
use Rattle.std.proofs.lemmas.List.{take-replicate, length-replicate}
use Rattle.theory.specs.Records.{Valid, fresh, record_of}
use Rattle.theory.proofs.Validity.{record_of_is_valid}
use Rattle.theory.proofs.Zeros.{record_of_zeros}
use Rattle.region.specs.Reads.{timers_for}
use Rattle.region.specs.Views.{timer_in, record_in}
use Rattle.region.proofs.Region.opening.Goals as goal
use Rattle.region.proofs.Region.opening.Goals.{After-default}

told : (c : After-default) → record_in true 1 c.clamp-number.result (replicate 16 c.default.result) ≡ record { whole = true; classes = 1; timers = replicate (timers_for c.args.timers) fresh }
told c =
    let n : ℕ = c.clamp-number.result in
    let room : n ≡ timers_for c.args.timers = search rules in
    ap (λ rows. record { whole = true; classes = 1; timers = map timer_in rows }) (take-replicate n 16 c.default.result (omega arith))
    ∙ ap (λ ts. record { whole = true; classes = 1; timers = ts }) (map-replicate timer_in n c.default.result)
    ∙ (λ i. record { whole = true; classes = 1; timers = replicate (room i) (record { seconds = c.default.ensures.0 i; rank = c.default.ensures.1 i }) })

at_zero : (c : After-default) → record_in true 1 c.clamp-number.result (replicate 16 c.default.result) ≡ record_of 1 (replicate (timers_for c.args.timers) 0)
at_zero c = told c ∙ sym (record_of_zeros 1 (timers_for c.args.timers) (omega arith) (omega arith))

pub invariant_of-result-clause-valid : goal.invariant_of-result-clause-valid
invariant_of-result-clause-valid c =
    let n : ℕ = timers_for c.args.timers in
    ∣ subst Valid (sym (at_zero c)) (record_of_is_valid 1 (replicate n 0) (omega arith) (omega (arith, length-replicate {A = ℕ} n 0))) ∣₁

pub returns-clause-at_zero : goal.returns-clause-at_zero
returns-clause-at_zero c = at_zero (goal.at.returns-clause-at_zero c).After-default

pub returns-clause-told : goal.returns-clause-told
returns-clause-told c = told (goal.at.returns-clause-told c).After-default

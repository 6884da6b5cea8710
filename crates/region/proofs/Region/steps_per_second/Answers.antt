use Rattle.std.proofs.Common.{◌≡◌, ℕ, ◌+◌, ◌-◌, ◌*◌, ◌<◌, List, [], ◌∷◌, refl, ◌∙◌, arith}
use Rattle.region.proofs.Table.{double_at}
use Rattle.region.proofs.Region.steps_per_second.Goals as goal

-- the steps of a second, as the code has them
abbrev table : List ℕ
table = 2 ∷ 4 ∷ 6 ∷ 8 ∷ 10 ∷ 12 ∷ 14 ∷ 16 ∷ 18 ∷ 20 ∷ 22 ∷ 24 ∷ 26 ∷ 28 ∷ 30 ∷ 32 ∷ []

pub returns-clause-steps : goal.returns-clause-steps
returns-clause-steps c =
    let k = c.from.result in
    let within : k - 1 < 16 = omega arith in
    let place : 2 * (1 + (k - 1)) ≡ 2 * c.args.self.now.classes = omega arith in
    double_at 1 table refl (k - 1) within ∙ place

-- A word that begins with a sign is not of digits alone.
use Rattle.std.proofs.Common.{◌≡◌, ℕ, List, [], ◌∷◌, get_or, arith}
use Rattle.std.proofs.lemmas.Str.Parse.{digit_from_value}
use Rattle.describe.specs.Numbers.{Decimal}

pub no_plus : (word : List ℕ) → get_or word 0 0 ≡ 43 → Decimal word → ⊥
no_plus [] plus d = absurd (omega (arith, d.0.0))
no_plus (c ∷ cs) plus d = omega (arith, plus, digit_from_value c d.0.1.0)

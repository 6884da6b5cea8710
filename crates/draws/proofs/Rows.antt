-- What is drawn from recorded rows.
use Rattle.std.proofs.Common.{◌≡◌, ℕ, ◌<◌, List, [], ◌∷◌, length, get_or, drop, Ok, Err, refl, arith}
use Rattle.rows.specs.declared.refusal.Refusal.TheVariants.{NoDrawToCome}
use Rattle.draws.specs.Sources.{drawn}
use Rattle.draws.specs.Recorded.{listed}

-- nothing is drawn where nothing is left
pub none_listed : (xs : List ℕ) → length xs ≡ 0 → drawn (listed xs) ≡ (Err NoDrawToCome, listed xs)
none_listed [] h = refl
none_listed (x ∷ xs) h = absurd (omega arith)

-- else the first number is, and the others are left
pub first_listed : (xs : List ℕ) → 0 < length xs → drawn (listed xs) ≡ (Ok (get_or xs 0 0), listed (drop 1 xs))
first_listed [] h = absurd (omega arith)
first_listed (x ∷ xs) h = refl

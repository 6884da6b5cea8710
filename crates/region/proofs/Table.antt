-- A table of sixteen numbers whose every entry passes a test.
use Rattle.std.proofs.Common.{◌≡◌, ℕ, zero, suc, ◌+◌, ◌*◌, ◌<◌, Bool, true, ◌&&◌, eqb, List, [], ◌∷◌, length, get_or, arith}
use Rattle.std.proofs.lemmas.Bool.{and_parts, eqb-true}

-- every entry is twice its place, counted from i
abbrev doubles : ℕ → List ℕ → Bool
doubles i [] = true
doubles i (x ∷ xs) = eqb x (2 * i) && doubles (suc i) xs

pub double_at : (i : ℕ) (xs : List ℕ) → doubles i xs ≡ true → (k : ℕ) → k < length xs → get_or xs k 0 ≡ 2 * (i + k)
double_at i [] all k h = omega arith
double_at i (x ∷ xs) all zero h =
    omega (arith, eqb-true x (2 * i) (and_parts (eqb x (2 * i)) (doubles (suc i) xs) all).0)
double_at i (x ∷ xs) all (suc k) h =
    omega (arith, double_at (suc i) xs (and_parts (eqb x (2 * i)) (doubles (suc i) xs) all).1 k (omega arith))

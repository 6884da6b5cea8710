-- A tick setting is a fineness D, the ticks to a second, and a list v with the whole ticks of each timer.
use Rattle.std.specs.Prelude.{ℕ, zero, suc, ◌+◌, ◌-◌, ◌*◌, ◌%◌, Bool, false, cond, ◌||◌, List, [], ◌∷◌, map, ◌==◌}

-- the sum of f x over every x below y
unfoldable pub total : (ℕ → ℕ) → ℕ → ℕ
total f zero = 0
total f (suc y) = total f y + f y

-- 1 if some timer is x ticks past a whole second, else 0
unfoldable pub held : ℕ → List ℕ → ℕ → ℕ
held D [] x = 0
held D (c ∷ v) x = cond (c % D == x) 1 (held D v x)

-- the timers t ticks later
abbrev pub later : ℕ → List ℕ → List ℕ
later t v = map (λ c. c + t) v

-- the same timers, counted in ticks that are q times finer
abbrev pub finer : ℕ → List ℕ → List ℕ
finer q v = map (λ c. q * c) v

-- how many region borders t ticks cross: a tick crosses one if a timer comes to a whole second, and one if a timer leaves it
unfoldable pub steps : ℕ → List ℕ → ℕ → ℕ
steps D v zero = 0
steps D v (suc t) = steps D v t + (held D (later t v) (D - 1) + held D (later t v) 0)

-- how many region borders are crossed up to p parts of a tick that is cut into q
abbrev pub reach : ℕ → List ℕ → ℕ → ℕ → ℕ
reach D v p q = steps (q * D) (finer q v) p

-- z at each place that is marked, and f of what stood there at each other
unfoldable pub marked : {A B : Type 0} → B → (A → B) → List Bool → List A → List B
marked z f [] [] = []
marked z f [] (x ∷ xs) = f x ∷ marked z f [] xs
marked z f (m ∷ marks) [] = []
marked z f (m ∷ marks) (x ∷ xs) = cond m z (f x) ∷ marked z f marks xs

-- what stands at the places that are not marked
unfoldable pub unmarked : {A : Type 0} → List Bool → List A → List A
unmarked [] xs = xs
unmarked (m ∷ marks) [] = []
unmarked (m ∷ marks) (x ∷ xs) = cond m (unmarked marks xs) (x ∷ unmarked marks xs)

-- true if some place is marked
unfoldable pub any_marked : List Bool → Bool
any_marked [] = false
any_marked (m ∷ marks) = m || any_marked marks

-- the ticks after the marked timers are set to zero
abbrev pub cleared : List Bool → List ℕ → List ℕ
cleared marks v = marked 0 (λ c. c) marks v

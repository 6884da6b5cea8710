-- Ticks that are all multiples of a number stay so.
use Rattle.std.proofs.Common.{◌≡◌, ℕ, ◌+◌, ◌*◌, ◌/◌, ◌%◌, Bool, true, false, List, [], ◌∷◌, ap, ◌∙◌, arith}
use native.Mathlib.Nat.{add-mul-mod_self_left, mul-mod_right, zero-mod, div-add-mod}
use Rattle.std.specs.List.{AllByRecursion}
use Rattle.std.proofs.ByRecursion.{All-map, All-weaker}
use Rattle.theory.specs.Settings.{later, marked, cleared, finer}
use Rattle.theory.proofs.Held.{all_every}

-- every timer has a multiple of g ticks
abbrev pub Multiples : ℕ → List ℕ → Type 0
Multiples g v = AllByRecursion (λ c. c % g ≡ 0) v

pub later_keeps_multiples : (g p : ℕ) (v : List ℕ) → Multiples g v → Multiples g (later (g * p) v)
later_keeps_multiples g p v h =
    All-map (λ c. c % g ≡ 0) (λ c. c + g * p) v (All-weaker (λ c. c % g ≡ 0) (λ c. (c + g * p) % g ≡ 0) (λ c e. add-mul-mod_self_left c g p ∙ e) v h)

pub cleared_keeps_multiples : (g : ℕ) (marks : List Bool) (v : List ℕ) → Multiples g v → Multiples g (cleared marks v)
unfolding marked
cleared_keeps_multiples g [] [] h = tt
cleared_keeps_multiples g [] (c ∷ v) h = (h.0, cleared_keeps_multiples g [] v h.1)
cleared_keeps_multiples g (m ∷ marks) [] h = tt
cleared_keeps_multiples g (true ∷ marks) (c ∷ v) h = (zero-mod g, cleared_keeps_multiples g marks v h.1)
cleared_keeps_multiples g (false ∷ marks) (c ∷ v) h = (h.0, cleared_keeps_multiples g marks v h.1)

-- a multiple of a product is a multiple of each factor
pub multiple_of_factor : (a g c : ℕ) → c % (a * g) ≡ 0 → c % g ≡ 0
multiple_of_factor a g c h = ap (λ z. z % g) e ∙ mul-mod_right g (a * (c / (a * g)))
  where
    e : c ≡ g * (a * (c / (a * g)))
    e = omega (arith, div-add-mod c (a * g))

pub multiples_of_factor : (a g : ℕ) (v : List ℕ) → Multiples (a * g) v → Multiples g v
multiples_of_factor a g v h =
    All-weaker (λ c. c % (a * g) ≡ 0) (λ c. c % g ≡ 0) (λ c e. multiple_of_factor a g c e) v h

pub finer_are_multiples : (g q : ℕ) (v : List ℕ) → Multiples g (finer (g * q) v)
finer_are_multiples g q v = All-map (λ c. c % g ≡ 0) (λ c. g * q * c) v (all_every (λ c. (g * q * c) % g ≡ 0) v each)
  where
    each : (c : ℕ) → (g * q * c) % g ≡ 0
    each c = ap (λ z. z % g) e ∙ mul-mod_right g (q * c)
      where
        e : g * q * c ≡ g * (q * c)
        e = omega arith

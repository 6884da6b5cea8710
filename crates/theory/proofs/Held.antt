-- Which remainders some timer has, and how lists of timers map.
use Rattle.std.proofs.Common.{◌≡◌, ℕ, zero, suc, ◌+◌, ◌-◌, ◌*◌, ◌%◌, ◌<◌, ◌≤◌, cond, ◌⊎◌, ◌↔◌, List, [], ◌∷◌, map, length, get_or, sym, refl, ap, ◌∙◌, ap₂, inl, inr, mod-eq_of_lt, arith}
use mathlib.Core.List.{map-map}
use native.Mathlib.Nat.{mod-add-mod, add-mod_right, mod_self}
use Rattle.std.specs.List.{AllByRecursion}
use Rattle.std.proofs.ByRecursion.{All-from_get_or}
use Rattle.std.proofs.lemmas.Bool.{cases_eq, eq-eqb, ne_eqb}
use Rattle.theory.specs.Settings.{held, later, finer}

pub map_same : {A B : Type 0} (f g : A → B) (xs : List A) → AllByRecursion (λ x. f x ≡ g x) xs → map f xs ≡ map g xs
map_same f g [] h = refl
map_same f g (x ∷ xs) h = ap₂ ◌∷◌ h.0 (map_same f g xs h.1)

pub map_every : {A B : Type 0} (f g : A → B) (xs : List A) → ((x : A) → f x ≡ g x) → map f xs ≡ map g xs
map_every f g xs h = λ i. map (λ x. h x i) xs

pub all_unmap : {A B : Type 0} (P : B → Type 0) (f : A → B) (xs : List A) → AllByRecursion P (map f xs) → AllByRecursion (λ x. P (f x)) xs
all_unmap P f [] h = tt
all_unmap P f (x ∷ xs) h = (h.0, all_unmap P f xs h.1)

pub all_every : {A : Type 0} (P : A → Type 0) (xs : List A) → ((x : A) → P x) → AllByRecursion P xs
all_every P [] h = tt
all_every P (x ∷ xs) h = (h x, all_every P xs h)

pub held_nil : (D x : ℕ) → held D [] x ≡ 0
unfolding held
held_nil D x = refl

pub held_here : (D c : ℕ) (v : List ℕ) (x : ℕ) → c % D ≡ x → held D (c ∷ v) x ≡ 1
unfolding held
held_here D c v x e = ap (λ b. cond b 1 (held D v x)) (eq-eqb (c % D) x e)

pub held_there : (D c : ℕ) (v : List ℕ) (x : ℕ) → (c % D ≡ x → ⊥) → held D (c ∷ v) x ≡ held D v x
unfolding held
held_there D c v x e = ap (λ b. cond b 1 (held D v x)) (ne_eqb (c % D) x e)

pub held_bit : (D : ℕ) (v : List ℕ) (x : ℕ) → held D v x ≤ 1
held_bit D [] x = omega (arith, held_nil D x)
held_bit D (c ∷ v) x = go (cases_eq (c % D) x) (held_bit D v x)
  where
    go : (c % D ≡ x) ⊎ (c % D ≡ x → ⊥) → held D v x ≤ 1 → held D (c ∷ v) x ≤ 1
    go (inl e) h = omega (arith, held_here D c v x e)
    go (inr e) h = omega (arith, held_there D c v x e)

pub held_map : (f : ℕ → ℕ) (F y D x : ℕ) → ((c : ℕ) → (f c % F ≡ y) ↔ (c % D ≡ x)) → (v : List ℕ) → held F (map f v) y ≡ held D v x
held_map f F y D x h [] = held_nil F y ∙ sym (held_nil D x)
held_map f F y D x h (c ∷ v) = go (cases_eq (c % D) x) (held_map f F y D x h v)
  where
    go : (c % D ≡ x) ⊎ (c % D ≡ x → ⊥) → held F (map f v) y ≡ held D v x → held F (f c ∷ map f v) y ≡ held D (c ∷ v) x
    go (inl e) r = held_here F (f c) (map f v) y ((h c).1 e) ∙ sym (held_here D c v x e)
    go (inr e) r =
        held_there F (f c) (map f v) y (λ k. e ((h c).0 k)) ∙ (r ∙ sym (held_there D c v x e))

pub held_none : (D : ℕ) (v : List ℕ) (x : ℕ) → AllByRecursion (λ c. c % D ≡ x → ⊥) v → held D v x ≡ 0
held_none D [] x h = held_nil D x
held_none D (c ∷ v) x h = held_there D c v x h.0 ∙ held_none D v x h.1

-- a timer holds its own remainder
pub held_at : (D : ℕ) (v : List ℕ) (i : ℕ) → i < length v → held D v (get_or v i 0 % D) ≡ 1
held_at D [] i h = absurd (omega arith)
held_at D (c ∷ v) zero h = held_here D c v (c % D) refl
held_at D (c ∷ v) (suc i) h = go (cases_eq (c % D) (get_or v i 0 % D)) (held_at D v i (omega arith))
  where
    go : (c % D ≡ get_or v i 0 % D) ⊎ (c % D ≡ get_or v i 0 % D → ⊥) → held D v (get_or v i 0 % D) ≡ 1 → held D (c ∷ v) (get_or v i 0 % D) ≡ 1
    go (inl e) r = held_here D c v (get_or v i 0 % D) e
    go (inr e) r = held_there D c v (get_or v i 0 % D) e ∙ r

-- a remainder that is held is some timer's
pub held_by_some : (D : ℕ) (v : List ℕ) (x : ℕ) → held D v x ≡ 1 → (i : ℕ) × (i < length v) × (get_or v i 0 % D ≡ x)
held_by_some D [] x h = absurd (omega (arith, held_nil D x))
held_by_some D (c ∷ v) x h = go (cases_eq (c % D) x) (held_by_some D v x)
  where
    next : (i : ℕ) × (i < length v) × (get_or v i 0 % D ≡ x) → (i : ℕ) × (i < length (c ∷ v)) × (get_or (c ∷ v) i 0 % D ≡ x)
    next w = (suc w.0, omega (arith, w.1), w.2)

    go : (c % D ≡ x) ⊎ (c % D ≡ x → ⊥) → (held D v x ≡ 1 → (i : ℕ) × (i < length v) × (get_or v i 0 % D ≡ x)) → (i : ℕ) × (i < length (c ∷ v)) × (get_or (c ∷ v) i 0 % D ≡ x)
    go (inl e) r = (0, omega arith, e)
    go (inr e) r = next (r (sym (held_there D c v x e) ∙ h))

pub all_held : (D : ℕ) (v : List ℕ) → AllByRecursion (λ c. held D v (c % D) ≡ 1) v
all_held D v = All-from_get_or (λ c. held D v (c % D) ≡ 1) v 0 (held_at D v)

pub later_later : (s t : ℕ) (v : List ℕ) → later s (later t v) ≡ later (t + s) v
later_later s t v =
    map-map (λ c. c + s) (λ c. c + t) v ∙ map_every (λ c. c + t + s) (λ c. c + (t + s)) v (λ c. omega arith)

pub later_zero : (v : List ℕ) → later 0 v ≡ v
later_zero [] = refl
later_zero (c ∷ v) = ap₂ ◌∷◌ e (later_zero v)
  where
    e : c + 0 ≡ c
    e = omega arith

pub finer_one : (v : List ℕ) → finer 1 v ≡ v
finer_one [] = refl
finer_one (c ∷ v) = ap₂ ◌∷◌ e (finer_one v)
  where
    e : 1 * c ≡ c
    e = omega arith

pub finer_finer : (a b : ℕ) (v : List ℕ) → finer a (finer b v) ≡ finer (a * b) v
finer_finer a b v =
    map-map (λ c. a * c) (λ c. b * c) v ∙ map_every (λ c. a * (b * c)) (λ c. a * b * c) v (λ c. omega arith)

pub finer_later : (q t : ℕ) (v : List ℕ) → finer q (later t v) ≡ later (q * t) (finer q v)
finer_later q t v =
    map-map (λ c. q * c) (λ c. c + t) v ∙ (map_every (λ c. q * (c + t)) (λ c. q * c + q * t) v (λ c. omega arith) ∙ sym (map-map (λ c. c + q * t) (λ c. q * c) v))

-- the remainder of a number tells that of the number before
pub mod_before : (D x : ℕ) → 1 ≤ D → ((x + 1) % D + (D - 1)) % D ≡ x % D
mod_before D x d = mod-add-mod (x + 1) D (D - 1) ∙ (ap (λ z. z % D) e ∙ add-mod_right x D)
  where
    e : x + 1 + (D - 1) ≡ x + D
    e = omega arith

-- after one tick the held remainders are one further
pub held_later : (D : ℕ) (v : List ℕ) (x : ℕ) → 1 ≤ D → held D (later 1 v) (suc x % D) ≡ held D v (x % D)
held_later D v x d = held_map (λ c. c + 1) D (suc x % D) D (x % D) both v
  where
    one : suc x ≡ x + 1
    one = omega arith

    both : (c : ℕ) → ((c + 1) % D ≡ suc x % D) ↔ (c % D ≡ x % D)
    both c = (down, up)
      where
        down : (c + 1) % D ≡ suc x % D → c % D ≡ x % D
        down e =
            sym (mod_before D c d) ∙ (ap (λ z. (z + (D - 1)) % D) (e ∙ ap (λ z. z % D) one) ∙ mod_before D x d)

        up : c % D ≡ x % D → (c + 1) % D ≡ suc x % D
        up e =
            sym (mod-add-mod c D 1) ∙ (ap (λ z. (z + 1) % D) e ∙ (mod-add-mod x D 1 ∙ ap (λ z. z % D) (sym one)))

-- a timer one tick before a whole second comes to it
pub held_later_zero : (D : ℕ) (v : List ℕ) → 1 ≤ D → held D (later 1 v) 0 ≡ held D v (D - 1)
held_later_zero D v d =
    ap (held D (later 1 v)) (sym round) ∙ (held_later D v (D - 1) d ∙ ap (held D v) (mod-eq_of_lt small))
  where
    small : D - 1 < D
    small = omega arith

    full : suc (D - 1) ≡ D
    full = omega arith

    round : suc (D - 1) % D ≡ 0
    round = ap (λ z. z % D) full ∙ mod_self D

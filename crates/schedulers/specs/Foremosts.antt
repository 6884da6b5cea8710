-- The foremost entry is one that no other is ahead of, and it is ahead of every earlier one.
use Rattle.std.specs.Prelude.{◌≡◌, ℕ, zero, suc, ◌<◌, ◌≤◌, Bool, true, false, cond, ◌⊎◌, List, [], ◌∷◌, length, slice_index_or, nat_lt, refl}
use Rattle.std.proofs.Common.{inl, inr, sym, ap, ◌∙◌, subst, arith}
use Rattle.std.proofs.lemmas.List.MinMax.{IsFirstBest-none, IsFirstBest-unique, IsStrictWeakOrder-by_number, IsStrictWeakOrder-flip}
use Rattle.std.proofs.ByRecursion.{All-get_or}
use Rattle.std.proofs.lemmas.List.{get_or_default}
use Rattle.std.proofs.lemmas.Bool.{cases_Bool}
use Rattle.std.specs.Cmp.{IsStrictWeakOrder}
use Rattle.std.specs.List.{IsFirstBest}
use Rattle.theory.specs.Records.{Record}
use Rattle.runs.specs.declared.Offer.{Offer}
use Rattle.runs.specs.Runs.{InRange, blank_offer}
use Rattle.schedulers.specs.Foremost.{foremost_of}
use Rattle.schedulers.specs.Meanings.{comes_after, comes_before, earliest, latest}

pub foremost_nil : {X : Type 0} (ahead : X → X → Bool) → foremost_of ahead [] ≡ 0
unfolding foremost_of
foremost_nil ahead = refl

foremost_cons : {X : Type 0} (ahead : X → X → Bool) (x : X) (xs : List X) → foremost_of ahead (x ∷ xs) ≡ cond (ahead (slice_index_or xs (foremost_of ahead xs) x) x) (suc (foremost_of ahead xs)) 0
unfolding foremost_of
foremost_cons ahead x xs = refl

-- nothing is ahead of itself
not_ahead : {X : Type 0} (ahead : X → X → Bool) → IsStrictWeakOrder ahead → (x : X) → ahead x x ≡ false
not_ahead ahead o x = (IsFirstBest-none o (x ∷ [])).1 0 x (omega arith)

foremost_one : {X : Type 0} (ahead : X → X → Bool) → IsStrictWeakOrder ahead → (x : X) → foremost_of ahead (x ∷ []) ≡ 0
foremost_one ahead o x =
    foremost_cons ahead x [] ∙ ap (λ b. cond b (suc (foremost_of ahead [])) 0) (ap (λ k. ahead (slice_index_or [] k x) x) (foremost_nil ahead) ∙ not_ahead ahead o x)

-- a new first entry that the foremost of the others is ahead of
later_best : {X : Type 0} (ahead : X → X → Bool) → IsStrictWeakOrder ahead → (x : X) (xs : List X) (b : ℕ) → IsFirstBest ahead xs (length xs) b → ahead (slice_index_or xs b x) x ≡ true → IsFirstBest ahead (x ∷ xs) (suc (length xs)) (suc b)
later_best {X} ahead o x xs b best t = (omega arith, none, first)
  where
    here : (d : X) → slice_index_or xs b d ≡ slice_index_or xs b x
    here d = get_or_default xs b d x best.0

    none : (k : ℕ) (d : X) → k < suc (length xs) → ahead (slice_index_or (x ∷ xs) k d) (slice_index_or xs b d) ≡ false
    none zero d h = o.one_way (slice_index_or xs b d) x (ap (λ z. ahead z x) (here d) ∙ t)
    none (suc k) d h = best.1 k d (omega arith)

    first : (k : ℕ) (d : X) → k < suc b → ahead (slice_index_or xs b d) (slice_index_or (x ∷ xs) k d) ≡ true
    first zero d h = ap (λ z. ahead z x) (here d) ∙ t
    first (suc k) d h = best.2 k d (omega arith)

-- a new first entry that the foremost of the others is not ahead of
first_best : {X : Type 0} (ahead : X → X → Bool) → IsStrictWeakOrder ahead → (x : X) (xs : List X) (b : ℕ) → IsFirstBest ahead xs (length xs) b → ahead (slice_index_or xs b x) x ≡ false → IsFirstBest ahead (x ∷ xs) (suc (length xs)) 0
first_best {X} ahead o x xs b best f = (omega arith, none, λ k d h. absurd (omega arith))
  where
    none : (k : ℕ) (d : X) → k < suc (length xs) → ahead (slice_index_or (x ∷ xs) k d) x ≡ false
    none zero d h = not_ahead ahead o x
    none (suc k) d h =
        o.chain (slice_index_or xs k d) (slice_index_or xs b d) x (best.1 k d (omega arith)) (ap (λ z. ahead z x) (get_or_default xs b d x best.0) ∙ f)

pub foremost_is_best : {X : Type 0} (ahead : X → X → Bool) → IsStrictWeakOrder ahead → (x : X) (xs : List X) → IsFirstBest ahead (x ∷ xs) (suc (length xs)) (foremost_of ahead (x ∷ xs))
foremost_is_best {X} ahead o x [] =
    subst (λ (b : ℕ). IsFirstBest ahead (x ∷ []) 1 b) (sym (foremost_one ahead o x)) (IsFirstBest-none o (x ∷ []))
foremost_is_best {X} ahead o x (y ∷ ys) =
    go (foremost_is_best ahead o y ys) (cases_Bool (ahead (slice_index_or (y ∷ ys) (foremost_of ahead (y ∷ ys)) x) x))
  where
    go : IsFirstBest ahead (y ∷ ys) (suc (length ys)) (foremost_of ahead (y ∷ ys)) → (ahead (slice_index_or (y ∷ ys) (foremost_of ahead (y ∷ ys)) x) x ≡ true) ⊎ (ahead (slice_index_or (y ∷ ys) (foremost_of ahead (y ∷ ys)) x) x ≡ false) → IsFirstBest ahead (x ∷ (y ∷ ys)) (suc (suc (length ys))) (foremost_of ahead (x ∷ (y ∷ ys)))
    go best (inl t) =
        subst (λ (b : ℕ). IsFirstBest ahead (x ∷ (y ∷ ys)) (suc (suc (length ys))) b)
        (sym (foremost_cons ahead x (y ∷ ys) ∙ ap (λ z. cond z (suc (foremost_of ahead (y ∷ ys))) 0) t))
        (later_best ahead o x (y ∷ ys) (foremost_of ahead (y ∷ ys)) best t)
    go best (inr f) =
        subst (λ (b : ℕ). IsFirstBest ahead (x ∷ (y ∷ ys)) (suc (suc (length ys))) b)
        (sym (foremost_cons ahead x (y ∷ ys) ∙ ap (λ z. cond z (suc (foremost_of ahead (y ∷ ys))) 0) f))
        (first_best ahead o x (y ∷ ys) (foremost_of ahead (y ∷ ys)) best f)

-- the first best of a list is its foremost entry
pub best_is_foremost : {X : Type 0} (ahead : X → X → Bool) → IsStrictWeakOrder ahead → (xs : List X) (b : ℕ) → IsFirstBest ahead xs (length xs) b → b ≡ foremost_of ahead xs
best_is_foremost ahead o [] b best = absurd (omega (arith, best.0))
best_is_foremost ahead o (x ∷ xs) b best =
    IsFirstBest-unique o (x ∷ xs) (suc (length xs)) b (foremost_of ahead (x ∷ xs)) x best (foremost_is_best ahead o x xs)

pub foremost_within : {X : Type 0} (ahead : X → X → Bool) → IsStrictWeakOrder ahead → (xs : List X) → 1 ≤ length xs → foremost_of ahead xs < length xs
foremost_within ahead o [] h = absurd (omega arith)
foremost_within ahead o (x ∷ xs) h = (foremost_is_best ahead o x xs).0

-- offers are ranked by their lowest waits, and by their highest
pub before_ranks : IsStrictWeakOrder comes_before
before_ranks = IsStrictWeakOrder-by_number (λ (o : Offer). o.lowest)

pub after_ranks : IsStrictWeakOrder comes_after
after_ranks = IsStrictWeakOrder-flip (λ (a b : Offer). nat_lt a.highest b.highest) (IsStrictWeakOrder-by_number (λ (o : Offer). o.highest))

-- a scheduler that takes one end of the foremost offer keeps in range
pub earliest_in_range : InRange earliest
earliest_in_range i r os some ordered =
    let within = foremost_within comes_before before_ranks os some in
    let order = All-get_or (λ (x : Offer). x.lowest ≤ x.highest) os (foremost_of comes_before os) blank_offer within ordered in
    (within, omega arith, order)

pub latest_in_range : InRange latest
latest_in_range i r os some ordered =
    let within = foremost_within comes_after after_ranks os some in
    let order = All-get_or (λ (x : Offer). x.lowest ≤ x.highest) os (foremost_of comes_after os) blank_offer within ordered in
    (within, order, omega arith)

-- and without an offer it names the first place and no wait
pub earliest_none : (i : ℕ) (r : Record) → earliest i r [] ≡ (0, 0)
unfolding foremost_of
earliest_none i r = refl

pub latest_none : (i : ℕ) (r : Record) → latest i r [] ≡ (0, 0)
unfolding foremost_of
latest_none i r = refl

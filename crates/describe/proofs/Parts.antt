-- What a loop over an iterator has gone over.
use Rattle.std.proofs.Common.{◌≡◌, List, [], ◌∷◌, ◌++◌, map, length, Some, None, Option, refl, sym, ap, subst, ◌∙◌, append-nil, arith, length-append}
use Rattle.std.proofs.lemmas.Iterator.{YieldsList}
use Rattle.std.proofs.lemmas.List.{get_or_at}
use Rattle.std.specs.Iterator.{Yields}
use Rattle.std.specs.List.{All}

module _ {S A B : Type 0} (steps : S → Option A → S → Type 0) (v : A → B) where
  -- what is left after some items, and that with them it is the whole list
  pub record Left (t : S) (all : List B) (xs : List A) : Type 0 where
    pub others : List B
    pub road : YieldsList steps v t others
    pub whole : all ≡ map v xs ++ others

  pub left_after : (xs : List A) (s t : S) (all : List B) → Yields steps s xs t → YieldsList steps v s all → Left t all xs
  left_after [] s t all e road = record { others = all; road = subst (λ (z : S). YieldsList steps v z all) e road; whole = refl }
  left_after (x ∷ xs) s t [] k road = absurd (road.runs x k.0 k.1)
  left_after (x ∷ xs) s t (y ∷ ys) k road =
      let first = road.runs.1 x k.0 k.1 in
      let rest = left_after xs k.0 t ys k.2 (record { runs = first.1 }) in
      record { others = rest.others; road = rest.road; whole = ap (λ z. z ∷ ys) (sym first.0) ∙ ap (λ zs. v x ∷ zs) rest.whole }

  none_left : (others : List B) (t u : S) → YieldsList steps v t others → steps t None u → others ≡ []
  none_left [] t u road k = refl
  none_left (y ∷ ys) t u road k = absurd (road.runs.0 u k)

  -- at the end of the loop: the items are the whole list
  pub all_seen : (xs : List A) (s t u : S) (all : List B) → YieldsList steps v s all → Yields steps s xs t → steps t None u → all ≡ map v xs
  all_seen xs s t u all road k end =
      let left = left_after xs s t all k road in
      left.whole ∙ ap (λ zs. map v xs ++ zs) (none_left left.others t u left.road end) ∙ append-nil (map v xs)

  some_left : (others : List B) (t u : S) (x : A) → YieldsList steps v t others → steps t (Some x) u → (rest : List B) × (others ≡ v x ∷ rest)
  some_left [] t u x road k = absurd (road.runs x u k)
  some_left (y ∷ ys) t u x road k = (ys, ap (λ z. z ∷ ys) (sym (road.runs.1 x u k).0))

  -- at an item: it stands in the list behind those before it
  pub one_more : (xs : List A) (s t u : S) (x : A) (all : List B) → YieldsList steps v s all → Yields steps s xs t → steps t (Some x) u → (rest : List B) × (all ≡ map v xs ++ v x ∷ rest)
  one_more xs s t u x all road k next =
      let left = left_after xs s t all k road in
      let rest = some_left left.others t u x left.road next in
      (rest.0, left.whole ∙ ap (λ zs. map v xs ++ zs) rest.1)

-- what holds of all holds of the one in the middle
pub in_the_middle : {X : Type 0} (P : X → Type 0) (xs ys : List X) (y : X) → All P (xs ++ y ∷ ys) → P y
in_the_middle P xs ys y all =
    subst P (get_or_at xs y ys y (length xs) refl) (all (length xs) y (omega (arith, length-append xs (y ∷ ys))))

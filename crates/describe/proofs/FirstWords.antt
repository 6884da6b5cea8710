-- What calls of `next` give, one after the other.
use Rattle.std.proofs.Common.{◌≡◌, ℕ, suc, Bool, true, false, ◌⊎◌, List, [], ◌∷◌, drop, Some, None, Option, refl, ap, sym, ◌∙◌, inl, inr}
use denote.Param.Members.{Mut}
use Rattle.std.proofs.lemmas.Iterator.{YieldsList}
use Rattle.std.specs.Borrow.{Bor}
use Rattle.std.specs.Iterator.{YieldsThen}
use Rattle.std.specs.Iterator.Adapters.{filter_source, filter_steps}
use Rattle.std.specs.List.{slice_get}
use Rattle.std.specs.Option.{option_map}
use Rattle.std.specs.Str.Iter.{split_has_more, split_steps}
use Rattle.std.specs.declared.iter.Filter.{Filter}
use Rattle.std.specs.declared.str.Split.{Split}

module _ {S A B : Type 0} (steps : S → Option A → S → Type 0) (v : A → B) (Ended : S → Type 0) (stops : (s t : S) → steps s None t → Ended t) (stays : (s t : S) (r : Option A) → Ended s → steps s r t → (r ≡ None) × Ended t) where
  -- a list is what is left to give
  abbrev pub Left : S → List B → Type 0
  Left s ys = YieldsList steps v s ys ⊎ (Ended s × (ys ≡ []))

  of_list : (s t : S) (r : Option A) (ys : List B) → YieldsList steps v s ys → steps s r t → (option_map v r ≡ slice_get ys 0) × Left t (drop 1 ys)
  of_list s t None [] road k = (refl, inr (stops s t k, refl))
  of_list s t (Some x) [] road k = absurd (road.runs x t k)
  of_list s t None (y ∷ ys) road k = absurd (road.runs.0 t k)
  of_list s t (Some x) (y ∷ ys) road k =
      let m = road.runs.1 x t k in
      (ap Some m.0, inl (record { runs = m.1 }))

  -- a call gives the first of them, and the others are left
  pub of_next : (s t : S) (r : Option A) (ys : List B) → Left s ys → steps s r t → (option_map v r ≡ slice_get ys 0) × Left t (drop 1 ys)
  of_next s t r ys left k =
      elim left [
        | inl road ↦ of_list s t r ys road k
        | inr e ↦ let m = stays s t r e.0 k in (rw (m.0, e.1) refl, inr (m.1, rw e.1 refl))
      ]

  after_one : (ys : List B) (k : ℕ) → slice_get (drop 1 ys) k ≡ slice_get ys (suc k)
  after_one [] k = refl
  after_one (y ∷ ys) k = refl

  -- four calls give the first four of them, as far as there are any
  pub of_four : (s₀ s₁ s₂ s₃ s₄ : S) (r₀ r₁ r₂ r₃ : Option A) (ys : List B) → steps s₀ r₀ s₁ → steps s₁ r₁ s₂ → steps s₂ r₂ s₃ → steps s₃ r₃ s₄ → YieldsList steps v s₀ ys → (option_map v r₀ ≡ slice_get ys 0) × (option_map v r₁ ≡ slice_get ys 1) × (option_map v r₂ ≡ slice_get ys 2) × (option_map v r₃ ≡ slice_get ys 3)
  of_four s₀ s₁ s₂ s₃ s₄ r₀ r₁ r₂ r₃ ys k₀ k₁ k₂ k₃ road =
      let one = of_next s₀ s₁ r₀ ys (inl road) k₀ in
      let two = of_next s₁ s₂ r₁ (drop 1 ys) one.1 k₁ in
      let three = of_next s₂ s₃ r₂ (drop 1 (drop 1 ys)) two.1 k₂ in
      let four = of_next s₃ s₄ r₃ (drop 1 (drop 1 (drop 1 ys))) three.1 k₃ in (
        one.0,
        two.0 ∙ after_one ys 0,
        three.0 ∙ after_one (drop 1 ys) 0 ∙ after_one ys 1,
        four.0 ∙ after_one (drop 1 (drop 1 ys)) 0 ∙ after_one (drop 1 ys) 1 ∙ after_one ys 2,
      )

module _ {P F : Type 0} (finds : P → List ℕ → Option (ℕ × ℕ) → Type 0) (keeps : P → P → Type 0) (g : Mut F (Bor (Bor (List ℕ)) × Unit {0}) Bool) where
  -- no part of the text is left
  abbrev pub Ended : Filter (Split P) F → Type 0
  Ended s = split_has_more (filter_source s) ≡ false

  part : (s t : Split P) (r : Option (Bor (List ℕ))) → split_has_more s ≡ false → split_steps finds keeps s r t → (r ≡ None) × (split_has_more t ≡ false)
  part s t None e k = (refl, ap split_has_more k.1 ∙ e)
  part s t (Some x) e k = absurd (let f : true ≡ false = k.0 ∙ e in cc)

  last : (s t : Split P) → split_steps finds keeps s None t → split_has_more t ≡ false
  last s t k = ap split_has_more k.1 ∙ sym k.0

  pub filter_stops : (s t : Filter (Split P) F) → filter_steps (split_steps finds keeps) g s None t → Ended t
  filter_stops s t k = last k.2.0 (filter_source t) k.2.2

  parts_end : (xs : List (Bor (List ℕ))) (s u : Split P) (r : Option (Bor (List ℕ))) → split_has_more s ≡ false → YieldsThen (split_steps finds keeps) s xs r u → (r ≡ None) × (split_has_more u ≡ false)
  parts_end [] s u r e k = part k.0 u r (ap split_has_more (sym k.1) ∙ e) k.2
  parts_end (x ∷ xs) s u r e k = absurd (let f = part s k.1.0 (Some x) e k.1.1 in let n : Some x ≡ None = f.0 in cc)

  pub filter_stays : (s t : Filter (Split P) F) (r : Option (Bor (List ℕ))) → Ended s → filter_steps (split_steps finds keeps) g s r t → (r ≡ None) × Ended t
  filter_stays s t r e k = parts_end k.0 (filter_source s) (filter_source t) r e k.2

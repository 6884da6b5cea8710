-- A list of words by what stands at its first places.
use Rattle.std.proofs.Common.{◌≡◌, List, [], ◌∷◌, Some, None, refl}
use Rattle.std.specs.List.{slice_get}

module _ {A : Type 0} where
  pub no_word : (ws : List A) → None ≡ slice_get ws 0 → ws ≡ []
  no_word [] end = refl
  no_word (w ∷ ws) end = cc

  pub one_word : (ws : List A) (a : A) → Some a ≡ slice_get ws 0 → None ≡ slice_get ws 1 → ws ≡ a ∷ []
  one_word [] a first end = cc
  one_word (w ∷ ws) a first end = let rest = no_word ws end in cc

  pub two_words : (ws : List A) (a b : A) → Some a ≡ slice_get ws 0 → Some b ≡ slice_get ws 1 → None ≡ slice_get ws 2 → ws ≡ a ∷ b ∷ []
  two_words [] a b first second end = cc
  two_words (w ∷ ws) a b first second end = let rest = one_word ws b second end in cc

  pub three_words : (ws : List A) (a b d : A) → Some a ≡ slice_get ws 0 → Some b ≡ slice_get ws 1 → Some d ≡ slice_get ws 2 → None ≡ slice_get ws 3 → ws ≡ a ∷ b ∷ d ∷ []
  three_words [] a b d first second third end = cc
  three_words (w ∷ ws) a b d first second third end = let rest = two_words ws b d second third end in cc

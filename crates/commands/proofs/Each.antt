-- Words that each stand for something, and one word more.
use Rattle.std.proofs.Common.{ℕ, List, [], ◌∷◌, ◌++◌}
use Rattle.commands.specs.Words.{EachFor}

module _ {X : Type 0} (R : List ℕ → X → Type 0) where
  pub EachFor-append : (words : List (List ℕ)) (xs : List X) (word : List ℕ) (x : X) → EachFor R words xs → R word x → EachFor R (words ++ word ∷ []) (xs ++ x ∷ [])
  EachFor-append [] [] word x each here = (here, tt)
  EachFor-append [] (y ∷ ys) word x each here = absurd each
  EachFor-append (w ∷ ws) [] word x each here = absurd each
  EachFor-append (w ∷ ws) (y ∷ ys) word x each here = (each.0, EachFor-append ws ys word x each.1 here)

  -- a word among them stands for something
  pub EachFor-at : (words rest : List (List ℕ)) (word : List ℕ) (xs : List X) → EachFor R (words ++ word ∷ rest) xs → (x : X) × R word x
  EachFor-at [] rest word [] each = absurd each
  EachFor-at [] rest word (x ∷ xs) each = (x, each.0)
  EachFor-at (w ∷ ws) rest word [] each = absurd each
  EachFor-at (w ∷ ws) rest word (x ∷ xs) each = EachFor-at ws rest word xs each.1

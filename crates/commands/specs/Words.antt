-- Words that stand for something, one after the other.
use Rattle.std.specs.Prelude.{ℕ, ⊤, List, [], ◌∷◌}

-- each word stands for one thing, in their order
abbrev pub EachFor : {X : Type 0} → (List ℕ → X → Type 0) → List (List ℕ) → List X → Type 0
EachFor R [] [] = ⊤
EachFor R [] (x ∷ xs) = ⊥
EachFor R (word ∷ words) [] = ⊥
EachFor R (word ∷ words) (x ∷ xs) = R word x × EachFor R words xs

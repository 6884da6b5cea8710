-- The foremost entry of a list.
use Rattle.std.specs.Prelude.{ℕ, suc, Bool, cond, List, [], ◌∷◌, slice_index_or}

-- the place of the entry that no other is ahead of, the first of equals; 0 where there is none
unfoldable pub foremost_of : {X : Type 0} → (X → X → Bool) → List X → ℕ
foremost_of ahead [] = 0
foremost_of ahead (x ∷ xs) =
    cond (ahead (slice_index_or xs (foremost_of ahead xs) x) x) (suc (foremost_of ahead xs)) 0

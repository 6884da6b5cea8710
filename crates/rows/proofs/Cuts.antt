-- A part of a table, cut where the table ends.
use Rattle.std.proofs.Common.{◌≡◌, ℕ, ◌+◌, ◌-◌, ◌<◌, ◌≤◌, min, ◌⊎◌, List, [], length, take, drop, sym, ap, ◌∙◌, inl, inr, arith}
use Rattle.std.proofs.lemmas.List.{drop_all, length-drop, take_all, take_rest}
use Rattle.std.proofs.lemmas.Bool.{cases_lt}

pub part_as_cut : {X : Type 0} (xs : List X) (first n start end : ℕ) → start ≡ min first (length xs) → end ≡ min (first + n) (length xs) → take (end - start) (drop start xs) ≡ take n (drop first xs)
part_as_cut xs first n start end s e = go (cases_lt (length xs) first) (cases_lt (length xs) (first + n))
  where
    go : (length xs < first) ⊎ (first ≤ length xs) → (length xs < first + n) ⊎ (first + n ≤ length xs) → take (end - start) (drop start xs) ≡ take n (drop first xs)
    go (inl past) _ =
        let at : start ≡ length xs = omega arith in
        let none : take (end - start) (drop start xs) ≡ take (end - start) [] = ap (take (end - start)) (drop_all start xs (omega arith)) in
        none ∙ take_all (end - start) [] (omega arith) ∙ sym (ap (take n) (drop_all first xs (omega arith)) ∙ take_all n [] (omega arith))
    go (inr within) (inl cut) =
        let at : start ≡ first = omega arith in
        let all : end - start ≡ length xs - first = omega arith in
        ap (λ k. take k (drop start xs)) all
        ∙ ap (λ k. take (length xs - first) (drop k xs)) at
        ∙ take_rest xs first
        ∙ sym (take_all n (drop first xs) (omega (arith, length-drop first xs)))
    go (inr within) (inr room) =
        let at : start ≡ first = omega arith in
        let all : end - start ≡ n = omega arith in
        ap (λ k. take k (drop start xs)) all ∙ ap (λ k. take n (drop k xs)) at

-- The steps of the loops that test a table.
use Rattle.std.proofs.Common.{◌≡◌, ℕ, suc, ◌+◌, ◌<◌, ◌≤◌, Bool, false, List, [], ◌∷◌, map, length, get_or, Option, sym, ◌∙◌, arith}
use borrow.Author.Count.{below_more}
use Rattle.std.specs.List.{AllByRecursion}
use Rattle.std.proofs.ByRecursion.{All-weaker}
use Rattle.std.proofs.lemmas.List.FromFn.{get_or-map-range_with_len}
use Rattle.region.specs.Resetting.{bit_no, marks}
use Rattle.runs.specs.Plans.{Change, Outcome, Plan}
use Rattle.warnings.specs.Arrivals.{ChangeFollowed, ChangesFollowed, Covers, OutcomeFollowed}
use Rattle.warnings.specs.declared.bounds.Bounds.{Bounds}

-- one timer more is covered
pub covers_more : (x : ℕ) (most : ℕ → ℕ) (resets : List Bool) (b : Bounds) → Covers x most resets b → (get_or resets x false ≡ false → most x ≤ get_or b.most x 0) → Covers (x + 1) most resets b
covers_more x most resets b h here =
    below_more (λ k. get_or resets k false ≡ false → most k ≤ get_or b.most k 0) x h here

-- a timer that is not marked is not named
pub not_named : (n bits x : ℕ) → x < n → get_or (marks n bits) x false ≡ false → bit_no bits x ≡ false
not_named n bits x l e = sym (get_or-map-range_with_len (bit_no bits) 0 n x x false l (omega arith)) ∙ e

-- what holds of each row holds of each mapped one
pub all_mapped : {X Y : Type 0} (P : Y → Type 0) (f : X → Y) (xs : List X) (d : X) → ((k : ℕ) → k < length xs → P (f (get_or xs k d))) → AllByRecursion P (map f xs)
all_mapped P f [] d h = tt
all_mapped P f (x ∷ xs) d h = (h 0 (omega arith), all_mapped P f xs d (λ k l. h (suc k) (omega arith)))

-- bounds that say the same of each timer are covered alike
pub covers_alike : (n : ℕ) (most most' : ℕ → ℕ) (resets : List Bool) (b : Bounds) → ((x : ℕ) → x < n → most x ≡ most' x) → Covers n most resets b → Covers n most' resets b
covers_alike n most most' resets b same h x l e = omega (arith, same x l, h x l e)

followed_alike : (plan : Plan) (table : List (Option Bounds)) (most most' : ℕ → ℕ) → ((x : ℕ) → x < length plan.ceilings → most x ≡ most' x) → (o : Outcome) → OutcomeFollowed plan table most o → OutcomeFollowed plan table most' o
followed_alike plan table most most' same o h e =
    let to = h e in
    (to.0, to.1, covers_alike (length plan.ceilings) most most' o.resets to.0 same to.2)

change_followed_alike : (plan : Plan) (table : List (Option Bounds)) (most most' : ℕ → ℕ) → ((x : ℕ) → x < length plan.ceilings → most x ≡ most' x) → (c : Change) → ChangeFollowed plan table most c → ChangeFollowed plan table most' c
change_followed_alike plan table most most' same c h =
    All-weaker (OutcomeFollowed plan table most) (OutcomeFollowed plan table most') (followed_alike plan table most most' same) c.outcomes h

pub changes_followed_alike : (plan : Plan) (table : List (Option Bounds)) (most most' : ℕ → ℕ) (cs : List Change) → ((x : ℕ) → x < length plan.ceilings → most x ≡ most' x) → ChangesFollowed plan table most cs → ChangesFollowed plan table most' cs
changes_followed_alike plan table most most' cs same h =
    All-weaker (ChangeFollowed plan table most) (ChangeFollowed plan table most') (change_followed_alike plan table most most' same) cs h

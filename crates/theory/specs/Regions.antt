-- When two settings lie in one region, and what a comparison of timers says.
use Rattle.std.specs.Prelude.{◌≡◌, ℕ, ◌+◌, ◌*◌, ◌/◌, ◌%◌, ◌<◌, ◌≤◌, ◌↔◌, List, length, slice_index}
use Rattle.theory.specs.Records.{Record, timer_no, count}

-- two settings lie in one region: timer by timer the same whole seconds, the same fractions zero, and each pair of fractions in the same order
pub record SameRegion (D : ℕ) (v : List ℕ) (E : ℕ) (w : List ℕ) : Type 0 where
  pub same_number : length v ≡ length w
  pub same_seconds : (i : ℕ) → i < length v → slice_index v i / D ≡ slice_index w i / E
  pub same_zeros : (i : ℕ) → i < length v → (slice_index v i % D ≡ 0) ↔ (slice_index w i % E ≡ 0)
  pub same_order : (i j : ℕ) → i < length v → j < length v → (slice_index v i % D < slice_index v j % D) ↔ (slice_index w i % E < slice_index w j % E)

-- the four ways to compare
pub data Relation : Type 0 where
  AtLeast : Relation
  Above : Relation
  AtMost : Relation
  Below : Relation

-- what each way says of two numbers
abbrev pub Says : Relation → ℕ → ℕ → Type 0
Says AtLeast a b = b ≤ a
Says Above a b = b < a
Says AtMost a b = a ≤ b
Says Below a b = a < b

-- timer i against m seconds, or how far timer i is ahead of timer j against m seconds
pub data Comparison : Type 0 where
  timer_against : ℕ → Relation → ℕ → Comparison
  lead_against : ℕ → ℕ → Relation → ℕ → Comparison

-- every timer that the comparison names is among the first n
abbrev pub NamesBelow : ℕ → Comparison → Type 0
NamesBelow n (timer_against i relation m) = i < n
NamesBelow n (lead_against i j relation m) = (i < n) × (j < n)

-- the comparison is true of the ticks
abbrev pub TrueOf : ℕ → List ℕ → Comparison → Type 0
TrueOf D v (timer_against i relation m) = Says relation (slice_index v i) (m * D)
TrueOf D v (lead_against i j relation m) = Says relation (slice_index v i) (slice_index v j + m * D)

-- the comparison is true of the counts of a record
abbrev pub HoldsIn : Record → Comparison → Type 0
HoldsIn r (timer_against i relation m) = Says relation (count r (timer_no r i)) (2 * r.classes * m)
HoldsIn r (lead_against i j relation m) = Says relation (count r (timer_no r i)) (count r (timer_no r j) + 2 * r.classes * m)

-- no comparison of the timers tells the two settings apart: each is true of both or of neither
abbrev pub ToldAlike : ℕ → List ℕ → ℕ → List ℕ → Type 0
ToldAlike D v E w = (c : Comparison) → NamesBelow (length v) c → TrueOf D v c ↔ TrueOf E w c

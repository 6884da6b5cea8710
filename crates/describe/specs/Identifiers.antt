-- Which numbers a word lists.
use Rattle.std.specs.Prelude.{◌≡◌, ℕ, ◌+◌, ◌-◌, ◌<◌, ◌≤◌, ◌⊎◌, List, ◌++◌, ◌==◌, Some, codes, length, slice_get, take}
use Rattle.std.specs.List.{range_with_len, slice_split}
use Rattle.describe.specs.Words.{WriteAll, Writes}

-- the numbers from a first to a last, in order
abbrev pub numbers_from_to : ℕ → ℕ → List ℕ
numbers_from_to first last = range_with_len first (last - first + 1)

-- a word FIRST..LAST counts up from the first number to the last
pub record CountsUp (word numbers : List ℕ) : Type 0 where
  pub front : List ℕ
  pub back : List ℕ
  pub first : ℕ
  pub last : ℕ
  pub word_is : word ≡ front ++ (codes ".." ++ back)
  pub first_is : Writes front first
  pub last_is : Writes back last
  pub in_order : first ≤ last
  pub all : numbers ≡ numbers_from_to first last

-- the parts of a word between commas
abbrev pub parts_of : List ℕ → List (List ℕ)
parts_of word = slice_split (λ b. b == 44) word

-- a word lists at most 1000 numbers: FIRST..LAST, or one number between each two commas
abbrev pub Lists : List ℕ → List ℕ → Type 0
Lists word numbers =
    (length numbers ≤ 1000) × (CountsUp word numbers ⊎ WriteAll (parts_of word) numbers)

-- a number stands at two places of a list
abbrev pub IsListedTwice : List ℕ → ℕ → Type 0
IsListedTwice numbers n =
    (i : ℕ) × (j : ℕ) × (i < j) × (slice_get numbers i ≡ Some n) × (slice_get numbers j ≡ Some n)

-- no number stands at two places of a list
abbrev pub AllDiffer : List ℕ → Type 0
AllDiffer numbers = (n : ℕ) → IsListedTwice numbers n → ⊥

-- a number stands at two places of a list, and before the later of them none does
abbrev pub IsFirstRepeat : List ℕ → ℕ → Type 0
IsFirstRepeat numbers n =
    (i : ℕ) × (j : ℕ) × (i < j) × (slice_get numbers i ≡ Some n) × (slice_get numbers j ≡ Some n)
    × AllDiffer (take j numbers)

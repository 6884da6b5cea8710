-- Words between spaces, and the numbers that words write.
use Rattle.std.specs.Prelude.{◌≡◌, ℕ, List, ◌==◌, All, filter, length, map, not}
use Rattle.std.specs.List.{slice_split}
use Rattle.std.specs.Str.Parse.{digits_value}
use Rattle.describe.specs.Numbers.{Decimal}

-- the words of a line: its parts between spaces, the empty ones left out
abbrev pub words_of : List ℕ → List (List ℕ)
words_of line = filter (λ word. not (length word == 0)) (slice_split (λ b. b == 32) line)

-- a word writes a number of 32 bits in decimal digits
abbrev pub Writes : List ℕ → ℕ → Type 0
Writes word n = Decimal word × (n ≡ digits_value 10 word)

-- words write numbers, one for each word, in order
abbrev pub WriteAll : List (List ℕ) → List ℕ → Type 0
WriteAll words numbers = All Decimal words × (numbers ≡ map (digits_value 10) words)

-- Numbers in digits.
use Rattle.std.specs.Prelude.{ℕ, ◌/◌, ◌%◌, ◌^◌, ◌<◌, List, ◌++◌, codes}
use Rattle.std.specs.Fmt.{decimal}
use Rattle.std.specs.Str.Parse.{IsNumeral, digits_value}

-- a word of decimal digits, one or more, that writes a number of 32 bits
abbrev pub Decimal : List ℕ → Type 0
Decimal word = IsNumeral 10 word × (digits_value 10 word < 2 ^ 32)

-- a number of tenths, written with a decimal point
abbrev pub with_tenths : ℕ → List ℕ
with_tenths t = decimal (t / 10) ++ (codes "." ++ decimal (t % 10))

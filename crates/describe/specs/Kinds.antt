-- What a file plainly is that is no plan.
use Rattle.std.specs.Prelude.{◌≡◌, ℕ, ◌<◌, ◌≤◌, Bool, ◌&&◌, ◌||◌, not, true, false, List, [], ◌==◌, length}
use Rattle.std.specs.Char.{is_control}
use Rattle.std.specs.List.{list_all}
use Rattle.std.specs.Str.{chars, is_utf8}
use Rattle.describe.specs.declared.kinds.NoPlan.{NoPlan}
use Rattle.describe.specs.declared.kinds.NoPlan.TheVariants.{Empty, Text, TooShort}

-- a character that is written, or a tab, a line feed, a form feed or a carriage return
abbrev pub is_text_char : ℕ → Bool
is_text_char c = not (is_control c) || ((c == 9) || ((c == 10) || ((c == 12) || (c == 13))))

-- bytes are a text in UTF-8 of such characters alone
abbrev pub is_plain_text : List ℕ → Bool
is_plain_text bytes = is_utf8 bytes && list_all is_text_char (chars bytes)

-- what is said of bytes that are no plan is so
abbrev pub IsPlainly : List ℕ → NoPlan → Type 0
IsPlainly bytes Empty = bytes ≡ []
IsPlainly bytes (TooShort n) = (n ≡ length bytes) × (n < 28) × (is_plain_text bytes ≡ false)
IsPlainly bytes Text = (1 ≤ length bytes) × (is_plain_text bytes ≡ true)

-- Which bytes are plain text.
use Rattle.std.proofs.Common.{◌≡◌, ℕ, Bool, true, false, ◌&&◌, List, [], ◌∷◌, refl, sym, ap, ◌∙◌}
use Rattle.std.specs.List.{list_all}
use Rattle.std.specs.Str.{IsUtf8, chars, is_utf8}
use Rattle.std.proofs.lemmas.Str.{IsUtf8-from_is_utf8, is_utf8-from_IsUtf8}
use Rattle.describe.specs.Kinds.{is_plain_text, is_text_char}

no_text_by : (bs : List ℕ) (t rest : Bool) → is_utf8 bs ≡ t → (IsUtf8 bs → ⊥) → false ≡ (t && rest)
no_text_by bs true rest e other = absurd (other (IsUtf8-from_is_utf8 bs e))
no_text_by bs false rest e other = refl

-- what is not UTF-8 is no text
pub no_text : (bs : List ℕ) → (IsUtf8 bs → ⊥) → false ≡ is_plain_text bs
no_text bs other = no_text_by bs (is_utf8 bs) (list_all is_text_char (chars bs)) refl other

-- of UTF-8 its characters decide
pub text_by_characters : (bs : List ℕ) (r : Bool) → IsUtf8 bs → r ≡ list_all is_text_char (chars bs) → r ≡ is_plain_text bs
text_by_characters bs r u e =
    e ∙ sym (ap (λ z. z && list_all is_text_char (chars bs)) (is_utf8-from_IsUtf8 bs u))

and_false : (t : Bool) → (t && false) ≡ false
and_false true = refl
and_false false = refl

zero_is_read : (bs : List ℕ) → list_all is_text_char (chars (0 ∷ bs)) ≡ false
unfolding chars
zero_is_read [] = refl
zero_is_read (b ∷ bs) = refl

-- no text begins with a zero byte
pub no_text_begins_with_zero : (bs : List ℕ) → is_plain_text (0 ∷ bs) ≡ false
no_text_begins_with_zero bs =
    ap (λ z. is_utf8 (0 ∷ bs) && z) (zero_is_read bs) ∙ and_false (is_utf8 (0 ∷ bs))

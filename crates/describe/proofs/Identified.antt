-- What identifiers a word lists.
use Rattle.std.proofs.Common.{◌≡◌, ◌≢◌, ℕ, ◌+◌, ◌<◌, ◌≤◌, Bool, true, false, cond, Some, None, Option, Ok, Err, Result, inl, inr, List, [], ◌∷◌, ◌++◌, length, take, drop, refl, sym, ap, subst, ◌∙◌, arith}
use borrow.Author.Tests.{eqb-true}
use Rattle.std.proofs.lemmas.Bool.{cases_lt}
use Rattle.std.proofs.lemmas.List.{append_cancel_left, drop_at, get_or-drop, get_or_append_left, take_at}
use Rattle.std.proofs.lemmas.List.Elements.{All-cons, All-head, All-nil, All-tail}
use Rattle.std.proofs.lemmas.Str.Parse.{digit_at, digit_from_value}
use Rattle.std.specs.List.{All, onto_first, slice_index}
use Rattle.std.specs.Option.{MatchOption}
use Rattle.std.specs.Result.{IfOk}
use Rattle.std.specs.Str.Parse.{AllDigits, digits_value}
use Rattle.std.specs.Str.Pattern.{FindsText, SplitsAroundMatch}
use Rattle.describe.specs.Identifiers.{Lists, numbers_from_to, parts_of}
use Rattle.describe.specs.Numbers.{Decimal}
use Rattle.describe.specs.Words.{WriteAll, Writes}
use Rattle.describe.proofs.Parts.{in_the_middle}
use lib.Dec.{eqb}

-- two dots
abbrev pub dots : List ℕ
dots = 46 ∷ 46 ∷ []

-- digits before two dots are what stands before the first two dots, and what stands behind them is the rest
pub cut_is : (word front back f l : List ℕ) → SplitsAroundMatch (FindsText dots) word front back → word ≡ f ++ (dots ++ l) → AllDigits 10 f → (f ≡ front) × (l ≡ back)
cut_is word front back f l k e digits = (sym (k.3 ∙ take_same), sym (k.4 ∙ drop_same))
  where
    i : ℕ
    i = k.0

    behind : drop (length f) word ≡ dots ++ l
    behind = rw e (drop_at f (dots ++ l) (length f) refl)

    not_later : i ≤ length f
    not_later =
        elim (cases_lt (length f) i) [ inl lt ↦ absurd (k.2.0 (length f) lt l behind) | inr le ↦ le ]

    dot : slice_index word i ≡ 46
    dot =
        let first : slice_index (drop i word) 0 ≡ 46 = rw k.2.1.split refl in
        let at : slice_index (drop i word) 0 ≡ slice_index word (i + 0) = get_or-drop i word 0 0 in
        let same : i + 0 ≡ i = omega arith in
        ap (λ n. slice_index word n) (sym same) ∙ sym at ∙ first

    not_sooner : length f ≤ i
    not_sooner =
        elim (cases_lt i (length f)) [
          | inl lt ↦
              let digit = digit_at f i digits lt in
              let there : slice_index word i ≡ slice_index f i = ap (λ (z : List ℕ). slice_index z i) e ∙ get_or_append_left f (dots ++ l) 0 i lt in
              absurd (omega (arith, digit, there, dot))
          | inr le ↦ le
        ]

    same : i ≡ length f
    same = omega (arith, not_later, not_sooner)

    take_same : take i word ≡ f
    take_same = rw (same, e) (take_at f (dots ++ l) (length f) refl)

    here : drop i word ≡ dots ++ l
    here = rw same behind

    drop_same : drop k.1 word ≡ l
    drop_same = append_cancel_left dots (drop k.1 word) l (sym k.2.1.split ∙ here)

-- a byte is no dot
abbrev pub NoDot : ℕ → Type 0
NoDot b = b ≢ 46

digit_no_dot : (b : ℕ) (w : List ℕ) → AllDigits 10 (b ∷ w) → NoDot b
digit_no_dot b w digits dot = let digit = digit_from_value b digits.0 in omega (arith, digit, dot)

-- the first byte of a text is no dot, and the parts of the rest are digits, if its own parts are
first_byte : (comma : Bool) (b : ℕ) (parts : List (List ℕ)) → comma ≡ eqb b 44 → All (AllDigits 10) (cond comma ([] ∷ parts) (onto_first b parts)) → NoDot b × All (AllDigits 10) parts
first_byte true b parts e all =
    let is : b ≡ 44 = eqb-true b 44 (sym e) in
    ((λ dot. omega (arith, is, dot)), All-tail (AllDigits 10) [] parts all)
first_byte false b [] e all = (digit_no_dot b [] (All-head (AllDigits 10) (b ∷ []) [] all), All-nil (AllDigits 10))
first_byte false b (w ∷ ws) e all =
    let digits = All-head (AllDigits 10) (b ∷ w) ws all in
    (digit_no_dot b w digits, All-cons (AllDigits 10) w ws digits.1 (All-tail (AllDigits 10) (b ∷ w) ws all))

no_dots : (word : List ℕ) → All (AllDigits 10) (parts_of word) → All NoDot word
no_dots [] all = All-nil NoDot
no_dots (b ∷ bs) all =
    let first = first_byte (eqb b 44) b (parts_of bs) refl all in
    All-cons NoDot b bs first.0 (no_dots bs first.1)

-- a word with two dots is no list of numbers with commas
no_list : (word front back ids : List ℕ) → word ≡ front ++ (dots ++ back) → WriteAll (parts_of word) ids → ⊥
no_list word front back ids e w =
    in_the_middle NoDot front (46 ∷ back) 46 (subst (λ (z : List ℕ). All NoDot z) e (no_dots word (λ k d less. (w.0 k d less).0.1))) refl

-- two dots, and one side of them is no number
pub no_numbers : (word front back ids : List ℕ) → SplitsAroundMatch (FindsText dots) word front back → word ≡ front ++ (dots ++ back) → (Decimal front → Decimal back → ⊥) → Lists word ids → ⊥
no_numbers word front back ids k e none lists = elim lists.1 [
  | inl up ↦
      let same = cut_is word front back up.front up.back k up.word_is up.first_is.0.0.1 in
      none (subst Decimal same.0 up.first_is.0) (subst Decimal same.1 up.last_is.0)
  | inr w ↦ no_list word front back ids e w
]

module _ {V : Type 0} (items : V → List ℕ) where
  -- what counting up from one number to another gives, or that the numbers are not in order or too many
  abbrev pub Counted : ℕ → ℕ → Option V → Type 0
  Counted first last o =
      MatchOption o (first ≤ last → 1000 < length (numbers_from_to first last)) (λ v. (first ≤ last) × (items v ≡ numbers_from_to first last) × (length (items v) ≤ 1000))

  -- what a word lists
  abbrev pub Listed : List ℕ → Option V → Type 0
  Listed word o = MatchOption o ((ids : List ℕ) → Lists word ids → ⊥) (λ v. Lists word (items v))

  -- two numbers with two dots between them
  pub of_counted : (word front back : List ℕ) (first last : ℕ) (o : Option V) → SplitsAroundMatch (FindsText dots) word front back → word ≡ front ++ (dots ++ back) → Writes front first → Writes back last → Counted first last o → Listed word o
  of_counted word front back first last (Some v) k e f l counted =
      (counted.2, inl (record { front = front; back = back; first = first; last = last; word_is = e; first_is = f; last_is = l; in_order = counted.0; all = counted.1 }))
  of_counted word front back first last None k e f l counted = λ ids lists. elim lists.1 [
    | inl up ↦
        let same = cut_is word front back up.front up.back k up.word_is up.first_is.0.0.1 in
        let from : up.first ≡ first = up.first_is.1 ∙ ap (digits_value 10) same.0 ∙ sym f.1 in
        let to : up.last ≡ last = up.last_is.1 ∙ ap (digits_value 10) same.1 ∙ sym l.1 in
        let many = counted (omega (arith, up.in_order, from, to)) in
        let as_many : ids ≡ numbers_from_to first last = up.all ∙ ap (λ n. numbers_from_to n up.last) from ∙ ap (λ n. numbers_from_to first n) to in
        omega (arith, many, ap length as_many, lists.0)
    | inr w ↦ no_list word front back ids e w
  ]

  -- no two dots
  pub of_listed : (word : List ℕ) (o : Option V) → ((f l : List ℕ) → word ≢ f ++ (dots ++ l)) → MatchOption o ((ids : List ℕ) → length ids ≤ 1000 → WriteAll (parts_of word) ids → ⊥) (λ v. WriteAll (parts_of word) (items v) × (length (items v) ≤ 1000)) → Listed word o
  of_listed word (Some v) none listed = (listed.1, inr listed.0)
  of_listed word None none listed = λ ids lists. elim lists.1 [
    | inl up ↦ none up.front up.back up.word_is
    | inr w ↦ listed ids lists.0 w
  ]

  -- the same where memory may be out
  pub if_counted : {E : Type 0} (word front back : List ℕ) (first last : ℕ) (r : Result (Option V) E) → SplitsAroundMatch (FindsText dots) word front back → word ≡ front ++ (dots ++ back) → Writes front first → Writes back last → IfOk r (Counted first last) → IfOk r (Listed word)
  if_counted word front back first last (Ok o) k e f l counted = of_counted word front back first last o k e f l counted
  if_counted word front back first last (Err e') k e f l counted = counted

  pub if_listed : {E : Type 0} (word : List ℕ) (r : Result (Option V) E) → ((f l : List ℕ) → word ≢ f ++ (dots ++ l)) → IfOk r (λ o. MatchOption o ((ids : List ℕ) → length ids ≤ 1000 → WriteAll (parts_of word) ids → ⊥) (λ v. WriteAll (parts_of word) (items v) × (length (items v) ≤ 1000))) → IfOk r (Listed word)
  if_listed word (Ok o) none listed = of_listed word o none listed
  if_listed word (Err e) none listed = listed

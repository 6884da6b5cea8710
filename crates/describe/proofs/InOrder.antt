-- Which numbers a list has again, by its numbers with their places in order.
use Rattle.std.proofs.Common.{◌≡◌, ◌⊎◌, inl, inr, ℕ, ◌+◌, ◌-◌, ◌<◌, ◌≤◌, min, Bool, false, List, None, Option, Some, length, take, get_or, ap, sym, refl, subst, ◌∙◌, arith}
use Rattle.std.proofs.lemmas.Bool.{cases_lt, eq-eqb, ne_eqb}
use Rattle.std.proofs.lemmas.Option.{get_or_from_slice_get, slice_get-get_or, slice_get_within}
use Rattle.std.proofs.lemmas.List.{get_or-map, get_or-take, length-map, length-take}
use Rattle.std.proofs.lemmas.List.FromFn.{get_or-enumerate_from, length-enumerate_from}
use Rattle.std.specs.List.{All, Contains, IsDistinct, enumerate_from, slice_get}
use Rattle.std.specs.Option.{MatchOption}
use Rattle.std.specs.List.Sorted.{IsPermutation, IsSorted}
use Rattle.std.specs.Cmp.{IsStrictWeakOrder, nat_cmp_is}
use Rattle.std.specs.Ordering.{is_lt, nat_cmp, ordering_then}
use Rattle.std.specs.declared.cmp.Ordering.TheVariants.{Equal, Less}
use mathlib.Core.Bool.{true≢false}
use Rattle.std.proofs.lemmas.Cmp.{nat_cmp_total, nat_eq_equiv, on_total, then_total}
use Rattle.std.proofs.lemmas.List.Sorted.{length_permutation, ranks_by, sorted_far, All-permutation, Contains-permutation}
use Rattle.std.proofs.lemmas.Map.Keys.{IsDistinct-from_apart, IsDistinct-IsPermutation, apart_from_distinct}
use lib.Dec.{eqb}
use Rattle.describe.specs.Identifiers.{AllDiffer, IsFirstRepeat}
use Rattle.describe.specs.Repeats.{IsAgain, by_number_and_place, with_places}

-- how far a search through the neighbours of a sorted list has come
abbrev pub LeastSoFar : List (ℕ × ℕ) → ℕ → ℕ → Type 0
LeastSoFar xs i least =
    (IsAgain xs least ⊎ (least ≡ length xs))
    × ((k n p q : ℕ) → k + 1 < i → slice_get xs k ≡ Some (n, p) → slice_get xs (k + 1) ≡ Some (n, q) → least ≤ q)

same_some : {X : Type 0} (a b : X) → Some a ≡ Some b → a ≡ b
same_some a b e = search

-- what stands at one place of a list is one
one_there : {X : Type 0} (xs : List X) (i j : ℕ) (a b : X) → i ≡ j → slice_get xs i ≡ Some a → slice_get xs j ≡ Some b → a ≡ b
one_there xs i j a b e f g = same_some a b (sym f ∙ ap (slice_get xs) e ∙ g)

-- what stands at a place
abbrev at : List (ℕ × ℕ) → ℕ → ℕ × ℕ
at xs i = get_or xs i (0, 0)

pub least_with_one_more : (xs : List (ℕ × ℕ)) (i least : ℕ) → 1 ≤ i → i < length xs
    → (get_or xs (i - 1) (0, 0)).0 ≡ (get_or xs i (0, 0)).0
    → LeastSoFar xs i least → LeastSoFar xs (i + 1) (min least (get_or xs i (0, 0)).1)
least_with_one_more xs i least from in' equal so = (one, none)
  where
    q : ℕ
    q = (at xs i).1

    before : slice_get xs (i - 1) ≡ Some ((at xs i).0, (at xs (i - 1)).1)
    before = subst (λ z. slice_get xs (i - 1) ≡ Some (z, (at xs (i - 1)).1)) equal (slice_get-get_or xs (i - 1) (0, 0) (omega arith))

    here : slice_get xs i ≡ Some (at xs i)
    here = slice_get-get_or xs i (0, 0) in'

    again : IsAgain xs q
    again = (i - 1, (at xs i).0, (at xs (i - 1)).1, before, ap (slice_get xs) (omega arith) ∙ here)

    one : IsAgain xs (min least q) ⊎ (min least q ≡ length xs)
    one = elim (cases_lt least q) [
      | inl lt ↦ subst (λ z. IsAgain xs z ⊎ (z ≡ length xs)) (omega arith) so.0
      | inr ge ↦ inl (subst (IsAgain xs) (omega arith) again)
    ]

    none : (k m r s : ℕ) → k + 1 < i + 1 → slice_get xs k ≡ Some (m, r) → slice_get xs (k + 1) ≡ Some (m, s) → min least q ≤ s
    none k m r s l f g = elim (cases_lt (k + 1) i) [
      | inl lt ↦ omega (arith, so.1 k m r s lt f g)
      | inr ge ↦ omega (arith, ap (λ (z : ℕ × ℕ). z.1) (one_there xs (k + 1) i (m, s) (at xs i) (omega arith) g here))
    ]

pub least_without : (xs : List (ℕ × ℕ)) (i least : ℕ) → 1 ≤ i → i < length xs
    → ((get_or xs (i - 1) (0, 0)).0 ≡ (get_or xs i (0, 0)).0 → ⊥)
    → LeastSoFar xs i least → LeastSoFar xs (i + 1) least
least_without xs i least from in' apart so = (so.0, go)
  where
    before : slice_get xs (i - 1) ≡ Some (at xs (i - 1))
    before = slice_get-get_or xs (i - 1) (0, 0) (omega arith)

    here : slice_get xs i ≡ Some (at xs i)
    here = slice_get-get_or xs i (0, 0) in'

    go : (k n p q : ℕ) → k + 1 < i + 1 → slice_get xs k ≡ Some (n, p) → slice_get xs (k + 1) ≡ Some (n, q) → least ≤ q
    go k n p q l f g = elim (cases_lt (k + 1) i) [
      | inl lt ↦ so.1 k n p q lt f g
      | inr ge ↦ absurd (apart (
          ap (λ (z : ℕ × ℕ). z.0) (sym (one_there xs k (i - 1) (n, p) (at xs (i - 1)) (omega arith) f before))
          ∙ ap (λ (z : ℕ × ℕ). z.0) (one_there xs (k + 1) i (n, q) (at xs i) (omega arith) g here)))
    ]

-- a list has as many numbers as it has with their places
as_many : (ids : List ℕ) → length (with_places ids) ≡ length ids
as_many ids = length-map (enumerate_from 0 ids) (λ (e : ℕ × ℕ). (e.1, e.0)) ∙ length-enumerate_from 0 ids

-- a list with its places has at each place what the list has there
listed_at : (ids : List ℕ) (p n : ℕ) → slice_get ids p ≡ Some n → slice_get (with_places ids) p ≡ Some (n, p)
listed_at ids p n f =
    let within = slice_get_within ids p n f in
    let long = length-enumerate_from 0 ids in
    let fits : p < length (enumerate_from 0 ids) = omega (arith, within, long) in
    slice_get-get_or (with_places ids) p (0, 0) (omega (arith, within, as_many ids))
    ∙ ap Some (get_or-map (λ (e : ℕ × ℕ). (e.1, e.0)) (enumerate_from 0 ids) p (0, 0) (0, 0) fits
    ∙ ap (λ (e : ℕ × ℕ). (e.1, e.0)) (get_or-enumerate_from 0 ids p (0, 0) within)
    ∙ ap (λ z. (z, 0 + p)) (get_or_from_slice_get ids p n 0 f)
    ∙ ap (λ z. (n, z)) (omega arith))

-- and nothing else
place_listed : (ids : List ℕ) (p : ℕ) (e : ℕ × ℕ) → slice_get (with_places ids) p ≡ Some e → (e.1 ≡ p) × (slice_get ids p ≡ Some e.0)
place_listed ids p e f =
    let within = slice_get_within (with_places ids) p e f in
    let here : slice_get ids p ≡ Some (get_or ids p 0) = slice_get-get_or ids p 0 (omega (arith, within, as_many ids)) in
    let same : e ≡ (get_or ids p 0, p) = one_there (with_places ids) p p e (get_or ids p 0, p) refl f (listed_at ids p (get_or ids p 0) here) in
    (ap (λ (z : ℕ × ℕ). z.1) same, here ∙ ap (λ (z : ℕ × ℕ). Some z.0) (sym same))

-- a number with a place stands in the list at this place
abbrev StandsThere : List ℕ → ℕ × ℕ → Type 0
StandsThere ids e = slice_get ids e.1 ≡ Some e.0

all_stand_there : (ids : List ℕ) → All (StandsThere ids) (with_places ids)
all_stand_there ids = λ k d l.
    let e = get_or (with_places ids) k d in
    let here = place_listed ids k e (slice_get-get_or (with_places ids) k d l) in
    subst (λ z. slice_get ids z ≡ Some e.0) (sym here.0) here.1

-- whether two have the same place
abbrev same_place : ℕ × ℕ → ℕ × ℕ → Bool
same_place x y = eqb x.1 y.1

places_differ : (ids : List ℕ) → IsDistinct same_place (with_places ids)
places_differ ids = IsDistinct-from_apart same_place (with_places ids) (λ i j d l m.
    let first = place_listed ids i (get_or (with_places ids) i d) (slice_get-get_or (with_places ids) i d (omega arith)) in
    let then = place_listed ids j (get_or (with_places ids) j d) (slice_get-get_or (with_places ids) j d m) in
    ne_eqb (get_or (with_places ids) i d).1 (get_or (with_places ids) j d).1 (λ e. omega (arith, first.0, then.0, e)))

-- the order of numbers with their places is one
in_order : IsStrictWeakOrder (λ x y. is_lt (by_number_and_place x y))
in_order = ranks_by (then_total (on_total (λ (p : ℕ × ℕ). p.0) nat_cmp_total) (on_total (λ (p : ℕ × ℕ). p.1) nat_cmp_total)) (λ x. x)

-- what does not come before another
not_before : (x y : ℕ × ℕ) → is_lt (by_number_and_place x y) ≡ false → (y.0 < x.0) ⊎ ((x.0 ≡ y.0) × (y.1 ≤ x.1))
not_before x y h = elim (cases_lt y.0 x.0) [
  | inl lt ↦ inl lt
  | inr le ↦ inr (go le (cases_lt x.0 y.0))
]
  where
    go : x.0 ≤ y.0 → (x.0 < y.0) ⊎ (y.0 ≤ x.0) → (x.0 ≡ y.0) × (y.1 ≤ x.1)
    go le (inl lt) = absurd (true≢false (ap (λ o. is_lt (ordering_then o (nat_cmp x.1 y.1))) (nat_cmp_is x.0 y.0 Less lt) ∙ h))
    go le (inr ge) =
        let same : x.0 ≡ y.0 = omega arith in (
          same,
          elim (cases_lt x.1 y.1) [
            | inl lt ↦ absurd (true≢false (
                ap is_lt (nat_cmp_is x.1 y.1 Less lt)
                ∙ ap (λ o. is_lt (ordering_then o (nat_cmp x.1 y.1))) (nat_cmp_is x.0 y.0 Equal same)
                ∙ h))
            | inr le ↦ le
          ],
        )

-- where a list has a number twice, it has one again at the later place or before
pub repeats_follow : (ids : List ℕ) (sorted : List (ℕ × ℕ)) → IsPermutation (with_places ids) sorted → IsSorted by_number_and_place sorted
    → (a b n : ℕ) → a < b → slice_get ids a ≡ Some n → slice_get ids b ≡ Some n
    → (place : ℕ) × IsAgain sorted place × (place ≤ b)
repeats_follow ids sorted moved up a b n before f g =
    (m.1, (ka, n, a, there, subst (λ z. slice_get sorted (ka + 1) ≡ Some (z, m.1)) same.0 next), same.1)
  where
    found : (p : ℕ) → slice_get ids p ≡ Some n → Contains sorted (n, p)
    found p h =
        let listed = listed_at ids p n h in
        Contains-permutation (with_places ids) sorted (n, p) moved (p, slice_get_within (with_places ids) p (n, p) listed, get_or_from_slice_get (with_places ids) p (n, p) (n, p) listed)

    ka : ℕ
    ka = (found a f).0

    kb : ℕ
    kb = (found b g).0

    there : slice_get sorted ka ≡ Some (n, a)
    there = slice_get-get_or sorted ka (n, a) (found a f).1 ∙ ap Some (found a f).2

    later : slice_get sorted kb ≡ Some (n, b)
    later = slice_get-get_or sorted kb (n, b) (found b g).1 ∙ ap Some (found b g).2

    -- of two places of the sorted list the later one's does not come first
    far : (i j : ℕ) (x y : ℕ × ℕ) → i ≤ j → slice_get sorted i ≡ Some x → slice_get sorted j ≡ Some y → (x.0 < y.0) ⊎ ((y.0 ≡ x.0) × (x.1 ≤ y.1))
    far i j x y l at-i at-j =
        let apart = sorted_far (λ x y. is_lt (by_number_and_place x y)) in_order sorted up i j (0, 0) l (slice_get_within sorted j y at-j) in
        not_before y x (
        ap (λ z. is_lt (by_number_and_place z x)) (sym (get_or_from_slice_get sorted j y (0, 0) at-j))
        ∙ ap (λ z. is_lt (by_number_and_place (get_or sorted j (0, 0)) z)) (sym (get_or_from_slice_get sorted i x (0, 0) at-i))
        ∙ apart)

    in-order : ka < kb
    in-order = elim (cases_lt ka kb) [
      | inl lt ↦ lt
      | inr ge ↦ elim (far kb ka (n, b) (n, a) ge later there) [
        | inl lt ↦ absurd (omega (arith, lt))
        | inr both ↦ absurd (omega (arith, both.1, before))
      ]
    ]

    m : ℕ × ℕ
    m = get_or sorted (ka + 1) (0, 0)

    next : slice_get sorted (ka + 1) ≡ Some m
    next = slice_get-get_or sorted (ka + 1) (0, 0) (omega (arith, in-order, (found b g).1))

    same : (m.0 ≡ n) × (m.1 ≤ b)
    same = go (far ka (ka + 1) (n, a) m (omega arith) there next) (far (ka + 1) kb m (n, b) (omega (arith, in-order)) next later)
      where
        go : (n < m.0) ⊎ ((m.0 ≡ n) × (a ≤ m.1)) → (m.0 < n) ⊎ ((n ≡ m.0) × (m.1 ≤ b)) → (m.0 ≡ n) × (m.1 ≤ b)
        go _ (inr both) = (sym both.0, both.1)
        go (inr both) (inl lt) = absurd (omega (arith, both.0, lt))
        go (inl lt) (inl gt) = absurd (omega (arith, lt, gt))

-- what the sorted list has again at a place, the list has there and at an earlier one
pub again_repeats : (ids : List ℕ) (sorted : List (ℕ × ℕ)) → IsPermutation (with_places ids) sorted → IsSorted by_number_and_place sorted
    → (place : ℕ) → IsAgain sorted place
    → (i : ℕ) × (n : ℕ) × (i < place) × (slice_get ids i ≡ Some n) × (slice_get ids place ≡ Some n)
again_repeats ids sorted moved up place again = (before, n, earlier, stands again.0 (n, before) again.3, stands (again.0 + 1) (n, place) again.4)
  where
    n : ℕ
    n = again.1

    before : ℕ
    before = again.2

    all : All (StandsThere ids) sorted
    all = All-permutation (StandsThere ids) (with_places ids) sorted moved (all_stand_there ids)

    stands : (k : ℕ) (e : ℕ × ℕ) → slice_get sorted k ≡ Some e → StandsThere ids e
    stands k e at-k = subst (StandsThere ids) (get_or_from_slice_get sorted k e e at-k) (all k e (slice_get_within sorted k e at-k))

    first : get_or sorted again.0 (0, 0) ≡ (n, before)
    first = get_or_from_slice_get sorted again.0 (n, before) (0, 0) again.3

    second : get_or sorted (again.0 + 1) (0, 0) ≡ (n, place)
    second = get_or_from_slice_get sorted (again.0 + 1) (n, place) (0, 0) again.4

    within : again.0 + 1 < length sorted
    within = slice_get_within sorted (again.0 + 1) (n, place) again.4

    differ : same_place (n, before) (n, place) ≡ false
    differ =
        let apart = apart_from_distinct same_place sorted again.0 (again.0 + 1) (0, 0) (IsDistinct-IsPermutation same_place (λ x y. nat_eq_equiv.symm x.1 y.1) (with_places ids) sorted moved (places_differ ids)) (omega arith) within in
        ap (λ z. same_place z (n, place)) (sym first) ∙ ap (same_place (get_or sorted again.0 (0, 0))) (sym second) ∙ apart

    sorted_so : is_lt (by_number_and_place (n, place) (n, before)) ≡ false
    sorted_so =
        ap (λ z. is_lt (by_number_and_place z (n, before))) (sym second)
        ∙ ap (λ z. is_lt (by_number_and_place (get_or sorted (again.0 + 1) (0, 0)) z)) (sym first)
        ∙ up again.0 (0, 0) (omega arith) within

    earlier : before < place
    earlier = elim (cases_lt before place) [
      | inl lt ↦ lt
      | inr ge ↦ elim (not_before (n, place) (n, before) sorted_so) [
        | inl lt ↦ absurd (omega (arith, lt))
        | inr both ↦ absurd (true≢false (sym (eq-eqb before place (omega (arith, both.1, ge))) ∙ differ))
      ]
    ]

-- the earliest place at which the sorted list has a number again is that of the first repeat
pub first_repeat_at : (ids : List ℕ) (sorted : List (ℕ × ℕ)) → IsPermutation (with_places ids) sorted → IsSorted by_number_and_place sorted
    → (least : ℕ) → IsAgain sorted least ⊎ (least ≡ length sorted) → ((place : ℕ) → IsAgain sorted place → least ≤ place)
    → MatchOption (slice_get ids least) (AllDiffer ids) (IsFirstRepeat ids)
first_repeat_at ids sorted moved up least some none = go (slice_get ids least) refl
  where
    as_long : length sorted ≡ length ids
    as_long = length_permutation (with_places ids) sorted moved ∙ as_many ids

    past : (n a b : ℕ) → a < b → slice_get ids a ≡ Some n → slice_get ids b ≡ Some n → least ≤ b
    past n a b l f g =
        let follows = repeats_follow ids sorted moved up a b n l f g in
        omega (arith, none follows.0 follows.1, follows.2)

    kept : (k n : ℕ) → slice_get (take least ids) k ≡ Some n → (k < least) × (slice_get ids k ≡ Some n)
    kept k n f =
        let within : k < length (take least ids) = slice_get_within (take least ids) k n f in
        let below : k < least = omega (arith, within, length-take least ids) in
        let there : get_or ids k 0 ≡ n = sym (get_or-take least ids k 0 below) ∙ get_or_from_slice_get (take least ids) k n 0 f in
        (below, slice_get-get_or ids k 0 (omega (arith, within, length-take least ids)) ∙ ap Some there)

    go : (o : Option ℕ) → slice_get ids least ≡ o → MatchOption o (AllDiffer ids) (IsFirstRepeat ids)
    go None e = λ n twice.
        let within = slice_get_within ids twice.1 n twice.4 in
        let l = past n twice.0 twice.1 twice.2 twice.3 twice.4 in
        let here : None ≡ Some (get_or ids least 0) = sym e ∙ slice_get-get_or ids least 0 (omega (arith, within, l)) in
        absurd (cc)
    go (Some n) e = found some
      where
        found : IsAgain sorted least ⊎ (least ≡ length sorted) → IsFirstRepeat ids n
        found (inr end) = absurd (omega (arith, slice_get_within ids least n e, end, as_long))
        found (inl again) =
            let r = again_repeats ids sorted moved up least again in
            let same : r.1 ≡ n = one_there ids least least r.1 n refl r.4 e in (
              r.0,
              least,
              r.2,
              subst (λ z. slice_get ids r.0 ≡ Some z) same r.3,
              e,
              λ m twice.
                  let early = kept twice.0 m twice.3 in
                  let late = kept twice.1 m twice.4 in
                  omega (arith, late.0, past m twice.0 twice.1 twice.2 early.1 late.1),
            )

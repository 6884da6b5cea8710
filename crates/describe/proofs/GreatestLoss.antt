-- The greatest loss of a list, with one loss more.
use Rattle.std.proofs.Common.{◌≡◌, ℕ, ◌+◌, ◌<◌, Bool, true, false, cond, nat_lt, Some, None, Option, List, [], ◌∷◌, ◌++◌, length, get_or, map, take, refl, sym, ap, subst, ◌∙◌, arith, length-append}
use Rattle.std.proofs.Math.ListN.{get_or-append}
use Rattle.std.proofs.Math.Seq.{get_or-append_seam}
use mathlib.Core.List.{append_assoc}
use Rattle.std.proofs.lemmas.List.{map_more}
use Rattle.std.proofs.lemmas.List.MinMax.{IsFirstBest-keeps, IsFirstBest-none, IsFirstBest-takes, IsStrictWeakOrder-by_number, IsStrictWeakOrder-flip}
use Rattle.std.proofs.lemmas.Option.{get_or_from_slice_get, slice_get-get_or, slice_get_within}
use Rattle.std.specs.Cmp.{IsStrictWeakOrder}
use Rattle.std.specs.List.{IsFirstBest, slice_get}
use Rattle.describe.specs.Losses.{IsGreatest, greater_of, loses_more}
use Rattle.describe.specs.declared.losses.Loss.{Loss}

-- losses are ranked
losses_rank : IsStrictWeakOrder loses_more
losses_rank = IsStrictWeakOrder-flip (λ (a b : Loss). nat_lt a.runs b.runs) (IsStrictWeakOrder-by_number (λ (l : Loss). l.runs))

-- the first of the greatest stays so among the same losses where more follow
among_more : (xs ys : List Loss) (b : ℕ) → IsFirstBest loses_more xs (length xs) b → IsFirstBest loses_more (xs ++ ys) (length xs) b
among_more xs ys b h = (
  h.0,
  λ k d low. rw (get_or-append xs ys d k low, get_or-append xs ys d b h.0) (h.1 k d low),
  λ k d low. rw (get_or-append xs ys d k (omega (arith, low, h.0)), get_or-append xs ys d b h.0) (h.2 k d low),
)

-- where an element of a longer list stands
at_front : (xs ys : List Loss) (b : ℕ) (w : Loss) → slice_get xs b ≡ Some w → slice_get (xs ++ ys) b ≡ Some w
at_front xs ys b w e =
    let low = slice_get_within xs b w e in
    let inside : b < length (xs ++ ys) = omega (arith, low, length-append xs ys) in
    slice_get-get_or (xs ++ ys) b w inside
    ∙ ap Some (get_or-append xs ys w b low ∙ get_or_from_slice_get xs b w w e)

at_end : (xs : List Loss) (x : Loss) → slice_get (xs ++ x ∷ []) (length xs) ≡ Some x
at_end xs x =
    let inside : length xs < length (xs ++ x ∷ []) = omega (arith, length-append xs (x ∷ [])) in
    slice_get-get_or (xs ++ x ∷ []) (length xs) x inside ∙ ap Some (get_or-append_seam xs x [] x)

one_longer : (xs : List Loss) (x : Loss) → length xs + 1 ≡ length (xs ++ x ∷ [])
one_longer xs x = omega (arith, length-append xs (x ∷ []))

either : (t : Bool) (xs : List Loss) (w x : Loss) → loses_more x w ≡ t → IsGreatest xs (Some w) → IsGreatest (xs ++ x ∷ []) (cond t (Some x) (Some w))
either true xs w x more h =
    let ys = xs ++ x ∷ [] in
    let low = slice_get_within xs h.0 w h.2 in
    let inside : length xs < length ys = omega (arith, length-append xs (x ∷ [])) in
    let stands : w ≡ get_or ys h.0 w = sym (get_or-append xs (x ∷ []) w h.0 low ∙ get_or_from_slice_get xs h.0 w w h.2) in
    let best = IsFirstBest-takes losses_rank ys (length xs) h.0 x w (among_more xs (x ∷ []) h.0 h.1) inside (sym (get_or-append_seam xs x [] x)) stands more in
    (length xs, subst (λ (n : ℕ). IsFirstBest loses_more ys n (length xs)) (one_longer xs x) best, at_end xs x)
either false xs w x more h =
    let ys = xs ++ x ∷ [] in
    let low = slice_get_within xs h.0 w h.2 in
    let inside : length xs < length ys = omega (arith, length-append xs (x ∷ [])) in
    let stands : w ≡ get_or ys h.0 w = sym (get_or-append xs (x ∷ []) w h.0 low ∙ get_or_from_slice_get xs h.0 w w h.2) in
    let best = IsFirstBest-keeps losses_rank ys (length xs) h.0 x w (among_more xs (x ∷ []) h.0 h.1) inside (sym (get_or-append_seam xs x [] x)) stands more in
    (h.0, subst (λ (n : ℕ). IsFirstBest loses_more ys n h.0) (one_longer xs x) best, at_front xs (x ∷ []) h.0 w h.2)

-- the greatest of the losses so far and of one more
pub greatest_with_one_more : (xs : List Loss) (o : Option Loss) (x : Loss) → IsGreatest xs o → IsGreatest (xs ++ x ∷ []) (greater_of o x)
greatest_with_one_more xs None x none =
    let only : xs ++ x ∷ [] ≡ x ∷ [] = ap (λ z. z ++ x ∷ []) none in
    subst (λ (z : List Loss). IsGreatest z (Some x)) (sym only) (0, IsFirstBest-none losses_rank (x ∷ []), refl)
greatest_with_one_more xs (Some w) x h = either (nat_lt w.runs x.runs) xs w x refl h

-- the same in a loop that goes over the rows behind other losses
pub greatest_with_one_row : {R : Type 0} (f : R → Loss) (before : List Loss) (rows : List R) (i : ℕ) (d : R) (o o' : Option Loss) (x : Loss) → i < length rows → x ≡ f (get_or rows i d) → o' ≡ greater_of o x → IsGreatest (before ++ map f (take i rows)) o → IsGreatest (before ++ map f (take (i + 1) rows)) o'
greatest_with_one_row f before rows i d o o' x low is then h =
    let one : map f (take (i + 1) rows) ≡ map f (take i rows) ++ x ∷ [] = map_more f rows i d low ∙ ap (λ z. map f (take i rows) ++ z ∷ []) (sym is) in
    let all : before ++ map f (take (i + 1) rows) ≡ (before ++ map f (take i rows)) ++ x ∷ [] = ap (λ z. before ++ z) one ∙ sym (append_assoc before (map f (take i rows)) (x ∷ [])) in
    rw (all, then) (greatest_with_one_more (before ++ map f (take i rows)) o x h)

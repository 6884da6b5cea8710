-- Where the telling of a history ends.
use Rattle.std.proofs.Common.{◌≡◌, ℕ, suc, ◌+◌, ◌≤◌, Bool, true, false, not, cond, Some, None, List, [], ◌∷◌, length, take, refl, sym, ap, ◌∙◌, arith, zero, ◌<◌, get_or}
use Rattle.std.proofs.lemmas.Bool.Decides.{nat_tests}
use Rattle.std.proofs.lemmas.List.{take_all}
use Rattle.std.proofs.lemmas.Option.{cond_some}
use Rattle.std.specs.List.{position_or_len}
use Rattle.run.specs.declared.call.Entry.{Entry}
use Rattle.describe.specs.Histories.{ends_with, told_to_the_end}
use lib.Dec.{ltb}

-- the first entry is told, and where it does not end the history, what is told of the others
with_first : (b : Bool) (e : Entry) (es : List Entry) (n : ℕ) → take (suc n) es ≡ told_to_the_end es → take (suc (cond (not b) (1 + n) 0)) (e ∷ es) ≡ e ∷ cond b [] (told_to_the_end es)
with_first true e es n rest = refl
with_first false e es n rest =
    let up : 1 + n ≡ suc n = omega arith in
    rw up (ap (λ xs. e ∷ xs) rest)

told_to_position : (es : List Entry) → take (suc (position_or_len ends_with es)) es ≡ told_to_the_end es
told_to_position [] = refl
told_to_position (e ∷ es) = with_first (ends_with e) e es (position_or_len ends_with es) (told_to_position es)

not_found : (b : Bool) (p : ℕ) → None ≡ cond b (Some p) None → b ≡ false
not_found true p h = cc
not_found false p h = refl

-- the entries up to the first that ends the history, where one does
pub told_to : (es : List Entry) (i : ℕ) → Some i ≡ cond (ltb (position_or_len ends_with es) (length es)) (Some (position_or_len ends_with es)) None → take (i + 1) es ≡ told_to_the_end es
told_to es i found =
    let place = (cond_some _ (position_or_len ends_with es) i (sym found)).1 in
    let end : i + 1 ≡ suc (position_or_len ends_with es) = omega arith in
    rw end (told_to_position es)

-- all entries, where none ends the history
pub told_all : (es : List Entry) → None ≡ cond (ltb (position_or_len ends_with es) (length es)) (Some (position_or_len ends_with es)) None → es ≡ told_to_the_end es
told_all es found =
    let past = not_found (ltb (position_or_len ends_with es) (length es)) (position_or_len ends_with es) found in
    let all : length es ≤ suc (position_or_len ends_with es) = grind (arith, nat_tests) in
    sym (take_all _ es all) ∙ told_to_position es

-- none of the first k entries ends the history
abbrev pub NoneEnds : List Entry → ℕ → Type 0
NoneEnds es k = (j : ℕ) (d : Entry) → j < k → ends_with (get_or es j d) ≡ false

pub told_to_first : (es : List Entry) (k : ℕ) (d : Entry) → k < length es → NoneEnds es k → ends_with (get_or es k d) ≡ true → take (suc k) es ≡ told_to_the_end es
told_to_first [] k d h none ends = absurd (omega arith)
told_to_first (e ∷ es) zero d h none ends = ap (λ b. e ∷ cond b [] (told_to_the_end es)) (sym ends)
told_to_first (e ∷ es) (suc k) d h none ends =
    ap (λ xs. e ∷ xs) (told_to_first es k d (omega arith) (λ j x l. none (suc j) x (omega arith)) ends)
    ∙ ap (λ b. e ∷ cond b [] (told_to_the_end es)) (sym (none 0 d (omega arith)))

pub told_none_ends : (es : List Entry) → NoneEnds es (length es) → es ≡ told_to_the_end es
told_none_ends [] none = refl
told_none_ends (e ∷ es) none =
    ap (λ xs. e ∷ xs) (told_none_ends es (λ j x l. none (suc j) x (omega arith)))
    ∙ ap (λ b. e ∷ cond b [] (told_to_the_end es)) (sym (none 0 e (omega arith)))

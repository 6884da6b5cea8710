-- Words that ask for moves, and two words more.
use Rattle.std.proofs.Common.{◌≡◌, ℕ, ◌+◌, ◌*◌, ◌/◌, ◌%◌, ◌<◌, List, [], ◌∷◌, ◌++◌, get_or, length, map, take, sym, ap, subst, ◌∙◌, append_assoc, arith}
use Rattle.std.proofs.lemmas.List.{map-append, take_all, take_more}
use Rattle.std.specs.Borrow.{Bor}
use Rattle.commands.specs.Walks.{AskMove, AskMoves}
use Rattle.commands.specs.declared.walk.Move.{Move}

pub AskMoves-append : (words : List (List ℕ)) (ms : List Move) (name value : List ℕ) (m : Move) → AskMoves words ms → AskMove name value m → AskMoves (words ++ name ∷ value ∷ []) (ms ++ m ∷ [])
AskMoves-append [] [] name value m all here = (here, tt)
AskMoves-append [] (x ∷ ms) name value m all here = absurd all
AskMoves-append (a ∷ []) ms name value m all here = absurd all
AskMoves-append (a ∷ b ∷ words) [] name value m all here = absurd all
AskMoves-append (a ∷ b ∷ words) (x ∷ ms) name value m all here = (all.0, AskMoves-append words ms name value m all.1 here)

-- what a word says
abbrev pub said_by : Bor (List ℕ) → List ℕ
said_by w = w.now

-- two words more than the first ask for one move more
pub one_move_more : (words : List (Bor (List ℕ))) (n : ℕ) (d : Bor (List ℕ)) (ms : List Move) (m : Move) → 2 * n + 1 < length words →
    AskMoves (map said_by (take (2 * n) words)) ms → AskMove (get_or words (2 * n) d).now (get_or words (2 * n + 1) d).now m →
    AskMoves (map said_by (take (2 * (n + 1)) words)) (ms ++ m ∷ [])
one_move_more words n d ms m there all here =
    let Words : Type 0 = List (Bor (List ℕ)) in
    let name : Bor (List ℕ) = get_or words (2 * n) d in
    let value : Bor (List ℕ) = get_or words (2 * n + 1) d in
    let two : 2 * (n + 1) ≡ 2 * n + 1 + 1 = omega arith in
    let first : take (2 * n + 1) words ≡ take (2 * n) words ++ name ∷ [] = take_more words (2 * n) d (omega arith) in
    let whole : take (2 * (n + 1)) words ≡ take (2 * n) words ++ name ∷ value ∷ [] =
    ap (λ k. take k words) two ∙ take_more words (2 * n + 1) d there ∙ ap (λ (z : Words). z ++ value ∷ []) first ∙ append_assoc (take (2 * n) words) (name ∷ []) (value ∷ []) in
    let said : map said_by (take (2 * (n + 1)) words) ≡ map said_by (take (2 * n) words) ++ name.now ∷ value.now ∷ [] =
    ap (map said_by) whole ∙ map-append said_by (take (2 * n) words) (name ∷ value ∷ []) in
    subst (λ (z : List (List ℕ)). AskMoves z (ms ++ m ∷ [])) (sym said) (AskMoves-append (map said_by (take (2 * n) words)) ms name.now value.now m all here)

-- where an even number of words has been read, they are all
pub all_moves : (words : List (Bor (List ℕ))) (ms : List Move) → length words % 2 ≡ 0 → AskMoves (map said_by (take (2 * (length words / 2)) words)) ms → AskMoves (map said_by words) ms
all_moves words ms even all =
    let whole = take_all (2 * (length words / 2)) words (omega arith) in
    subst (λ (z : List (Bor (List ℕ))). AskMoves (map said_by z) ms) whole all

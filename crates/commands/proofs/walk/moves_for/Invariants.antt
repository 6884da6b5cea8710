use Rattle.std.proofs.Common.{◌≡◌, ◌*◌, length, map, take}
use Rattle.commands.specs.Walks.{AskMoves}
use Rattle.commands.proofs.walk.moves_for.Given as goal

-- the words so far ask for the moves so far, one for each two words
abbrev pub invariant-loop-place : goal.invariant-loop-place
invariant-loop-place l =
    AskMoves (map (λ w. w.now) (take (2 * l.place) l.words)) l.moves.items × (length l.moves.items ≡ l.place)

-- The moves of a walk, and the words that ask for them.
use Rattle.std.specs.Prelude.{◌≡◌, ℕ, ◌^◌, List, [], ◌∷◌, ◌++◌, Err, Result, bit_or, codes, cond, fold, nat_lt, ⊤}
use Rattle.describe.specs.Identifiers.{parts_of}
use Rattle.describe.specs.Words.{Writes}
use Rattle.region.specs.Resetting.{reset_by}
use Rattle.region.specs.Waiting.{waited}
use Rattle.rows.specs.declared.refusal.Refusal.{Refusal}
use Rattle.rows.specs.declared.tables.TimerRow.{TimerRow}
use Rattle.rows.specs.Refusals.{refusal_no}
use Rattle.theory.specs.Records.{Record}
use Rattle.commands.specs.Words.{EachFor}
use Rattle.commands.specs.declared.walk.Move.{Move}
use Rattle.commands.specs.declared.walk.Move.TheVariants.{Reset, Wait}
use Rattle.commands.specs.declared.walk.Timers.{Timers}
use Rattle.commands.specs.declared.walk.Timers.TheVariants.{Bits, NotThere}

-- what a move answers, and the region after it; a reset of a timer that no plan has is refused with 4
abbrev pub moved : List TimerRow → Move → Record → Result (Unit {0}) Refusal × Record
moved ceilings (Wait steps) r = waited ceilings steps r
moved ceilings (Reset (Bits timers)) r = reset_by timers r
moved ceilings (Reset NotThere) r = (Err (refusal_no 4), r)

-- a word names a timer, as x0
pub record NamesTimer (word : List ℕ) (timer : ℕ) : Type 0 where
  pub digits : List ℕ
  pub word_is : word ≡ codes "x" ++ digits
  pub number_is : Writes digits timer

-- some timers and one more: no plan has a timer past x15
abbrev pub with_timer : Timers → ℕ → Timers
with_timer NotThere timer = NotThere
with_timer (Bits bits) timer = cond (nat_lt timer 16) (Bits (bit_or bits (2 ^ timer))) NotThere

-- a word names timers between commas
pub record NamesTimers (word : List ℕ) (timers : Timers) : Type 0 where
  pub numbers : List ℕ
  pub each : EachFor NamesTimer (parts_of word) numbers
  pub together : timers ≡ fold with_timer (Bits 0) numbers

-- two words ask for a move: `wait` and a number of steps, or `reset` and timers
abbrev pub AskMove : List ℕ → List ℕ → Move → Type 0
AskMove name value (Wait steps) = (name ≡ codes "wait") × Writes value steps
AskMove name value (Reset timers) = (name ≡ codes "reset") × NamesTimers value timers

-- words ask for moves, each two words for one, in order
abbrev pub AskMoves : List (List ℕ) → List Move → Type 0
AskMoves [] [] = ⊤
AskMoves [] (m ∷ ms) = ⊥
AskMoves (name ∷ []) ms = ⊥
AskMoves (name ∷ value ∷ words) [] = ⊥
AskMoves (name ∷ value ∷ words) (m ∷ ms) = AskMove name value m × AskMoves words ms

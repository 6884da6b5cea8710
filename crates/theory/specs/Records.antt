-- A region record says of each timer its whole seconds and where its fraction stands among the different fractions.
use Rattle.std.specs.Prelude.{◌≡◌, ℕ, zero, suc, ◌+◌, ◌*◌, ◌/◌, ◌%◌, ◌<◌, ◌≤◌, Bool, true, cond, ◌&&◌, List, [], ◌∷◌, map, length, ◌==◌, slice_index_or}
use Rattle.theory.specs.Settings.{total, held, later, finer, marked, unmarked, any_marked}

-- a timer's whole seconds, and the place of its fraction among the different fractions, 0 for the smallest
pub record Timer : Type 0 where
  pub seconds : ℕ
  pub rank : ℕ

-- whole: some timer has fraction zero; classes: how many different fractions there are
pub record Record : Type 0 where
  pub whole : Bool
  pub classes : ℕ
  pub timers : List Timer

-- what a setting shows of a timer that has c ticks
abbrev pub timer_of : ℕ → List ℕ → ℕ → Timer
timer_of D v c = record { seconds = c / D; rank = total (held D v) (c % D) }

-- the record of a setting
abbrev pub record_of : ℕ → List ℕ → Record
record_of D v =
    record { whole = (held D v 0 == 1); classes = total (held D v) D; timers = map (timer_of D v) v }

-- 0 if some timer stands at a whole second, 1 if every timer stands between two
abbrev pub edge : Record → ℕ
edge r = cond r.whole 0 1

-- a timer's count: how many steps it stands after zero, where a second has two steps for each class
abbrev pub count : Record → Timer → ℕ
count r t = 2 * r.classes * t.seconds + 2 * t.rank + edge r

-- the timer that stands u steps after zero among k classes
abbrev pub timer_at : ℕ → ℕ → Timer
timer_at k u = record { seconds = u / (2 * k); rank = u % (2 * k) / 2 }

-- the record d steps later (every count is even exactly if the record is whole)
unfoldable pub wait : ℕ → Record → Record
wait d r =
    record { whole = ((edge r + d) % 2 == 0); classes = r.classes; timers = map (λ t. timer_at r.classes (count r t + d)) r.timers }

-- the record after d waits of one step each
unfoldable pub single_steps : ℕ → Record → Record
single_steps zero r = r
single_steps (suc d) r = wait 1 (single_steps d r)

-- a timer that was just reset
abbrev pub fresh : Timer
fresh = record { seconds = 0; rank = 0 }

-- 1 if some timer has rank j, else 0
unfoldable pub ranked : List Timer → ℕ → ℕ
ranked [] j = 0
ranked (t ∷ ts) j = cond (t.rank == j) 1 (ranked ts j)

-- true if rank j is the fraction zero
abbrev pub at_zero : Record → ℕ → Bool
at_zero r j = r.whole && j == 0

-- 1 if the class of rank j is live: its fraction is above zero, and a timer that is not marked holds it
unfoldable pub live : List Bool → Record → ℕ → ℕ
live marks r j = cond (at_zero r j) 0 (ranked (unmarked marks r.timers) j)

-- a timer that is not marked keeps its seconds, and takes its place among zero and the live classes
abbrev pub reranked : List Bool → Record → Timer → Timer
reranked marks r t =
    record { seconds = t.seconds; rank = cond (at_zero r t.rank) 0 (1 + total (live marks r) t.rank) }

-- the record after the marked timers are set to zero
unfoldable pub reset : List Bool → Record → Record
reset marks r =
    cond (any_marked marks) (record { whole = true; classes = 1 + total (live marks r) r.classes; timers = marked fresh (reranked marks r) marks r.timers }) r

-- the record p parts of a tick from now, where a tick is cut into q
abbrev pub record_in : ℕ → List ℕ → ℕ → ℕ → Record
record_in D v p q = record_of (q * D) (later p (finer q v))

-- timer i of the record
abbrev pub timer_no : Record → ℕ → Timer
timer_no r i = slice_index_or r.timers i fresh

-- a record that some timers can show: there is a class, every rank is below the number of classes, and every such rank is held
pub record Valid (r : Record) : Type 0 where
  pub some_class : 1 ≤ r.classes
  pub ranks_below : (i : ℕ) → i < length r.timers → (timer_no r i).rank < r.classes
  pub ranks_held : (j : ℕ) → j < r.classes → (i : ℕ) × (i < length r.timers) × ((timer_no r i).rank ≡ j)

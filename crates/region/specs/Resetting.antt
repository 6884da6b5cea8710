-- When a reset is refused, and what a reset leads to.
use Rattle.std.specs.Prelude.{◌≡◌, ℕ, ◌+◌, ◌/◌, ◌%◌, ◌^◌, ◌<◌, Bool, cond, List, map, length, Ok, Err, Result, ◌==◌, nat_le, slice_index}
use Rattle.std.specs.List.{range_with_len}
use Rattle.rows.specs.declared.refusal.Refusal.{Refusal}
use Rattle.rows.specs.Refusals.{refusal_no}
use Rattle.theory.specs.Records.{Record, live, reset}
use Rattle.theory.specs.Settings.{total}

-- true if timer i is named: bit i is set
abbrev pub bit_no : ℕ → ℕ → Bool
bit_no bits i = bits / 2 ^ i % 2 == 1

-- which of n timers are named
abbrev pub marks : ℕ → ℕ → List Bool
marks n bits = map (bit_no bits) (range_with_len 0 n)

-- true if a timer is named that is not there
abbrev pub names_missing : ℕ → Record → Bool
names_missing bits r = nat_le (2 ^ length r.timers) bits

-- what a reset of the named timers answers, and the record after it: one that names a missing timer is refused and alters nothing
abbrev pub reset_by : ℕ → Record → Result (Unit {0}) Refusal × Record
reset_by bits r =
    cond (names_missing bits r)
    (Err (refusal_no 4), r)
    (Ok tt, reset (marks (length r.timers) bits) r)

-- a table that has the place of each rank, and of one more, among zero and the live classes
abbrev pub Placed : List ℕ → List Bool → Record → Type 0
Placed table named r = (j : ℕ) → j < 17 → slice_index table j ≡ 1 + total (live named r) j

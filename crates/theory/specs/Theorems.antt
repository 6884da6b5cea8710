-- What is proved of settings, records, waits and resets.
use Rattle.std.specs.Prelude.{◌≡◌, ℕ, ◌+◌, ◌*◌, ◌≤◌, Bool, ◌⊎◌, ◌↔◌, List, length}
use Rattle.theory.specs.Settings.{later, finer, steps, reach, cleared}
use Rattle.theory.specs.Records.{Record, Valid, record_of, record_in, wait, single_steps, reset}
use Rattle.theory.specs.Regions.{SameRegion, ToldAlike}

-- two settings have one record exactly if they lie in one region, and exactly if no comparison tells them apart
abbrev pub EqualRecordsAreOneRegion : Type 0
EqualRecordsAreOneRegion =
    (D E : ℕ) (v w : List ℕ) → 1 ≤ D → 1 ≤ E → length v ≡ length w → ((record_of D v ≡ record_of E w) ↔ SameRegion D v E w) × ((record_of D v ≡ record_of E w) ↔ ToldAlike D v E w)

-- the valid records are just the records of settings, and waits and resets lead from valid records to valid records
pub record EveryRecordHasItsRegion : Type 0 where
  pub of_a_setting : (r : Record) → Valid r → (D : ℕ) × (v : List ℕ) × (1 ≤ D) × (1 ≤ length v) × (record_of D v ≡ r)
  pub settings : (D : ℕ) (v : List ℕ) → 1 ≤ D → 1 ≤ length v → Valid (record_of D v)
  pub waits : (d : ℕ) (r : Record) → Valid r → Valid (wait d r)
  pub resets : (marks : List Bool) (r : Record) → length marks ≡ length r.timers → Valid r → Valid (reset marks r)

-- time passes through the records of waits, in their order, and leaves none of them out
pub record AWaitCrossesWhatTimeCrosses : Type 0 where
  -- after t ticks the record is that of a wait
  pub ticks : (D : ℕ) (v : List ℕ) → 1 ≤ D → (t : ℕ) → record_of D (later t v) ≡ wait (steps D v t) (record_of D v)
  -- and so it is at each moment between two ticks
  pub moments : (D : ℕ) (v : List ℕ) → 1 ≤ D → (p q : ℕ) → 1 ≤ q → record_in D v p q ≡ wait (reach D v p q) (record_of D v)
  -- a later moment is no shorter a wait
  pub in_order : (D : ℕ) (v : List ℕ) → 1 ≤ D → (p q p' q' : ℕ) → 1 ≤ q → 1 ≤ q' → p * q' ≤ p' * q → reach D v p q ≤ reach D v p' q'
  -- a tick that is not cut is a whole tick
  pub whole_ticks : (D : ℕ) (v : List ℕ) → (t : ℕ) → reach D v t 1 ≡ steps D v t
  -- every shorter wait has its moment within the t ticks
  pub none_left_out : (D : ℕ) (v : List ℕ) → 1 ≤ D → (t d : ℕ) → d ≤ steps D v t → (p : ℕ) × (q : ℕ) × (1 ≤ q) × (p ≤ q * t) × (reach D v p q ≡ d)
  -- and every wait at all has its moment
  pub every_wait : (D : ℕ) (v : List ℕ) → 1 ≤ D → 1 ≤ length v → (d : ℕ) → (p : ℕ) × (q : ℕ) × (1 ≤ q) × (reach D v p q ≡ d)

-- the moment p/q of a tick from now lies in the next region
pub record NextRegion (D : ℕ) (v : List ℕ) (p q : ℕ) : Type 0 where
  pub a_moment : 1 ≤ q
  pub one_step : record_in D v p q ≡ wait 1 (record_of D v)
  pub another : wait 1 (record_of D v) ≡ record_of D v → ⊥
  pub none_between : (p' q' : ℕ) → 1 ≤ q' → p' * q ≤ p * q' → (record_in D v p' q' ≡ record_of D v) ⊎ (record_in D v p' q' ≡ wait 1 (record_of D v))

-- one step leads to another region, and time meets no third on the way
abbrev pub OneStepIsTheNextRegion : Type 0
OneStepIsTheNextRegion =
    (D : ℕ) (v : List ℕ) → 1 ≤ D → 1 ≤ length v → (p : ℕ) × (q : ℕ) × NextRegion D v p q

-- a wait of many steps is as many waits of one, and two waits are one wait of the sum
pub record StepsAtOnceAreSingleSteps : Type 0 where
  pub one_by_one : (d : ℕ) (r : Record) → Valid r → wait d r ≡ single_steps d r
  pub two_waits : (d e : ℕ) (r : Record) → Valid r → wait (d + e) r ≡ wait e (wait d r)

-- to set timers to zero is to reset them in the record
abbrev pub ResettingTheTimersResetsTheRecord : Type 0
ResettingTheTimersResetsTheRecord =
    (D : ℕ) (v : List ℕ) (marks : List Bool) → 1 ≤ D → length marks ≡ length v → record_of D (cleared marks v) ≡ reset marks (record_of D v)

-- the record does not turn on how fine the ticks are
abbrev pub FinerTicksTellTheSame : Type 0
FinerTicksTellTheSame =
    (D q : ℕ) (v : List ℕ) → 1 ≤ D → 1 ≤ q → record_of (q * D) (finer q v) ≡ record_of D v

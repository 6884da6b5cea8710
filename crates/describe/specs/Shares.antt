-- Shares of runs in tenths of a percent, and how far off such a share may be.
use Rattle.std.specs.Prelude.{◌≡◌, ℕ, ◌+◌, ◌*◌, ◌<◌, ◌≤◌, min}

-- t tenths of a percent are nearest to the share of the runs that reached; halfway between two, the greater is
pub record IsNearestTenth (reached runs t : ℕ) : Type 0 where
  pub not_above : 2 * t * runs ≤ 2000 * reached + runs
  pub not_below : 2000 * reached + runs < (2 * t + 2) * runs

-- t tenths of a percent are told of the runs that reached: of no runs none, and never more than all
pub record IsShareOf (reached runs t : ℕ) : Type 0 where
  pub nearest : 1 ≤ runs → IsNearestTenth (min reached runs) runs t
  pub of_no_runs : runs ≡ 0 → t ≡ 0

-- of so many independent runs the share of one scheduler is off by t tenths of a percent or more at most 5 times out of 100 (Hoeffding's bound)
abbrev pub AreEnough : ℕ → ℕ → Type 0
AreEnough runs t = 1844440 ≤ runs * t * t

-- the least half-width that so many runs are enough for, or 100 %, more than which no share is off by
pub record IsLeastHalfWidth (runs t : ℕ) : Type 0 where
  pub enough : t < 1000 → AreEnough runs t
  pub least : (k : ℕ) → k < t → AreEnough runs k → ⊥
  pub at_most_all : t ≤ 1000

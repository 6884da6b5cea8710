-- How a hold limits what a timer can show.
use Rattle.std.specs.Prelude.{ℕ, ◌+◌, min, max, Bool, false, cond, List, Option, Some, None, ◌==◌, nat_le}
use Rattle.std.specs.List.{list_any}
use Rattle.theory.specs.Regions.{AtLeast, Above, AtMost, Below, Comparison, timer_against, lead_against}
use Rattle.warnings.specs.declared.limit.Limit.{Limit}

-- the upper limit that a comparison sets on one timer, if it sets one; a lead sets none
abbrev pub upper_limit : Comparison → Option Limit
upper_limit (timer_against y AtLeast m) = None
upper_limit (timer_against y Above m) = None
upper_limit (timer_against y AtMost m) = Some (record { timer = y; seconds = m })
upper_limit (timer_against y Below m) = Some (record { timer = y; seconds = m })
upper_limit (lead_against y z relation m) = None

-- the most seconds that timer x can show while a limit is kept, if it shows at most b on arrival: a limit on another timer lets at most its seconds pass
abbrev pub allowed_by : ℕ → ℕ → Limit → ℕ
allowed_by x b limit = cond (limit.timer == x) (max b limit.seconds) (b + limit.seconds)

-- the seconds of timer x by which a limit ends every wait that it does not forbid at once
abbrev pub bound_by : ℕ → ℕ → Limit → ℕ
bound_by x b limit = cond (limit.timer == x) limit.seconds (b + limit.seconds)

-- what a limit leaves of the most seconds that timer x can show
abbrev pub narrowed_by : ℕ → ℕ → ℕ → Option Limit → ℕ
narrowed_by x b most None = most
narrowed_by x b most (Some limit) = min most (allowed_by x b limit)

-- what a comparison of a hold leaves of the most seconds that timer x can show, if it shows at most b on arrival
abbrev pub narrowed : ℕ → ℕ → ℕ → Comparison → ℕ
narrowed x b most c = narrowed_by x b most (upper_limit c)

-- whether a limit ends every wait before timer x passes its ceiling
abbrev pub limits_in_time : ℕ → ℕ → ℕ → Option Limit → Bool
limits_in_time x b ceiling None = false
limits_in_time x b ceiling (Some limit) = nat_le (bound_by x b limit) ceiling

-- whether a comparison of a hold ends every wait before timer x passes its ceiling, if it shows at most b on arrival
abbrev pub ends_in_time : ℕ → ℕ → ℕ → Comparison → Bool
ends_in_time x b ceiling c = limits_in_time x b ceiling (upper_limit c)

-- whether some comparison of a hold does
abbrev pub ended_by : ℕ → ℕ → ℕ → List Comparison → Bool
ended_by x b ceiling hold = list_any (ends_in_time x b ceiling) hold

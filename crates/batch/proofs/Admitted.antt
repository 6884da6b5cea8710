-- What is known of a batch that is not refused.
use Rattle.std.proofs.Common.{◌≡◌, ℕ, ◌≤◌, None, rules}
use Rattle.batch.specs.Batches.{refusal_of}
use Rattle.batch.specs.declared.Limits.{Limits}

-- it has no more runs than may be
pub few_runs : (ids : ℕ) (limits : Limits) (room : ℕ) → refusal_of ids limits room ≡ None → limits.runs ≤ 10000
few_runs ids limits room e = search rules

-- and its rows fit
pub rows_fit : (ids : ℕ) (limits : Limits) (room : ℕ) → refusal_of ids limits room ≡ None → ids ≤ room
rows_fit ids limits room e = search rules

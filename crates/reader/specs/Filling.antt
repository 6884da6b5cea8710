-- How rows of a file fill one table.
use Rattle.std.specs.Prelude.{◌≡◌, ℕ, ◌+◌, ◌*◌, ◌/◌, ◌<◌, List, ◌++◌, length, drop}
use Rattle.std.specs.List.{flat_map}
use Rattle.std.proofs.Common.{arith}

-- bytes that are some records of a size, and no part of a record more
abbrev pub Records : ℕ → List ℕ → Type 0
Records size b = length b ≡ size * (length b / size)

-- a table begins with some rows, written as some bytes, and the rows behind them are those it had
pub record Begins {R : Type 0} (written : R → List ℕ) (part : List ℕ) (rows before later : List R) : Type 0 where
  pub filled : later ≡ rows ++ drop (length rows) before
  pub bytes : flat_map written rows ≡ part

-- a record of one byte more than some number takes some bytes
pub some_bytes : (n : ℕ) → 0 < n + 1
some_bytes n = omega arith

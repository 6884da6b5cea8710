-- The hash that a sampled scheduler chooses by.
use Rattle.std.specs.Prelude.{ℕ, ◌*◌, ◌/◌, ◌%◌, ◌^◌, cond, List, [], ◌∷◌, ◌++◌, fold, bit_xor}
use Rattle.std.specs.List.{flat_map}
use Rattle.theory.specs.Records.{Record, Timer}

-- one byte more: the hash and the byte, bit by bit, then times the prime, in 32 bits
abbrev pub mixed : ℕ → ℕ → ℕ
mixed h b = bit_xor h b * 16777619 % 2 ^ 32

-- 32-bit FNV-1a of some bytes
abbrev pub fnv : List ℕ → ℕ
fnv bytes = fold mixed 2166136261 bytes

-- a number of 16 bits, high byte first
abbrev pub two_bytes : ℕ → List ℕ
two_bytes n = (n / 256) ∷ (n % 256) ∷ []

-- a number of 32 bits, high byte first
abbrev pub four_bytes : ℕ → List ℕ
four_bytes n = (n / 2 ^ 24) ∷ (n / 2 ^ 16 % 256) ∷ (n / 2 ^ 8 % 256) ∷ (n % 256) ∷ []

-- what is hashed of a timer: its seconds and its rank
abbrev pub timer_bytes : Timer → List ℕ
timer_bytes t = two_bytes t.seconds ++ t.rank ∷ []

-- what is hashed: the identifier, the stage, whether the record is whole, its classes, and each timer
abbrev pub sample_bytes : ℕ → ℕ → Record → List ℕ
sample_bytes id stage r =
    four_bytes id ++ (two_bytes stage ++ (cond r.whole 1 0 ∷ r.classes ∷ flat_map timer_bytes r.timers))

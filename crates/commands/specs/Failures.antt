-- The status with which the program ends where a command was not carried out.
use Rattle.std.specs.Prelude.{◌≡◌, ℕ, ◌⊎◌, ◌≢◌}
use Rattle.clap.specs.Words.{kind_of}
use Rattle.clap.specs.declared.error.Error.{Error}
use Rattle.clap.specs.declared.error.kind.ErrorKind.TheVariants.{DisplayHelp, DisplayVersion}
use Rattle.commands.specs.declared.failure.Failure.{Failure}
use Rattle.commands.specs.declared.failure.Failure.TheVariants.{Line, Words, Work}

-- neither help nor the version was asked for: the line itself is wrong, or memory was out
abbrev pub IsWrongLine : Error → Type 0
IsWrongLine e = (kind_of e ≢ DisplayHelp) × (kind_of e ≢ DisplayVersion)

-- 0 where help or the version was asked for, 2 where the words are wrong, and 1 where the work failed or was refused
abbrev pub IsStatusOf : Failure → ℕ → Type 0
IsStatusOf (Line e) n =
    ((kind_of e ≡ DisplayHelp) ⊎ (kind_of e ≡ DisplayVersion) → n ≡ 0) × (kind_of e ≢ DisplayHelp → kind_of e ≢ DisplayVersion → n ≡ 2)
IsStatusOf (Words e) n = n ≡ 2
IsStatusOf (Work e) n = n ≡ 1

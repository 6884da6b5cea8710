-- The plan that stands in a file.
use Rattle.std.specs.Prelude.{◌≡◌, ℕ, List, Some, None, Result}
use Rattle.std.specs.Result.{MatchResult}
use Rattle.reader.specs.Owned.{owned_in}
use Rattle.rows.specs.declared.fault.Fault.{Fault}
use Rattle.rows.specs.Files.{file_fault}
use Rattle.rows.specs.Plans.{PlanRows, file_of}
use Rattle.rows.specs.Sections.{largest}
use Rattle.rows.specs.Sound.{Sound}
use Rattle.commands.specs.declared.files.PlanFile.{PlanFile}

-- the rows of the plan that was read
abbrev pub rows_read : PlanFile → PlanRows
rows_read file = owned_in file.rows

-- bytes break no rule, and are the file of a sound plan with these rows
pub record FileOf (bytes : List ℕ) (p : PlanRows) : Type 0 where
  pub breaks_none : file_fault largest bytes ≡ None
  pub file : bytes ≡ file_of p
  pub sound : Sound p

-- what reading bytes comes to: the plan whose file they are, or the first rule that they break
abbrev pub ReadAs : List ℕ → Result PlanFile Fault → Type 0
ReadAs bytes r =
    MatchResult r (λ file. FileOf bytes (rows_read file)) (λ f. file_fault largest bytes ≡ Some f)

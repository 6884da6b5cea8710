-- The names of schedulers.
use Rattle.std.specs.Prelude.{◌≡◌, ℕ, List, codes}
use Rattle.schedulers.specs.declared.chooser.Chooser.{Chooser}
use Rattle.schedulers.specs.declared.chooser.Chooser.TheVariants.{Earliest, Latest, Sampled}
use Rattle.describe.specs.Words.{Writes}

-- a word names a scheduler: `earliest`, `latest`, or the identifier of a sampled one
abbrev pub Names : List ℕ → Chooser → Type 0
Names word Earliest = word ≡ codes "earliest"
Names word Latest = word ≡ codes "latest"
Names word (Sampled id) = Writes word id

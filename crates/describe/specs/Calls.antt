-- Which words ask for which call.
use Rattle.std.specs.Prelude.{◌≡◌, ℕ, ◌^◌, ◌<◌, List, [], ◌∷◌, codes}
use Rattle.run.specs.declared.call.Call.{Call}
use Rattle.run.specs.declared.call.Call.TheVariants.{Offers, Standing, Step, Take}
use Rattle.schedulers.specs.declared.chooser.Chooser.{Chooser}
use Rattle.schedulers.specs.declared.chooser.Chooser.TheVariants.{Earliest, Latest, Sampled}
use Rattle.describe.specs.Words.{Writes, words_of}

-- three words take a change below 2^16 after a wait: `take`, and the two numbers
pub record Takes (words : List (List ℕ)) (change wait : ℕ) : Type 0 where
  pub first : List ℕ
  pub second : List ℕ
  pub words_are : words ≡ codes "take" ∷ first ∷ second ∷ []
  pub change_is : Writes first change
  pub short : change < 2 ^ 16
  pub wait_is : Writes second wait

-- three words make a step by a sampled scheduler: `step`, `sampled`, and its identifier
pub record StepsBySample (words : List (List ℕ)) (id : ℕ) : Type 0 where
  pub third : List ℕ
  pub words_are : words ≡ codes "step" ∷ codes "sampled" ∷ third ∷ []
  pub id_is : Writes third id

-- words ask for a call
abbrev pub AskFor : List (List ℕ) → Call Chooser → Type 0
AskFor words (Take change wait) = Takes words change wait
AskFor words (Step Earliest) = words ≡ codes "step" ∷ codes "earliest" ∷ []
AskFor words (Step Latest) = words ≡ codes "step" ∷ codes "latest" ∷ []
AskFor words (Step (Sampled id)) = StepsBySample words id
AskFor words Offers = words ≡ codes "offers" ∷ []
AskFor words Standing = words ≡ codes "standing" ∷ []

-- a line asks for a call
abbrev pub Asks : List ℕ → Call Chooser → Type 0
Asks line call = AskFor (words_of line) call

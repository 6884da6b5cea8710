use Rattle.std.proofs.Common.{Some, None, rules}
use Rattle.std.proofs.lemmas.Str.Pattern.{split_text_parts}
use Rattle.describe.proofs.Identified.{dots, if_counted, if_listed, no_numbers}
use Rattle.describe.proofs.identifiers.identifiers.Goals as goal
use Rattle.describe.proofs.identifiers.identifiers.Goals.{in_default-via-in-Some+in_default, in_default-via-in_default}

pub returns-in-None : goal.returns-in-None
returns-in-None c =
    if_listed (λ v. v.items) c.args.word.now c.listed.result (split_text_parts dots c.args.word.now None c.in-None.ensures.cases) c.listed.ensures

pub returns-in-Some-Some : goal.returns-in-Some-Some
returns-in-Some-Some c =
    if_counted (λ v. v.items) c.args.word.now c.in-Some.first.now c.in-Some.last.now c.in-Some-Some.first c.in-Some-Some.last c.counted.result c.in-Some.ensures.cases (split_text_parts dots c.args.word.now (Some (c.in-Some.first, c.in-Some.last)) c.in-Some.ensures.cases) (search rules) (search rules) c.counted.ensures

pub returns-in_default : goal.returns-in_default
returns-in_default c = λ ids.
    no_numbers c.args.word.now c.in-Some.first.now c.in-Some.last.now ids c.in-Some.ensures.cases (split_text_parts dots c.args.word.now (Some (c.in-Some.first, c.in-Some.last)) c.in-Some.ensures.cases)
    (λ front back. elim c.in_default.branch [
      | in_default-via-in-Some+in_default w ↦
          (rw w.in_default.is-1 at c.number-in-Some.ensures) back
      | in_default-via-in_default w ↦ (rw w.in_default.is-0 at c.number.ensures) front
    ])

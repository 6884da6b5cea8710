use Rattle.std.proofs.Common.{◌≡◌, cond, Some, None, length, sym, ◌∙◌, rules, tests}
use Rattle.std.proofs.lemmas.Iterator.{YieldsList-from_slice}
use Rattle.std.proofs.lemmas.Iterator.Search.{position_from_yields_List}
use Rattle.std.specs.List.{position_or_len}
use Rattle.describe.specs.Histories.{ends_with}
use Rattle.describe.proofs.Told.{told_all, told_to}
use Rattle.describe.proofs.history.told.Goals as goal
use Rattle.describe.proofs.history.told.Goals.{After-position}
use lib.Dec.{ltb}

-- the place of the first entry that ends the history
found : (c : After-position) → c.position.result ≡ cond (ltb (position_or_len ends_with c.args.entries.now) (length c.args.entries.now)) (Some (position_or_len ends_with c.args.entries.now)) None
found c =
    position_from_yields_List ends_with _ _ c.position.result c.position.ensures.ran (YieldsList-from_slice c.args.entries.now cc) (λ x b q k. search (rules, tests))

pub returns-in-Some : goal.returns-in-Some
returns-in-Some c =
    told_to c.args.entries.now c.in-Some.last (sym c.in-Some.is ∙ found (goal.at.returns-in-Some c).After-position)

pub returns-in-None : goal.returns-in-None
returns-in-None c =
    told_all c.args.entries.now (sym c.in-None.is ∙ found (goal.at.returns-in-None c).After-position)
